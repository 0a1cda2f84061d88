-- A request in the clear shows its command and its values.
use Rattle.std.proofs.Common.{◌≡◌, ℕ, List, [], ◌∷◌, refl, sym, ap, ◌∙◌, subst, drop, false, Some, None, arith}
use Rattle.std.specs.Prelude.{slice_index}
use Rattle.std.proofs.lemmas.Option.{none-some, same_Some}
use Rattle.requester_machine.proofs.Entries.{asked}
use Rattle.requester_machine.specs.Asking.{asks}
use Rattle.requester_machine.specs.Asking.Outcome.{Adds}
use Rattle.requester_machine.specs.Commands.{Free, command_fault, exchange_for}
use Rattle.requester_machine.specs.History.{History, begins_large}
use Rattle.requester_machine.specs.History.Entry.{Told}
use Rattle.requester_machine.specs.May.{IsAllowed, IsSetUp}
use Rattle.requester_machine.specs.Message.{Command, Sent, body_of}
use Rattle.requester_machine.specs.Message.Command.{Connect, Open, Send, Beat, Update, Measure, End, Retry}
use Rattle.requester_machine.specs.Sending.{plain_sent}
use Rattle.requester_machine.specs.Setup.{ReqSetup}
use Rattle.spdm_grammar.specs.Message.{RequestMessage}
use Rattle.spdm_grammar.specs.Message.RequestMessage.{GetVersion, GetCapabilities, NegotiateAlgorithms, GetMeasurements, PskExchange, PskFinish, Heartbeat, KeyUpdate, EndSession, ChunkSend, ChunkGet}
use Rattle.spdm_grammar.specs.Requests.{canonical_request}
use Rattle.spdm_machine.specs.Bodies.{clear_body}
use Rattle.check_laws.proofs.Connecting.{some_allowed, some_values}
use Rattle.check_laws.specs.Showing.{ClearIsShown, IsCommanded, values_shown}
use Rattle.capture_machine.proofs.AskTells.{IsSent, Kind, kind_of, sent_by_kind}
use Rattle.capture_machine.proofs.AskTells.Kind.{InClear, OfSession, Again}
use Rattle.capture_machine.specs.CapturedRequests.{Tells}
use Rattle.capture_machine.specs.Rounds.{no_draw}

-- ---- What is free changes nothing, but for PSK_EXCHANGE.

pub connect_free : (q : ReqSetup) (h : History) (f k : Free) → asks false q h Connect f no_draw ≡ asks false q h Connect k no_draw
unfolding asks command_fault
connect_free q h f k = refl

pub measure_free : (q : ReqSetup) (h : History) (op : ℕ) (f k : Free) → asks false q h (Measure None op) f no_draw ≡ asks false q h (Measure None op) k no_draw
unfolding asks command_fault
measure_free q h op f k = refl

pub open_free : (q : ReqSetup) (h : History) (summary : ℕ) (f : Free) (pad : List ℕ) → asks false q h (Open summary) (record f { pad = pad }) no_draw ≡ asks false q h (Open summary) f no_draw
unfolding asks command_fault
open_free q h summary f pad = refl

no_padding : (q : ReqSetup) (h : History) (f : Free) → IsAllowed q h f → IsAllowed q h (record f { pad = [] })
no_padding q h f fits = record {
  least = fits.least;
  most = fits.most;
  unused = fits.unused;
  context = fits.context;
  opaque = fits.opaque;
  exchange = fits.exchange;
  pad = omega arith;
}

-- ---- What a command sends.

-- A request that it asks in the clear, at values that are allowed.
commanded : (q : ReqSetup) (h : History) (c : Command) (f : Free) (a : RequestMessage) (s : Sent) → IsAllowed q h f → kind_of q h f c ≡ InClear a → asks false q h c f no_draw ≡ Adds (Told c s no_draw) → s ≡ plain_sent h a → IsCommanded q h a
commanded q h Connect f a s fits is adds same =
    let it : GetVersion ≡ a = cc in
    subst (IsCommanded q h) it (Connect, refl, tt, connect_free q h _ f ∙ adds ∙ ap (λ (x : Sent). Adds (Told Connect x no_draw)) (same ∙ ap (plain_sent h) (sym it)))
commanded q h (Open summary) f a s fits is adds same =
    let it : exchange_for q f summary ≡ a = cc in
    subst (IsCommanded q h) it (Open summary, refl, no_padding q h f fits, open_free q h summary f [] ∙ adds ∙ ap (λ (x : Sent). Adds (Told (Open summary) x no_draw)) (same ∙ ap (plain_sent h) (sym it)))
commanded q h (Measure None op) f a s fits is adds same =
    let it : GetMeasurements op ≡ a = cc in
    subst (IsCommanded q h) it (Measure None op, refl, tt, measure_free q h op _ f ∙ adds ∙ ap (λ (x : Sent). Adds (Told (Measure None op) x no_draw)) (same ∙ ap (plain_sent h) (sym it)))
commanded q h (Send id bytes) f a s fits is adds same = absurd (cc)
commanded q h (Beat id) f a s fits is adds same = absurd (cc)
commanded q h (Update id all) f a s fits is adds same = absurd (cc)
commanded q h (Measure (Some id) op) f a s fits is adds same = absurd (cc)
commanded q h (End id) f a s fits is adds same = absurd (cc)
commanded q h Retry f a s fits is adds same = absurd (cc)

shown_by : (q : ReqSetup) (h : History) (c : Command) (f : Free) (s : Sent) (m : List ℕ) (kind : Kind) → IsAllowed q h f → kind_of q h f c ≡ kind → asks false q h c f no_draw ≡ Adds (Told c s no_draw) → IsSent q h f kind s → begins_large s.aim ≡ false
    → body_of s.content ≡ clear_body m → (a : RequestMessage) × IsCommanded q h a × (m ≡ canonical_request a)
shown_by q h c f s m (InClear a) fits is adds sent small body =
    let same : s ≡ plain_sent h a = sent.0 small in
    (a, commanded q h c f a s fits is adds same, ap (λ (l : List ℕ). drop 1 l) (sym body ∙ ap (λ (x : Sent). body_of x.content) same))
shown_by q h c f s m (OfSession id ask inner) fits is adds sent small body =
    absurd (let t = ap (λ (l : List ℕ). slice_index l 0) (sym body ∙ ap (λ (x : Sent). body_of x.content) sent) in omega (arith, t))
shown_by q h c f s m Again fits is adds sent small body = absurd sent

to_shown : (q : ReqSetup) (h : History) (c : Command) (m : List ℕ) (next : History) → Tells q h c (clear_body m) next → (a : RequestMessage) × IsCommanded q h a × (m ≡ canonical_request a)
to_shown q h c m next one =
    shown_by q h c one.1.0 one.0 m (kind_of q h one.1.0 c) one.1.1 refl one.1.2 (sent_by_kind q h one.1.0 c one.0 no_draw (asked false q h c one.1.0 no_draw (Told c one.0 no_draw) one.1.2).1) one.2 one.3

-- ---- And back.

told_by : (q : ReqSetup) (h : History) (c : Command) (f : Free) (a : RequestMessage) (m : List ℕ) → IsAllowed q h f → asks false q h c f no_draw ≡ Adds (Told c (plain_sent h a) no_draw) → m ≡ canonical_request a
    → Tells q h c (clear_body m) (Told c (plain_sent h a) no_draw ∷ h)
told_by q h c f a m fits adds is = (plain_sent h a, (f, fits, adds), refl, ap clear_body (sym is), refl)

from_shown : (q : ReqSetup) (h : History) (a : RequestMessage) (m : List ℕ) → IsSetUp q → IsCommanded q h a → m ≡ canonical_request a → (c : Command) × (next : History) × Tells q h c (clear_body m) next
from_shown q h GetVersion m set_up one is =
    let c : Connect ≡ one.0 = same_Some Connect one.0 one.1 in
    let A : Command → Type 0 = λ x. asks false q h x (values_shown GetVersion) no_draw ≡ Adds (Told x (plain_sent h GetVersion) no_draw) in
    (Connect, _, told_by q h Connect (some_values q h) GetVersion m (some_allowed q h set_up) (connect_free q h _ _ ∙ subst A (sym c) one.3) is)
from_shown q h (PskExchange x) m set_up one is =
    let c : Open x.summary ≡ one.0 = same_Some (Open x.summary) one.0 one.1 in
    let A : Command → Type 0 = λ y. asks false q h y (values_shown (PskExchange x)) no_draw ≡ Adds (Told y (plain_sent h (PskExchange x)) no_draw) in
    (Open x.summary, _, told_by q h (Open x.summary) (values_shown (PskExchange x)) (PskExchange x) m one.2 (subst A (sym c) one.3) is)
from_shown q h (GetMeasurements op) m set_up one is =
    let c : Measure None op ≡ one.0 = same_Some (Measure None op) one.0 one.1 in
    let A : Command → Type 0 = λ x. asks false q h x (values_shown (GetMeasurements op)) no_draw ≡ Adds (Told x (plain_sent h (GetMeasurements op)) no_draw) in
    (Measure None op, _, told_by q h (Measure None op) (some_values q h) (GetMeasurements op) m (some_allowed q h set_up) (measure_free q h op _ _ ∙ subst A (sym c) one.3) is)
from_shown q h (GetCapabilities caps) m set_up one is = absurd (none-some one.0 one.1)
from_shown q h (NegotiateAlgorithms offer) m set_up one is = absurd (none-some one.0 one.1)
from_shown q h (PskFinish verify) m set_up one is = absurd (none-some one.0 one.1)
from_shown q h Heartbeat m set_up one is = absurd (none-some one.0 one.1)
from_shown q h (KeyUpdate op tag) m set_up one is = absurd (none-some one.0 one.1)
from_shown q h EndSession m set_up one is = absurd (none-some one.0 one.1)
from_shown q h (ChunkSend chunk) m set_up one is = absurd (none-some one.0 one.1)
from_shown q h (ChunkGet handle number) m set_up one is = absurd (none-some one.0 one.1)

pub clear_is_shown : ClearIsShown
clear_is_shown k m set_up none free = (
  λ commands. to_shown k.setup k.requester commands.1.0 m commands.0 commands.1.3,
  λ shown.
      let told = from_shown k.setup k.requester shown.0 m set_up shown.1 shown.2 in
      (told.1, (told.0, none, free, told.2)),
)
