-- A body that a command sends leads from histories that agree to histories that agree.
use Rattle.std.proofs.Common.{◌≡◌, ◌≤◌, ℕ, List, ◌∷◌, refl, sym, ap, ◌∙◌, subst, drop, false, Some, None, arith}
use Rattle.std.specs.Prelude.{slice_index}
use Rattle.std.proofs.lemmas.Option.{none-some, same_Some}
use Rattle.spdm_grammar.specs.Message.{RequestMessage, ExchangeMessage}
use Rattle.spdm_grammar.specs.Message.RequestMessage.{GetVersion, PskExchange}
use Rattle.spdm_grammar.specs.Requests.{canonical_request}
use Rattle.requester_machine.specs.Setup.{ReqSetup}
use Rattle.requester_machine.specs.Asking.{asks}
use Rattle.requester_machine.specs.Asking.Outcome.{Adds}
use Rattle.requester_machine.specs.Commands.{Free, exchange_for}
use Rattle.requester_machine.specs.History.{History, Entry, begins_large}
use Rattle.requester_machine.specs.History.Entry.{Told}
use Rattle.requester_machine.specs.May.{IsAllowed}
use Rattle.requester_machine.specs.Message.{Command, Ask, Sent, body_of, asked_in}
use Rattle.requester_machine.specs.Message.Command.{Connect, Open, Send, Beat, Update, Measure, End, Retry}
use Rattle.requester_machine.specs.Records.{sealed_next}
use Rattle.requester_machine.specs.Sending.{plain_sent, record_sent}
use Rattle.requester_machine.specs.Session.{session_of}
use Rattle.requester_machine.proofs.Entries.{asked}
use Rattle.capture_machine.specs.CapturedRequests.{Tells}
use Rattle.capture_machine.specs.Rounds.{no_draw}
use Rattle.capture_machine.proofs.Agrees.{HaveIds, IsSmallIn, Counted, Agree, agree_with, agree_anew}
use Rattle.capture_machine.proofs.AsksAlike.{asks_same}
use Rattle.capture_machine.proofs.AskTells.{Kind, kind_of, IsSent, sent_by_kind, clear_tells}
use Rattle.capture_machine.proofs.AskTells.Kind.{InClear, OfSession, Again}
use Rattle.capture_machine.proofs.RecordTells.{live_command, sound_command, record_command}

-- The padding and the other free values are no part of what is asked of a session.
pub asks_of : (q : ReqSetup) (h : History) (f k : Free) (c : Command) (id : ℕ) (ask : Ask) (inner : List ℕ) → kind_of q h f c ≡ OfSession id ask inner → kind_of q h k c ≡ OfSession id ask inner
asks_of q h f k Connect id ask inner is = absurd (cc)
asks_of q h f k (Open summary) id ask inner is = absurd (cc)
asks_of q h f k (Send of bytes) id ask inner is = is
asks_of q h f k (Beat of) id ask inner is = is
asks_of q h f k (Update of all) id ask inner is = is
asks_of q h f k (Measure None op) id ask inner is = is
asks_of q h f k (Measure (Some of) op) id ask inner is = is
asks_of q h f k (End of) id ask inner is = is
asks_of q h f k Retry id ask inner is = is

abbrev id_in : RequestMessage → ℕ
id_in (PskExchange exchange) = exchange.req_id
id_in _ = 0

-- The id of a PSK_EXCHANGE that a command asks for is small.
pub kind_small : (q : ReqSetup) (h : History) (f : Free) (c : Command) (a : RequestMessage) (x : ExchangeMessage) → IsAllowed q h f → kind_of q h f c ≡ InClear a → a ≡ PskExchange x → x.req_id ≤ 4
kind_small q h f Connect a x fits is e = absurd (cc)
kind_small q h f (Open summary) a x fits is e =
    let same : exchange_for q f summary ≡ PskExchange x = cc in
    let id : f.id ≡ x.req_id = ap id_in same in omega (arith, fits.most)
kind_small q h f (Send of bytes) a x fits is e = absurd (cc)
kind_small q h f (Beat of) a x fits is e = absurd (cc)
kind_small q h f (Update of all) a x fits is e = absurd (cc)
kind_small q h f (Measure None op) a x fits is e = absurd (cc)
kind_small q h f (Measure (Some of) op) a x fits is e = absurd (cc)
kind_small q h f (End of) a x fits is e = absurd (cc)
kind_small q h f Retry a x fits is e = absurd (cc)

small_by : (q : ReqSetup) (h : History) (f : Free) (c : Command) (s : Sent) (kind : Kind) → IsAllowed q h f → kind_of q h f c ≡ kind → IsSent q h f kind s → IsSmallIn (Told c s no_draw)
small_by q h f c s (InClear a) fits is sent x asks = kind_small q h f c a x fits is (same_Some a (PskExchange x) (sym sent.1 ∙ asks))
small_by q h f c s (OfSession id ask inner) fits is sent x asks = absurd (none-some (PskExchange x) (sym (ap (λ (m : Sent). asked_in m.aim) sent) ∙ asks))
small_by q h f c s Again fits is sent x asks = absurd sent

pub small_told : (q : ReqSetup) (h : History) (f : Free) (c : Command) (s : Sent) → IsAllowed q h f → asks false q h c f no_draw ≡ Adds (Told c s no_draw) → IsSmallIn (Told c s no_draw)
small_told q h f c s fits adds =
    small_by q h f c s (kind_of q h f c) fits refl (sent_by_kind q h f c s no_draw (asked false q h c f no_draw (Told c s no_draw) adds).1)

-- ---- Two commands of one body.

kinds_tell : (q : ReqSetup) (h g : History) (f k : Free) (c e : Command) (s t : Sent) (kind other : Kind) → HaveIds h → IsAllowed q h f → IsAllowed q g k
    → asks false q h c f no_draw ≡ Adds (Told c s no_draw) → asks false q h e k no_draw ≡ Adds (Told e t no_draw)
    → begins_large s.aim ≡ false → begins_large t.aim ≡ false → body_of s.content ≡ body_of t.content
    → kind_of q h f c ≡ kind → kind_of q h k e ≡ other → IsSent q h f kind s → IsSent q h k other t → (c ≡ e) × (s ≡ t)
kinds_tell q h g f k c e s t (InClear a) (InClear b) ids fits suits adds too small few same is are sent made =
    let one : s ≡ plain_sent h a = sent.0 small in
    let two : t ≡ plain_sent h b = made.0 few in
    let bytes : canonical_request a ≡ canonical_request b =
    ap (λ (l : List ℕ). drop 1 l) (ap (λ (m : Sent). body_of m.content) (sym one) ∙ same ∙ ap (λ (m : Sent). body_of m.content) two) in
    let told = clear_tells q h g f k c e a b fits suits (sound_command false q h c f (asked false q h c f no_draw (Told c s no_draw) adds).0)
    (sound_command false q h e k (asked false q h e k no_draw (Told e t no_draw) too).0) is are bytes in
    (told.0, one ∙ ap (plain_sent h) told.1 ∙ sym two)
kinds_tell q h g f k c e s t (OfSession id ask inner) (OfSession other wants message) ids fits suits adds too small few same is are sent made =
    let sealed : sealed_next q.psk (session_of id h) inner f.pad ≡ sealed_next q.psk (session_of other h) message k.pad =
    ap (λ (l : List ℕ). drop 1 l) (ap (λ (m : Sent). body_of m.content) (sym sent) ∙ same ∙ ap (λ (m : Sent). body_of m.content) made) in
    let told = record_command q h f k c e id other ask wants inner message ids (live_command false q h c f (asked false q h c f no_draw (Told c s no_draw) adds).0)
    (live_command false q h e k (asked false q h e k no_draw (Told e t no_draw) too).0) is are sealed in
    let there : OfSession id ask inner ≡ OfSession other wants message = sym (asks_of q h f k c id ask inner is) ∙ ap (kind_of q h k) told.0 ∙ are in
    let asks : ask ≡ wants = cc in
    let from : s ≡ record_sent q h id (session_of id h) ask inner f.pad = sent in
    let to : t ≡ record_sent q h other (session_of other h) wants message k.pad = made in
    let one = told.1 in let two = told.2 in let three = told.3 in (
      told.0,
      from ∙ ap (λ (n : ℕ). record_sent q h n (session_of n h) ask inner f.pad) one ∙ ap (λ a. record_sent q h other (session_of other h) a inner f.pad) asks
          ∙ ap (λ (l : List ℕ). record_sent q h other (session_of other h) wants l f.pad) two ∙ ap (λ (l : List ℕ). record_sent q h other (session_of other h) wants message l) three ∙ sym to,
    )
kinds_tell q h g f k c e s t (InClear a) (OfSession other wants message) ids fits suits adds too small few same is are sent made =
    let one : s ≡ plain_sent h a = sent.0 small in
    absurd (let t = ap (λ (l : List ℕ). slice_index l 0) (ap (λ (m : Sent). body_of m.content) (sym one) ∙ same ∙ ap (λ (m : Sent). body_of m.content) made) in omega (arith, t))
kinds_tell q h g f k c e s t (OfSession id ask inner) (InClear b) ids fits suits adds too small few same is are sent made =
    let two : t ≡ plain_sent h b = made.0 few in
    absurd (let t = ap (λ (l : List ℕ). slice_index l 0) (ap (λ (m : Sent). body_of m.content) (sym sent) ∙ same ∙ ap (λ (m : Sent). body_of m.content) two) in omega (arith, t))
kinds_tell q h g f k c e s t Again other ids fits suits adds too small few same is are sent made = absurd sent
kinds_tell q h g f k c e s t kind Again ids fits suits adds too small few same is are sent made = absurd made

-- Commands that send one body, with histories that agree.
pub tells_agree : (q : ReqSetup) (h g : History) (c e : Command) (body : List ℕ) (next other : History) → Agree h g → Tells q h c body next → Tells q g e body other → Agree next other
tells_agree q h g c e body next other a one two =
    let f : Free = one.1.0 in
    let k : Free = two.1.0 in
    let too : asks false q h e k no_draw ≡ Adds (Told e two.0 no_draw) = asks_same false q h g a e k no_draw ∙ two.1.2 in
    let told = kinds_tell q h g f k c e one.0 two.0 (kind_of q h f c) (kind_of q h k e) a.ids one.1.1 two.1.1 one.1.2 too one.2 two.2 (one.3 ∙ sym two.3) refl refl
    (sent_by_kind q h f c one.0 no_draw (asked false q h c f no_draw (Told c one.0 no_draw) one.1.2).1)
    (sent_by_kind q h k e two.0 no_draw (asked false q h e k no_draw (Told e two.0 no_draw) too).1) in
    let same : Told c one.0 no_draw ≡ Told e two.0 no_draw = ap (λ x. Told x one.0 no_draw) told.0 ∙ ap (λ x. Told e x no_draw) told.1 in
    let small = small_told q h f c one.0 one.1.1 one.1.2 in
    let P : History → Type 0 = λ l. Agree next l in
    let Q : History → Type 0 = λ l. Agree l (Told e two.0 no_draw ∷ g) in
    subst P (sym two.4) (subst Q (sym one.4) (let R : Entry → Type 0 = λ x. Agree (Told c one.0 no_draw ∷ h) (x ∷ g) in subst R same (agree_with (Told c one.0 no_draw) h g small a)))

-- ---- Connect.

pub connects_agree : (q : ReqSetup) (h g : History) (body : List ℕ) (next other : History) → Counted h g → Tells q h Connect body next → Tells q g Connect body other → Agree next other
connects_agree q h g body next other c one two =
    let s : one.0 ≡ plain_sent h GetVersion = (sent_by_kind q h one.1.0 Connect one.0 no_draw (asked false q h Connect one.1.0 no_draw (Told Connect one.0 no_draw) one.1.2).1).0 one.2 in
    let t : two.0 ≡ plain_sent g GetVersion = (sent_by_kind q g two.1.0 Connect two.0 no_draw (asked false q g Connect two.1.0 no_draw (Told Connect two.0 no_draw) two.1.2).1).0 two.2 in
    let tags : plain_sent h GetVersion ≡ plain_sent g GetVersion = let n = c.sent in cc in
    let same : one.0 ≡ two.0 = s ∙ tags ∙ sym t in
    let P : History → Type 0 = λ l. Agree next l in
    let Q : History → Type 0 = λ l. Agree l (Told Connect two.0 no_draw ∷ g) in
    let R : Sent → Type 0 = λ x. Agree (Told Connect one.0 no_draw ∷ h) (Told Connect x no_draw ∷ g) in
    subst P (sym two.4) (subst Q (sym one.4) (subst R same (agree_anew one.0 no_draw h g c)))
