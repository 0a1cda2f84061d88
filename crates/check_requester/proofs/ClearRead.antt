-- What is read of a message in the clear that a command sent.
use Rattle.std.proofs.Common.{◌≡◌, ◌<◌, ◌∙◌, ℕ, List, [], ◌∷◌, refl, sym, ap, subst, Bool, true, false, Some, None, drop, arith}
use Rattle.std.specs.Prelude.{slice_index}
use Rattle.std.specs.Result.{result_ok}
use Rattle.std.proofs.lemmas.Bool.{false≢true, not-false}
use Rattle.std.proofs.lemmas.Option.{none-some, same_Some}
use Rattle.requester_core.specs.declared.joined.RequesterCore.{RequesterCore}
use Rattle.requester_machine.proofs.Entries.{asked, test_is_false}
use Rattle.requester_machine.specs.Asking.{asks}
use Rattle.requester_machine.specs.Asking.Outcome.{Adds}
use Rattle.requester_machine.specs.Commands.{Free, exchange_for}
use Rattle.requester_machine.specs.History.{History, begins_large}
use Rattle.requester_machine.specs.History.Entry.{Told}
use Rattle.requester_machine.specs.May.{IsAllowed}
use Rattle.requester_machine.specs.Message.{Command, Sent, body_of}
use Rattle.requester_machine.specs.Message.Command.{Beat, Connect, End, Measure, Open, Retry, Send, Update}
use Rattle.requester_machine.specs.Sending.{plain_sent}
use Rattle.requester_machine.specs.Setup.{ReqSetup}
use Rattle.spdm_grammar.proofs.CanonicalRequests.{request_spelled}
use Rattle.spdm_grammar.proofs.Spellings.{spelling_read}
use Rattle.spdm_grammar.specs.Fields.{is_summary}
use Rattle.spdm_grammar.specs.Message.{ExchangeMessage, RequestMessage}
use Rattle.spdm_grammar.specs.Message.RequestMessage.{GetVersion, GetCapabilities, NegotiateAlgorithms, GetMeasurements, PskExchange, PskFinish, Heartbeat, KeyUpdate, EndSession, ChunkSend, ChunkGet}
use Rattle.spdm_grammar.specs.Requests.{FitsRequest, IsSoundRequest, canonical_request, request_in, request_layout}
use Rattle.spdm_machine.specs.Bodies.{clear_body}
use Rattle.check_laws.proofs.Shown.{connect_free, measure_free, open_free}
use Rattle.check_requester.specs.Commanded.{IsOpenedAs, IsSentByCommand, IsSentFor, IsToldAs, IsToldSome, values_in}
use Rattle.capture_machine.proofs.AskTells.{IsSent, Kind, exchange_read, kind_of, sent_by_kind}
use Rattle.capture_machine.proofs.AskTells.Kind.{InClear, OfSession, Again}
use Rattle.capture_machine.specs.CapturedRequests.{Tells}
use Rattle.capture_machine.specs.Rounds.{no_draw}

-- All of it are bytes.
abbrev AreBytes : List ℕ → Type 0
AreBytes m = (i : ℕ) → slice_index m i < 256

canonical_read : (a : RequestMessage) → FitsRequest a → IsSoundRequest 0 a → request_in 0 (canonical_request a) ≡ Some a
canonical_read a fits sound = ap result_ok (spelling_read (request_layout 0) 0 a (canonical_request a) (request_spelled 0 a fits sound).is)

-- ---- What is free changes nothing, but for PSK_EXCHANGE.

pub no_padding : (q : ReqSetup) (h : History) (f : Free) → IsAllowed q h f → IsAllowed q h (record f { pad = [] })
no_padding q h f fits = record {
  least = fits.least;
  most = fits.most;
  unused = fits.unused;
  context = fits.context;
  opaque = fits.opaque;
  exchange = fits.exchange;
  pad = omega arith;
}

-- ---- What is read.

-- A command that sends the message, with the request that is read of it.
pub record IsReadFrom (q : ReqSetup) (h : History) (m : List ℕ) (a : RequestMessage) : Type 0 where
  pub reads : request_in 0 m ≡ Some a
  pub none : (new : RequesterCore) → IsSentFor q h a (clear_body m) false new → ⊥

module _ (q : ReqSetup) (h : History) (m : List ℕ) (bytes : AreBytes m) where
  by_kind : (c : Command) (f : Free) (s : Sent) (kind : Kind) → IsAllowed q h f → kind_of q h f c ≡ kind → asks false q h c f no_draw ≡ Adds (Told c s no_draw) → IsSent q h f kind s → begins_large s.aim ≡ false → body_of s.content ≡ clear_body m
      → (a : RequestMessage) × (kind ≡ InClear a) × (s ≡ plain_sent h a) × (m ≡ canonical_request a)
  by_kind c f s (InClear a) fits is adds sent small body =
      let same : s ≡ plain_sent h a = sent.0 small in
      (a, refl, same, ap (λ (l : List ℕ). drop 1 l) (sym body ∙ ap (λ (x : Sent). body_of x.content) same))
  by_kind c f s (OfSession id ask inner) fits is adds sent small body =
      absurd (let t = ap (λ (l : List ℕ). slice_index l 0) (sym body ∙ ap (λ (x : Sent). body_of x.content) sent) in omega (arith, t))
  by_kind c f s Again fits is adds sent small body = absurd sent

  by_command : (c : Command) (f : Free) (s : Sent) → IsAllowed q h f → asks false q h c f no_draw ≡ Adds (Told c s no_draw) → begins_large s.aim ≡ false → body_of s.content ≡ clear_body m
      → (a : RequestMessage) → kind_of q h f c ≡ InClear a → m ≡ canonical_request a → IsReadFrom q h m a
  by_command Connect f s fits adds small body a kind is =
      let it : GetVersion ≡ a = cc in
      subst (IsReadFrom q h m) it (record {
        reads = ap (request_in 0) (is ∙ ap canonical_request (sym it)) ∙ canonical_read GetVersion tt tt;
        none = λ new told. told.2 s (connect_free q h told.0 f ∙ adds) small body;
      })
  by_command (Open summary) f s fits adds small body a kind is =
      let it : exchange_for q f summary ≡ a = cc in
      let sound : is_summary summary ≡ true = not-false (is_summary summary) (test_is_false false q h (Open summary) f (asked false q h (Open summary) f no_draw (Told (Open summary) s no_draw) adds).0 6) in
      subst (IsReadFrom q h m) it (record {
        reads = ap (request_in 0) (is ∙ ap canonical_request (sym it)) ∙ exchange_read q h f summary fits sound;
        none = λ new told. told (no_padding q h f fits) s (open_free q h summary f [] ∙ adds) small body;
      })
  by_command (Measure None op) f s fits adds small body a kind is =
      let it : GetMeasurements op ≡ a = cc in
      let spells : m ≡ canonical_request (GetMeasurements op) = is ∙ ap canonical_request (sym it) in
      let short : op < 256 = subst (λ (n : ℕ). n < 256) (ap (λ (l : List ℕ). slice_index l 3) spells) (bytes 3) in
      subst (IsReadFrom q h m) it (record {
        reads = ap (request_in 0) spells ∙ canonical_read (GetMeasurements op) short tt;
        none = λ new told. told.2 s (measure_free q h op told.0 f ∙ adds) small body;
      })
  by_command (Send id bytes) f s fits adds small body a kind is = absurd (cc)
  by_command (Beat id) f s fits adds small body a kind is = absurd (cc)
  by_command (Update id all) f s fits adds small body a kind is = absurd (cc)
  by_command (Measure (Some id) op) f s fits adds small body a kind is = absurd (cc)
  by_command (End id) f s fits adds small body a kind is = absurd (cc)
  by_command Retry f s fits adds small body a kind is = absurd (cc)

  -- Whatever command sends it.
  pub read_from : (c : Command) (next : History) → Tells q h c (clear_body m) next → (a : RequestMessage) × IsReadFrom q h m a
  read_from c next one =
      let f : Free = one.1.0 in
      let did = asked false q h c f no_draw (Told c one.0 no_draw) one.1.2 in
      let told = by_kind c f one.0 (kind_of q h f c) one.1.1 refl one.1.2 (sent_by_kind q h f c one.0 no_draw did.1) one.2 one.3 in
      (told.0, by_command c f one.0 one.1.1 one.1.2 one.2 one.3 told.0 told.1 told.3)

  -- Nothing that is no request is sent.
  pub none_read : request_in 0 m ≡ None → (new : RequesterCore) → IsSentByCommand q h (clear_body m) false new
  none_read none new = λ c next one. let read = read_from c next one in none-some read.0 (sym none ∙ read.1.reads)

  some_told : (c : Command) (new : RequesterCore) → IsToldSome q h c (clear_body m) true new → IsSentByCommand q h (clear_body m) true new
  some_told c new told = (c, Told c told.2.0 no_draw ∷ h, (told.2.0, (told.0, told.1, told.2.1), told.2.2, told.2.3, refl), told.2.4)

  sent_for : (a : RequestMessage) (new : RequesterCore) → IsSentFor q h a (clear_body m) true new → IsSentByCommand q h (clear_body m) true new
  sent_for GetVersion new told = some_told Connect new told
  sent_for (GetMeasurements op) new told = some_told (Measure None op) new told
  sent_for (PskExchange x) new told = some_told (Open x.summary) new (values_in x, told.0, told.1)
  sent_for (GetCapabilities caps) new told = absurd (false≢true (sym told))
  sent_for (NegotiateAlgorithms offer) new told = absurd (false≢true (sym told))
  sent_for (PskFinish verify) new told = absurd (false≢true (sym told))
  sent_for Heartbeat new told = absurd (false≢true (sym told))
  sent_for (KeyUpdate op tag) new told = absurd (false≢true (sym told))
  sent_for EndSession new told = absurd (false≢true (sym told))
  sent_for (ChunkSend chunk) new told = absurd (false≢true (sym told))
  sent_for (ChunkGet handle number) new told = absurd (false≢true (sym told))

  -- What is read is sent by the command that asks it, or by none.
  pub some_read : (a : RequestMessage) (b : Bool) (new : RequesterCore) → request_in 0 m ≡ Some a → IsSentFor q h a (clear_body m) b new → IsSentByCommand q h (clear_body m) b new
  some_read a true new reads told = sent_for a new told
  some_read a false new reads told = λ c next one.
      let read = read_from c next one in
      let same : read.0 ≡ a = same_Some read.0 a (sym read.1.reads ∙ reads) in
      read.1.none new (subst (λ (x : RequestMessage). IsSentFor q h x (clear_body m) false new) (sym same) told)

-- The same of the values in the fields of PSK_EXCHANGE.
pub opened_as : (q : ReqSetup) (h : History) (x : ExchangeMessage) (body : List ℕ) (b : Bool) (new : RequesterCore) → IsAllowed q h (values_in x) → IsToldAs q h (Open x.summary) (values_in x) body b new → IsOpenedAs q h x body b new
opened_as q h x body true new allowed told = (allowed, told)
opened_as q h x body false new allowed told = λ fits. told
