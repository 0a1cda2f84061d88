-- What comes of a request in the clear, with the chunks of large requests.
use Rattle.std.specs.Prelude.{◌≡◌, ◌∷◌, ℕ, List, true, false, None, Some}
use Rattle.chunking.specs.Keeping as keeping
use Rattle.responder_core.specs.ClearState as standing
use Rattle.responder_core.specs.ClearState.{place_at}
use Rattle.responder_core.specs.declared.clear.request_outcome.ExchangeOrigin.{ExchangeOrigin}
use Rattle.responder_core.specs.declared.clear.request_outcome.ExchangeOrigin.TheVariants as begun
use Rattle.responder_core.specs.declared.clear.request_outcome.RequestOutcome.{RequestOutcome}
use Rattle.responder_core.specs.declared.clear.request_outcome.RequestOutcome.TheVariants as came
use Rattle.responder_machine.specs.Answer.{Free, request_at}
use Rattle.responder_machine.specs.Handling.{turn_of}
use Rattle.responder_machine.specs.LargeMessages.{chunks_of}
use Rattle.responder_machine.specs.Laws.{completed_at}
use Rattle.responder_machine.specs.Place.{Place, inside}
use Rattle.responder_machine.specs.Refusal.{code_of, refusal, refused_form}
use Rattle.responder_machine.specs.Setup.{RspSetup}
use Rattle.responder_machine.specs.Turn.{Turn, takes, takes_draw}
use Rattle.spdm_grammar.specs.Message.{ChunkMessage, ExchangeMessage}
use Rattle.spdm_grammar.specs.Message.RequestMessage.{ChunkSend, PskExchange}
use Rattle.spdm_grammar.specs.declared.names.request_code.TheConstants.{PSK_EXCHANGE}

-- The state in contracts: how the clear part stands, its collector, and the large request that was completed last.
pub record Seen : Type 0 where
  pub standing : standing.Seen
  pub collector : keeping.Kept
  pub whole : List ℕ

-- It is kept of a clear part of these turns, at a responder that takes large requests of up to its max size.
pub record StandsFor (seen : Seen) (r : RspSetup) (turns : List Turn) : Type 0 where
  pub standing : standing.StandsFor seen.standing turns
  pub collector : keeping.StandsFor seen.collector (chunks_of turns)
  pub max : seen.collector.max ≡ r.max

-- The message is a PSK_EXCHANGE that is not refused, at a place of these turns; nothing has changed yet.
pub record BeginsInClear (r : RspSetup) (p : Place) (m : List ℕ) (f : Free) (new : Seen) : Type 0 where
  pub exchange : ExchangeMessage
  pub form : refused_form r p m ≡ None
  pub asked_is : request_at p m ≡ Some (PskExchange exchange)
  pub refused : refusal r p m f ≡ None
  pub stands : StandsFor new r p.turns

-- The message is a CHUNK_SEND with this last chunk, which is not refused and completes a large request. The collector
-- took the chunk; nothing else has changed yet.
pub record Completes (r : RspSetup) (p : Place) (m : List ℕ) (f : Free) (chunk : ChunkMessage) (new : Seen) : Type 0 where
  pub last : chunk.last ≡ true
  pub form : refused_form r p m ≡ None
  pub asked_is : request_at p m ≡ Some (ChunkSend chunk)
  pub refused : refusal r p m f ≡ None
  pub whole : new.whole ≡ completed_at p chunk
  pub standing : standing.StandsFor new.standing p.turns
  pub collector : keeping.StandsFor new.collector (chunk ∷ chunks_of p.turns)
  pub max : new.collector.max ≡ r.max

-- The large request that a last chunk of this handle and number completes is a PSK_EXCHANGE that is not refused.
pub record BeginsInChunks (r : RspSetup) (p : Place) (m : List ℕ) (f : Free) (handle number : ℕ) (new : Seen) : Type 0 where
  pub chunk : ChunkMessage
  pub handle_is : chunk.handle ≡ handle
  pub number_is : chunk.number ≡ number
  pub completes : Completes r p m f chunk new
  pub exchange : ExchangeMessage
  pub form : refused_form r (inside p) new.whole ≡ None
  pub asked_is : request_at (inside p) new.whole ≡ Some (PskExchange exchange)
  pub refused : refusal r (inside p) new.whole f ≡ None

-- Where a session begins.
abbrev pub IsBegun : RspSetup → Place → List ℕ → Free → ExchangeOrigin → Seen → Type 0
IsBegun r p m f begun.InClear new = BeginsInClear r p m f new
IsBegun r p m f (begun.InChunks handle number) new = BeginsInChunks r p m f handle number new

-- The turn of the message was made: its reply is written, and what is kept is that of the turns with it.
pub record IsTurned (r : RspSetup) (p : Place) (m : List ℕ) (f : Free) (new : Seen) (out : List ℕ) : Type 0 where
  pub reply : out ≡ (turn_of r p m f).reply
  pub stands : StandsFor new r (turn_of r p m f ∷ p.turns)

-- It is not refused, and its turn was made.
abbrev pub IsTakenTurn : RspSetup → Place → List ℕ → Free → (new : Seen) → (out : List ℕ) → Type 0
IsTakenTurn r p m f new out = ((turn_of r p m f).refused ≡ None) × IsTurned r p m f new out

-- By what is reported of it: it is refused with this code; it is answered, takes no PSK_EXCHANGE, takes a draw or none,
-- and has this code; or it begins a session.
abbrev pub IsCome : RspSetup → Place → List ℕ → Free → RequestOutcome → (new : Seen) → (out : List ℕ) → Type 0
IsCome r p m f (came.Refused code) new out = ((turn_of r p m f).refused ≡ Some code) × IsTurned r p m f new out
IsCome r p m f (came.Answered code drawn) new out =
    IsTakenTurn r p m f new out × (takes PSK_EXCHANGE (turn_of r p m f) ≡ false) × (drawn ≡ takes_draw (turn_of r p m f)) × (code ≡ code_of m)
IsCome r p m f (came.Begins begun) new out = IsBegun r p m f begun new

-- The bytes of the PSK_EXCHANGE that begins, and the place that it came to.
abbrev pub exchange_bytes : ExchangeOrigin → List ℕ → Seen → List ℕ
exchange_bytes begun.InClear m seen = m
exchange_bytes (begun.InChunks handle number) m seen = seen.whole

abbrev pub exchange_place : ExchangeOrigin → Place → Place
exchange_place begun.InClear p = p
exchange_place (begun.InChunks handle number) p = inside p

-- Where a session begins the negotiation and the large response stay.
abbrev pub StaysToBegin : RequestOutcome → (old new : Seen) → Type 0
StaysToBegin (came.Begins begun) old new = new.standing ≡ old.standing
StaysToBegin _ old new = Unit {0}
