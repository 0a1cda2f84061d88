-- The outcome of a message at a place of the clear part.
use Rattle.std.specs.Prelude.{◌≡◌, ◌==◌, ◌∷◌, ℕ, List, true, false, None, Some}
use Rattle.responder_core.specs.Refused.{chunk_refusal}
use Rattle.responder_core.specs.ClearState.{Seen, StandsFor}
use Rattle.responder_core.specs.declared.clear.handled_request.HandledRequest.{HandledRequest}
use Rattle.responder_core.specs.declared.clear.handled_request.HandledRequest.TheVariants as came
use Rattle.responder_machine.specs.Answer.{Free, request_at}
use Rattle.responder_machine.specs.Handling.{chunk_in, error_bytes, request_effect, request_reply}
use Rattle.responder_machine.specs.Place.{Place}
use Rattle.responder_machine.specs.Refusal.{chunk_fault, code_of, refusal, refused_form}
use Rattle.responder_machine.specs.Setup.{RspSetup}
use Rattle.responder_machine.specs.Turn.{Turn, is_taken}
use Rattle.spdm_grammar.specs.Message.{chunk_message, exchange_message}
use Rattle.spdm_grammar.specs.Message.RequestMessage.{ChunkSend, PskExchange}
use Rattle.spdm_grammar.specs.declared.names.request_code.TheConstants.{PSK_EXCHANGE}

-- Nothing has changed where a chunk or PSK_EXCHANGE is told.
abbrev pub IsUntouched : HandledRequest → (old new : Seen) → Type 0
IsUntouched (came.Chunk chunk) old new = new ≡ old
IsUntouched (came.Exchange exchange) old new = new ≡ old
IsUntouched _ old new = Unit {0}

-- By what it is told, with what is kept before it and after it, and what is written: it is refused, nothing changes,
-- and its ERROR is written; or it is neither a chunk nor PSK_EXCHANGE and is answered, what is kept is that of every
-- turn that takes it with its effect, what is sent for it is written, and its code is told; or it is a chunk, which is
-- refused for no more than for the chunks before it; or a PSK_EXCHANGE that is not refused. In the last two nothing has
-- changed.
abbrev pub IsHandled : RspSetup → Place → List ℕ → Free → HandledRequest → (old new : Seen) → (out : List ℕ) → Type 0
IsHandled r p m f (came.Refused code) old new out = (refusal r p m f ≡ Some code) × (new ≡ old) × (out ≡ error_bytes r p m f code)
IsHandled r p m f (came.Answered code) old new out =
    (refusal r p m f ≡ None) × (chunk_in (request_at p m) ≡ None)
    × ((t : Turn) → is_taken t ≡ true → t.effect ≡ request_effect r p m f → StandsFor new (t ∷ p.turns))
    × (out ≡ request_reply r p m f) × ((code_of m == PSK_EXCHANGE) ≡ false) × (code ≡ code_of m)
IsHandled r p m f (came.Chunk chunk) old new out =
    (refused_form r p m ≡ None) × (request_at p m ≡ Some (ChunkSend (chunk_message chunk)))
    × (refusal r p m f ≡ chunk_refusal (chunk_fault r p (Some (ChunkSend (chunk_message chunk))))) × (new ≡ old)
IsHandled r p m f (came.Exchange exchange) old new out =
    (refused_form r p m ≡ None) × (refusal r p m f ≡ None) × (request_at p m ≡ Some (PskExchange (exchange_message exchange))) × (new ≡ old)
