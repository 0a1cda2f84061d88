-- What a request is refused for in the clear, as the program finds it.
use Rattle.std.specs.Prelude.{◌≡◌, ◌==◌, ◌&&◌, ℕ, List, [], ◌∷◌, length, Bool, true, Option, Some, None, Result, Ok, Err}
use Rattle.responder_core.specs.declared.clear.refused.Refused.{Refused}
use Rattle.responder_machine.specs.Answer.{Free, answer_bytes, request_at}
use Rattle.responder_machine.specs.Place.{Place, Where, place_terms}
use Rattle.responder_machine.specs.Place.Where.{InChunks, InClear, InSession}
use Rattle.responder_machine.specs.Refusal.{are_caps_refused, chunk_fault, has_no_block, has_pending, is_answer_too_long, is_exchange_refused, is_get_refused, is_offer_refused, lacks_flag, refusal, refused_form}
use Rattle.responder_machine.specs.Setup.{RspSetup}
use Rattle.spdm_grammar.specs.Codes.{code_for}
use Rattle.spdm_grammar.specs.Message.{RequestMessage, request_message}
use Rattle.spdm_grammar.specs.Message.RequestMessage.{ChunkGet}
use Rattle.spdm_grammar.specs.declared.messages.error_code.ErrorCode.{ErrorCode}
use Rattle.spdm_grammar.specs.declared.messages.error_code.ErrorCode.TheVariants.{InvalidRequest, RequestTooLarge, ResponseTooLarge, SessionLimitExceeded, UnsupportedRequest}
use Rattle.spdm_grammar.specs.declared.names.request_code.TheConstants.{PSK_EXCHANGE}
use Rattle.spdm_grammar.specs.declared.messages.part_faults.ChunkFault.{ChunkFault}
use Rattle.spdm_grammar.specs.declared.messages.part_faults.ChunkFault.TheVariants as fault
use Rattle.spdm_grammar.specs.declared.messages.request.Request.{Request}
use Rattle.spdm_grammar.specs.declared.names.TheConstants.{MAX_SESSIONS}

-- The place is in no session.
abbrev pub IsClear : Where → Type 0
IsClear InClear = Unit {0}
IsClear InChunks = Unit {0}
IsClear InSession = ⊥

-- What is refused of a request's contents before it has an answer, in the clear. What is refused there of PSK_FINISH
-- and KEY_UPDATE comes in sessions alone, and of CHUNK_SEND is determined by the chunks that came before.
abbrev pub tests_of_request : RspSetup → Place → RequestMessage → List (Bool × ErrorCode)
tests_of_request r p asked =
    (lacks_flag (place_terms p) (code_for asked), UnsupportedRequest)
    ∷ (are_caps_refused r (Some asked), InvalidRequest)
    ∷ (is_offer_refused r (Some asked), InvalidRequest)
    ∷ (has_no_block r (Some asked), InvalidRequest)
    ∷ (is_exchange_refused r p (Some asked), InvalidRequest)
    ∷ (is_get_refused p (Some asked), InvalidRequest)
    ∷ []

-- What is refused of its answer, and for the number of sessions.
abbrev pub tests_of_answer : Place → (code : ℕ) → List ℕ → List (Bool × ErrorCode)
tests_of_answer p code answer =
    (is_answer_too_long p answer, ResponseTooLarge)
    ∷ (code == PSK_EXCHANGE && p.past_handshake == MAX_SESSIONS, SessionLimitExceeded)
    ∷ []

-- The code for which a chunk is refused that breaks a rule of collecting.
abbrev pub chunk_refusal : Option ChunkFault → Option ErrorCode
chunk_refusal None = None
chunk_refusal (Some fault.TooLarge) = Some RequestTooLarge
chunk_refusal (Some _) = Some InvalidRequest

-- CHUNK_GET comes where a large response is pending.
abbrev pub IsPendingFor : Place → RequestMessage → Type 0
IsPendingFor p (ChunkGet handle number) = has_pending p ≡ true
IsPendingFor p _ = Unit {0}

-- The message is refused with this code, and the answer that was too long had this length.
pub record IsRefused (r : RspSetup) (p : Place) (m : List ℕ) (f : Free) (seen : Refused) : Type 0 where
  pub code : refusal r p m f ≡ Some seen.code
  pub answer : seen.code ≡ ResponseTooLarge → seen.answer_len ≡ length (answer_bytes r p m f)

-- The message is this request, and is refused for no more than for the chunks that came before it.
pub record IsPassed (r : RspSetup) (p : Place) (m : List ℕ) (f : Free) (asked : RequestMessage) : Type 0 where
  pub form : refused_form r p m ≡ None
  pub asked_is : request_at p m ≡ Some asked
  pub refused : refusal r p m f ≡ chunk_refusal (chunk_fault r p (Some asked))

-- The one or the other.
abbrev pub IsTested : RspSetup → Place → List ℕ → Free → Result Request Refused → Type 0
IsTested r p m f (Ok request) = IsPassed r p m f (request_message request)
IsTested r p m f (Err refused) = IsRefused r p m f refused
