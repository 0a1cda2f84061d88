-- The ERROR with which a responder refuses is read as this ERROR; so a requester whose GET_VERSION is refused is fresh.
use Rattle.std.proofs.Common.{◌≡◌, ◌≢◌, ◌<◌, ◌==◌, ◌&&◌, ◌⊎◌, ◌∙◌, ℕ, List, [], refl, ap, arith, Bool, true, false, Ok, cond, inl, inr}
use Rattle.std.specs.Prelude.{slice_index}
use Rattle.requester_machine.specs.Answers.{goes_on, is_refused}
use Rattle.requester_machine.specs.ClearAnswers.{carried_by, clear_led, read_led}
use Rattle.requester_machine.specs.Commands.{Free as FreeHere}
use Rattle.requester_machine.specs.History as asked
use Rattle.requester_machine.specs.History.{Led, connection_terms}
use Rattle.requester_machine.specs.History.Effect.{Nothing, Refuses}
use Rattle.requester_machine.specs.Message.Aim.{Plain}
use Rattle.requester_machine.specs.Sending.{get_sent}
use Rattle.requester_machine.specs.Setup.{ReqSetup}
use Rattle.responder_machine.specs.Answer.{Free, answer_bytes}
use Rattle.responder_machine.specs.Handling.{detail_of, error_bytes, extended_of, version_in}
use Rattle.responder_machine.specs.Place.{Place}
use Rattle.responder_machine.specs.Refusal.{code_of}
use Rattle.responder_machine.specs.Setup.{RspSetup}
use Rattle.spdm_grammar.proofs.CanonicalResponses.{response_spelled}
use Rattle.spdm_grammar.proofs.Spellings.{spelling_read}
use Rattle.spdm_grammar.specs.ErrorNumber.{error_number}
use Rattle.spdm_grammar.specs.Message.{ResponseMessage}
use Rattle.spdm_grammar.specs.Message.RequestMessage.{GetVersion}
use Rattle.spdm_grammar.specs.Message.ResponseMessage.{Error}
use Rattle.spdm_grammar.specs.Responses.{FitsResponse, IsSoundResponse, canonical_response, response_layout, response_reading}
use Rattle.spdm_grammar.specs.declared.messages.error_code.ErrorCode.{ErrorCode}
use Rattle.spdm_grammar.specs.declared.messages.error_code.ErrorCode.TheVariants.{InvalidRequest, UnexpectedRequest, Unspecified, DecryptError, UnsupportedRequest, SessionLimitExceeded, SessionRequired, ResponseTooLarge, RequestTooLarge, LargeResponse, VersionMismatch}
use Rattle.spdm_grammar.specs.declared.names.error_number.TheConstants.{LARGE_RESPONSE}
use Rattle.spdm_grammar.specs.declared.names.spdm_version.TheConstants.{V1_0, V1_2}
use Rattle.spdm_grammar.specs.declared.told.phase.Phase.{Phase}
use Rattle.spdm_grammar.specs.declared.told.phase.Phase.TheVariants.{Fresh, Versioned, Capable, Negotiated}
use Rattle.spdm_machine.specs.Terms.{hash_len}

-- ---- Reading.

reads_so : (v : ResponseMessage) (len : ℕ) (summary : Bool) → FitsResponse v → IsSoundResponse len summary v → response_reading len summary (canonical_response v) ≡ Ok v
reads_so v len summary fits sound = spelling_read (response_layout len summary) 0 v (canonical_response v) (response_spelled len summary v fits sound).is

known_version : (phase : Phase) → (version_in phase ≡ V1_0) ⊎ (version_in phase ≡ V1_2)
known_version Fresh = inl refl
known_version Versioned = inr refl
known_version Capable = inr refl
known_version Negotiated = inr refl

pub error_read : (r : RspSetup) (p : Place) (m : List ℕ) (f : Free) (e : ErrorCode) (len : ℕ) → code_of m < 256 → e ≢ LargeResponse
    → response_reading len false (error_bytes r p m f e) ≡ Ok (Error (version_in p.phase) (error_number e) (detail_of e (code_of m)) (extended_of e (answer_bytes r p m f)))
error_read r p m f InvalidRequest len byte other = reads_so (Error (version_in p.phase) (error_number InvalidRequest) 0 []) len false (omega arith, omega arith) (known_version p.phase, (λ e. absurd (omega (arith, e)), λ e. absurd (omega (arith, e)), omega arith))
error_read r p m f UnexpectedRequest len byte other = reads_so (Error (version_in p.phase) (error_number UnexpectedRequest) 0 []) len false (omega arith, omega arith) (known_version p.phase, (λ e. absurd (omega (arith, e)), λ e. absurd (omega (arith, e)), omega arith))
error_read r p m f Unspecified len byte other = reads_so (Error (version_in p.phase) (error_number Unspecified) 0 []) len false (omega arith, omega arith) (known_version p.phase, (λ e. absurd (omega (arith, e)), λ e. absurd (omega (arith, e)), omega arith))
error_read r p m f DecryptError len byte other = reads_so (Error (version_in p.phase) (error_number DecryptError) 0 []) len false (omega arith, omega arith) (known_version p.phase, (λ e. absurd (omega (arith, e)), λ e. absurd (omega (arith, e)), omega arith))
error_read r p m f UnsupportedRequest len byte other = reads_so (Error (version_in p.phase) (error_number UnsupportedRequest) (code_of m) []) len false (omega arith, byte) (known_version p.phase, (λ e. absurd (omega (arith, e)), λ e. absurd (omega (arith, e)), omega arith))
error_read r p m f SessionLimitExceeded len byte other = reads_so (Error (version_in p.phase) (error_number SessionLimitExceeded) 0 []) len false (omega arith, omega arith) (known_version p.phase, (λ e. absurd (omega (arith, e)), λ e. absurd (omega (arith, e)), omega arith))
error_read r p m f SessionRequired len byte other = reads_so (Error (version_in p.phase) (error_number SessionRequired) 0 []) len false (omega arith, omega arith) (known_version p.phase, (λ e. absurd (omega (arith, e)), λ e. absurd (omega (arith, e)), omega arith))
error_read r p m f ResponseTooLarge len byte other = reads_so (Error (version_in p.phase) (error_number ResponseTooLarge) 0 (extended_of ResponseTooLarge (answer_bytes r p m f))) len false (omega arith, omega arith) (known_version p.phase, (λ e. refl, λ e. absurd (omega (arith, e)), omega arith))
error_read r p m f RequestTooLarge len byte other = reads_so (Error (version_in p.phase) (error_number RequestTooLarge) 0 []) len false (omega arith, omega arith) (known_version p.phase, (λ e. absurd (omega (arith, e)), λ e. absurd (omega (arith, e)), omega arith))
error_read r p m f LargeResponse len byte other = absurd (other refl)
error_read r p m f VersionMismatch len byte other = reads_so (Error (version_in p.phase) (error_number VersionMismatch) 0 []) len false (omega arith, omega arith) (known_version p.phase, (λ e. absurd (omega (arith, e)), λ e. absurd (omega (arith, e)), omega arith))

-- ---- At a requester.

none_large : (b c : Bool) → ((b && false) && c) ≡ false
none_large true c = refl
none_large false c = refl

-- What the ERROR leads to, where VERSION was asked for.
pub refused_led : (q : ReqSetup) (h : asked.History) (f : FreeHere) (r : RspSetup) (p : Place) (m : List ℕ) (k : Free) (e : ErrorCode) → code_of m < 256 → e ≢ LargeResponse
    → clear_led q h f (Plain GetVersion) GetVersion (error_bytes r p m k e) ≡ Ok (is_refused (error_number e) (Refuses GetVersion))
unfolding clear_led carried_by
refused_led q h f r p m k e byte other =
    ap (read_led q h f 0 GetVersion (error_bytes r p m k e)) (error_read r p m k e (hash_len (connection_terms h)) byte other)
    ∙ ap (λ (b : Bool). Ok (cond b (goes_on Nothing (get_sent h GetVersion (slice_index (extended_of e (answer_bytes r p m k)) 0) 0 [])) (is_refused (error_number e) (Refuses GetVersion))))
    (none_large (error_number e == LARGE_RESPONSE) (connection_terms h).common.chunk)
