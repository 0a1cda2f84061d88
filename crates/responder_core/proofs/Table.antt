-- The table of refusals in the clear, from the tests that are made there.
use Rattle.std.proofs.Common.{refl, ◌∙◌, ◌≡◌, ℕ, List, [], ◌∷◌, ◌++◌, true, false, Bool, Option, Some, None, ap, sym}
use Rattle.std.proofs.lemmas.Bool.{false≢true, not-false}
use Rattle.std.specs.Option.{option_or}
use Rattle.std.specs.Prelude.{◌==◌, ◌&&◌, if◌then◌else◌, is_some}
use Rattle.responder_machine.proofs.Codes.{asked-code}
use Rattle.responder_machine.proofs.Tests.{tests_are_false}
use Rattle.responder_machine.specs.Answer.{Free, answer_bytes, request_at}
use Rattle.responder_machine.specs.Place.{Place, Where, place_terms}
use Rattle.responder_machine.specs.Place.Where.{InChunks, InClear, InSession}
use Rattle.responder_machine.specs.Refusal.{are_caps_refused, chunk_fault, code_of, has_no_block, has_pending, is_allowed, is_answer_too_long, is_exchange_refused, is_get_refused, is_offer_refused, is_too_large, is_update_misplaced, is_verify_wrong, lacks_flag, needs_session, phase_allows, refusal, refused_contents, refused_form, tests_of_contents, tests_of_form}
use Rattle.responder_machine.specs.Setup.{RspSetup}
use Rattle.spdm_basis.specs.Tests.{first_of_tests}
use Rattle.spdm_grammar.specs.Codes.{code_for}
use Rattle.spdm_grammar.specs.Message.{RequestMessage}
use Rattle.spdm_grammar.specs.Message.RequestMessage.{ChunkGet, ChunkSend, EndSession, GetCapabilities, GetMeasurements, GetVersion, Heartbeat, KeyUpdate, NegotiateAlgorithms, PskExchange, PskFinish}
use Rattle.spdm_grammar.specs.declared.messages.error_code.ErrorCode.{ErrorCode}
use Rattle.spdm_grammar.specs.declared.messages.error_code.ErrorCode.TheVariants.{DecryptError, InvalidRequest, RequestTooLarge, ResponseTooLarge, SessionLimitExceeded, UnexpectedRequest, UnsupportedRequest}
use Rattle.spdm_grammar.specs.declared.names.request_code.TheConstants.{CHUNK_GET, PSK_EXCHANGE}
use Rattle.spdm_grammar.specs.declared.messages.part_faults.ChunkFault.{ChunkFault}
use Rattle.spdm_grammar.specs.declared.messages.part_faults.ChunkFault.TheVariants as fault
use Rattle.spdm_grammar.specs.declared.told.phase.Phase.{Phase}
use Rattle.spdm_grammar.specs.declared.told.phase.Phase.TheVariants.{Capable, Fresh, Negotiated, Versioned}
use Rattle.responder_core.specs.Refused.{IsClear, IsPendingFor, chunk_refusal, tests_of_answer, tests_of_request}

-- ---- Lists of tests.

-- No code came.
pub none_there : {A : Type 0} (x : Option A) → ((a : A) → x ≡ Some a → ⊥) → x ≡ None
none_there None h = refl
none_there (Some a) h = absurd (h a refl)

or_none : {A : Type 0} (x : Option A) → option_or x None ≡ x
or_none None = refl
or_none (Some a) = refl

-- Tests before others decide first.
first_of-append : (xs ys : List (Bool × ErrorCode)) → first_of_tests (xs ++ ys) ≡ option_or (first_of_tests xs) (first_of_tests ys)
first_of-append [] ys = refl
first_of-append (t ∷ xs) ys = by_test t.0 (first_of-append xs ys)
  where
    by_test : (b : Bool) → first_of_tests (xs ++ ys) ≡ option_or (first_of_tests xs) (first_of_tests ys)
        → (if b then Some t.1 else first_of_tests (xs ++ ys)) ≡ option_or (if b then Some t.1 else first_of_tests xs) (first_of_tests ys)
    by_test true others = refl
    by_test false others = others

-- ---- What needs a session does not come in the clear.

clear_needs : (at : Where) (code : ℕ) → IsClear at → needs_session at code ≡ needs_session InClear code
clear_needs InClear code clear = refl
clear_needs InChunks code clear = refl
clear_needs InSession code clear = absurd clear

pub outside_session : (r : RspSetup) (p : Place) (m : List ℕ) (asked : RequestMessage) → IsClear p.at → refused_form r p m ≡ None → request_at p m ≡ Some asked → needs_session InClear (code_for asked) ≡ false
unfolding refused_form
outside_session r p m asked clear form is =
    ap (needs_session InClear) (asked-code p m asked is) ∙ sym (clear_needs p.at (code_of m) clear) ∙ tests_are_false (tests_of_form r p m) form 3

clear_allows : (at : Where) (p : Place) (code : ℕ) → IsClear at → is_allowed at p code ≡ phase_allows p.phase (has_pending p) code
clear_allows InClear p code clear = refl
clear_allows InChunks p code clear = refl
clear_allows InSession p code clear = absurd clear

-- The phase allows a request that is not refused for its form.
pub phase_allowed : (r : RspSetup) (p : Place) (m : List ℕ) (asked : RequestMessage) → IsClear p.at → refused_form r p m ≡ None → request_at p m ≡ Some asked → phase_allows p.phase (has_pending p) (code_for asked) ≡ true
unfolding refused_form
phase_allowed r p m asked clear form is =
    ap (phase_allows p.phase (has_pending p)) (asked-code p m asked is) ∙ sym (clear_allows p.at p (code_of m) clear) ∙ not-false (is_allowed p.at p (code_of m)) (tests_are_false (tests_of_form r p m) form 6)

pub pending_for : (r : RspSetup) (p : Place) (m : List ℕ) (asked : RequestMessage) → IsClear p.at → refused_form r p m ≡ None → request_at p m ≡ Some asked → IsPendingFor p asked
pending_for r p m (ChunkGet handle number) clear form is = by_phase p.phase (phase_allowed r p m (ChunkGet handle number) clear form is)
  where
    by_phase : (phase : Phase) → phase_allows phase (has_pending p) CHUNK_GET ≡ true → has_pending p ≡ true
    by_phase Fresh h = h
    by_phase Versioned h = h
    by_phase Capable h = h
    by_phase Negotiated h = h
pending_for r p m _ clear form is = tt

-- ---- The whole table.

-- A request that is no chunk, or whose answer is not refused.
abbrev pub IsShort : RequestMessage → (long limit : Bool) → Type 0
IsShort (ChunkSend chunk) long limit = (long ≡ false) × (limit ≡ false)
IsShort _ long limit = Unit {0}

-- The tests of a request's contents and of its answer, all of them.
abbrev all_tests : RspSetup → Place → List ℕ → RequestMessage → (code : ℕ) → (long limit : Bool) → List (Bool × ErrorCode)
all_tests r p m asked code long limit =
    (lacks_flag (place_terms p) code, UnsupportedRequest)
    ∷ (are_caps_refused r (Some asked), InvalidRequest)
    ∷ (is_offer_refused r (Some asked), InvalidRequest)
    ∷ (has_no_block r (Some asked), InvalidRequest)
    ∷ (is_exchange_refused r p (Some asked), InvalidRequest)
    ∷ (is_verify_wrong r p m (Some asked), DecryptError)
    ∷ (is_update_misplaced p (Some asked), UnexpectedRequest)
    ∷ (is_too_large (chunk_fault r p (Some asked)), RequestTooLarge)
    ∷ (is_some (chunk_fault r p (Some asked)), InvalidRequest)
    ∷ (is_get_refused p (Some asked), InvalidRequest)
    ∷ (long, ResponseTooLarge)
    ∷ (limit, SessionLimitExceeded)
    ∷ []

-- Those that are made in the clear.
abbrev clear_tests : RspSetup → Place → RequestMessage → (code : ℕ) → (long limit : Bool) → List (Bool × ErrorCode)
clear_tests r p asked code long limit =
    (lacks_flag (place_terms p) code, UnsupportedRequest)
    ∷ (are_caps_refused r (Some asked), InvalidRequest)
    ∷ (is_offer_refused r (Some asked), InvalidRequest)
    ∷ (has_no_block r (Some asked), InvalidRequest)
    ∷ (is_exchange_refused r p (Some asked), InvalidRequest)
    ∷ (is_get_refused p (Some asked), InvalidRequest)
    ∷ (long, ResponseTooLarge)
    ∷ (limit, SessionLimitExceeded)
    ∷ []

-- Of a chunk.
chunk_tests : (lacks : Bool) (broken : Option ChunkFault) (long limit : Bool) → long ≡ false → limit ≡ false
    → first_of_tests ((lacks, UnsupportedRequest) ∷ (is_too_large broken, RequestTooLarge) ∷ (is_some broken, InvalidRequest) ∷ (long, ResponseTooLarge) ∷ (limit, SessionLimitExceeded) ∷ [])
    ≡ option_or (first_of_tests ((lacks, UnsupportedRequest) ∷ (long, ResponseTooLarge) ∷ (limit, SessionLimitExceeded) ∷ [])) (chunk_refusal broken)
chunk_tests true broken long limit x y = refl
chunk_tests false broken long limit x y = rw (x, y) (by_fault broken)
  where
    by_fault : (broken : Option ChunkFault) → (if is_too_large broken then Some RequestTooLarge else (if is_some broken then Some InvalidRequest else None)) ≡ chunk_refusal broken
    by_fault None = refl
    by_fault (Some fault.TooLarge) = refl
    by_fault (Some fault.WrongHandle) = refl
    by_fault (Some fault.WrongNumber) = refl
    by_fault (Some fault.WrongSize) = refl
    by_fault (Some fault.EarlyLast) = refl
    by_fault (Some fault.MissingLast) = refl

-- Both lists decide alike, but for the rules of chunks.
decides_alike : (r : RspSetup) (p : Place) (m : List ℕ) (asked : RequestMessage) (code : ℕ) (long limit : Bool) → needs_session InClear (code_for asked) ≡ false → IsShort asked long limit
    → first_of_tests (all_tests r p m asked code long limit) ≡ option_or (first_of_tests (clear_tests r p asked code long limit)) (chunk_refusal (chunk_fault r p (Some asked)))
decides_alike r p m (PskFinish verify) code long limit outside short = absurd (false≢true (sym outside))
decides_alike r p m Heartbeat code long limit outside short = absurd (false≢true (sym outside))
decides_alike r p m (KeyUpdate op tag) code long limit outside short = absurd (false≢true (sym outside))
decides_alike r p m EndSession code long limit outside short = absurd (false≢true (sym outside))
decides_alike r p m (ChunkSend chunk) code long limit outside short = chunk_tests (lacks_flag (place_terms p) code) (chunk_fault r p (Some (ChunkSend chunk))) long limit short.0 short.1
decides_alike r p m GetVersion code long limit outside short = sym (or_none _)
decides_alike r p m (GetCapabilities caps) code long limit outside short = sym (or_none _)
decides_alike r p m (NegotiateAlgorithms offer) code long limit outside short = sym (or_none _)
decides_alike r p m (GetMeasurements op) code long limit outside short = sym (or_none _)
decides_alike r p m (PskExchange exchange) code long limit outside short = sym (or_none _)
decides_alike r p m (ChunkGet handle number) code long limit outside short = sym (or_none _)

-- The refusal of a message whose form is not refused.
pub refusal_is : (r : RspSetup) (p : Place) (m : List ℕ) (f : Free) (asked : RequestMessage) → IsClear p.at → refused_form r p m ≡ None → request_at p m ≡ Some asked
    → IsShort asked (is_answer_too_long p (answer_bytes r p m f)) (code_for asked == PSK_EXCHANGE && p.past_handshake == 4)
    → refusal r p m f ≡ option_or (option_or (first_of_tests (tests_of_request r p asked)) (first_of_tests (tests_of_answer p (code_for asked) (answer_bytes r p m f)))) (chunk_refusal (chunk_fault r p (Some asked)))
unfolding refusal refused_contents
refusal_is r p m f asked clear form is short =
    let long : Bool = is_answer_too_long p (answer_bytes r p m f) in
    let limit : Bool = code_for asked == PSK_EXCHANGE && p.past_handshake == 4 in
    ap (λ (x : Option ErrorCode). option_or x (first_of_tests (tests_of_contents r p m f))) form
    ∙ contents_are (request_at p m) (code_of m) is (sym (asked-code p m asked is))
    ∙ decides_alike r p m asked (code_for asked) long limit (outside_session r p m asked clear form is) short
    ∙ ap (λ (x : Option ErrorCode). option_or x (chunk_refusal (chunk_fault r p (Some asked)))) (first_of-append (tests_of_request r p asked) (tests_of_answer p (code_for asked) (answer_bytes r p m f)))
  where
    contents_are : (q : Option RequestMessage) (code : ℕ) → q ≡ Some asked → code ≡ code_for asked
        → first_of_tests (
        (lacks_flag (place_terms p) code, UnsupportedRequest)
        ∷ (are_caps_refused r q, InvalidRequest)
        ∷ (is_offer_refused r q, InvalidRequest)
        ∷ (has_no_block r q, InvalidRequest)
        ∷ (is_exchange_refused r p q, InvalidRequest)
        ∷ (is_verify_wrong r p m q, DecryptError)
        ∷ (is_update_misplaced p q, UnexpectedRequest)
        ∷ (is_too_large (chunk_fault r p q), RequestTooLarge)
        ∷ (is_some (chunk_fault r p q), InvalidRequest)
        ∷ (is_get_refused p q, InvalidRequest)
        ∷ (is_answer_too_long p (answer_bytes r p m f), ResponseTooLarge)
        ∷ (code == PSK_EXCHANGE && p.past_handshake == 4, SessionLimitExceeded)
        ∷ [])
        ≡ first_of_tests (all_tests r p m asked (code_for asked) (is_answer_too_long p (answer_bytes r p m f)) (code_for asked == PSK_EXCHANGE && p.past_handshake == 4))
    contents_are q code is same = rw (is, same) refl
