-- What a message shows that passes the tests of the clear part, and why one is refused that does not.
use Rattle.std.proofs.Common.{refl, ◌∙◌, ◌≡◌, ◌≤◌, ◌+◌, ℕ, List, [], ◌∷◌, true, false, Bool, Option, Some, None, length, ap, sym, subst, arith}
use Rattle.std.proofs.lemmas.Bool.{false≢true, ltb-false}
use Rattle.std.proofs.lemmas.Option.{none-some}
use Rattle.std.specs.Option.{option_or}
use Rattle.std.specs.Prelude.{◌==◌, ◌&&◌, ◌||◌, nat_lt, not, unwrap_or}
use Rattle.negotiate.specs.declared.shared.Common.{Common}
use Rattle.responder_rules.specs.LargeAnswer as large_answer
use Rattle.responder_machine.proofs.Tests.{tests_are_false}
use Rattle.responder_machine.specs.Answer.{Free, answer_bytes, answer_of, request_at}
use Rattle.responder_machine.specs.LargeMessages.{pending_of}
use Rattle.responder_machine.specs.Place.{Place, Where, place_terms}
use Rattle.responder_machine.specs.Place.Where.{InChunks, InClear, InSession}
use Rattle.responder_machine.specs.Refusal.{bytes_round, chunk_fault, has_pending, is_answer_too_long, phase_allows, refusal, refused_contents, refused_form, sizes_are_known, tests_of_form}
use Rattle.responder_machine.specs.Setup.{RspSetup, policy_of}
use Rattle.negotiate.specs.Choosing.{selected}
use Rattle.responder_machine.specs.Turn.{Turn}
use Rattle.spdm_basis.specs.Tests.{first_of_tests}
use Rattle.spdm_basis.proofs.Bools.{lt_false}
use Rattle.spdm_grammar.specs.Codes.{code_for}
use Rattle.spdm_grammar.specs.Message.{RequestMessage}
use Rattle.spdm_grammar.specs.Message.RequestMessage.{ChunkGet, ChunkSend, EndSession, GetCapabilities, GetMeasurements, GetVersion, Heartbeat, KeyUpdate, NegotiateAlgorithms, PskExchange, PskFinish}
use Rattle.spdm_grammar.specs.Responses.{canonical_response}
use Rattle.spdm_grammar.specs.declared.messages.error_code.ErrorCode.{ErrorCode}
use Rattle.spdm_grammar.specs.declared.messages.error_code.ErrorCode.TheVariants.{ResponseTooLarge, SessionLimitExceeded}
use Rattle.spdm_grammar.specs.declared.names.TheConstants.{MAX_MESSAGE_SIZE}
use Rattle.spdm_grammar.specs.declared.names.request_code.TheConstants.{CHUNK_SEND, GET_MEASUREMENTS, PSK_EXCHANGE}
use Rattle.spdm_grammar.specs.declared.told.phase.Phase.{Phase}
use Rattle.spdm_grammar.specs.declared.told.phase.Phase.TheVariants.{Capable, Fresh, Negotiated, Versioned}
use Rattle.spdm_machine.specs.Terms.{no_choice}
use Rattle.responder_core.proofs.AnswerLengths.{chunk_fits}
use Rattle.responder_core.proofs.Lengths.{algorithms_long}
use Rattle.responder_machine.proofs.Settled.{answer_is}
use Rattle.responder_core.proofs.Table.{IsShort, outside_session, pending_for, phase_allowed, refusal_is}
use Rattle.responder_core.specs.Answering.{IsAnswerable, is_made_here}
use Rattle.responder_core.specs.Negotiating.{IsSettled, IsSized}
use Rattle.responder_core.specs.Refused.{IsClear, IsPassed, IsRefused, chunk_refusal, tests_of_answer, tests_of_request}
use Rattle.responder_core.specs.ClearState.{IsSettledAt, Seen, StandsFor, place_at}
use Rattle.responder_core.specs.declared.clear.refused.Refused.{Refused}
use Rattle.responder_session.proofs.Contents.{AreOther, form_codes, other_code}

-- ---- The sizes of the requester.

pub settled_at : (seen : Seen) (at : Where) (turns : List Turn) (held : ℕ) → StandsFor seen turns → IsSettledAt (place_at at turns held)
settled_at seen at turns held stands =
    record { settled = subst (λ (x : Phase). IsSettled x (place_terms (place_at at turns held)).common) (sym stands.negotiating.phase) (subst (IsSettled seen.negotiating.phase) (sym stands.negotiating.common) stands.negotiating.settled) }

-- Large responses go in chunks of the transfer size of the place.
pub large_at : (seen : Seen) (at : Where) (turns : List Turn) (held : ℕ) → StandsFor seen turns → large_answer.StandsFor seen.large (place_terms (place_at at turns held)).common.to_requester.transfer turns
large_at seen at turns held stands = subst (λ (c : Common). large_answer.StandsFor seen.large c.to_requester.transfer turns) (sym stands.negotiating.common) stands.large

-- Where chunks are in common the sizes are known.
sized_by_chunk : (phase : Phase) (common : Common) → IsSettled phase common → common.chunk ≡ true → IsSized common
sized_by_chunk Fresh common settled chunk = absurd (false≢true (sym (ap (λ (c : Common). c.chunk) settled) ∙ chunk))
sized_by_chunk Versioned common settled chunk = absurd (false≢true (sym (ap (λ (c : Common). c.chunk) settled) ∙ chunk))
sized_by_chunk Capable common settled chunk = settled
sized_by_chunk Negotiated common settled chunk = settled

-- In the phases of a request they are.
pub record IsKnownAt (p : Place) : Type 0 where
  pub known : sizes_are_known p.phase ≡ true
  pub sized : IsSized (place_terms p).common

pub chunk_send_known : (phase : Phase) (common : Common) (pending : Bool) → IsSettled phase common → phase_allows phase pending CHUNK_SEND ≡ true → (sizes_are_known phase ≡ true) × IsSized common
chunk_send_known Fresh common pending settled allowed = absurd (false≢true allowed)
chunk_send_known Versioned common pending settled allowed = absurd (false≢true allowed)
chunk_send_known Capable common pending settled allowed = (refl, settled)
chunk_send_known Negotiated common pending settled allowed = (refl, settled)

measurements_known : (phase : Phase) (common : Common) (pending : Bool) → IsSettled phase common → phase_allows phase pending GET_MEASUREMENTS ≡ true → (sizes_are_known phase ≡ true) × IsSized common
measurements_known Fresh common pending settled allowed = absurd (false≢true allowed)
measurements_known Versioned common pending settled allowed = absurd (false≢true allowed)
measurements_known Capable common pending settled allowed = absurd (false≢true allowed)
measurements_known Negotiated common pending settled allowed = (refl, settled)

-- ---- A request that may be answered.

-- CHUNK_GET is not refused for want of chunks in common.
has_chunk : (chunk b c : Bool) → (not chunk || b || c) ≡ false → chunk ≡ true
has_chunk true b c h = refl
has_chunk false b c h = absurd (false≢true (sym h))

pub answerable : (r : RspSetup) (p : Place) (m : List ℕ) (large : large_answer.Seen) (asked : RequestMessage) → IsClear p.at → IsSettledAt p → refused_form r p m ≡ None → request_at p m ≡ Some asked
    → large_answer.StandsFor large (place_terms p).common.to_requester.transfer p.turns → first_of_tests (tests_of_request r p asked) ≡ None → IsAnswerable large p asked
answerable r p m large (ChunkGet handle number) clear settled form is stands passed =
    let lacks = tests_are_false (tests_of_request r p (ChunkGet handle number)) passed 0 in
    let refused = tests_are_false (tests_of_request r p (ChunkGet handle number)) passed 5 in
    let sized = sized_by_chunk p.phase (place_terms p).common settled.settled (has_chunk (place_terms p).common.chunk _ _ lacks) in
    let crossed = sized.crossed in
    let most = sized.most in
    (stands, pending_for r p m (ChunkGet handle number) clear form is, refused, sized.least, omega arith)
answerable r p m large (PskFinish verify) clear settled form is stands passed = absurd (false≢true (sym (outside_session r p m (PskFinish verify) clear form is)))
answerable r p m large Heartbeat clear settled form is stands passed = absurd (false≢true (sym (outside_session r p m Heartbeat clear form is)))
answerable r p m large (KeyUpdate op tag) clear settled form is stands passed = absurd (false≢true (sym (outside_session r p m (KeyUpdate op tag) clear form is)))
answerable r p m large EndSession clear settled form is stands passed = absurd (false≢true (sym (outside_session r p m EndSession clear form is)))
answerable r p m large _ clear settled form is stands passed = tt

-- ---- Answers that are short.

-- The acknowledgement of a chunk is never too long.
not_both : (a b c : Bool) → a ≡ false → c ≡ false → (a || (b && c)) ≡ false
not_both a true c x y = rw (x, y) refl
not_both a false c x y = rw x refl

round_few : (at : Where) → bytes_round at ≤ 6
round_few InClear = omega arith
round_few InChunks = omega arith
round_few InSession = omega arith

short_fits : (p : Place) (answer : List ℕ) → IsSized (place_terms p).common → length answer ≤ 36 → is_answer_too_long p answer ≡ false
short_fits p answer sized short = by_known (sizes_are_known p.phase)
  where
    transfer : ℕ
    transfer = (place_terms p).common.to_requester.transfer

    max : ℕ
    max = (place_terms p).common.to_requester.max

    rest : (nat_lt max (length answer) || (not (place_terms p).common.chunk && nat_lt transfer (bytes_round p.at + length answer))) ≡ false
    rest =
        let least = sized.least in
        let crossed = sized.crossed in
        let few = round_few p.at in
        not_both (nat_lt max (length answer)) (not (place_terms p).common.chunk) (nat_lt transfer (bytes_round p.at + length answer)) (lt_false max (length answer) (omega arith)) (lt_false transfer (bytes_round p.at + length answer) (omega arith))

    by_known : (known : Bool) → (known && (nat_lt max (length answer) || (not (place_terms p).common.chunk && nat_lt transfer (bytes_round p.at + length answer)))) ≡ false
    by_known true = rest
    by_known false = refl

-- A chunk's answer is not refused.
pub is_short : (r : RspSetup) (p : Place) (m : List ℕ) (f : Free) (asked : RequestMessage) → IsClear p.at → IsSettledAt p → refused_form r p m ≡ None → request_at p m ≡ Some asked
    → IsShort asked (is_answer_too_long p (answer_bytes r p m f)) (code_for asked == PSK_EXCHANGE && p.past_handshake == 4)
is_short r p m f (ChunkSend chunk) clear settled form is =
    let known = chunk_send_known p.phase (place_terms p).common (has_pending p) settled.settled (phase_allowed r p m (ChunkSend chunk) clear form is) in
    (short_fits p (answer_bytes r p m f) known.1 (subst (λ (a : List ℕ). length a ≤ 36) (sym (answer_is r p m f (ChunkSend chunk) is)) (omega arith)), refl)
is_short r p m f _ clear settled form is = tt

-- An answer that is made here, and is not too long, has 4,096 bytes at most.
pub not_long : (a b c : Bool) → a ≡ true → (a && (b || c)) ≡ false → b ≡ false
not_long true true c known h = absurd (false≢true (sym h))
not_long true false c known h = refl
not_long false b c known h = absurd (false≢true known)

pub answer_fits : (r : RspSetup) (p : Place) (m : List ℕ) (f : Free) (large : large_answer.Seen) (asked : RequestMessage) → IsClear p.at → IsSettledAt p → refused_form r p m ≡ None → request_at p m ≡ Some asked
    → IsAnswerable large p asked → is_made_here asked ≡ true → is_answer_too_long p (answer_bytes r p m f) ≡ false → length (canonical_response (answer_of r p m f asked)) ≤ MAX_MESSAGE_SIZE
answer_fits r p m f large GetVersion clear settled form is able here short = omega arith
answer_fits r p m f large (GetCapabilities caps) clear settled form is able here short = omega arith
answer_fits r p m f large (NegotiateAlgorithms offer) clear settled form is able here short = omega (arith, algorithms_long offer (unwrap_or (selected offer (policy_of r)) no_choice))
answer_fits r p m f large (GetMeasurements op) clear settled form is able here short =
    let known = measurements_known p.phase (place_terms p).common (has_pending p) settled.settled (phase_allowed r p m (GetMeasurements op) clear form is) in
    let fits = ltb-false (place_terms p).common.to_requester.max (length (answer_bytes r p m f)) (not_long (sizes_are_known p.phase) _ _ known.0 short) in
    let most = known.1.most in
    subst (λ (a : List ℕ). length a ≤ MAX_MESSAGE_SIZE) (answer_is r p m f (GetMeasurements op) is) (omega arith)
answer_fits r p m f large (PskExchange exchange) clear settled form is able here short = absurd (false≢true here)
answer_fits r p m f large (PskFinish verify) clear settled form is able here short = absurd able
answer_fits r p m f large Heartbeat clear settled form is able here short = absurd able
answer_fits r p m f large (KeyUpdate op tag) clear settled form is able here short = absurd able
answer_fits r p m f large EndSession clear settled form is able here short = absurd able
answer_fits r p m f large (ChunkSend chunk) clear settled form is able here short = omega arith
answer_fits r p m f large (ChunkGet handle number) clear settled form is able here short =
    let transfer : ℕ = (place_terms p).common.to_requester.transfer in
    let least = able.3 in
    let most = able.4 in
    let fits = chunk_fits transfer handle (unwrap_or (pending_of transfer p.turns) []) number (omega arith) in
    omega arith

-- ---- Refusals.

request_codes : (r : RspSetup) (p : Place) (asked : RequestMessage) → AreOther (tests_of_request r p asked)
request_codes r p asked = (λ e. cc, (λ e. cc, (λ e. cc, (λ e. cc, (λ e. cc, (λ e. cc, tt))))))

pub refused_for_form : (r : RspSetup) (p : Place) (m : List ℕ) (f : Free) (seen : Refused) → refused_form r p m ≡ Some seen.code → IsRefused r p m f seen
unfolding refusal refused_form
refused_for_form r p m f seen form = record {
  code = ap (λ (x : Option ErrorCode). option_or x (refused_contents r p m f)) form;
  answer = λ large. absurd (other_code (tests_of_form r p m) seen.code (form_codes r p m) form large);
}

pub refused_for_request : (r : RspSetup) (p : Place) (m : List ℕ) (f : Free) (asked : RequestMessage) (seen : Refused) → IsClear p.at → IsSettledAt p → refused_form r p m ≡ None → request_at p m ≡ Some asked
    → first_of_tests (tests_of_request r p asked) ≡ Some seen.code → IsRefused r p m f seen
refused_for_request r p m f asked seen clear settled form is refused = record {
  code =
      refusal_is r p m f asked clear form is (is_short r p m f asked clear settled form is)
      ∙ ap (λ (x : Option ErrorCode). option_or (option_or x (first_of_tests (tests_of_answer p (code_for asked) (answer_bytes r p m f)))) (chunk_refusal (chunk_fault r p (Some asked)))) refused;
  answer = λ large. absurd (other_code (tests_of_request r p asked) seen.code (request_codes r p asked) refused large);
}

pub refused_for_answer : (r : RspSetup) (p : Place) (m : List ℕ) (f : Free) (asked : RequestMessage) (seen : Refused) → IsClear p.at → IsSettledAt p → refused_form r p m ≡ None → request_at p m ≡ Some asked
    → first_of_tests (tests_of_request r p asked) ≡ None → first_of_tests (tests_of_answer p (code_for asked) (answer_bytes r p m f)) ≡ Some seen.code
    → seen.answer_len ≡ length (answer_bytes r p m f) → IsRefused r p m f seen
refused_for_answer r p m f asked seen clear settled form is passed refused long = record {
  code =
      refusal_is r p m f asked clear form is (is_short r p m f asked clear settled form is)
      ∙ ap (λ (x : Option ErrorCode). option_or (option_or x (first_of_tests (tests_of_answer p (code_for asked) (answer_bytes r p m f)))) (chunk_refusal (chunk_fault r p (Some asked)))) passed
      ∙ ap (λ (x : Option ErrorCode). option_or x (chunk_refusal (chunk_fault r p (Some asked)))) refused;
  answer = λ large. long;
}

fits_or_not : (long rest : Bool) (code other : ErrorCode) → first_of_tests ((long, code) ∷ (rest, other) ∷ []) ≡ None → long ≡ false
fits_or_not true rest code other h = absurd (none-some code (sym h))
fits_or_not false rest code other h = refl

pub not_too_long : (p : Place) (code : ℕ) (answer : List ℕ) → first_of_tests (tests_of_answer p code answer) ≡ None → is_answer_too_long p answer ≡ false
not_too_long p code answer fits = fits_or_not (is_answer_too_long p answer) (code == PSK_EXCHANGE && p.past_handshake == 4) ResponseTooLarge SessionLimitExceeded fits

pub passed_all : (r : RspSetup) (p : Place) (m : List ℕ) (f : Free) (asked : RequestMessage) → IsClear p.at → IsSettledAt p → refused_form r p m ≡ None → request_at p m ≡ Some asked
    → first_of_tests (tests_of_request r p asked) ≡ None → first_of_tests (tests_of_answer p (code_for asked) (answer_bytes r p m f)) ≡ None → IsPassed r p m f asked
passed_all r p m f asked clear settled form is passed fits = record {
  form = form;
  asked_is = is;
  refused =
      refusal_is r p m f asked clear form is (is_short r p m f asked clear settled form is)
      ∙ ap (λ (x : Option ErrorCode). option_or (option_or x (first_of_tests (tests_of_answer p (code_for asked) (answer_bytes r p m f)))) (chunk_refusal (chunk_fault r p (Some asked)))) passed
      ∙ ap (λ (x : Option ErrorCode). option_or x (chunk_refusal (chunk_fault r p (Some asked)))) fits;
}
