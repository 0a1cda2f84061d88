-- What comes of a message in a session: the tests in order, and its turn.
use Rattle.std.proofs.Common.{◌≡◌, ◌≤◌, ◌∙◌, ap, sym, refl, ℕ, ◌+◌, List, [], ◌∷◌, Bool, true, false, length, drop, arith}
use Rattle.std.proofs.lemmas.Bool.Decides.{nat_tests}
use Rattle.std.proofs.lemmas.Option.{none-some, same_Some}
use Rattle.std.specs.Prelude.{◌==◌, ◌&&◌, ◌||◌, not, nat_lt, if◌then◌else◌, Option, Some, None, is_some, slice_index}
use Rattle.std.specs.Option.{option_or}
use Rattle.responder_machine.proofs.Codes.{asked-code}
use Rattle.responder_machine.proofs.Turns.{turn_of-plain, turn_of-refused, plain_turn-asked}
use Rattle.responder_machine.specs.Answer.{Free, answer_bytes, answer_of, answer_to, request_at}
use Rattle.responder_machine.specs.Handling.{turn_of, refused_turn, chunk_in, goes_large, large_response}
use Rattle.responder_machine.specs.Place.{Place, place_terms, session_place}
use Rattle.responder_machine.specs.Refusal.{refusal, refused_form, refused_contents, tests_of_form, lacks_flag, are_caps_refused, is_offer_refused, has_no_block, is_exchange_refused, is_verify_wrong, is_update_misplaced, is_too_large, chunk_fault, is_get_refused, is_answer_too_long}
use Rattle.responder_machine.specs.Responder.{session_turn, session_turn_by, inner_refusal, is_open, data_turn}
use Rattle.responder_machine.specs.Session.{Events, stage_of, session_terms}
use Rattle.responder_machine.specs.Setup.{RspSetup}
use Rattle.responder_machine.specs.SizeLaws.{HasSizes}
use Rattle.responder_machine.specs.Turn.Effect.{Took}
use Rattle.spdm_basis.specs.Tests.{first_of_tests}
use Rattle.spdm_grammar.specs.Codes.{code_for}
use Rattle.spdm_grammar.specs.Message.{RequestMessage}
use Rattle.spdm_grammar.specs.Responses.{canonical_response}
use Rattle.spdm_grammar.specs.declared.messages.error_code.ErrorCode.{ErrorCode}
use Rattle.spdm_grammar.specs.declared.messages.error_code.ErrorCode.TheVariants.{InvalidRequest, UnexpectedRequest, DecryptError, UnsupportedRequest, SessionLimitExceeded, ResponseTooLarge, RequestTooLarge}
use Rattle.spdm_grammar.specs.declared.names.TheConstants.{MIN_DATA_TRANSFER_SIZE}
use Rattle.spdm_grammar.specs.declared.names.request_code.TheConstants.{PSK_EXCHANGE}
use Rattle.spdm_grammar.specs.declared.told.phase.Stage.{Stage}
use Rattle.responder_session.specs.RequestEffects.{large_turn}
use Rattle.responder_session.specs.Turns.{answered_turn}
use Rattle.responder_machine.proofs.Settled.{answer_is}

-- ---- The tests of contents, by the code, the request and its answer.

abbrev pub contents_at : RspSetup → Place → List ℕ → (code : ℕ) → Option RequestMessage → (answer : List ℕ) → List (Bool × ErrorCode)
contents_at r p m code q answer =
    (lacks_flag (place_terms p) code, UnsupportedRequest)
    ∷ (are_caps_refused r q, InvalidRequest)
    ∷ (is_offer_refused r q, InvalidRequest)
    ∷ (has_no_block r q, InvalidRequest)
    ∷ (is_exchange_refused r p q, InvalidRequest)
    ∷ (is_verify_wrong r p m q, DecryptError)
    ∷ (is_update_misplaced p q, UnexpectedRequest)
    ∷ (is_too_large (chunk_fault r p q), RequestTooLarge)
    ∷ (is_some (chunk_fault r p q), InvalidRequest)
    ∷ (is_get_refused p q, InvalidRequest)
    ∷ (is_answer_too_long p answer, ResponseTooLarge)
    ∷ (code == PSK_EXCHANGE && p.past_handshake == 4, SessionLimitExceeded)
    ∷ []

pub contents_asked : (r : RspSetup) (p : Place) (m : List ℕ) (f : Free) (asked : RequestMessage) → request_at p m ≡ Some asked
    → refused_contents r p m f ≡ first_of_tests (contents_at r p m (code_for asked) (Some asked) (canonical_response (answer_of r p m f asked)))
unfolding refused_contents answer_bytes
contents_asked r p m f asked is = λ i. first_of_tests (contents_at r p m (sym (asked-code p m asked is) i) (is i) (answer_to r p m f (is i)))

-- ---- The turn of a message.

refusal_is : (r : RspSetup) (p : Place) (m : List ℕ) (f : Free) → refused_form r p m ≡ None → refusal r p m f ≡ refused_contents r p m f
unfolding refusal
refusal_is r p m f h = ap (λ (x : Option ErrorCode). option_or x (refused_contents r p m f)) h

pub turn-misfit : (r : RspSetup) (p : Place) (m : List ℕ) (f : Free) (code : ErrorCode) → refused_form r p m ≡ Some code → turn_of r p m f ≡ refused_turn r p m f code
unfolding refusal
turn-misfit r p m f code h = turn_of-refused r p m f code (ap (λ (x : Option ErrorCode). option_or x (refused_contents r p m f)) h)

pub turn-refused : (r : RspSetup) (p : Place) (m : List ℕ) (f : Free) (asked : RequestMessage) (code : ErrorCode) → refused_form r p m ≡ None → request_at p m ≡ Some asked
    → first_of_tests (contents_at r p m (code_for asked) (Some asked) (canonical_response (answer_of r p m f asked))) ≡ Some code → turn_of r p m f ≡ refused_turn r p m f code
turn-refused r p m f asked code form is h = turn_of-refused r p m f code (refusal_is r p m f form ∙ contents_asked r p m f asked is ∙ h)

plain_answered : (p : Place) (m : List ℕ) (f : Free) (asked : RequestMessage) (large : Bool) (whole answer other : List ℕ) → whole ≡ answer → large ≡ false
    → record { message = m; refused = None; chunk = None; effect = Took asked m whole (if large then Some f.handle else None); reply = if large then other else whole } ≡ answered_turn m asked answer
plain_answered p m f asked large whole answer other is h = λ i. record { message = m; refused = None; chunk = None; effect = Took asked m (is i) (if h i then Some f.handle else None); reply = if h i then other else is i }

pub turn-answered : (r : RspSetup) (p : Place) (m : List ℕ) (f : Free) (asked : RequestMessage) → refused_form r p m ≡ None → request_at p m ≡ Some asked → chunk_in (Some asked) ≡ None
    → first_of_tests (contents_at r p m (code_for asked) (Some asked) (canonical_response (answer_of r p m f asked))) ≡ None
    → goes_large p (canonical_response (answer_of r p m f asked)) ≡ false
    → turn_of r p m f ≡ answered_turn m asked (canonical_response (answer_of r p m f asked))
turn-answered r p m f asked form is plain h small =
    let same = answer_is r p m f asked is in
    turn_of-plain r p m f asked (refusal_is r p m f form ∙ contents_asked r p m f asked is ∙ h) is plain
    ∙ plain_turn-asked r p m f asked is
    ∙ plain_answered p m f asked (goes_large p (answer_bytes r p m f)) (answer_bytes r p m f) _ _ same (ap (goes_large p) same ∙ small)

large_answered : (p : Place) (m : List ℕ) (f : Free) (asked : RequestMessage) (large : Bool) (whole answer : List ℕ) → whole ≡ answer → large ≡ true
    → record { message = m; refused = None; chunk = None; effect = Took asked m whole (if large then Some f.handle else None); reply = if large then large_response f.handle else whole } ≡ large_turn m asked answer f.handle
large_answered p m f asked large whole answer is h = λ i. record { message = m; refused = None; chunk = None; effect = Took asked m (is i) (if h i then Some f.handle else None); reply = if h i then large_response f.handle else is i }

pub turn-large : (r : RspSetup) (p : Place) (m : List ℕ) (f : Free) (asked : RequestMessage) → refused_form r p m ≡ None → request_at p m ≡ Some asked → chunk_in (Some asked) ≡ None
    → first_of_tests (contents_at r p m (code_for asked) (Some asked) (canonical_response (answer_of r p m f asked))) ≡ None
    → goes_large p (canonical_response (answer_of r p m f asked)) ≡ true
    → turn_of r p m f ≡ large_turn m asked (canonical_response (answer_of r p m f asked)) f.handle
turn-large r p m f asked form is plain h large =
    let same = answer_is r p m f asked is in
    turn_of-plain r p m f asked (refusal_is r p m f form ∙ contents_asked r p m f asked is ∙ h) is plain
    ∙ plain_turn-asked r p m f asked is
    ∙ large_answered p m f asked (goes_large p (answer_bytes r p m f)) (answer_bytes r p m f) _ same (ap (goes_large p) same ∙ large)

-- ---- Short answers.

not_both : (a b chunk : Bool) → a ≡ false → b ≡ false → (a || (not chunk && b)) ≡ false
not_both true b chunk h k = absurd (cc)
not_both false true chunk h k = absurd (cc)
not_both false false true h k = refl
not_both false false false h k = refl

fits_most : (a b : ℕ) → a ≤ b → nat_lt b a ≡ false
fits_most a b h = grind (arith, nat_tests)

pub short_fits : (r : RspSetup) (s : Events) (answer : List ℕ) → HasSizes r (session_terms s).common → length answer ≤ MIN_DATA_TRANSFER_SIZE
    → is_answer_too_long (session_place s) answer ≡ false
short_fits r s answer sizes h =
    not_both (nat_lt (session_terms s).common.to_requester.max (length answer)) (nat_lt (session_terms s).common.to_requester.transfer (0 + length answer)) (session_terms s).common.chunk
    (fits_most _ _ (let least = sizes.least in let crossed = sizes.crossed in omega arith)) (fits_most _ _ (let least = sizes.least in omega arith))

pub short_is_small : (r : RspSetup) (s : Events) (answer : List ℕ) → HasSizes r (session_terms s).common → length answer ≤ MIN_DATA_TRANSFER_SIZE → goes_large (session_place s) answer ≡ false
short_is_small r s answer sizes h = fits_most (0 + length answer) (session_terms s).common.to_requester.transfer (let least = sizes.least in omega arith)

-- ---- The turn of an inner message.

pub inner-refused : (r : RspSetup) (s : Events) (inner : List ℕ) (f : Free) (code : ErrorCode) → inner_refusal (stage_of s) inner ≡ Some code
    → session_turn r s inner f ≡ refused_turn r (session_place s) (drop 1 inner) f code
unfolding session_turn
inner-refused r s inner f code h = ap (λ (x : Option ErrorCode). session_turn_by r s inner f x) h

pub inner-spoken : (r : RspSetup) (s : Events) (inner : List ℕ) (f : Free) → inner_refusal (stage_of s) inner ≡ None → (slice_index inner 0 == 5) ≡ true
    → session_turn r s inner f ≡ turn_of r (session_place s) (drop 1 inner) f
unfolding session_turn
inner-spoken r s inner f h five =
    ap (λ (x : Option ErrorCode). session_turn_by r s inner f x) h
    ∙ ap (λ (b : Bool). if b then turn_of r (session_place s) (drop 1 inner) f else data_turn f (drop 1 inner)) five

pub inner-data : (r : RspSetup) (s : Events) (inner : List ℕ) (f : Free) → inner_refusal (stage_of s) inner ≡ None → (slice_index inner 0 == 5) ≡ false
    → session_turn r s inner f ≡ data_turn f (drop 1 inner)
unfolding session_turn
inner-data r s inner f h five =
    ap (λ (x : Option ErrorCode). session_turn_by r s inner f x) h
    ∙ ap (λ (b : Bool). if b then turn_of r (session_place s) (drop 1 inner) f else data_turn f (drop 1 inner)) five

-- ---- ResponseTooLarge comes for an answer alone.

abbrev pub AreOther : List (Bool × ErrorCode) → Type 0
AreOther [] = Unit {0}
AreOther (t ∷ ts) = (t.1 ≡ ResponseTooLarge → ⊥) × AreOther ts

pub other_code : (ts : List (Bool × ErrorCode)) (code : ErrorCode) → AreOther ts → first_of_tests ts ≡ Some code → code ≡ ResponseTooLarge → ⊥
other_code [] code others is large = none-some code is
other_code (t ∷ ts) code others is large = by_test t.0 is (other_code ts code others.1)
  where
    by_test : (b : Bool) → (if b then Some t.1 else first_of_tests ts) ≡ Some code → (first_of_tests ts ≡ Some code → code ≡ ResponseTooLarge → ⊥) → ⊥
    by_test true is rest = others.0 (same_Some t.1 code is ∙ large)
    by_test false is rest = rest is large

pub form_codes : (r : RspSetup) (p : Place) (m : List ℕ) → AreOther (tests_of_form r p m)
form_codes r p m = (λ e. cc, (λ e. cc, (λ e. cc, (λ e. cc, (λ e. cc, (λ e. cc, (λ e. cc, (λ e. cc, (λ e. cc, tt)))))))))

pub form_code : (r : RspSetup) (p : Place) (m : List ℕ) (code : ErrorCode) → refused_form r p m ≡ Some code → code ≡ ResponseTooLarge → ⊥
unfolding refused_form
form_code r p m code is large = other_code (tests_of_form r p m) code (form_codes r p m) is large

abbrev inner_tests : Stage → List ℕ → List (Bool × ErrorCode)
inner_tests stage inner =
    (length inner == 0, InvalidRequest)
    ∷ (not (slice_index inner 0 == 5 || slice_index inner 0 == 1), InvalidRequest)
    ∷ (slice_index inner 0 == 1 && not (is_open stage), UnexpectedRequest)
    ∷ (slice_index inner 0 == 1 && nat_lt 1025 (length inner), RequestTooLarge)
    ∷ []

inner_codes : (stage : Stage) (inner : List ℕ) → AreOther (inner_tests stage inner)
inner_codes stage inner = (λ e. cc, (λ e. cc, (λ e. cc, (λ e. cc, tt))))

pub inner_code : (stage : Stage) (inner : List ℕ) (code : ErrorCode) → inner_refusal stage inner ≡ Some code → code ≡ ResponseTooLarge → ⊥
inner_code stage inner code is large = other_code (inner_tests stage inner) code (inner_codes stage inner) is large
