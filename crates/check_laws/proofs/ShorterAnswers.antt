-- Whether a message is refused depends on the length of its answer alone.
use Rattle.std.proofs.Common.{◌≡◌, ◌≢◌, ◌≤◌, ◌+◌, ◌-◌, ◌&&◌, ◌||◌, ℕ, List, [], ◌∷◌, ◌++◌, refl, sym, ap, ◌∙◌, length, drop, take, Bool, true, false, Option, Some, None, cond, arith}
use Rattle.std.specs.Prelude.{nat_lt, not}
use Rattle.std.specs.Option.{option_or}
use Rattle.std.proofs.lemmas.Bool.{false≢true}
use Rattle.std.proofs.lemmas.Bool.Decides.{nat_tests}
use Rattle.std.proofs.lemmas.Option.{same_Some}
use Rattle.responder_machine.specs.Answer.{Free, answer_bytes}
use Rattle.responder_machine.proofs.Tests.{contents_shown}
use Rattle.responder_machine.specs.Handling.{error_bytes, goes_large}
use Rattle.responder_machine.specs.Place.{Place, place_terms}
use Rattle.responder_machine.specs.Refusal.{bytes_round, is_answer_too_long, refusal, refused_contents, refused_form, sizes_are_known, tests_of_contents}
use Rattle.responder_machine.specs.Setup.{RspSetup}
use Rattle.spdm_basis.proofs.Bools.{and_first, and_second}
use Rattle.spdm_basis.specs.Tests.{first_of_tests}
use Rattle.spdm_grammar.specs.declared.messages.error_code.ErrorCode.{ErrorCode}
use Rattle.spdm_grammar.specs.declared.messages.error_code.ErrorCode.TheVariants.{InvalidRequest, UnexpectedRequest, Unspecified, DecryptError, UnsupportedRequest, SessionLimitExceeded, SessionRequired, ResponseTooLarge, RequestTooLarge, LargeResponse, VersionMismatch}
use Rattle.check_laws.specs.AnswersShown.{least_large}

-- ---- What hangs on the length alone.

abbrev long_by : Place → ℕ → Bool
long_by p n =
    sizes_are_known p.phase
    && (nat_lt (place_terms p).common.to_requester.max n || (not (place_terms p).common.chunk && nat_lt (place_terms p).common.to_requester.transfer (bytes_round p.at + n)))

-- Refused or not, of two answers of which both are too long or neither is.
same_refusal : (r : RspSetup) (p : Place) (m : List ℕ) (f k : Free) → is_answer_too_long p (answer_bytes r p m f) ≡ is_answer_too_long p (answer_bytes r p m k) → refusal r p m f ≡ refusal r p m k
unfolding refusal refused_contents
same_refusal r p m f k same = rw same refl

pub refusal_by_length : (r : RspSetup) (p : Place) (m : List ℕ) (f k : Free) → length (answer_bytes r p m f) ≡ length (answer_bytes r p m k) → refusal r p m f ≡ refusal r p m k
refusal_by_length r p m f k same = same_refusal r p m f k (ap (long_by p) same)

-- An ERROR tells of the answer its length alone, and that only with ResponseTooLarge.
pub error_by_length : (r : RspSetup) (p : Place) (m : List ℕ) (f k : Free) (e : ErrorCode) → (e ≡ ResponseTooLarge → length (answer_bytes r p m f) ≡ length (answer_bytes r p m k)) → error_bytes r p m f e ≡ error_bytes r p m k e
error_by_length r p m f k InvalidRequest same = refl
error_by_length r p m f k UnexpectedRequest same = refl
error_by_length r p m f k Unspecified same = refl
error_by_length r p m f k DecryptError same = refl
error_by_length r p m f k UnsupportedRequest same = refl
error_by_length r p m f k SessionLimitExceeded same = refl
error_by_length r p m f k SessionRequired same = refl
error_by_length r p m f k ResponseTooLarge same = rw (same refl) refl
error_by_length r p m f k RequestTooLarge same = refl
error_by_length r p m f k LargeResponse same = refl
error_by_length r p m f k VersionMismatch same = refl

-- ---- A test that fails for a shorter answer leaves those before it.

abbrev tests_with : List (Bool × ErrorCode) → Bool → ErrorCode → List (Bool × ErrorCode) → Option ErrorCode
tests_with before b c behind = first_of_tests (before ++ (b, c) ∷ behind)

by_test : (b : Bool) (c : ErrorCode) (rest others : Option ErrorCode) (e : ErrorCode) → (rest ≡ Some e → others ≡ Some e) → cond b (Some c) rest ≡ Some e → cond b (Some c) others ≡ Some e
by_test true c rest others e step is = is
by_test false c rest others e step is = step is

without_test : (before behind : List (Bool × ErrorCode)) (c e : ErrorCode) → e ≢ c → tests_with before true c behind ≡ Some e → tests_with before false c behind ≡ Some e
without_test [] behind c e other is = absurd (other (sym (same_Some c e is)))
without_test (t ∷ ts) behind c e other is = by_test t.0 t.1 (tests_with ts true c behind) (tests_with ts false c behind) e (without_test ts behind c e other) is

or_without : (o a b : Option ErrorCode) (e : ErrorCode) → (a ≡ Some e → b ≡ Some e) → option_or o a ≡ Some e → option_or o b ≡ Some e
or_without (Some x) a b e step is = is
or_without None a b e step is = step is

abbrev contents_with : RspSetup → Place → List ℕ → Free → Bool → Option ErrorCode
contents_with r p m f b = tests_with (take 10 (tests_of_contents r p m f)) b ResponseTooLarge (drop 11 (tests_of_contents r p m f))

refusal_is : (r : RspSetup) (p : Place) (m : List ℕ) (f : Free) → refusal r p m f ≡ option_or (refused_form r p m) (contents_with r p m f (is_answer_too_long p (answer_bytes r p m f)))
unfolding refusal refused_contents
refusal_is r p m f = refl

refused_anyway : (r : RspSetup) (p : Place) (m : List ℕ) (f k : Free) (e : ErrorCode) → e ≢ ResponseTooLarge
    → option_or (refused_form r p m) (contents_with r p m f true) ≡ Some e → option_or (refused_form r p m) (contents_with r p m k false) ≡ Some e
refused_anyway r p m f k e other is =
    or_without (refused_form r p m) (contents_with r p m f true) (contents_with r p m f false) e
    (without_test (take 10 (tests_of_contents r p m f)) (drop 11 (tests_of_contents r p m f)) ResponseTooLarge e other) is

more_than : (a n k : ℕ) → k ≤ n → nat_lt a k ≡ true → nat_lt a n ≡ true
more_than a n k less is = grind (arith, nat_tests)

shorter_by : (known chunk a b x y : Bool) → (x ≡ true → a ≡ true) → (y ≡ true → b ≡ true) → (known && (a || (chunk && b))) ≡ false → (known && (x || (chunk && y))) ≡ false
shorter_by false chunk a b x y one two is = refl
shorter_by true chunk a b true y one two is = absurd (false≢true (sym is ∙ ap (λ (c : Bool). c || (chunk && b)) (one refl)))
shorter_by true false a b false y one two is = refl
shorter_by true true a b false false one two is = refl
shorter_by true true true b false true one two is = absurd (false≢true (sym is))
shorter_by true true false b false true one two is = absurd (false≢true (sym is ∙ two refl))

-- What is no longer than an answer that is not too long, is not.
shorter : (p : Place) (n k : ℕ) → k ≤ n → long_by p n ≡ false → long_by p k ≡ false
shorter p n k less is =
    shorter_by (sizes_are_known p.phase) (not (place_terms p).common.chunk) _ _ _ _ (more_than (place_terms p).common.to_requester.max n k less)
    (more_than (place_terms p).common.to_requester.transfer (bytes_round p.at + n) (bytes_round p.at + k) (omega (arith, less))) is

-- What is refused for anything but the length of its answer, is so under values that give a shorter one.
pub refused_shorter : (r : RspSetup) (p : Place) (m : List ℕ) (f k : Free) (e : ErrorCode) → e ≢ ResponseTooLarge → length (answer_bytes r p m k) ≤ length (answer_bytes r p m f) → refusal r p m f ≡ Some e → refusal r p m k ≡ Some e
refused_shorter r p m f k e other less is = by_long (is_answer_too_long p (answer_bytes r p m f)) (is_answer_too_long p (answer_bytes r p m k)) refl refl
  where
    by_long : (b c : Bool) → is_answer_too_long p (answer_bytes r p m f) ≡ b → is_answer_too_long p (answer_bytes r p m k) ≡ c → refusal r p m k ≡ Some e
    by_long true true one two = same_refusal r p m k f (two ∙ sym one) ∙ is
    by_long false false one two = same_refusal r p m k f (two ∙ sym one) ∙ is
    by_long false true one two = absurd (false≢true (sym (shorter p (length (answer_bytes r p m f)) (length (answer_bytes r p m k)) less one) ∙ two))
    by_long true false one two =
        refusal_is r p m k ∙ ap (λ (b : Bool). option_or (refused_form r p m) (contents_with r p m k b)) two
        ∙ refused_anyway r p m f k e other (sym (ap (λ (b : Bool). option_or (refused_form r p m) (contents_with r p m f b)) one) ∙ sym (refusal_is r p m f) ∙ is)

-- A request that is taken is so under values that give a shorter answer.
pub taken_shorter : (r : RspSetup) (p : Place) (m : List ℕ) (f k : Free) → length (answer_bytes r p m k) ≤ length (answer_bytes r p m f) → refusal r p m f ≡ None → refusal r p m k ≡ None
taken_shorter r p m f k less none =
    let brief : is_answer_too_long p (answer_bytes r p m f) ≡ false = contents_shown r p m f none 10 in
    same_refusal r p m k f (shorter p (length (answer_bytes r p m f)) (length (answer_bytes r p m k)) less brief ∙ sym brief) ∙ none

-- ---- LargeResponse.

at_least : (transfer round n : ℕ) → nat_lt transfer (round + n) ≡ true → transfer + 1 - round ≤ n
at_least transfer round n is = grind (arith, nat_tests)

so_large : (transfer round n : ℕ) → transfer + 1 - round ≤ n → nat_lt transfer (round + n) ≡ true
so_large transfer round n long = grind (arith, nat_tests)

pub large_least : (p : Place) (answer : List ℕ) → goes_large p answer ≡ true → least_large p ≤ length answer
large_least p answer large = at_least (place_terms p).common.to_requester.transfer (bytes_round p.at) (length answer) (and_second (sizes_are_known p.phase) _ large)

-- An answer that is long enough goes so where another one does.
pub large_too : (p : Place) (answer other : List ℕ) → goes_large p answer ≡ true → least_large p ≤ length other → goes_large p other ≡ true
large_too p answer other large long =
    ap (λ (b : Bool). b && nat_lt (place_terms p).common.to_requester.transfer (bytes_round p.at + length other)) (and_first (sizes_are_known p.phase) _ large)
    ∙ so_large (place_terms p).common.to_requester.transfer (bytes_round p.at) (length other) long
