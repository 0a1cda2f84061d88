-- What a request has shown that is not refused.
use Rattle.std.proofs.Common.{refl, ◌≡◌, ℕ, zero, suc, List, [], ◌∷◌, false, Bool, Option, Some, None, sym}
use Rattle.std.proofs.lemmas.Option.{none-some}
use Rattle.spdm_grammar.specs.declared.messages.error_code.ErrorCode.{ErrorCode}
use Rattle.responder_machine.specs.Answer.{Free}
use Rattle.responder_machine.specs.Place.{Place}
use Rattle.responder_machine.specs.Refusal.{refusal, refused_form, refused_contents, tests_of_form, tests_of_contents}
use Rattle.spdm_basis.specs.Tests.{first_of_tests}
use Rattle.std.specs.Option.{option_or}
use Rattle.responder_machine.specs.Setup.{RspSetup}
use Rattle.spdm_basis.proofs.Options.{both}

-- The test of this number in a table, counted from 0.
abbrev pub test_at : ℕ → List (Bool × ErrorCode) → Bool
test_at n [] = false
test_at zero (t ∷ ts) = t.0
test_at (suc n) (t ∷ ts) = test_at n ts

-- Each test of a table is false where no code comes.
pub tests_are_false : (ts : List (Bool × ErrorCode)) → first_of_tests ts ≡ None → (n : ℕ) → test_at n ts ≡ false
tests_are_false [] h n = refl
tests_are_false (t ∷ ts) h zero = (both t.0 t.1 _ h).0
tests_are_false (t ∷ ts) h (suc n) = tests_are_false ts (both t.0 t.1 _ h).1 n

pub none_of_both : (a b : Option ErrorCode) → option_or a b ≡ None → (a ≡ None) × (b ≡ None)
none_of_both (Some e) b h = absurd (none-some e (sym h))
none_of_both None b h = (refl, h)

-- A message that is not refused is not refused for its form.
pub form_passed : (r : RspSetup) (p : Place) (m : List ℕ) (f : Free) → refusal r p m f ≡ None → refused_form r p m ≡ None
unfolding refusal
form_passed r p m f taken = (none_of_both (refused_form r p m) (refused_contents r p m f) taken).0

pub form_shown : (r : RspSetup) (p : Place) (m : List ℕ) (f : Free) → refusal r p m f ≡ None → (n : ℕ) → test_at n (tests_of_form r p m) ≡ false
unfolding refusal refused_form
form_shown r p m f h n = tests_are_false (tests_of_form r p m) (none_of_both (refused_form r p m) (refused_contents r p m f) h).0 n

pub contents_shown : (r : RspSetup) (p : Place) (m : List ℕ) (f : Free) → refusal r p m f ≡ None → (n : ℕ) → test_at n (tests_of_contents r p m f) ≡ false
unfolding refusal refused_contents
contents_shown r p m f h n = tests_are_false (tests_of_contents r p m f) (none_of_both (refused_form r p m) (refused_contents r p m f) h).1 n
