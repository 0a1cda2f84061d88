-- Worked rows, under the policy that expects 32 zero bytes of type 0 at index 1: what the definitions come to.
use Rattle.std.proofs.Common.{◌≡◌, ◌==◌, ◌&&◌, ◌||◌, ℕ, Bool, true, false, List, [], ◌∷◌, Some, None, replicate, refl, ap, arith}
use Rattle.std.specs.Prelude.{not}
use Rattle.script_text.specs.declared.texts.rule.Rule.{Rule}
use Rattle.script_text.specs.declared.texts.rule.Rule.TheVariants.{Expect, Skip}
use Rattle.appraise.specs.declared.appraisal.Appraisal.TheVariants.{Trusted, Malformed, Unknown, Missing}
use Rattle.appraise.specs.declared.policy_fault.PolicyFault.TheVariants.{IndexOutOfRange, IndexTaken}
use Rattle.appraise.specs.Records.{Measured}
use Rattle.appraise.specs.Policies.{policy_fault}
use Rattle.appraise.specs.Answers.{is_missing, IsAppraisal}
use Rattle.appraise.proofs.AsSets.{fine_trusted}
use Rattle.appraise.proofs.FirstFaults.{none_found}
use Rattle.appraise.proofs.Existence.{too_short}

rules : List Rule
rules = Expect 1 0 (replicate 32 0) ∷ []

zeros_at : ℕ → Measured
zeros_at index = record { index = index; value_type = 0; value = replicate 32 0 }

-- the block 01 01 23 00 00 20 00 and 32 zero bytes
block_1 : List ℕ
block_1 = 1 ∷ 1 ∷ 0x23 ∷ 0 ∷ 0 ∷ 0x20 ∷ 0 ∷ replicate 32 0

block_2 : List ℕ
block_2 = 2 ∷ 1 ∷ 0x23 ∷ 0 ∷ 0 ∷ 0x20 ∷ 0 ∷ replicate 32 0

is_policy : policy_fault rules ≡ None
unfolding rules
is_policy = refl

is_trusted : IsAppraisal rules block_1 Trusted
unfolding rules block_1 zeros_at
is_trusted =
    fine_trusted rules block_1 (zeros_at 1 ∷ []) refl ((omega arith, tt), refl) (none_found rules [] (zeros_at 1 ∷ []) refl)
    (λ index. both (1 == index))
  where
    both : (b : Bool) → ((b || false) && not (b || false)) ≡ false
    both true = refl
    both false = refl

is_missing_1 : IsAppraisal rules [] (Missing 1)
unfolding rules
is_missing_1 = record {
  blocks = [];
  whole = (tt, refl);
  fine = none_found rules [] [] refl;
  least = (refl, λ lower h. let e : lower ≡ 0 = omega (arith, h) in ap (λ (i : ℕ). is_missing rules [] i) e);
}

is_malformed_0 : IsAppraisal rules (1 ∷ 1 ∷ []) (Malformed 0)
is_malformed_0 = (omega arith, too_short (1 ∷ 1 ∷ []) (omega arith), ([], (tt, refl)))

is_unknown_2 : IsAppraisal rules block_2 (Unknown 2)
unfolding rules block_2 zeros_at
is_unknown_2 = record {
  earlier = [];
  block = zeros_at 2;
  later = [];
  whole = ((omega arith, tt), refl);
  before = none_found rules [] [] refl;
  here = refl;
}

no_index_0 : policy_fault (Skip 0 ∷ []) ≡ Some IndexOutOfRange
no_index_0 = refl

no_index_255 : policy_fault (Expect 255 0 [] ∷ []) ≡ Some IndexOutOfRange
no_index_255 = refl

no_index_twice : policy_fault (Skip 3 ∷ Expect 3 0 [] ∷ []) ≡ Some IndexTaken
no_index_twice = refl
