-- The first line of a text ends before its first line feed.
use Rattle.std.proofs.Common.{◌≡◌, ℕ, ◌+◌, List, [], ◌∷◌, take, drop, refl, ap, ◌∙◌, Bool, true, false, cond, nat_eq, suc, arith, ltb-false}
use Rattle.std.specs.Prelude.{not, Some, None, unwrap_or, length, ◌≤◌, nat_lt}
use Rattle.std.proofs.lemmas.List.Sums.{prefix_len-le-length}
use Rattle.std.specs.List.{position_or_len, position}
use Rattle.script_text.specs.Lines.{lines_of, onto_first}

abbrev pub end_of : List ℕ → ℕ
end_of text = position_or_len (λ b. nat_eq b 10) text

-- what holds of a text whose first byte is b, where b is a line feed or not
begins_with : (b : ℕ) (text : List ℕ) (is_end : Bool) →
    onto_first b (lines_of text) ≡ (b ∷ take (end_of text) text) ∷ lines_of (drop 1 (drop (end_of text) text)) →
    cond is_end ([] ∷ lines_of text) (onto_first b (lines_of text))
    ≡ take (cond (not is_end) (1 + end_of text) 0) (b ∷ text) ∷ lines_of (drop 1 (drop (cond (not is_end) (1 + end_of text) 0) (b ∷ text)))
begins_with b text true more = refl
begins_with b text false more = let e : 1 + end_of text ≡ suc (end_of text) = omega arith in rw e more

pub lines_of-first : (b : ℕ) (text : List ℕ) →
    lines_of (b ∷ text) ≡ take (end_of (b ∷ text)) (b ∷ text) ∷ lines_of (drop 1 (drop (end_of (b ∷ text)) (b ∷ text)))
lines_of-first b [] = begins_with b [] (nat_eq b 10) refl
lines_of-first b (c ∷ text) = begins_with b (c ∷ text) (nat_eq b 10) (ap (onto_first b) (lines_of-first c text))

pub within : (p : ℕ → Bool) (text : List ℕ) → position_or_len p text ≤ length text
within p text = prefix_len-le-length (λ b. not (p b)) text

-- the place as the code has it
at_or_length : (n m : ℕ) (is_below : Bool) → nat_lt n m ≡ is_below → n ≤ m → unwrap_or (cond is_below (Some n) None) m ≡ n
at_or_length n m true e h = refl
at_or_length n m false e h = let g : m ≤ n = ltb-false n m e in omega (arith, g, h)

pub place_is : (p : ℕ → Bool) (text : List ℕ) → unwrap_or (position p text) (length text) ≡ position_or_len p text
place_is p text = at_or_length (position_or_len p text) (length text) (nat_lt (position_or_len p text) (length text)) refl (within p text)

-- a text that is not empty is its first line and the lines after it
pub first_line : (text : List ℕ) → (text ≡ [] → ⊥) → (n : ℕ) → n ≡ unwrap_or (position (λ b. nat_eq b 10) text) (length text) →
    lines_of text ≡ take n text ∷ lines_of (drop 1 (drop n text))
first_line [] some n e = absurd (some refl)
first_line (b ∷ text) some n e =
    let at : n ≡ end_of (b ∷ text) = e ∙ place_is (λ b. nat_eq b 10) (b ∷ text) in
    rw at (lines_of-first b text)
