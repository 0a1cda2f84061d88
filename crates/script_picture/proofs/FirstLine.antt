-- The first line of a text ends before its first line feed.
use Rattle.std.proofs.Common.{◌≡◌, ℕ, ◌+◌, List, [], ◌∷◌, take, drop, refl, ap, ◌∙◌, Bool, true, false, cond, nat_eq, suc, arith, Some}
use Rattle.std.specs.Prelude.{not, unwrap_or, length}
use Rattle.std.specs.List.{position_from, position_or_len}
use Rattle.script_picture.specs.Lines.{is_feed}
use Rattle.script_text.specs.Lines.{lines_of, onto_first}

abbrev end_of : List ℕ → ℕ
end_of text = position_or_len is_feed text

-- what holds of a text whose first byte is b, where b is a line feed or not
begins_with : (b : ℕ) (text : List ℕ) (is_end : Bool) →
    onto_first b (lines_of text) ≡ (b ∷ take (end_of text) text) ∷ lines_of (drop 1 (drop (end_of text) text)) →
    cond is_end ([] ∷ lines_of text) (onto_first b (lines_of text))
    ≡ take (cond (not is_end) (1 + end_of text) 0) (b ∷ text) ∷ lines_of (drop 1 (drop (cond (not is_end) (1 + end_of text) 0) (b ∷ text)))
begins_with b text true more = refl
begins_with b text false more = let e : 1 + end_of text ≡ suc (end_of text) = omega arith in rw e more

lines_of-first : (b : ℕ) (text : List ℕ) →
    lines_of (b ∷ text) ≡ take (end_of (b ∷ text)) (b ∷ text) ∷ lines_of (drop 1 (drop (end_of (b ∷ text)) (b ∷ text)))
lines_of-first b [] = begins_with b [] (nat_eq b 10) refl
lines_of-first b (c ∷ text) = begins_with b (c ∷ text) (nat_eq b 10) (ap (onto_first b) (lines_of-first c text))

-- the place as the code has it
place_by : (b k : ℕ) (text : List ℕ) (is_end : Bool) → unwrap_or (position_from is_feed (k + 1) text) (k + 1 + length text) ≡ k + 1 + end_of text →
    unwrap_or (cond is_end (Some k) (position_from is_feed (k + 1) text)) (k + length (b ∷ text)) ≡ k + cond (not is_end) (1 + end_of text) 0
place_by b k text true more = omega arith
place_by b k text false more =
    let e : k + length (b ∷ text) ≡ k + 1 + length text = omega arith in
    ap (λ (n : ℕ). unwrap_or (position_from is_feed (k + 1) text) n) e ∙ more ∙ omega arith

place_is : (k : ℕ) (text : List ℕ) → unwrap_or (position_from is_feed k text) (k + length text) ≡ k + end_of text
place_is k [] = refl
place_is k (b ∷ text) = place_by b k text (nat_eq b 10) (place_is (k + 1) text)

-- a text that is not empty is its first line and the lines after it
pub first_line : (text : List ℕ) → (text ≡ [] → ⊥) → (n : ℕ) → n ≡ unwrap_or (position_from is_feed 0 text) (length text) →
    lines_of text ≡ take n text ∷ lines_of (drop 1 (drop n text))
first_line [] some n e = absurd (some refl)
first_line (b ∷ text) some n e =
    let from : length (b ∷ text) ≡ 0 + length (b ∷ text) = omega arith in
    let to : 0 + end_of (b ∷ text) ≡ end_of (b ∷ text) = omega arith in
    let at : n ≡ end_of (b ∷ text) = e ∙ ap (λ (m : ℕ). unwrap_or (position_from is_feed 0 (b ∷ text)) m) from ∙ place_is 0 (b ∷ text) ∙ to in
    rw at (lines_of-first b text)
