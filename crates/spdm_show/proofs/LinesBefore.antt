-- The lines of the first messages, and what a sink took of them.
use Rattle.std.proofs.Common.{◌≡◌, ◌∙◌, ◌+◌, ◌<◌, ◌++◌, ℕ, zero, suc, List, [], ◌∷◌, take, drop, get_or, length, Option, Some, refl, sym, ap, arith, append_assoc}
use Rattle.std.proofs.lemmas.List.{append-nil}
use Rattle.spdm_basis.specs.Stream.{Takes, TakesPrefix}
use Rattle.script_text.specs.declared.texts.shown.Shown.{Shown}
use Rattle.spdm_show.specs.Shown.{line_of, lines_of}

-- The lines of the first messages.
abbrev pub lines_before : List Shown → ℕ → List ℕ
lines_before shown i = lines_of (take i shown)

-- All lines are those before a message, its own and those after.
pub lines_through : (shown : List Shown) (i : ℕ) (d : Shown) → i < length shown → lines_of shown ≡ lines_before shown i ++ (line_of (get_or shown i d) ++ lines_of (drop (i + 1) shown))
lines_through [] i d h = absurd (omega (arith, h))
lines_through (s ∷ others) zero d h = refl
lines_through (s ∷ others) (suc i) d h =
    let below : i < length others = omega (arith, h) in
    let next : suc i + 1 ≡ suc (i + 1) = omega arith in
    let rest : drop (suc i + 1) (s ∷ others) ≡ drop (i + 1) others = ap (λ (n : ℕ). drop n (s ∷ others)) next in
    ap (λ (t : List ℕ). line_of s ++ t) (lines_through others i d below)
    ∙ sym (append_assoc (line_of s) (lines_before others i) (line_of (get_or others i d) ++ lines_of (drop (i + 1) others)))
    ∙ ap (λ (l : List Shown). lines_before (s ∷ others) (suc i) ++ (line_of (get_or others i d) ++ lines_of l)) (sym rest)

-- One message more.
pub lines_before_more : (shown : List Shown) (i : ℕ) (d : Shown) → i < length shown → lines_before shown (i + 1) ≡ lines_before shown i ++ line_of (get_or shown i d)
lines_before_more [] i d h = absurd (omega (arith, h))
lines_before_more (s ∷ others) zero d h = append-nil (line_of s)
lines_before_more (s ∷ others) (suc i) d h =
    let below : i < length others = omega (arith, h) in
    let next : suc i + 1 ≡ suc (i + 1) = omega arith in
    ap (λ (n : ℕ). lines_before (s ∷ others) n) next
    ∙ ap (λ (t : List ℕ). line_of s ++ t) (lines_before_more others i d below)
    ∙ sym (append_assoc (line_of s) (lines_before others i) (line_of (get_or others i d)))

-- One text after another.
pub takes_both : (old mid new : Option (List ℕ)) (a b : List ℕ) → Takes old a mid → Takes mid b new → Takes old (a ++ b) new
takes_both old mid new a b first second = λ held e. second (held ++ a) (first held e) ∙ ap Some (append_assoc held a b)

-- A text, and then a prefix of another.
pub takes_then_prefix : (old mid new : Option (List ℕ)) (a b c : List ℕ) → Takes old a mid → TakesPrefix mid b new → TakesPrefix old (a ++ (b ++ c)) new
takes_then_prefix old mid new a b c first second =
    let written = second.0 in
    let rest = second.1 in (
      a ++ written,
      rest ++ c,
      ap (λ (t : List ℕ). a ++ (t ++ c)) second.2 ∙ ap (λ (t : List ℕ). a ++ t) (append_assoc written rest c) ∙ sym (append_assoc a written (rest ++ c)),
      takes_both old mid new a written first second.3,
    )

-- A whole text is a prefix of itself.
pub prefix_of_whole : (old new : Option (List ℕ)) (text : List ℕ) → Takes old text new → TakesPrefix old text new
prefix_of_whole old new text whole = (text, [], sym (append-nil text), whole)
