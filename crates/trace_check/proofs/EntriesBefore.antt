-- The lines of the first entries of a table.
use Rattle.std.proofs.Common.{◌≡◌, ◌∙◌, ◌+◌, ◌<◌, ◌++◌, ℕ, zero, suc, List, [], ◌∷◌, take, drop, get_or, length, refl, sym, ap, arith, append_assoc}
use Rattle.std.proofs.lemmas.List.{append-nil}
use Rattle.check_laws.specs.Verdict.{seen_of}
use Rattle.check_laws.specs.declared.verdict.Seen as declared
use Rattle.trace_check.specs.Lines.{entries_text, entry_text}

abbrev pub entries_before : List declared.Seen → ℕ → List ℕ
entries_before table i = entries_text (take i table)

-- All lines are those before an entry, its own and those after.
pub entries_through : (table : List declared.Seen) (i : ℕ) (d : declared.Seen) → i < length table
    → entries_text table ≡ entries_before table i ++ (entry_text (seen_of (get_or table i d)) ++ entries_text (drop (i + 1) table))
entries_through [] i d h = absurd (omega (arith, h))
entries_through (s ∷ others) zero d h = refl
entries_through (s ∷ others) (suc i) d h =
    let below : i < length others = omega (arith, h) in
    let next : suc i + 1 ≡ suc (i + 1) = omega arith in
    let rest : drop (suc i + 1) (s ∷ others) ≡ drop (i + 1) others = ap (λ (n : ℕ). drop n (s ∷ others)) next in
    ap (λ (t : List ℕ). entry_text (seen_of s) ++ t) (entries_through others i d below)
    ∙ sym (append_assoc (entry_text (seen_of s)) (entries_before others i) (entry_text (seen_of (get_or others i d)) ++ entries_text (drop (i + 1) others)))
    ∙ ap (λ (l : List declared.Seen). entries_before (s ∷ others) (suc i) ++ (entry_text (seen_of (get_or others i d)) ++ entries_text l)) (sym rest)

-- One entry more.
pub entries_before_more : (table : List declared.Seen) (i : ℕ) (d : declared.Seen) → i < length table
    → entries_before table (i + 1) ≡ entries_before table i ++ entry_text (seen_of (get_or table i d))
entries_before_more [] i d h = absurd (omega (arith, h))
entries_before_more (s ∷ others) zero d h = append-nil (entry_text (seen_of s))
entries_before_more (s ∷ others) (suc i) d h =
    let below : i < length others = omega (arith, h) in
    let next : suc i + 1 ≡ suc (i + 1) = omega arith in
    ap (λ (n : ℕ). entries_before (s ∷ others) n) next
    ∙ ap (λ (t : List ℕ). entry_text (seen_of s) ++ t) (entries_before_more others i d below)
    ∙ sym (append_assoc (entry_text (seen_of s)) (entries_before others i) (entry_text (seen_of (get_or others i d))))
