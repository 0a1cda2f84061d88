-- The text of the first rows and of the others.
use Rattle.std.proofs.Common.{◌≡◌, ◌∙◌, ◌+◌, ◌<◌, ◌++◌, ℕ, zero, suc, List, [], ◌∷◌, take, drop, get_or, length, refl, sym, ap, arith, append_assoc}
use Rattle.std.proofs.lemmas.List.{append-nil}
use Rattle.sequence_picture.specs.Picture.{row_text, rows_from}
use Rattle.sequence_picture.specs.declared.form.Form.{Form}
use Rattle.sequence_picture.specs.declared.rows.Row.{Row}

-- all rows are those before a row, its own and those after it
pub rows_through : (m : Form) (q : ℕ) (number : ℕ) (rows : List Row) (i : ℕ) (d : Row) → i < length rows →
    rows_from m q number rows ≡ rows_from m q number (take i rows) ++ (row_text m q (number + i) (get_or rows i d) ++ rows_from m q (number + (i + 1)) (drop (i + 1) rows))
rows_through m q number [] i d h = absurd (omega (arith, h))
rows_through m q number (p ∷ others) zero d h = let e : number + 0 ≡ number = omega arith in rw e refl
rows_through m q number (p ∷ others) (suc i) d h =
    let below : i < length others = omega (arith, h) in
    let next : suc i + 1 ≡ suc (i + 1) = omega arith in
    let rest : drop (suc i + 1) (p ∷ others) ≡ drop (i + 1) others = ap (λ (n : ℕ). drop n (p ∷ others)) next in
    let e : (number + 1) + i ≡ number + suc i = omega arith in
    let f : (number + 1) + (i + 1) ≡ number + (suc i + 1) = omega arith in
    let ih = rows_through m q (number + 1) others i d below in
    ap (λ (t : List ℕ). row_text m q number p ++ t) (rw (e, f) at ih)
    ∙ sym (append_assoc (row_text m q number p) (rows_from m q (number + 1) (take i others)) (row_text m q (number + suc i) (get_or others i d) ++ rows_from m q (number + (suc i + 1)) (drop (i + 1) others)))
    ∙ ap (λ (l : List Row). rows_from m q number (take (suc i) (p ∷ others)) ++ (row_text m q (number + suc i) (get_or others i d) ++ rows_from m q (number + (suc i + 1)) l)) (sym rest)

-- one row more
pub rows_more : (m : Form) (q : ℕ) (number : ℕ) (rows : List Row) (i : ℕ) (d : Row) → i < length rows →
    rows_from m q number (take (i + 1) rows) ≡ rows_from m q number (take i rows) ++ row_text m q (number + i) (get_or rows i d)
rows_more m q number [] i d h = absurd (omega (arith, h))
rows_more m q number (p ∷ others) zero d h = let e : number + 0 ≡ number = omega arith in rw e (append-nil (row_text m q number p))
rows_more m q number (p ∷ others) (suc i) d h =
    let below : i < length others = omega (arith, h) in
    let next : suc i + 1 ≡ suc (i + 1) = omega arith in
    let e : (number + 1) + i ≡ number + suc i = omega arith in
    let ih = rows_more m q (number + 1) others i d below in
    ap (λ (n : ℕ). rows_from m q number (take n (p ∷ others))) next
    ∙ ap (λ (t : List ℕ). row_text m q number p ++ t) (rw e at ih)
    ∙ sym (append_assoc (row_text m q number p) (rows_from m q (number + 1) (take i others)) (row_text m q (number + suc i) (get_or others i d)))
