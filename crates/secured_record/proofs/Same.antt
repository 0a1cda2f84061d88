-- Comparing lists of bytes.
use Rattle.std.proofs.Common.{◌≡◌, ℕ, List, refl, sym, bytes_eq}
use Rattle.std.proofs.lemmas.Slice.Eq.{bytes_eq-Decides}
use Rattle.std.specs.Prelude.{Bool, true, false, Result, Ok, Err, IsOk, is_ok, ◌↔◌}

not_true : (b : Bool) → (b ≡ true → ⊥) → false ≡ b
not_true true h = absurd (h refl)
not_true false h = refl

-- A result that is `Ok` exactly when two lists are equal tells whether they are.
pub decided : {X E : Type 0} (r : Result X E) (xs ys : List ℕ) → (IsOk r ↔ (xs ≡ ys)) → is_ok r ≡ bytes_eq xs ys
decided (Ok x) xs ys h = sym ((bytes_eq-Decides xs ys).1 (h.0 refl))
decided (Err e) xs ys h = not_true (bytes_eq xs ys) (λ t. let bad : false ≡ true = h.1 ((bytes_eq-Decides xs ys).0 t) in cc)
