-- What lies between two places of a buffer.
use Rattle.std.proofs.Common.{◌≡◌, ◌≤◌, ℕ, List, [], ◌∷◌, length, take, drop, arith, true, nat_eq, eq-eqb, ap, length-drop, length-take, refl}
use Rattle.std.proofs.lemmas.Bool.Decides.{nat_tests}

same_number : (m n : ℕ) → nat_eq m n ≡ true → m ≡ n
same_number m n is = grind (arith, nat_tests)

none_of_length : (bytes : List ℕ) → length bytes ≡ 0 → bytes ≡ []
none_of_length [] is = refl
none_of_length (b ∷ bytes) is = absurd (omega arith)

-- Nothing lies between equal places,
pub nothing_left : (at end : ℕ) (bytes : List ℕ) → nat_eq at end ≡ true → drop at (take end bytes) ≡ []
nothing_left at end bytes is =
    let same : at ≡ end = same_number at end is in
    let size : length (drop at (take end bytes)) ≡ 0 = omega (arith, length-drop at (take end bytes), length-take end bytes) in
    none_of_length (drop at (take end bytes)) size

-- and only there.
pub none_left : (at end : ℕ) (bytes : List ℕ) → at ≤ end → end ≤ length bytes → drop at (take end bytes) ≡ [] → nat_eq at end ≡ true
none_left at end bytes low high none =
    let size : length (drop at (take end bytes)) ≡ 0 = ap (λ (l : List ℕ). length l) none in
    eq-eqb at end (omega (arith, length-drop at (take end bytes), length-take end bytes))
