-- An endpoint is its number.
use Rattle.std.proofs.Common.{◌≡◌, ◌∙◌, ℕ, ◌≤◌, ◌<◌, ap, subst, arith, Option, Some, None}
use Rattle.std.specs.Prelude.{IfSome}
use Rattle.std.proofs.Math.Bridge.{le_prop}
use Rattle.spdm_basis.specs.declared.values.eid.Eid.{Eid}
use Rattle.script_text.specs.EndPoints.{eid_of}

abbrev end_point : (n : ℕ) → 8 ≤ n → n < 255 → Eid
end_point n low high = record { number = n; low = low; high = high }

same_bounds : (n : ℕ) (low low' : 8 ≤ n) (high high' : n < 255) → end_point n low high ≡ end_point n low' high'
same_bounds n low low' high high' =
    ap (λ (l : 8 ≤ n). end_point n l high) (le_prop low low') ∙ ap (λ (h : n < 255). end_point n low' h) (le_prop high high')

-- two endpoints of the same number are the same
same_number : (a b : Eid) → a.number ≡ b.number → a ≡ b
same_number a b e =
    let P : ℕ → Type 0 = λ n. (low : 8 ≤ n) (high : n < 255) → a ≡ end_point n low high in
    subst P e (λ low high. same_bounds a.number a.low low a.high high) b.low b.high

-- an endpoint of this number
pub eid_is : (eid : Eid) (n : ℕ) → eid.number ≡ n → 8 ≤ n → n ≤ 254 → eid ≡ eid_of n
unfolding eid_of
eid_is eid n e low high = same_number eid (eid_of n) (omega arith)

-- what is an endpoint of this number, if it is one
pub some_eid_is : (o : Option Eid) (n m : ℕ) → IfSome o (λ e. e.number ≡ n) → n ≡ m → 8 ≤ m → m ≤ 254 → IfSome o (λ e. e ≡ eid_of m)
some_eid_is None n m e h low high = tt
some_eid_is (Some eid) n m e h low high = eid_is eid m (e ∙ h) low high

-- the number of an endpoint
pub eid_of-number : (n : ℕ) → 8 ≤ n → n ≤ 254 → (eid_of n).number ≡ n
unfolding eid_of
eid_of-number n low high = omega arith
