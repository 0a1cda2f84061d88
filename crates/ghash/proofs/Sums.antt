-- The hash of one more block: products are linear, so each earlier block moves up by one power.
use Rattle.std.proofs.Common.{◌≡◌, ℕ, zero, suc, ◌-◌, ◌*◌, ◌/◌, ◌%◌, ◌^◌, List, [], ◌∷◌, ◌++◌, length, arith, ap, refl, sym, ◌∙◌, length-append}
use lib.Bits.{bit_xor, xor_assoc, xor_zero_r, xor_zero_l, xor_shr, xor_mod}
use Rattle.ghash.specs.Field.{coefficient, row, rows, product}
use Rattle.ghash.specs.Hash.{times_power, ghash}
use Rattle.ghash.proofs.Products.{digit_mul, exchange}

coefficient-xor : (a b j : ℕ) → coefficient (bit_xor a b) j ≡ bit_xor (coefficient a j) (coefficient b j)
coefficient-xor a b j = ap (λ t. t % 2) (xor_shr a b (127 - j)) ∙ xor_mod (a / 2 ^ (127 - j)) (b / 2 ^ (127 - j)) 1

rows-xor : (a b h n : ℕ) → rows (bit_xor a b) h n ≡ bit_xor (rows a h n) (rows b h n)
unfolding rows
rows-xor a b h zero = refl
rows-xor a b h (suc n) =
    ap (λ t. bit_xor t (coefficient (bit_xor a b) n * row h n 128)) (rows-xor a b h n)
    ∙ ap (bit_xor (bit_xor (rows a h n) (rows b h n)))
    (ap (λ t. t * row h n 128) (coefficient-xor a b n) ∙ digit_mul (coefficient a n) (coefficient b n) (row h n 128) (omega arith) (omega arith))
    ∙ exchange (rows a h n) (rows b h n) (coefficient a n * row h n 128) (coefficient b n * row h n 128)

pub product-xor : (a b h : ℕ) → product (bit_xor a b) h ≡ bit_xor (product a h) (product b h)
unfolding product
product-xor a b h = rows-xor a b h 128

-- GHASH by Horner's rule: one more block is added to the sum, and the whole is multiplied once more.
pub ghash-append : (h : ℕ) (xs : List ℕ) (x : ℕ) → product (bit_xor (ghash h xs) x) h ≡ ghash h (xs ++ x ∷ [])
unfolding ghash times_power
ghash-append h [] x = ap (λ t. product t h) (xor_zero_l x) ∙ sym (xor_zero_r (product x h))
ghash-append h (y ∷ ys) x =
    let p = times_power h (suc (length ys)) y in
    let e : length (ys ++ x ∷ []) ≡ suc (length ys) = omega (arith, length-append ys (x ∷ [])) in
    ap (λ t. product t h) (xor_assoc p (ghash h ys) x)
    ∙ product-xor p (bit_xor (ghash h ys) x) h
    ∙ ap (bit_xor (product p h)) (ghash-append h ys x)
    ∙ ap (λ n. bit_xor (product (times_power h n y) h) (ghash h (ys ++ x ∷ []))) (sym e)

-- The same where the sum so far is known as the hash of the blocks before.
pub absorbed : (h sum x : ℕ) (before : List ℕ) → sum ≡ ghash h before → product (bit_xor sum x) h ≡ ghash h (before ++ x ∷ [])
absorbed h sum x before e = ap (λ t. product (bit_xor t x) h) e ∙ ghash-append h before x

pub no_blocks : (h : ℕ) → 0 ≡ ghash h []
unfolding ghash
no_blocks h = refl
