-- The table is the substitution of each byte in turn, by computation.
use Rattle.std.proofs.Common.{◌≡◌, ℕ, ◌<◌, arith, refl, ap, get_or, ◌∙◌, List}
use Rattle.std.specs.Prelude.{map}
use Rattle.std.specs.List.{range_with_len}
use Rattle.std.proofs.lemmas.List.FromFn.{get_or-map-range_with_len}
use Rattle.aes.specs.ByteField.{sbox_of, product_below, reduced, inverse_below}
use Rattle.aes.specs.declared.sbox.TheConstants.{SBOX}

table_is : SBOX ≡ map sbox_of (range_with_len 0 256)
unfolding sbox_of product_below reduced inverse_below
table_is = refl

pub get_or-SBOX : (x : ℕ) → x < 256 → get_or SBOX x 0 ≡ sbox_of x
get_or-SBOX x h =
    ap (λ (t : List ℕ). get_or t x 0) table_is ∙ get_or-map-range_with_len sbox_of 0 256 x x 0 h (omega arith)
