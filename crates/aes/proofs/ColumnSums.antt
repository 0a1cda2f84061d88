-- The sum of what four bytes add to a column is the column that MixColumns makes of them.
use Rattle.std.proofs.Common.{◌≡◌, ℕ, ◌+◌, ◌*◌, ◌/◌, ◌%◌, ◌^◌, ◌<◌, List, [], ◌∷◌, get_or, refl, ap, sym, ◌∙◌, arith}
use Rattle.std.specs.Prelude.{map, nat_lt, true, Bool}
use Rattle.std.specs.List.{range_with_len}
use Rattle.std.proofs.lemmas.Bool.{ltb-true}
use Rattle.std.proofs.lemmas.List.FromFn.{get_or-map-range_with_len}
use lib.Bits.{bit_xor, xor_assoc, xor_comm, xor_block, xor_lt}
use Rattle.byteorder.specs.Endian.{big_bytes}
use Rattle.aes.specs.ByteField.{sbox_of, times, product_below, reduced}
use Rattle.aes.specs.Cipher.{sub_bytes, mixed}
use Rattle.aes.specs.Tables.{column, from_first, from_second, from_third, from_fourth, first_row, second_row, third_row, fourth_row}
use Rattle.aes.specs.declared.sbox.TheConstants.{SBOX}
use Rattle.aes.proofs.Table.{get_or-SBOX}

-- a fact of each byte, by computing a test of all
tested : (p : ℕ → Bool) → map p (range_with_len 0 256) ≡ map (λ (x : ℕ). true) (range_with_len 0 256) → (x : ℕ) → x < 256 → p x ≡ true
tested p e x h =
    sym (get_or-map-range_with_len p 0 256 x x true h (omega arith))
    ∙ ap (λ (t : List Bool). get_or t x true) e
    ∙ get_or-map-range_with_len (λ (x : ℕ). true) 0 256 x x true h (omega arith)

pub doubled-lt : (x : ℕ) → x < 256 → times 2 x < 256
unfolding product_below reduced
doubled-lt x h = ltb-true (times 2 x) 256 (tested (λ (x : ℕ). nat_lt (times 2 x) 256) refl x h)

tripled-lt : (x : ℕ) → x < 256 → times 3 x < 256
unfolding product_below reduced
tripled-lt x h = ltb-true (times 3 x) 256 (tested (λ (x : ℕ). nat_lt (times 3 x) 256) refl x h)

entries-lt : (x : ℕ) → x < 256 → get_or SBOX x 0 < 256
entries-lt x h = ltb-true (get_or SBOX x 0) 256 (tested (λ (x : ℕ). nat_lt (get_or SBOX x 0) 256) refl x h)

sbox_of-lt : (x : ℕ) → x < 256 → sbox_of x < 256
sbox_of-lt x h = let e = get_or-SBOX x h in let b = entries-lt x h in omega (arith, e, b)

-- the bytes of a column
pub big_bytes-column : (a b c d : ℕ) → a < 256 → b < 256 → c < 256 → d < 256 → big_bytes 4 (column a b c d) ≡ a ∷ b ∷ c ∷ d ∷ []
big_bytes-column a b c d ha hb hc hd =
    let e0 : column a b c d / 256 ^ 3 % 256 ≡ a = omega arith in
    let e1 : column a b c d / 256 ^ 2 % 256 ≡ b = omega arith in
    let e2 : column a b c d / 256 ^ 1 % 256 ≡ c = omega arith in
    let e3 : column a b c d % 256 ≡ d = omega arith in
    ap (λ (t : ℕ). t ∷ column a b c d / 256 ^ 2 % 256 ∷ column a b c d / 256 ^ 1 % 256 ∷ column a b c d % 256 ∷ []) e0
    ∙ ap (λ (t : ℕ). a ∷ t ∷ column a b c d / 256 ^ 1 % 256 ∷ column a b c d % 256 ∷ []) e1
    ∙ ap (λ (t : ℕ). a ∷ b ∷ t ∷ column a b c d % 256 ∷ []) e2
    ∙ ap (λ (t : ℕ). a ∷ b ∷ c ∷ t ∷ []) e3

-- columns are added byte by byte
xor-column : (a b c d e f g h : ℕ) → b < 256 → c < 256 → d < 256 → f < 256 → g < 256 → h < 256 →
    bit_xor (column a b c d) (column e f g h) ≡ column (bit_xor a e) (bit_xor b f) (bit_xor c g) (bit_xor d h)
xor-column a b c d e f g h hb hc hd hf hg hh =
    let low : bit_xor (d * 256 ^ 0 + 0) (h * 256 ^ 0 + 0) ≡ bit_xor d h * 256 ^ 0 + 0 = (
    let p : d * 256 ^ 0 + 0 ≡ d = omega arith in
    let q : h * 256 ^ 0 + 0 ≡ h = omega arith in
    let r : bit_xor d h ≡ bit_xor d h * 256 ^ 0 + 0 = omega arith in
    ap (λ (t : ℕ). bit_xor t (h * 256 ^ 0 + 0)) p ∙ ap (bit_xor d) q ∙ r) in
    xor_block 24 a e (b * 256 ^ 2 + (c * 256 ^ 1 + (d * 256 ^ 0 + 0))) (f * 256 ^ 2 + (g * 256 ^ 1 + (h * 256 ^ 0 + 0))) (omega arith) (omega arith)
    ∙ ap (λ (t : ℕ). bit_xor a e * 256 ^ 3 + t)
    (xor_block 16 b f (c * 256 ^ 1 + (d * 256 ^ 0 + 0)) (g * 256 ^ 1 + (h * 256 ^ 0 + 0)) (omega arith) (omega arith)
    ∙ ap (λ (t : ℕ). bit_xor b f * 256 ^ 2 + t)
    (xor_block 8 c g (d * 256 ^ 0 + 0) (h * 256 ^ 0 + 0) (omega arith) (omega arith)
    ∙ ap (λ (t : ℕ). bit_xor c g * 256 ^ 1 + t) low))

-- a sum of four, as MixColumns writes it from each row on
from_row_1 : (a b c d : ℕ) → bit_xor (bit_xor (bit_xor a b) c) d ≡ bit_xor (bit_xor a b) (bit_xor c d)
from_row_1 a b c d = xor_assoc (bit_xor a b) c d

from_row_2 : (a b c d : ℕ) → bit_xor (bit_xor (bit_xor a b) c) d ≡ bit_xor (bit_xor b c) (bit_xor d a)
from_row_2 a b c d =
    ap (λ (t : ℕ). bit_xor t d) (xor_assoc a b c ∙ xor_comm a (bit_xor b c))
    ∙ xor_assoc (bit_xor b c) a d
    ∙ ap (bit_xor (bit_xor b c)) (xor_comm a d)

from_row_3 : (a b c d : ℕ) → bit_xor (bit_xor (bit_xor a b) c) d ≡ bit_xor (bit_xor c d) (bit_xor a b)
from_row_3 a b c d = from_row_1 a b c d ∙ xor_comm (bit_xor a b) (bit_xor c d)

from_row_4 : (a b c d : ℕ) → bit_xor (bit_xor (bit_xor a b) c) d ≡ bit_xor (bit_xor d a) (bit_xor b c)
from_row_4 a b c d = from_row_2 a b c d ∙ xor_comm (bit_xor b c) (bit_xor d a)

xor-lt : (a b : ℕ) → a < 256 → b < 256 → bit_xor a b < 256
xor-lt = xor_lt 8

-- the sum of four columns, byte by byte
sum_of_four : (a b c d : ℕ) → a < 256 → b < 256 → c < 256 → d < 256 →
    big_bytes 4 (bit_xor (bit_xor (bit_xor (from_first a) (from_second b)) (from_third c)) (from_fourth d)) ≡ map (mixed (a ∷ b ∷ c ∷ d ∷ [])) (range_with_len 0 4)
sum_of_four a b c d ha hb hc hd =
    let a2 = doubled-lt a ha in
    let a3 = tripled-lt a ha in
    let b2 = doubled-lt b hb in
    let b3 = tripled-lt b hb in
    let c2 = doubled-lt c hc in
    let c3 = tripled-lt c hc in
    let d2 = doubled-lt d hd in
    let d3 = tripled-lt d hd in
    let two = xor-column (times 2 a) a a (times 3 a) (times 3 b) (times 2 b) b b ha ha a3 b2 hb hb in
    let p0 = bit_xor (times 2 a) (times 3 b) in
    let p1 = bit_xor a (times 2 b) in
    let p2 = bit_xor a b in
    let p3 = bit_xor (times 3 a) b in
    let h0 = xor-lt (times 2 a) (times 3 b) a2 b3 in
    let h1 = xor-lt a (times 2 b) ha b2 in
    let h2 = xor-lt a b ha hb in
    let h3 = xor-lt (times 3 a) b a3 hb in
    let three = xor-column p0 p1 p2 p3 c (times 3 c) (times 2 c) c h1 h2 h3 c3 c2 hc in
    let k0 = xor-lt p0 c h0 hc in
    let k1 = xor-lt p1 (times 3 c) h1 c3 in
    let k2 = xor-lt p2 (times 2 c) h2 c2 in
    let k3 = xor-lt p3 c h3 hc in
    let q0 = bit_xor p0 c in
    let q1 = bit_xor p1 (times 3 c) in
    let q2 = bit_xor p2 (times 2 c) in
    let q3 = bit_xor p3 c in
    let four = xor-column q0 q1 q2 q3 d d (times 3 d) (times 2 d) k1 k2 k3 hd d3 d2 in
    ap (λ (t : ℕ). big_bytes 4 (bit_xor (bit_xor t (from_third c)) (from_fourth d))) two
    ∙ ap (λ (t : ℕ). big_bytes 4 (bit_xor t (from_fourth d))) three
    ∙ ap (λ (t : ℕ). big_bytes 4 t) four
    ∙ big_bytes-column (bit_xor q0 d) (bit_xor q1 d) (bit_xor q2 (times 3 d)) (bit_xor q3 (times 2 d)) (xor-lt q0 d k0 hd) (xor-lt q1 d k1 hd) (xor-lt q2 (times 3 d) k2 d3) (xor-lt q3 (times 2 d) k3 d2)
    ∙ ap (λ (t : ℕ). t ∷ bit_xor q1 d ∷ bit_xor q2 (times 3 d) ∷ bit_xor q3 (times 2 d) ∷ []) (from_row_1 (times 2 a) (times 3 b) c d)
    ∙ ap (λ (t : ℕ). bit_xor (bit_xor (times 2 a) (times 3 b)) (bit_xor c d) ∷ t ∷ bit_xor q2 (times 3 d) ∷ bit_xor q3 (times 2 d) ∷ []) (from_row_2 a (times 2 b) (times 3 c) d)
    ∙ ap (λ (t : ℕ). bit_xor (bit_xor (times 2 a) (times 3 b)) (bit_xor c d) ∷ bit_xor (bit_xor (times 2 b) (times 3 c)) (bit_xor d a) ∷ t ∷ bit_xor q3 (times 2 d) ∷ []) (from_row_3 a b (times 2 c) (times 3 d))
    ∙ ap (λ (t : ℕ). bit_xor (bit_xor (times 2 a) (times 3 b)) (bit_xor c d) ∷ bit_xor (bit_xor (times 2 b) (times 3 c)) (bit_xor d a) ∷ bit_xor (bit_xor (times 2 c) (times 3 d)) (bit_xor a b) ∷ t ∷ []) (from_row_4 (times 3 a) b c (times 2 d))

pub mixed_is : (a b c d : ℕ) → a < 256 → b < 256 → c < 256 → d < 256 →
    big_bytes 4 (bit_xor (bit_xor (bit_xor (first_row a) (second_row b)) (third_row c)) (fourth_row d)) ≡ map (mixed (sub_bytes (a ∷ b ∷ c ∷ d ∷ []))) (range_with_len 0 4)
unfolding first_row second_row third_row fourth_row
mixed_is a b c d ha hb hc hd =
    sum_of_four (sbox_of a) (sbox_of b) (sbox_of c) (sbox_of d) (sbox_of-lt a ha) (sbox_of-lt b hb) (sbox_of-lt c hc) (sbox_of-lt d hd)
