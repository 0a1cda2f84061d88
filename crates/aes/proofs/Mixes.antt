-- Sums of bytes by slices, and MixColumns on slices.
use Rattle.std.proofs.Common.{◌≡◌, ℕ, ◌+◌, ◌*◌, ◌/◌, ◌%◌, ◌<◌, List, [], ◌∷◌, get_or, refl, ap, sym, ◌∙◌, arith}
use Rattle.std.specs.Prelude.{map}
use Rattle.std.specs.Int.{bit_at}
use Rattle.std.specs.List.{range_with_len}
use Rattle.std.proofs.lemmas.List.FromFn.{get_or-map-range_with_len, fill_by_all}
use lib.Bits.{bit_xor, xor_assoc, xor_comm, xor_lt}
use Rattle.aes.specs.ByteField.{times, product_below, reduced}
use Rattle.aes.specs.Cipher.{mix_columns, mixed}
use Rattle.aes.specs.Slices.{byte_at, place, block_at}
use Rattle.aes.specs.declared.slices.Slices.{Slices}
use Rattle.aes.proofs.BitsAt.{xor_at, bits_of, bits_at, byte_at-lt, same_by_bits, eight}
use Rattle.aes.proofs.Bytes.{tripled-times}
use Rattle.aes.proofs.ColumnSums.{doubled-lt}

xor_bits : ℕ → ℕ → List ℕ
xor_bits x y = bit_xor (bit_at x 0) (bit_at y 0) ∷ bit_xor (bit_at x 1) (bit_at y 1) ∷ bit_xor (bit_at x 2) (bit_at y 2) ∷ bit_xor (bit_at x 3) (bit_at y 3) ∷ bit_xor (bit_at x 4) (bit_at y 4) ∷ bit_xor (bit_at x 5) (bit_at y 5) ∷ bit_xor (bit_at x 6) (bit_at y 6) ∷ bit_xor (bit_at x 7) (bit_at y 7) ∷ []

bits_of-xor : (x y : ℕ) → bits_of (bit_xor x y) ≡ xor_bits x y
unfolding bits_of xor_bits
bits_of-xor x y = eight _ _ _ _ _ _ _ _ _ _ _ _ _ _ _ _ (xor_at x y 0) (xor_at x y 1) (xor_at x y 2) (xor_at x y 3) (xor_at x y 4) (xor_at x y 5) (xor_at x y 6) (xor_at x y 7)

-- bits that are sums
sum_bits : List ℕ → List ℕ → List ℕ
sum_bits xs ys = bit_xor (get_or xs 0 0) (get_or ys 0 0) ∷ bit_xor (get_or xs 1 0) (get_or ys 1 0) ∷ bit_xor (get_or xs 2 0) (get_or ys 2 0) ∷ bit_xor (get_or xs 3 0) (get_or ys 3 0) ∷ bit_xor (get_or xs 4 0) (get_or ys 4 0) ∷ bit_xor (get_or xs 5 0) (get_or ys 5 0) ∷ bit_xor (get_or xs 6 0) (get_or ys 6 0) ∷ bit_xor (get_or xs 7 0) (get_or ys 7 0) ∷ []

xor_bits-bits : (x y : ℕ) → xor_bits x y ≡ sum_bits (bits_of x) (bits_of y)
unfolding xor_bits sum_bits bits_of
xor_bits-bits x y = refl

pub sum_at : (r s t : Slices) → r.bit0 ≡ bit_xor s.bit0 t.bit0 → r.bit1 ≡ bit_xor s.bit1 t.bit1 → r.bit2 ≡ bit_xor s.bit2 t.bit2 → r.bit3 ≡ bit_xor s.bit3 t.bit3 → r.bit4 ≡ bit_xor s.bit4 t.bit4 → r.bit5 ≡ bit_xor s.bit5 t.bit5 → r.bit6 ≡ bit_xor s.bit6 t.bit6 → r.bit7 ≡ bit_xor s.bit7 t.bit7 → (p : ℕ) → byte_at r p ≡ bit_xor (byte_at s p) (byte_at t p)
unfolding sum_bits
sum_at r s t e0 e1 e2 e3 e4 e5 e6 e7 p =
    same_by_bits (byte_at r p) (bit_xor (byte_at s p) (byte_at t p)) (byte_at-lt r p) (xor_lt 8 (byte_at s p) (byte_at t p) (byte_at-lt s p) (byte_at-lt t p))
    (sym (bits_at r p)
    ∙ eight _ _ _ _ _ _ _ _ _ _ _ _ _ _ _ _ (ap (λ (w : ℕ). bit_at w p) e0 ∙ xor_at s.bit0 t.bit0 p) (ap (λ (w : ℕ). bit_at w p) e1 ∙ xor_at s.bit1 t.bit1 p) (ap (λ (w : ℕ). bit_at w p) e2 ∙ xor_at s.bit2 t.bit2 p) (ap (λ (w : ℕ). bit_at w p) e3 ∙ xor_at s.bit3 t.bit3 p) (ap (λ (w : ℕ). bit_at w p) e4 ∙ xor_at s.bit4 t.bit4 p) (ap (λ (w : ℕ). bit_at w p) e5 ∙ xor_at s.bit5 t.bit5 p) (ap (λ (w : ℕ). bit_at w p) e6 ∙ xor_at s.bit6 t.bit6 p) (ap (λ (w : ℕ). bit_at w p) e7 ∙ xor_at s.bit7 t.bit7 p)
    ∙ ap (λ (l : List ℕ). sum_bits l (bit_at t.bit0 p ∷ bit_at t.bit1 p ∷ bit_at t.bit2 p ∷ bit_at t.bit3 p ∷ bit_at t.bit4 p ∷ bit_at t.bit5 p ∷ bit_at t.bit6 p ∷ bit_at t.bit7 p ∷ [])) (bits_at s p)
    ∙ ap (sum_bits (bits_of (byte_at s p))) (bits_at t p)
    ∙ sym (xor_bits-bits (byte_at s p) (byte_at t p))
    ∙ sym (bits_of-xor (byte_at s p) (byte_at t p)))

-- the bits of {02} times a byte
twice_bits : List ℕ → List ℕ
twice_bits l =
    let b = λ (j : ℕ). get_or l j 0 in
    b 7 ∷ bit_xor (b 0) (b 7) ∷ b 1 ∷ bit_xor (b 2) (b 7) ∷ bit_xor (b 3) (b 7) ∷ b 4 ∷ b 5 ∷ b 6 ∷ []

all_twice : map (λ (x : ℕ). bits_of (times 2 x)) (range_with_len 0 256) ≡ map (λ (x : ℕ). twice_bits (bits_of x)) (range_with_len 0 256)
unfolding bits_of twice_bits product_below reduced
all_twice = refl

twice_is : (x : ℕ) → x < 256 → bits_of (times 2 x) ≡ twice_bits (bits_of x)
twice_is x h =
    sym (get_or-map-range_with_len (λ (x : ℕ). bits_of (times 2 x)) 0 256 x x [] h (omega arith))
    ∙ ap (λ (t : List (List ℕ)). get_or t x []) all_twice
    ∙ get_or-map-range_with_len (λ (x : ℕ). twice_bits (bits_of x)) 0 256 x x [] h (omega arith)

four : (a b c d : ℕ) → bit_xor (bit_xor a b) (bit_xor c d) ≡ bit_xor (bit_xor a c) (bit_xor b d)
four a b c d =
    xor_assoc a b (bit_xor c d)
    ∙ ap (bit_xor a) (sym (xor_assoc b c d) ∙ ap (λ (t : ℕ). bit_xor t d) (xor_comm b c) ∙ xor_assoc c b d)
    ∙ sym (xor_assoc a c (bit_xor b d))

twice-sum : (l m : List ℕ) → twice_bits (sum_bits l m) ≡ sum_bits (twice_bits l) (twice_bits m)
unfolding twice_bits sum_bits
twice-sum l m =
    let a = λ (j : ℕ). get_or l j 0 in
    let b = λ (j : ℕ). get_or m j 0 in
    eight _ _ _ _ _ _ _ _ _ _ _ _ _ _ _ _ refl (four (a 0) (b 0) (a 7) (b 7)) refl (four (a 2) (b 2) (a 7) (b 7)) (four (a 3) (b 3) (a 7) (b 7)) refl refl refl

bits-sum : (x y : ℕ) → bits_of (bit_xor x y) ≡ sum_bits (bits_of x) (bits_of y)
bits-sum x y = bits_of-xor x y ∙ xor_bits-bits x y

-- {02} times a sum
pub twice-xor : (x y : ℕ) → x < 256 → y < 256 → times 2 (bit_xor x y) ≡ bit_xor (times 2 x) (times 2 y)
twice-xor x y hx hy =
    let h = xor_lt 8 x y hx hy in
    let hx2 = doubled-lt x hx in
    let hy2 = doubled-lt y hy in
    same_by_bits (times 2 (bit_xor x y)) (bit_xor (times 2 x) (times 2 y)) (doubled-lt (bit_xor x y) h) (xor_lt 8 (times 2 x) (times 2 y) hx2 hy2)
    (twice_is (bit_xor x y) h
    ∙ ap twice_bits (bits-sum x y)
    ∙ twice-sum (bits_of x) (bits_of y)
    ∙ ap (λ (t : List ℕ). sum_bits t (twice_bits (bits_of y))) (sym (twice_is x hx))
    ∙ ap (sum_bits (bits_of (times 2 x))) (sym (twice_is y hy))
    ∙ sym (bits-sum (times 2 x) (times 2 y)))

three_sums : (n r s t : ℕ) → bit_xor (bit_xor (bit_xor n r) s) t ≡ bit_xor (bit_xor n r) (bit_xor s t)
three_sums n r s t = xor_assoc (bit_xor n r) s t

-- the words of `combined`
unfoldable pub combined_of : Slices → Slices → Slices → Slices
combined_of n s r = record {
  bit0 = bit_xor (bit_xor n.bit0 r.bit0) s.bit7;
  bit1 = bit_xor (bit_xor (bit_xor n.bit1 r.bit1) s.bit0) s.bit7;
  bit2 = bit_xor (bit_xor n.bit2 r.bit2) s.bit1;
  bit3 = bit_xor (bit_xor (bit_xor n.bit3 r.bit3) s.bit2) s.bit7;
  bit4 = bit_xor (bit_xor (bit_xor n.bit4 r.bit4) s.bit3) s.bit7;
  bit5 = bit_xor (bit_xor n.bit5 r.bit5) s.bit4;
  bit6 = bit_xor (bit_xor n.bit6 r.bit6) s.bit5;
  bit7 = bit_xor (bit_xor n.bit7 r.bit7) s.bit6;
}

lanes : Slices → ℕ → List ℕ
lanes s p = bit_at s.bit0 p ∷ bit_at s.bit1 p ∷ bit_at s.bit2 p ∷ bit_at s.bit3 p ∷ bit_at s.bit4 p ∷ bit_at s.bit5 p ∷ bit_at s.bit6 p ∷ bit_at s.bit7 p ∷ []

combined_bits : (n s r : Slices) (p : ℕ) → lanes (combined_of n s r) p ≡ sum_bits (sum_bits (lanes n p) (lanes r p)) (twice_bits (lanes s p))
unfolding combined_of lanes sum_bits twice_bits
combined_bits n s r p = eight _ _ _ _ _ _ _ _ _ _ _ _ _ _ _ _
    (xor_at (bit_xor n.bit0 r.bit0) s.bit7 p ∙ ap (λ (t : ℕ). bit_xor t (bit_at s.bit7 p)) (xor_at n.bit0 r.bit0 p))
    (xor_at (bit_xor (bit_xor n.bit1 r.bit1) s.bit0) s.bit7 p ∙ ap (λ (t : ℕ). bit_xor t (bit_at s.bit7 p)) (xor_at (bit_xor n.bit1 r.bit1) s.bit0 p ∙ ap (λ (t : ℕ). bit_xor t (bit_at s.bit0 p)) (xor_at n.bit1 r.bit1 p)) ∙ three_sums (bit_at n.bit1 p) (bit_at r.bit1 p) (bit_at s.bit0 p) (bit_at s.bit7 p))
    (xor_at (bit_xor n.bit2 r.bit2) s.bit1 p ∙ ap (λ (t : ℕ). bit_xor t (bit_at s.bit1 p)) (xor_at n.bit2 r.bit2 p))
    (xor_at (bit_xor (bit_xor n.bit3 r.bit3) s.bit2) s.bit7 p ∙ ap (λ (t : ℕ). bit_xor t (bit_at s.bit7 p)) (xor_at (bit_xor n.bit3 r.bit3) s.bit2 p ∙ ap (λ (t : ℕ). bit_xor t (bit_at s.bit2 p)) (xor_at n.bit3 r.bit3 p)) ∙ three_sums (bit_at n.bit3 p) (bit_at r.bit3 p) (bit_at s.bit2 p) (bit_at s.bit7 p))
    (xor_at (bit_xor (bit_xor n.bit4 r.bit4) s.bit3) s.bit7 p ∙ ap (λ (t : ℕ). bit_xor t (bit_at s.bit7 p)) (xor_at (bit_xor n.bit4 r.bit4) s.bit3 p ∙ ap (λ (t : ℕ). bit_xor t (bit_at s.bit3 p)) (xor_at n.bit4 r.bit4 p)) ∙ three_sums (bit_at n.bit4 p) (bit_at r.bit4 p) (bit_at s.bit3 p) (bit_at s.bit7 p))
    (xor_at (bit_xor n.bit5 r.bit5) s.bit4 p ∙ ap (λ (t : ℕ). bit_xor t (bit_at s.bit4 p)) (xor_at n.bit5 r.bit5 p))
    (xor_at (bit_xor n.bit6 r.bit6) s.bit5 p ∙ ap (λ (t : ℕ). bit_xor t (bit_at s.bit5 p)) (xor_at n.bit6 r.bit6 p))
    (xor_at (bit_xor n.bit7 r.bit7) s.bit6 p ∙ ap (λ (t : ℕ). bit_xor t (bit_at s.bit6 p)) (xor_at n.bit7 r.bit7 p))

pub combined_at : (n s r : Slices) (p : ℕ) → byte_at (combined_of n s r) p ≡ bit_xor (bit_xor (byte_at n p) (byte_at r p)) (times 2 (byte_at s p))
unfolding lanes
combined_at n s r p =
    let x = byte_at n p in
    let y = byte_at r p in
    let z = times 2 (byte_at s p) in
    let hz = doubled-lt (byte_at s p) (byte_at-lt s p) in
    let hxy = xor_lt 8 x y (byte_at-lt n p) (byte_at-lt r p) in
    same_by_bits (byte_at (combined_of n s r) p) (bit_xor (bit_xor x y) z) (byte_at-lt (combined_of n s r) p) (xor_lt 8 (bit_xor x y) z hxy hz)
    (sym (bits_at (combined_of n s r) p)
    ∙ combined_bits n s r p
    ∙ ap (λ (t : List ℕ). sum_bits (sum_bits t (lanes r p)) (twice_bits (lanes s p))) (bits_at n p)
    ∙ ap (λ (t : List ℕ). sum_bits (sum_bits (bits_of x) t) (twice_bits (lanes s p))) (bits_at r p)
    ∙ ap (λ (t : List ℕ). sum_bits (sum_bits (bits_of x) (bits_of y)) (twice_bits t)) (bits_at s p)
    ∙ ap (sum_bits (sum_bits (bits_of x) (bits_of y))) (sym (twice_is (byte_at s p) (byte_at-lt s p)))
    ∙ ap (λ (t : List ℕ). sum_bits t (bits_of z)) (sym (bits-sum x y))
    ∙ sym (bits-sum (bit_xor x y) z))

-- blocks byte by byte
pub same_blocks : (f g : ℕ → ℕ) → ((i : ℕ) → i < 16 → f i ≡ g i) → map f (range_with_len 0 16) ≡ map g (range_with_len 0 16)
same_blocks f g h = fill_by_all g (map f (range_with_len 0 16)) 16 0 refl (λ k lt. get_or-map-range_with_len f 0 16 k k 0 lt (omega arith) ∙ h k lt)

-- byte i of a column mixed, from its byte and those of the three rows that follow
mixed_bytes : (a b c d : ℕ) → a < 256 → b < 256 → bit_xor (bit_xor b (bit_xor c d)) (times 2 (bit_xor a b)) ≡ bit_xor (bit_xor (times 2 a) (times 3 b)) (bit_xor c d)
mixed_bytes a b c d ha hb =
    let e = bit_xor c d in
    ap (bit_xor (bit_xor b e)) (twice-xor a b ha hb)
    ∙ xor_comm (bit_xor b e) (bit_xor (times 2 a) (times 2 b))
    ∙ sym (xor_assoc (bit_xor (times 2 a) (times 2 b)) b e)
    ∙ ap (λ (t : ℕ). bit_xor t e) (xor_assoc (times 2 a) (times 2 b) b ∙ ap (bit_xor (times 2 a)) (tripled-times b hb))

-- a fact of each place of a block, computed for all
each_place : (f g : ℕ → ℕ → ℕ) → map (λ (n : ℕ). f (n % 4) (n / 4)) (range_with_len 0 64) ≡ map (λ (n : ℕ). g (n % 4) (n / 4)) (range_with_len 0 64) → (b i : ℕ) → b < 4 → i < 16 → f b i ≡ g b i
each_place f g e b i hb hi =
    let n = 4 * i + b in
    let q : n / 4 ≡ i = omega arith in
    let r : n % 4 ≡ b = omega arith in
    sym (ap (λ (t : ℕ). f t (n / 4)) r ∙ ap (f b) q)
    ∙ sym (get_or-map-range_with_len (λ (n : ℕ). f (n % 4) (n / 4)) 0 64 n n 0 (omega arith) (omega arith))
    ∙ ap (λ (t : List ℕ). get_or t n 0) e
    ∙ get_or-map-range_with_len (λ (n : ℕ). g (n % 4) (n / 4)) 0 64 n n 0 (omega arith) (omega arith)
    ∙ ap (λ (t : ℕ). g t (n / 4)) r ∙ ap (g b) q

module _ (k : ℕ) (next_at second_at : ℕ → ℕ)
    (one : map (λ (n : ℕ). next_at (place k (n % 4) (n / 4))) (range_with_len 0 64) ≡ map (λ (n : ℕ). place k (n % 4) (n / 4 / 4 * 4 + (n / 4 + 1) % 4)) (range_with_len 0 64))
    (two : map (λ (n : ℕ). second_at (place k (n % 4) (n / 4))) (range_with_len 0 64) ≡ map (λ (n : ℕ). place k (n % 4) (n / 4 / 4 * 4 + (n / 4 + 2) % 4)) (range_with_len 0 64))
    (three : map (λ (n : ℕ). next_at (place k (n % 4) (n / 4 / 4 * 4 + (n / 4 + 2) % 4))) (range_with_len 0 64) ≡ map (λ (n : ℕ). place k (n % 4) (n / 4 / 4 * 4 + (n / 4 + 3) % 4)) (range_with_len 0 64))
    (s next sum rest t : Slices)
    (hn : (p : ℕ) → p < 64 → byte_at next p ≡ byte_at s (next_at p))
    (hs : (p : ℕ) → byte_at sum p ≡ bit_xor (byte_at s p) (byte_at next p))
    (hr : (p : ℕ) → p < 64 → byte_at rest p ≡ byte_at sum (second_at p))
    (ht : (p : ℕ) → byte_at t p ≡ bit_xor (bit_xor (byte_at next p) (byte_at rest p)) (times 2 (byte_at sum p))) where
  pub mix_is : (b : ℕ) → b < 4 → block_at k t b ≡ mix_columns (block_at k s b)
  mix_is b hb = same_blocks (λ (i : ℕ). byte_at t (place k b i)) (mixed (block_at k s b)) λ i hi.
      let p = place k b i in
      let at = λ (i : ℕ). byte_at s (place k b i) in
      let i1 = i / 4 * 4 + (i + 1) % 4 in
      let i2 = i / 4 * 4 + (i + 2) % 4 in
      let i3 = i / 4 * 4 + (i + 3) % 4 in
      let lt : p < 64 = omega arith in
      let lt2 : place k b i2 < 64 = omega arith in
      let e1 : next_at p ≡ place k b i1 = each_place (λ (b i : ℕ). next_at (place k b i)) (λ (b i : ℕ). place k b (i / 4 * 4 + (i + 1) % 4)) one b i hb hi in
      let e2 : second_at p ≡ place k b i2 = each_place (λ (b i : ℕ). second_at (place k b i)) (λ (b i : ℕ). place k b (i / 4 * 4 + (i + 2) % 4)) two b i hb hi in
      let e3 : next_at (place k b i2) ≡ place k b i3 = each_place (λ (b i : ℕ). next_at (place k b (i / 4 * 4 + (i + 2) % 4))) (λ (b i : ℕ). place k b (i / 4 * 4 + (i + 3) % 4)) three b i hb hi in
      let n1 : byte_at next p ≡ at i1 = hn p lt ∙ ap (byte_at s) e1 in
      let n3 : byte_at next (place k b i2) ≡ at i3 = hn (place k b i2) lt2 ∙ ap (byte_at s) e3 in
      let s1 : byte_at sum p ≡ bit_xor (at i) (at i1) = hs p ∙ ap (bit_xor (at i)) n1 in
      let r2 : byte_at rest p ≡ bit_xor (at i2) (at i3) = hr p lt ∙ ap (byte_at sum) e2 ∙ hs (place k b i2) ∙ ap (bit_xor (at i2)) n3 in
      let in_block = λ (j : ℕ) (lt : j < 16). sym (get_or-map-range_with_len at 0 16 j j 0 lt (omega arith)) in
      ht p
      ∙ ap (λ (x : ℕ). bit_xor (bit_xor x (byte_at rest p)) (times 2 (byte_at sum p))) n1
      ∙ ap (λ (x : ℕ). bit_xor (bit_xor (at i1) x) (times 2 (byte_at sum p))) r2
      ∙ ap (λ (x : ℕ). bit_xor (bit_xor (at i1) (bit_xor (at i2) (at i3))) (times 2 x)) s1
      ∙ mixed_bytes (at i) (at i1) (at i2) (at i3) (byte_at-lt s p) (byte_at-lt s (place k b i1))
      ∙ ap (λ (x : ℕ). bit_xor (bit_xor (times 2 x) (times 3 (at i1))) (bit_xor (at i2) (at i3))) (in_block i hi)
      ∙ ap (λ (x : ℕ). bit_xor (bit_xor (times 2 (get_or (block_at k s b) i 0)) (times 3 x)) (bit_xor (at i2) (at i3))) (in_block i1 (omega arith))
      ∙ ap (λ (x : ℕ). bit_xor (bit_xor (times 2 (get_or (block_at k s b) i 0)) (times 3 (get_or (block_at k s b) i1 0))) (bit_xor x (at i3))) (in_block i2 (omega arith))
      ∙ ap (λ (x : ℕ). bit_xor (bit_xor (times 2 (get_or (block_at k s b) i 0)) (times 3 (get_or (block_at k s b) i1 0))) (bit_xor (get_or (block_at k s b) i2 0) x)) (in_block i3 (omega arith))
