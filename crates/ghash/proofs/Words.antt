-- The product of two words by every fourth bit of each, and that of two blocks by words.
use Rattle.std.proofs.Common.{◌≡◌, ℕ, zero, suc, ◌+◌, ◌-◌, ◌*◌, ◌/◌, ◌%◌, ◌^◌, ◌<◌, arith, ap, refl, sym, ◌∙◌}
use Rattle.std.specs.Prelude.{min}
use Rattle.std.specs.Int.{bit_at}
use Rattle.std.proofs.Math.Nat.{mul-one}
use Rattle.std.proofs.lemmas.Nat.{pow-add, shl-shr, shr_le, and_mask, and_le_l}
use Rattle.std.proofs.lemmas.Nat.Bits.{bit_at_and, bit_at_xor, bit_at-lt, and_pow, same_from_bits}
use lib.Bits.{bit_and, bit_xor, and_comm, xor_comm}
use Rattle.ghash.specs.CarryLess.{carry_less}
use Rattle.ghash.proofs.Products.{exchange}
use Rattle.ghash.proofs.Carries.{left-xor, right-xor, left-shift, right-shift, right-digit}
use Rattle.ghash.proofs.Fourths.{fourths, fourths-shift, fourths-le, product-fourths, and-shifted_mask, word_mask, other_mask, wide_mask, word_mask-is, other_mask-is, wide_mask-is}

-- `&` goes over a sum
bit-and-xor : (p q r : ℕ) → p < 2 → q < 2 → r < 2 → min p ((q + r) % 2) ≡ (min p q + min p r) % 2
bit-and-xor p q r hp hq hr = omega arith

and-xor : (x m n : ℕ) → bit_and x (bit_xor m n) ≡ bit_xor (bit_and x m) (bit_and x n)
and-xor x m n =
    same_from_bits (bit_and x (bit_xor m n)) (bit_xor (bit_and x m) (bit_and x n))
    (λ i.
    bit_at_and x (bit_xor m n) i
    ∙ ap (min (bit_at x i)) (bit_at_xor m n i)
    ∙ bit-and-xor (bit_at x i) (bit_at m i) (bit_at n i) (bit_at-lt x i) (bit_at-lt m i) (bit_at-lt n i)
    ∙ ap (λ t. (t + min (bit_at x i) (bit_at n i)) % 2) (sym (bit_at_and x m i))
    ∙ ap (λ t. (bit_at (bit_and x m) i + t) % 2) (sym (bit_at_and x n i))
    ∙ sym (bit_at_xor (bit_and x m) (bit_and x n) i))

xor-and : (a b m : ℕ) → bit_and (bit_xor a b) m ≡ bit_xor (bit_and a m) (bit_and b m)
xor-and a b m =
    and_comm (bit_xor a b) m
    ∙ and-xor m a b
    ∙ ap (λ t. bit_xor t (bit_and m b)) (and_comm m a)
    ∙ ap (bit_xor (bit_and a m)) (and_comm m b)

-- sums of four
abbrev pub four : ℕ → ℕ → ℕ → ℕ → ℕ
four a b c d = bit_xor (bit_xor a b) (bit_xor c d)

and-four : (x a b c d : ℕ) → bit_and x (four a b c d) ≡ four (bit_and x a) (bit_and x b) (bit_and x c) (bit_and x d)
and-four x a b c d =
    and-xor x (bit_xor a b) (bit_xor c d)
    ∙ ap (λ t. bit_xor t (bit_and x (bit_xor c d))) (and-xor x a b)
    ∙ ap (bit_xor (bit_xor (bit_and x a) (bit_and x b))) (and-xor x c d)

four-and : (a b c d m p q r s : ℕ) → bit_and a m ≡ p → bit_and b m ≡ q → bit_and c m ≡ r → bit_and d m ≡ s → bit_and (four a b c d) m ≡ four p q r s
four-and a b c d m p q r s e f g h =
    xor-and (bit_xor a b) (bit_xor c d) m
    ∙ ap (λ t. bit_xor t (bit_and (bit_xor c d) m)) (xor-and a b m ∙ ap (λ t. bit_xor t (bit_and b m)) e ∙ ap (bit_xor p) f)
    ∙ ap (bit_xor (bit_xor p q)) (xor-and c d m ∙ ap (λ t. bit_xor t (bit_and d m)) g ∙ ap (bit_xor r) h)

left-four : (n a b c d y : ℕ) → carry_less n (four a b c d) y ≡ four (carry_less n a y) (carry_less n b y) (carry_less n c y) (carry_less n d y)
left-four n a b c d y =
    left-xor n (bit_xor a b) (bit_xor c d) y
    ∙ ap (λ t. bit_xor t (carry_less n (bit_xor c d) y)) (left-xor n a b y)
    ∙ ap (bit_xor (bit_xor (carry_less n a y) (carry_less n b y))) (left-xor n c d y)

right-four : (n x a b c d : ℕ) → carry_less n x (four a b c d) ≡ four (carry_less n x a) (carry_less n x b) (carry_less n x c) (carry_less n x d)
right-four n x a b c d =
    right-xor n x (bit_xor a b) (bit_xor c d)
    ∙ ap (λ t. bit_xor t (carry_less n x (bit_xor c d))) (right-xor n x a b)
    ∙ ap (bit_xor (bit_xor (carry_less n x a) (carry_less n x b))) (right-xor n x c d)

pub same-four : (a b c d p q r s : ℕ) → a ≡ p → b ≡ q → c ≡ r → d ≡ s → four a b c d ≡ four p q r s
same-four a b c d p q r s e f g h = ap (λ t. four t b c d) e ∙ ap (λ t. four p t c d) f ∙ ap (λ t. four p q t d) g ∙ ap (four p q r) h

paired : (a b c d p q r s : ℕ) → bit_xor (four a b c d) (four p q r s) ≡ four (bit_xor a p) (bit_xor b q) (bit_xor c r) (bit_xor d s)
paired a b c d p q r s =
    exchange (bit_xor a b) (bit_xor c d) (bit_xor p q) (bit_xor r s)
    ∙ ap (λ t. bit_xor t (bit_xor (bit_xor c d) (bit_xor r s))) (exchange a b p q)
    ∙ ap (bit_xor (bit_xor (bit_xor a p) (bit_xor b q))) (exchange c d r s)

turned : (a b c d : ℕ) → four d a b c ≡ four a b c d
turned a b c d =
    ap (λ t. bit_xor t (bit_xor b c)) (xor_comm d a)
    ∙ exchange a d b c
    ∙ ap (bit_xor (bit_xor a b)) (xor_comm d c)

-- four diagonals of a square are its four rows
diagonals : (f : ℕ → ℕ → ℕ) →
    four
    (four (f 0 0) (f 1 3) (f 2 2) (f 3 1))
    (four (f 0 1) (f 1 0) (f 2 3) (f 3 2))
    (four (f 0 2) (f 1 1) (f 2 0) (f 3 3))
    (four (f 0 3) (f 1 2) (f 2 1) (f 3 0))
    ≡ four
    (four (f 0 0) (f 0 1) (f 0 2) (f 0 3))
    (four (f 1 0) (f 1 1) (f 1 2) (f 1 3))
    (four (f 2 0) (f 2 1) (f 2 2) (f 2 3))
    (four (f 3 0) (f 3 1) (f 3 2) (f 3 3))
diagonals f =
    let s = four (f 0 2) (f 1 1) (f 2 0) (f 3 3) in
    let t = four (f 0 3) (f 1 2) (f 2 1) (f 3 0) in
    let row0 = four (f 0 0) (f 0 1) (f 0 2) (f 0 3) in
    let row1 = four (f 1 3) (f 1 0) (f 1 1) (f 1 2) in
    let row2 = four (f 2 2) (f 2 3) (f 2 0) (f 2 1) in
    let row3 = four (f 3 1) (f 3 2) (f 3 3) (f 3 0) in
    ap (λ u. bit_xor u (bit_xor s t)) (paired (f 0 0) (f 1 3) (f 2 2) (f 3 1) (f 0 1) (f 1 0) (f 2 3) (f 3 2))
    ∙ ap (bit_xor (four (bit_xor (f 0 0) (f 0 1)) (bit_xor (f 1 3) (f 1 0)) (bit_xor (f 2 2) (f 2 3)) (bit_xor (f 3 1) (f 3 2))))
    (paired (f 0 2) (f 1 1) (f 2 0) (f 3 3) (f 0 3) (f 1 2) (f 2 1) (f 3 0))
    ∙ paired
    (bit_xor (f 0 0) (f 0 1)) (bit_xor (f 1 3) (f 1 0)) (bit_xor (f 2 2) (f 2 3)) (bit_xor (f 3 1) (f 3 2))
    (bit_xor (f 0 2) (f 0 3)) (bit_xor (f 1 1) (f 1 2)) (bit_xor (f 2 0) (f 2 1)) (bit_xor (f 3 3) (f 3 0))
    ∙ ap (λ u. four row0 u row2 row3) (turned (f 1 0) (f 1 1) (f 1 2) (f 1 3))
    ∙ ap (λ u. four row0 (four (f 1 0) (f 1 1) (f 1 2) (f 1 3)) u row3) (xor_comm (bit_xor (f 2 2) (f 2 3)) (bit_xor (f 2 0) (f 2 1)))
    ∙ ap (four row0 (four (f 1 0) (f 1 1) (f 1 2) (f 1 3)) (four (f 2 0) (f 2 1) (f 2 2) (f 2 3)))
    (sym (turned (f 3 1) (f 3 2) (f 3 3) (f 3 0)))

-- one product of numbers, by places
powers : (u v i j c e : ℕ) → i + j ≡ c + e → u * 2 ^ i * (v * 2 ^ j) ≡ u * v * 2 ^ e * 2 ^ c
powers u v i j c e h =
    let p : 2 ^ i * 2 ^ j ≡ 2 ^ c * 2 ^ e = sym (pow-add 2 i j) ∙ ap (λ t. 2 ^ t) h ∙ pow-add 2 c e in
    let q : u * 2 ^ i * (v * 2 ^ j) ≡ u * v * (2 ^ i * 2 ^ j) = omega arith in
    let r : u * v * (2 ^ c * 2 ^ e) ≡ u * v * 2 ^ e * 2 ^ c = omega arith in
    q ∙ ap (λ t. u * v * t) p ∙ r

moved_up : (w i j c e : ℕ) → i + j ≡ c + e → w * 2 ^ i * 2 ^ j ≡ w * 2 ^ e * 2 ^ c
moved_up w i j c e h =
    let p : 2 ^ i * 2 ^ j ≡ 2 ^ c * 2 ^ e = sym (pow-add 2 i j) ∙ ap (λ t. 2 ^ t) h ∙ pow-add 2 c e in
    let q : w * 2 ^ i * 2 ^ j ≡ w * (2 ^ i * 2 ^ j) = omega arith in
    let r : w * (2 ^ c * 2 ^ e) ≡ w * 2 ^ e * 2 ^ c = omega arith in
    q ∙ ap (λ t. w * t) p ∙ r

sums_of : (x y s : ℕ) → x < 2 ^ 64 → s < 2 → fourths 32 (fourths 16 x * fourths 15 y * 2 ^ (4 * s)) ≡ carry_less 64 (fourths 16 x) (fourths 15 y) * 2 ^ (4 * s)
sums_of x y zero lt _ =
    let less : fourths 16 x < 2 ^ 64 = omega (arith, fourths-le 16 x) in
    ap (fourths 32) (mul-one (fourths 16 x * fourths 15 y))
    ∙ product-fourths 15 1 16 64 x y (omega arith) less
    ∙ sym (mul-one (carry_less 64 (fourths 16 x) (fourths 15 y)))
sums_of x y (suc zero) lt _ =
    let less : fourths 16 x < 2 ^ 64 = omega (arith, fourths-le 16 x) in
    fourths-shift 31 (fourths 16 x * fourths 15 y)
    ∙ ap (λ t. t * 16) (product-fourths 15 0 16 64 x y (omega arith) less)
sums_of x y (suc (suc s)) _ h = absurd (omega arith)

term : (x y i j c s : ℕ) → x < 2 ^ 64 → i < 4 → j < 4 → c < 4 → s < 2 → i + j ≡ c + 4 * s →
    bit_and (bit_and x (word_mask i) * bit_and y (other_mask j)) (wide_mask c) ≡ carry_less 64 (bit_and x (word_mask i)) (bit_and y (other_mask j))
term x y i j c s lt hi hj hc hs h =
    let u = fourths 16 (x / 2 ^ i) in
    let v = fourths 15 (y / 2 ^ j) in
    let w = u * v * 2 ^ (4 * s) in
    let e : bit_and x (word_mask i) ≡ u * 2 ^ i = ap (bit_and x) (word_mask-is i hi) ∙ and-shifted_mask 16 i x in
    let f : bit_and y (other_mask j) ≡ v * 2 ^ j = ap (bit_and y) (other_mask-is j hj) ∙ and-shifted_mask 15 j y in
    let most : u * 2 ^ i < 2 ^ 64 = omega (arith, e, and_le_l x (word_mask i)) in
    ap (λ t. bit_and (t * bit_and y (other_mask j)) (wide_mask c)) e
    ∙ ap (λ t. bit_and (u * 2 ^ i * t) (wide_mask c)) f
    ∙ ap (λ t. bit_and t (wide_mask c)) (powers u v i j c (4 * s) h)
    ∙ ap (bit_and (w * 2 ^ c)) (wide_mask-is c hc)
    ∙ and-shifted_mask 32 c (w * 2 ^ c)
    ∙ ap (λ t. fourths 32 t * 2 ^ c) (shl-shr w c)
    ∙ ap (λ t. t * 2 ^ c) (sums_of (x / 2 ^ i) (y / 2 ^ j) s (let le = shr_le x i in omega arith) hs)
    ∙ sym (moved_up (carry_less 64 u v) i j c (4 * s) h)
    ∙ ap (λ t. t * 2 ^ j) (sym (left-shift 64 i u v most))
    ∙ sym (right-shift 64 j (u * 2 ^ i) v)
    ∙ ap (λ t. carry_less 64 t (v * 2 ^ j)) (sym e)
    ∙ ap (carry_less 64 (bit_and x (word_mask i))) (sym f)

-- a single bit carries nothing
single : (x y p : ℕ) → x < 2 ^ 64 → x * bit_and y (2 ^ p) ≡ carry_less 64 x (bit_and y (2 ^ p))
single x y p lt =
    let d = bit_at y p in
    let e : bit_and y (2 ^ p) ≡ d * 2 ^ p = and_pow y p in
    let f : x * (d * 2 ^ p) ≡ d * x * 2 ^ p = omega arith in
    ap (λ t. x * t) e
    ∙ f
    ∙ ap (λ t. t * 2 ^ p) (sym (right-digit 64 x d lt (bit_at-lt y p)))
    ∙ sym (right-shift 64 p x d)
    ∙ ap (carry_less 64 x) (sym e)

-- a word is the sum of what the masks take
first_word : (x : ℕ) → x < 2 ^ 64 → x ≡ four (bit_and x (word_mask 0)) (bit_and x (word_mask 1)) (bit_and x (word_mask 2)) (bit_and x (word_mask 3))
first_word x lt =
    let e : bit_and x (2 ^ 64 - 1) ≡ x = and_mask x 64 ∙ omega arith in
    sym e ∙ and-four x (word_mask 0) (word_mask 1) (word_mask 2) (word_mask 3)

other_word : (y : ℕ) → y < 2 ^ 64 → y ≡ bit_xor
    (four (bit_and y (other_mask 0)) (bit_and y (other_mask 1)) (bit_and y (other_mask 2)) (bit_and y (other_mask 3)))
    (four (bit_and y (2 ^ 60)) (bit_and y (2 ^ 61)) (bit_and y (2 ^ 62)) (bit_and y (2 ^ 63)))
other_word y lt =
    let m = four (other_mask 0) (other_mask 1) (other_mask 2) (other_mask 3) in
    let n = four (2 ^ 60) (2 ^ 61) (2 ^ 62) (2 ^ 63) in
    let e : bit_and y (2 ^ 64 - 1) ≡ y = and_mask y 64 ∙ omega arith in
    sym e
    ∙ and-xor y m n
    ∙ ap (λ t. bit_xor t (bit_and y n)) (and-four y (other_mask 0) (other_mask 1) (other_mask 2) (other_mask 3))
    ∙ ap (bit_xor (four (bit_and y (other_mask 0)) (bit_and y (other_mask 1)) (bit_and y (other_mask 2)) (bit_and y (other_mask 3))))
    (and-four y (2 ^ 60) (2 ^ 61) (2 ^ 62) (2 ^ 63))

-- what is taken of both words, and what the code adds along one diagonal
abbrev pub xs : ℕ → ℕ → ℕ
xs x i = bit_and x (word_mask i)

abbrev pub ys : ℕ → ℕ → ℕ
ys y j = bit_and y (other_mask j)

abbrev pub sums : ℕ → ℕ → ℕ → ℕ → ℕ → ℕ → ℕ → ℕ
sums x y i j k l c = bit_and (four (xs x 0 * ys y i) (xs x 1 * ys y j) (xs x 2 * ys y k) (xs x 3 * ys y l)) (wide_mask c)

module _ (x y : ℕ) (lt : x < 2 ^ 64) (less : y < 2 ^ 64) where
  each : ℕ → ℕ → ℕ
  each i j = carry_less 64 (xs x i) (ys y j)

  one : (i j c s : ℕ) → i < 4 → j < 4 → c < 4 → s < 2 → i + j ≡ c + 4 * s → bit_and (xs x i * ys y j) (wide_mask c) ≡ each i j
  unfolding each
  one i j c s = term x y i j c s lt

  along : (i j k l c : ℕ) (p q r s : ℕ) → i < 4 → j < 4 → k < 4 → l < 4 → c < 4 → p < 2 → q < 2 → r < 2 → s < 2 →
      0 + i ≡ c + 4 * p → 1 + j ≡ c + 4 * q → 2 + k ≡ c + 4 * r → 3 + l ≡ c + 4 * s →
      sums x y i j k l c ≡ four (each 0 i) (each 1 j) (each 2 k) (each 3 l)
  along i j k l c p q r s hi hj hk hl hc hp hq hr hs e f g h =
      four-and (xs x 0 * ys y i) (xs x 1 * ys y j) (xs x 2 * ys y k) (xs x 3 * ys y l) (wide_mask c) (each 0 i) (each 1 j) (each 2 k) (each 3 l)
      (one 0 i c p (omega arith) hi hc hp e)
      (one 1 j c q (omega arith) hj hc hq f)
      (one 2 k c r (omega arith) hk hc hr g)
      (one 3 l c s (omega arith) hl hc hs h)

  row_of : (i : ℕ) → four (each i 0) (each i 1) (each i 2) (each i 3) ≡ carry_less 64 (xs x i) (four (ys y 0) (ys y 1) (ys y 2) (ys y 3))
  unfolding each
  row_of i = sym (right-four 64 (xs x i) (ys y 0) (ys y 1) (ys y 2) (ys y 3))

  last : four (x * bit_and y (2 ^ 60)) (x * bit_and y (2 ^ 61)) (x * bit_and y (2 ^ 62)) (x * bit_and y (2 ^ 63))
      ≡ carry_less 64 x (four (bit_and y (2 ^ 60)) (bit_and y (2 ^ 61)) (bit_and y (2 ^ 62)) (bit_and y (2 ^ 63)))
  last =
      same-four
      (x * bit_and y (2 ^ 60)) (x * bit_and y (2 ^ 61)) (x * bit_and y (2 ^ 62)) (x * bit_and y (2 ^ 63))
      (carry_less 64 x (bit_and y (2 ^ 60))) (carry_less 64 x (bit_and y (2 ^ 61))) (carry_less 64 x (bit_and y (2 ^ 62))) (carry_less 64 x (bit_and y (2 ^ 63)))
      (single x y 60 lt) (single x y 61 lt) (single x y 62 lt) (single x y 63 lt)
      ∙ sym (right-four 64 x (bit_and y (2 ^ 60)) (bit_and y (2 ^ 61)) (bit_and y (2 ^ 62)) (bit_and y (2 ^ 63)))

  -- the whole
  pub by_fourths : bit_xor
      (four (sums x y 0 3 2 1 0) (sums x y 1 0 3 2 1) (sums x y 2 1 0 3 2) (sums x y 3 2 1 0 3))
      (four (x * bit_and y (2 ^ 60)) (x * bit_and y (2 ^ 61)) (x * bit_and y (2 ^ 62)) (x * bit_and y (2 ^ 63)))
      ≡ carry_less 64 x y
  by_fourths =
      let m = four (ys y 0) (ys y 1) (ys y 2) (ys y 3) in
      let n = four (bit_and y (2 ^ 60)) (bit_and y (2 ^ 61)) (bit_and y (2 ^ 62)) (bit_and y (2 ^ 63)) in
      let small : 0 < 2 = omega arith in
      let most : 1 < 2 = omega arith in
      let zeroth : 0 < 4 = omega arith in
      let first : 1 < 4 = omega arith in
      let second : 2 < 4 = omega arith in
      let third : 3 < 4 = omega arith in
      let d0 = along 0 3 2 1 0 0 1 1 1 zeroth third second first zeroth small most most most refl refl refl refl in
      let d1 = along 1 0 3 2 1 0 0 1 1 first zeroth third second first small small most most refl refl refl refl in
      let d2 = along 2 1 0 3 2 0 0 0 1 second first zeroth third second small small small most refl refl refl refl in
      let d3 = along 3 2 1 0 3 0 0 0 0 third second first zeroth third small small small small refl refl refl refl in
      ap (bit_xor (four (sums x y 0 3 2 1 0) (sums x y 1 0 3 2 1) (sums x y 2 1 0 3 2) (sums x y 3 2 1 0 3))) last
      ∙ ap (λ t. bit_xor t (carry_less 64 x n))
      (same-four
      (sums x y 0 3 2 1 0) (sums x y 1 0 3 2 1) (sums x y 2 1 0 3 2) (sums x y 3 2 1 0 3)
      (four (each 0 0) (each 1 3) (each 2 2) (each 3 1)) (four (each 0 1) (each 1 0) (each 2 3) (each 3 2))
      (four (each 0 2) (each 1 1) (each 2 0) (each 3 3)) (four (each 0 3) (each 1 2) (each 2 1) (each 3 0))
      d0 d1 d2 d3
      ∙ diagonals each
      ∙ same-four
      (four (each 0 0) (each 0 1) (each 0 2) (each 0 3)) (four (each 1 0) (each 1 1) (each 1 2) (each 1 3))
      (four (each 2 0) (each 2 1) (each 2 2) (each 2 3)) (four (each 3 0) (each 3 1) (each 3 2) (each 3 3))
      (carry_less 64 (xs x 0) m) (carry_less 64 (xs x 1) m) (carry_less 64 (xs x 2) m) (carry_less 64 (xs x 3) m)
      (row_of 0) (row_of 1) (row_of 2) (row_of 3)
      ∙ sym (left-four 64 (xs x 0) (xs x 1) (xs x 2) (xs x 3) m)
      ∙ ap (λ t. carry_less 64 t m) (sym (first_word x lt)))
      ∙ sym (right-xor 64 x m n)
      ∙ ap (carry_less 64 x) (sym (other_word y less))
