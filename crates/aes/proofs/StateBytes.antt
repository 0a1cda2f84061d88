-- States as four numbers, byte by byte.
use Rattle.std.proofs.Common.{◌≡◌, ℕ, ◌+◌, ◌*◌, ◌/◌, ◌%◌, ◌^◌, ◌<◌, List, [], ◌∷◌, ◌++◌, get_or, length, refl, ap, sym, ◌∙◌, arith}
use Rattle.std.specs.Prelude.{map}
use Rattle.std.specs.List.{range_with_len}
use Rattle.std.proofs.lemmas.Nat.{shr-shr, field_of}
use Rattle.std.proofs.lemmas.List.FromFn.{fill_by_all}
use Rattle.std.proofs.Math.Pow.{mod-mod-pow}
use lib.Bits.{bit_xor, xor_shr, xor_mod}
use Rattle.byteorder.specs.Endian.{big_bytes, big_number}
use Rattle.aes.specs.Cipher.{sub_bytes, shift_rows, mix_columns, mixed, add_round_key}
use Rattle.aes.specs.Tables.{column}
use Rattle.aes.specs.Words.{block_bytes, bytes_of}
use Rattle.aes.specs.declared.columns.Columns.{Columns}
use Rattle.aes.proofs.ColumnSums.{big_bytes-column}

joined : (a b c d e f g h : List ℕ) → a ≡ e → b ≡ f → c ≡ g → d ≡ h → a ++ b ++ c ++ d ≡ e ++ f ++ g ++ h
joined a b c d e f g h p q r s = rw (p, q, r, s) refl

-- the byte at bit k of a sum
byte-xor : (a b k : ℕ) → bit_xor a b / 2 ^ k % 2 ^ 8 ≡ bit_xor (a / 2 ^ k % 2 ^ 8) (b / 2 ^ k % 2 ^ 8)
byte-xor a b k = ap (λ (t : ℕ). t % 2 ^ 8) (xor_shr a b k) ∙ xor_mod (a / 2 ^ k) (b / 2 ^ k) 8

-- the bytes of two numbers, added
sums : ℕ → ℕ → List ℕ
sums a b = map (λ (i : ℕ). bit_xor (get_or (big_bytes 4 a) i 0) (get_or (big_bytes 4 b) i 0)) (range_with_len 0 4)

big_bytes-xor : (a b : ℕ) → big_bytes 4 (bit_xor a b) ≡ sums a b
unfolding sums
big_bytes-xor a b =
    let x = bit_xor a b in
    let s = λ (k : ℕ). bit_xor (a / 2 ^ k % 256) (b / 2 ^ k % 256) in
    ap (λ (t : ℕ). t ∷ x / 2 ^ 16 % 256 ∷ x / 2 ^ 8 % 256 ∷ x % 256 ∷ []) (byte-xor a b 24)
    ∙ ap (λ (t : ℕ). s 24 ∷ t ∷ x / 2 ^ 8 % 256 ∷ x % 256 ∷ []) (byte-xor a b 16)
    ∙ ap (λ (t : ℕ). s 24 ∷ s 16 ∷ t ∷ x % 256 ∷ []) (byte-xor a b 8)
    ∙ ap (λ (t : ℕ). s 24 ∷ s 16 ∷ s 8 ∷ t ∷ []) (xor_mod a b 8)

pub add-bytes : (s k : Columns) → bytes_of (record { first = bit_xor s.first k.first; second = bit_xor s.second k.second; third = bit_xor s.third k.third; fourth = bit_xor s.fourth k.fourth }) ≡ add_round_key (bytes_of s) (bytes_of k)
unfolding bytes_of sums
add-bytes s k =
    joined (big_bytes 4 (bit_xor s.first k.first)) (big_bytes 4 (bit_xor s.second k.second)) (big_bytes 4 (bit_xor s.third k.third)) (big_bytes 4 (bit_xor s.fourth k.fourth))
    (sums s.first k.first) (sums s.second k.second) (sums s.third k.third) (sums s.fourth k.fourth)
    (big_bytes-xor s.first k.first) (big_bytes-xor s.second k.second) (big_bytes-xor s.third k.third) (big_bytes-xor s.fourth k.fourth)

-- one byte of each of four numbers, the highest of the first, the next of the second and so on
abbrev pub diagonal : ℕ → ℕ → ℕ → ℕ → List ℕ
diagonal a b c d = get_or (big_bytes 4 a) 0 0 ∷ get_or (big_bytes 4 b) 1 0 ∷ get_or (big_bytes 4 c) 2 0 ∷ get_or (big_bytes 4 d) 3 0 ∷ []

-- the column that SubBytes and MixColumns make of four bytes
abbrev pub mixed_column : List ℕ → List ℕ
mixed_column bytes = map (mixed (sub_bytes bytes)) (range_with_len 0 4)

-- a round without its key
pub round-bytes : (s : Columns) (m n o p : ℕ) →
    big_bytes 4 m ≡ mixed_column (diagonal s.first s.second s.third s.fourth) →
    big_bytes 4 n ≡ mixed_column (diagonal s.second s.third s.fourth s.first) →
    big_bytes 4 o ≡ mixed_column (diagonal s.third s.fourth s.first s.second) →
    big_bytes 4 p ≡ mixed_column (diagonal s.fourth s.first s.second s.third) →
    bytes_of (record { first = m; second = n; third = o; fourth = p }) ≡ mix_columns (shift_rows (sub_bytes (bytes_of s)))
unfolding bytes_of
round-bytes s m n o p =
    joined (big_bytes 4 m) (big_bytes 4 n) (big_bytes 4 o) (big_bytes 4 p)
    (mixed_column (diagonal s.first s.second s.third s.fourth)) (mixed_column (diagonal s.second s.third s.fourth s.first))
    (mixed_column (diagonal s.third s.fourth s.first s.second)) (mixed_column (diagonal s.fourth s.first s.second s.third))

-- the last round without its key
pub last_round-bytes : (s : Columns) (m n o p : ℕ) →
    big_bytes 4 m ≡ sub_bytes (diagonal s.first s.second s.third s.fourth) →
    big_bytes 4 n ≡ sub_bytes (diagonal s.second s.third s.fourth s.first) →
    big_bytes 4 o ≡ sub_bytes (diagonal s.third s.fourth s.first s.second) →
    big_bytes 4 p ≡ sub_bytes (diagonal s.fourth s.first s.second s.third) →
    bytes_of (record { first = m; second = n; third = o; fourth = p }) ≡ shift_rows (sub_bytes (bytes_of s))
unfolding bytes_of
last_round-bytes s m n o p =
    joined (big_bytes 4 m) (big_bytes 4 n) (big_bytes 4 o) (big_bytes 4 p)
    (sub_bytes (diagonal s.first s.second s.third s.fourth)) (sub_bytes (diagonal s.second s.third s.fourth s.first))
    (sub_bytes (diagonal s.third s.fourth s.first s.second)) (sub_bytes (diagonal s.fourth s.first s.second s.third))

-- a byte of the lowest 32 bits of a number
byte_below : (y i k : ℕ) → i + 8 + k ≡ 32 → y % 2 ^ 32 / 2 ^ k % 2 ^ 8 ≡ y / 2 ^ k % 2 ^ 8
byte_below y i k e =
    ap (λ (n : ℕ). y % 2 ^ n / 2 ^ k % 2 ^ 8) (sym e)
    ∙ ap (λ (t : ℕ). t % 2 ^ 8) (field_of y (i + 8) k)
    ∙ mod-mod-pow (y / 2 ^ k) i 8

-- four elements, each equal to another
four_equal : (a b c d e f g h : ℕ) → a ≡ e → b ≡ f → c ≡ g → d ≡ h → a ∷ b ∷ c ∷ d ∷ [] ≡ e ∷ f ∷ g ∷ h ∷ []
four_equal a b c d e f g h p q r s = rw (p, q, r, s) refl

pub big_bytes-low : (y : ℕ) → big_bytes 4 (y % 2 ^ 32) ≡ big_bytes 4 y
big_bytes-low y =
    four_equal (y % 2 ^ 32 / 2 ^ 24 % 2 ^ 8) (y % 2 ^ 32 / 2 ^ 16 % 2 ^ 8) (y % 2 ^ 32 / 2 ^ 8 % 2 ^ 8) (y % 2 ^ 32 % 2 ^ 8)
    (y / 2 ^ 24 % 2 ^ 8) (y / 2 ^ 16 % 2 ^ 8) (y / 2 ^ 8 % 2 ^ 8) (y % 2 ^ 8)
    (byte_below y 0 24 refl) (byte_below y 8 16 refl) (byte_below y 16 8 refl) (mod-mod-pow y 24 8)

-- four bytes of a number from bit k on
bytes_from : ℕ → ℕ → List ℕ
bytes_from x k = x / 2 ^ (k + 24) % 2 ^ 8 ∷ x / 2 ^ (k + 16) % 2 ^ 8 ∷ x / 2 ^ (k + 8) % 2 ^ 8 ∷ x / 2 ^ k % 2 ^ 8 ∷ []

bytes_from-word : (x k : ℕ) → bytes_from x k ≡ big_bytes 4 (x / 2 ^ k)
unfolding bytes_from
bytes_from-word x k =
    let y = x / 2 ^ k in
    four_equal (x / 2 ^ (k + 24) % 2 ^ 8) (x / 2 ^ (k + 16) % 2 ^ 8) (x / 2 ^ (k + 8) % 2 ^ 8) (y % 2 ^ 8)
    (y / 2 ^ 24 % 2 ^ 8) (y / 2 ^ 16 % 2 ^ 8) (y / 2 ^ 8 % 2 ^ 8) (y % 2 ^ 8)
    (ap (λ (t : ℕ). t % 2 ^ 8) (sym (shr-shr x k 24))) (ap (λ (t : ℕ). t % 2 ^ 8) (sym (shr-shr x k 16))) (ap (λ (t : ℕ). t % 2 ^ 8) (sym (shr-shr x k 8))) refl

-- a block as four numbers
pub block-bytes : (x : ℕ) → bytes_of (record { first = x / 2 ^ 96; second = x / 2 ^ 64 % 2 ^ 32; third = x / 2 ^ 32 % 2 ^ 32; fourth = x % 2 ^ 32 }) ≡ block_bytes x
unfolding block_bytes bytes_of bytes_from
block-bytes x =
    joined (big_bytes 4 (x / 2 ^ 96)) (big_bytes 4 (x / 2 ^ 64 % 2 ^ 32)) (big_bytes 4 (x / 2 ^ 32 % 2 ^ 32)) (big_bytes 4 (x % 2 ^ 32))
    (bytes_from x 96) (bytes_from x 64) (bytes_from x 32) (big_bytes 4 x)
    (sym (bytes_from-word x 96)) (big_bytes-low (x / 2 ^ 64) ∙ sym (bytes_from-word x 64)) (big_bytes-low (x / 2 ^ 32) ∙ sym (bytes_from-word x 32)) (big_bytes-low x)

-- four numbers as a block
pub number-bytes : (s : Columns) → s.first < 2 ^ 32 → s.second < 2 ^ 32 → s.third < 2 ^ 32 → s.fourth < 2 ^ 32 →
    block_bytes (s.first * 2 ^ 96 + s.second * 2 ^ 64 + s.third * 2 ^ 32 + s.fourth) ≡ bytes_of s
unfolding bytes_of
number-bytes s h0 h1 h2 h3 =
    let x = s.first * 2 ^ 96 + s.second * 2 ^ 64 + s.third * 2 ^ 32 + s.fourth in
    let e0 : x / 2 ^ 96 ≡ s.first = omega arith in
    let e1 : x / 2 ^ 64 % 2 ^ 32 ≡ s.second = omega arith in
    let e2 : x / 2 ^ 32 % 2 ^ 32 ≡ s.third = omega arith in
    let e3 : x % 2 ^ 32 ≡ s.fourth = omega arith in
    sym (block-bytes x)
    ∙ joined (big_bytes 4 (x / 2 ^ 96)) (big_bytes 4 (x / 2 ^ 64 % 2 ^ 32)) (big_bytes 4 (x / 2 ^ 32 % 2 ^ 32)) (big_bytes 4 (x % 2 ^ 32))
    (big_bytes 4 s.first) (big_bytes 4 s.second) (big_bytes 4 s.third) (big_bytes 4 s.fourth)
    (ap (big_bytes 4) e0) (ap (big_bytes 4) e1) (ap (big_bytes 4) e2) (ap (big_bytes 4) e3)

-- the number of 16 bytes has these bytes
pub block_bytes-big_number : (xs : List ℕ) → length xs ≡ 16 → ((i : ℕ) → get_or xs i 0 < 256) → block_bytes (big_number 16 xs) ≡ xs
unfolding bytes_of
block_bytes-big_number xs long h =
    let at = λ (k : ℕ). get_or xs k 0 in
    let word : ℕ → ℕ = λ k. column (at k) (at (k + 1)) (at (k + 2)) (at (k + 3)) in
    let s : Columns = record { first = word 0; second = word 4; third = word 8; fourth = word 12 } in
    let e : big_number 16 xs ≡ word 0 * 2 ^ 96 + word 4 * 2 ^ 64 + word 8 * 2 ^ 32 + word 12 = omega arith in
    ap block_bytes e
    ∙ number-bytes s (omega (arith, h 0, h 1, h 2, h 3)) (omega (arith, h 4, h 5, h 6, h 7)) (omega (arith, h 8, h 9, h 10, h 11)) (omega (arith, h 12, h 13, h 14, h 15))
    ∙ joined (big_bytes 4 (word 0)) (big_bytes 4 (word 4)) (big_bytes 4 (word 8)) (big_bytes 4 (word 12))
    (at 0 ∷ at 1 ∷ at 2 ∷ at 3 ∷ []) (at 4 ∷ at 5 ∷ at 6 ∷ at 7 ∷ []) (at 8 ∷ at 9 ∷ at 10 ∷ at 11 ∷ []) (at 12 ∷ at 13 ∷ at 14 ∷ at 15 ∷ [])
    (big_bytes-column (at 0) (at 1) (at 2) (at 3) (h 0) (h 1) (h 2) (h 3)) (big_bytes-column (at 4) (at 5) (at 6) (at 7) (h 4) (h 5) (h 6) (h 7))
    (big_bytes-column (at 8) (at 9) (at 10) (at 11) (h 8) (h 9) (h 10) (h 11)) (big_bytes-column (at 12) (at 13) (at 14) (at 15) (h 12) (h 13) (h 14) (h 15))
    ∙ sym (fill_by_all at xs 16 0 long (λ k _. refl))
