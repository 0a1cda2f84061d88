-- Blocks as numbers.
use Rattle.std.proofs.Common.{◌≡◌, ℕ, ◌+◌, ◌-◌, ◌*◌, ◌/◌, ◌%◌, ◌^◌, ◌<◌, ◌≤◌, zero, suc, List, [], ◌∷◌, ◌++◌, length, get_or, take, drop, refl, ap, sym, ◌∙◌, arith}
use Rattle.std.specs.Prelude.{replicate}
use Rattle.std.proofs.Math.Pow.{mod-mod-pow}
use Rattle.std.proofs.lemmas.Nat.{shr-shr, field_of}
use Rattle.std.proofs.lemmas.List.FromFn.{fill_by_all, get_or-map-range_with_len}
use lib.Bits.{bit_xor, xor_shr, xor_mod}
use Rattle.byteorder.specs.Endian.{big_bytes, big_number}
use Rattle.byteorder.specs.Numbers.{big_number-reads_back}
use Rattle.aes.specs.Tables.{column}
use Rattle.aes.specs.Words.{block_bytes}
use Rattle.aes.specs.declared.columns.Columns.{Columns}
use Rattle.aes.specs.Words.{bytes_of}
use Rattle.aes.proofs.ColumnSums.{big_bytes-column}
use Rattle.aes.proofs.StateBytes.{number-bytes}
use Rattle.ghash.specs.Hash.{block_number}
use Rattle.aes_gcm.specs.Gcm.{stream_block}
use Rattle.aes_gcm.specs.Behind.{crypted_behind}

-- a block is the number of its bytes
pub number_of_bytes : (x : ℕ) (bytes : List ℕ) → x < 2 ^ 128 → block_bytes x ≡ bytes → x ≡ block_number bytes
unfolding block_bytes block_number
number_of_bytes x bytes lt e = sym (big_number-reads_back 16 x [] lt) ∙ ap (big_number 16) e

pub zero_bytes : block_bytes 0 ≡ replicate 16 0
unfolding block_bytes
zero_bytes = refl

-- byte k of a block
byte_of_block : (x k : ℕ) → k < 16 → get_or (block_bytes x) k 0 ≡ x / 2 ^ (120 - 8 * k) % 2 ^ 8
unfolding block_bytes
byte_of_block x k lt =
    let e : x ≡ x / 2 ^ 0 = omega arith in
    ap (λ (t : ℕ). get_or (x / 2 ^ 120 % 2 ^ 8 ∷ x / 2 ^ 112 % 2 ^ 8 ∷ x / 2 ^ 104 % 2 ^ 8 ∷ x / 2 ^ 96 % 2 ^ 8 ∷ x / 2 ^ 88 % 2 ^ 8 ∷ x / 2 ^ 80 % 2 ^ 8 ∷ x / 2 ^ 72 % 2 ^ 8 ∷ x / 2 ^ 64 % 2 ^ 8 ∷ x / 2 ^ 56 % 2 ^ 8 ∷ x / 2 ^ 48 % 2 ^ 8 ∷ x / 2 ^ 40 % 2 ^ 8 ∷ x / 2 ^ 32 % 2 ^ 8 ∷ x / 2 ^ 24 % 2 ^ 8 ∷ x / 2 ^ 16 % 2 ^ 8 ∷ x / 2 ^ 8 % 2 ^ 8 ∷ t % 2 ^ 8 ∷ []) k 0) e
    ∙ get_or-map-range_with_len (λ (i : ℕ). x / 2 ^ (120 - 8 * i) % 2 ^ 8) 0 16 k k 0 lt (omega arith)

-- byte k of half a block
byte_of_half : (x k : ℕ) → k < 8 → get_or (big_bytes 8 x) k 0 ≡ x / 2 ^ (56 - 8 * k) % 2 ^ 8
byte_of_half x k lt =
    let e : x ≡ x / 2 ^ 0 = omega arith in
    ap (λ (t : ℕ). get_or (x / 2 ^ 56 % 2 ^ 8 ∷ x / 2 ^ 48 % 2 ^ 8 ∷ x / 2 ^ 40 % 2 ^ 8 ∷ x / 2 ^ 32 % 2 ^ 8 ∷ x / 2 ^ 24 % 2 ^ 8 ∷ x / 2 ^ 16 % 2 ^ 8 ∷ x / 2 ^ 8 % 2 ^ 8 ∷ t % 2 ^ 8 ∷ []) k 0) e
    ∙ get_or-map-range_with_len (λ (i : ℕ). x / 2 ^ (56 - 8 * i) % 2 ^ 8) 0 8 k k 0 lt (omega arith)

byte_of_number : (xs : List ℕ) (k : ℕ) → ((i : ℕ) → get_or xs i 0 < 256) → k < 8 → big_number 8 xs / 2 ^ (56 - 8 * k) % 2 ^ 8 ≡ get_or xs k 0
byte_of_number xs zero h _ = omega (arith, h 0, h 1, h 2, h 3, h 4, h 5, h 6, h 7)
byte_of_number xs (suc zero) h _ = omega (arith, h 0, h 1, h 2, h 3, h 4, h 5, h 6, h 7)
byte_of_number xs (suc (suc zero)) h _ = omega (arith, h 0, h 1, h 2, h 3, h 4, h 5, h 6, h 7)
byte_of_number xs (suc (suc (suc zero))) h _ = omega (arith, h 0, h 1, h 2, h 3, h 4, h 5, h 6, h 7)
byte_of_number xs (suc (suc (suc (suc zero)))) h _ = omega (arith, h 0, h 1, h 2, h 3, h 4, h 5, h 6, h 7)
byte_of_number xs (suc (suc (suc (suc (suc zero))))) h _ = omega (arith, h 0, h 1, h 2, h 3, h 4, h 5, h 6, h 7)
byte_of_number xs (suc (suc (suc (suc (suc (suc zero)))))) h _ = omega (arith, h 0, h 1, h 2, h 3, h 4, h 5, h 6, h 7)
byte_of_number xs (suc (suc (suc (suc (suc (suc (suc zero))))))) h _ = omega (arith, h 0, h 1, h 2, h 3, h 4, h 5, h 6, h 7)
byte_of_number xs (suc (suc (suc (suc (suc (suc (suc (suc k)))))))) h lt = absurd (omega arith)

-- eight bytes xored with half a block of the key stream
pub masked_half : (old : List ℕ) (s k : ℕ) → ((i : ℕ) → get_or old i 0 < 256) → k < 8 →
    get_or (big_bytes 8 (bit_xor (big_number 8 old) s)) k 0 ≡ bit_xor (get_or old k 0) (get_or (big_bytes 8 s) k 0)
masked_half old s k h lt =
    let m = 56 - 8 * k in
    byte_of_half (bit_xor (big_number 8 old) s) k lt
    ∙ ap (λ (t : ℕ). t % 2 ^ 8) (xor_shr (big_number 8 old) s m)
    ∙ xor_mod (big_number 8 old / 2 ^ m) (s / 2 ^ m) 8
    ∙ ap (λ (t : ℕ). bit_xor t (s / 2 ^ m % 2 ^ 8)) (byte_of_number old k h lt)
    ∙ ap (bit_xor (get_or old k 0)) (sym (byte_of_half s k lt))

-- the bytes of both halves of a block
pub upper_byte : (x k : ℕ) → k < 8 → get_or (big_bytes 8 (x / 2 ^ 64)) k 0 ≡ get_or (block_bytes x) k 0
upper_byte x k lt =
    let e : 64 + (56 - 8 * k) ≡ 120 - 8 * k = omega arith in
    byte_of_half (x / 2 ^ 64) k lt
    ∙ ap (λ (t : ℕ). t % 2 ^ 8) (shr-shr x 64 (56 - 8 * k))
    ∙ ap (λ (t : ℕ). x / 2 ^ t % 2 ^ 8) e
    ∙ sym (byte_of_block x k (omega arith))

pub lower_byte : (x k : ℕ) → 8 ≤ k → k < 16 → get_or (big_bytes 8 (x % 2 ^ 64)) (k - 8) 0 ≡ get_or (block_bytes x) k 0
lower_byte x k more lt =
    let m = 120 - 8 * k in
    let e : 56 - 8 * (k - 8) ≡ m = omega arith in
    let f : 64 ≡ 8 * (k - 8) + 8 + m = omega arith in
    byte_of_half (x % 2 ^ 64) (k - 8) (omega arith)
    ∙ ap (λ (t : ℕ). x % 2 ^ 64 / 2 ^ t % 2 ^ 8) e
    ∙ ap (λ (t : ℕ). x % 2 ^ t / 2 ^ m % 2 ^ 8) f
    ∙ ap (λ (t : ℕ). t % 2 ^ 8) (field_of x (8 * (k - 8) + 8) m)
    ∙ mod-mod-pow (x / 2 ^ m) (8 * (k - 8)) 8
    ∙ sym (byte_of_block x k lt)

-- the bytes of an IV and a counter
pub counter_bytes : (iv : List ℕ) (counter : ℕ) → length iv ≡ 12 → ((i : ℕ) → get_or iv i 0 < 256) → counter < 2 ^ 32 →
    block_bytes (big_number 8 (take 8 iv) * 2 ^ 64 + big_number 4 (drop 8 iv) * 2 ^ 32 + counter) ≡ iv ++ big_bytes 4 counter
unfolding bytes_of
counter_bytes iv counter long h lt =
    let at = λ (k : ℕ). get_or iv k 0 in
    let whole = at 0 ∷ at 1 ∷ at 2 ∷ at 3 ∷ at 4 ∷ at 5 ∷ at 6 ∷ at 7 ∷ at 8 ∷ at 9 ∷ at 10 ∷ at 11 ∷ [] in
    let e : iv ≡ whole = fill_by_all at iv 12 0 long (λ k _. refl) in
    let a = column (at 0) (at 1) (at 2) (at 3) in
    let b = column (at 4) (at 5) (at 6) (at 7) in
    let d = column (at 8) (at 9) (at 10) (at 11) in
    let s : Columns = record { first = a; second = b; third = d; fourth = counter } in
    let same : big_number 8 (take 8 whole) * 2 ^ 64 + big_number 4 (drop 8 whole) * 2 ^ 32 + counter ≡ a * 2 ^ 96 + b * 2 ^ 64 + d * 2 ^ 32 + counter = omega arith in
    ap (λ (t : List ℕ). block_bytes (big_number 8 (take 8 t) * 2 ^ 64 + big_number 4 (drop 8 t) * 2 ^ 32 + counter)) e
    ∙ ap block_bytes same
    ∙ number-bytes s (omega (arith, h 0, h 1, h 2, h 3)) (omega (arith, h 4, h 5, h 6, h 7)) (omega (arith, h 8, h 9, h 10, h 11)) lt
    ∙ ap (λ (t : List ℕ). t ++ big_bytes 4 b ++ big_bytes 4 d ++ big_bytes 4 counter) (big_bytes-column (at 0) (at 1) (at 2) (at 3) (h 0) (h 1) (h 2) (h 3))
    ∙ ap (λ (t : List ℕ). at 0 ∷ at 1 ∷ at 2 ∷ at 3 ∷ t ++ big_bytes 4 d ++ big_bytes 4 counter) (big_bytes-column (at 4) (at 5) (at 6) (at 7) (h 4) (h 5) (h 6) (h 7))
    ∙ ap (λ (t : List ℕ). at 0 ∷ at 1 ∷ at 2 ∷ at 3 ∷ at 4 ∷ at 5 ∷ at 6 ∷ at 7 ∷ t ++ big_bytes 4 counter) (big_bytes-column (at 8) (at 9) (at 10) (at 11) (h 8) (h 9) (h 10) (h 11))
    ∙ ap (λ (t : List ℕ). t ++ big_bytes 4 counter) (sym e)

-- a byte of a text behind its whole blocks
pub crypted_at : (key iv text stream : List ℕ) (first n i x : ℕ) → stream ≡ stream_block key iv (first + n + 2) → x ≡ get_or text i 0 → i / 16 ≡ n →
    bit_xor x (get_or stream (i - 16 * n) 0) ≡ crypted_behind first key iv text i
crypted_at key iv text stream first n i x e f g =
    let place : i - 16 * n ≡ i % 16 = omega arith in
    ap (λ (t : ℕ). bit_xor t (get_or stream (i - 16 * n) 0)) f
    ∙ ap (λ (t : List ℕ). bit_xor (get_or text i 0) (get_or t (i - 16 * n) 0)) e
    ∙ ap (λ (t : ℕ). bit_xor (get_or text i 0) (get_or (stream_block key iv (first + n + 2)) t 0)) place
    ∙ ap (λ (t : ℕ). bit_xor (get_or text i 0) (get_or (stream_block key iv (first + t + 2)) (i % 16) 0)) (sym g)
