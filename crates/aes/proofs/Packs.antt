-- Blocks by slices: each bit stands where it should, by computing from which bit each comes.
use Rattle.std.proofs.Common.{◌≡◌, ℕ, zero, suc, ◌+◌, ◌-◌, ◌*◌, ◌/◌, ◌%◌, ◌^◌, ◌<◌, List, [], ◌∷◌, get_or, refl, ap, sym, ◌∙◌, arith, inl, inr, add-zero}
use Rattle.std.specs.Prelude.{map}
use Rattle.std.specs.Int.{bit_at}
use Rattle.std.specs.List.{range_with_len}
use Rattle.std.proofs.lemmas.Nat.{shr-shr, field_of}
use Rattle.std.proofs.lemmas.Nat.Bits.{bit_at_cat_low, bit_at_cat_high}
use native.Mathlib.Nat.{div-one}
use Rattle.std.proofs.lemmas.Bool.{cases_lt}
use Rattle.std.proofs.Math.Pow.{mod-mod-pow}
use Rattle.aes.specs.Words.{block_bytes}
use Rattle.aes.specs.Slices.{byte_at, place, block_at, spread_place, gathered_place}
use Rattle.aes.specs.declared.slices.Slices.{Slices}
use Rattle.aes.proofs.BitsAt.{bits_of, bits_at, byte_at-lt, same_by_bits, eight}
use Rattle.aes.proofs.Sources.{Word, Input, Right, Left, Masked, Sum, value, sources, toggle, merged, bit_in, taken_at, value-lt}
use Rattle.aes.proofs.Mixes.{same_blocks}

-- each of the first four numbers
pub below_four : (P : ℕ → Type 0) → P 0 → P 1 → P 2 → P 3 → (j : ℕ) → j < 4 → P j
below_four P a b c d zero lt = a
below_four P a b c d (suc zero) lt = b
below_four P a b c d (suc (suc zero)) lt = c
below_four P a b c d (suc (suc (suc zero))) lt = d
below_four P a b c d (suc (suc (suc (suc j)))) lt = absurd (omega arith)

pub low_bit : (y n p : ℕ) → p < n → bit_at (y % 2 ^ n) p ≡ bit_at y p
low_bit y n p lt =
    let e : n - p - 1 + 1 + p ≡ n = omega arith in
    ap (λ (m : ℕ). y % 2 ^ m / 2 ^ p % 2) (sym e)
    ∙ ap (λ (t : ℕ). t % 2) (field_of y (n - p - 1 + 1) p)
    ∙ mod-mod-pow (y / 2 ^ p) (n - p - 1) 1

-- the two halves of a block
unfoldable pub halves : ℕ → List ℕ
halves x = x % 2 ^ 64 ∷ x / 2 ^ 64 ∷ []

halves-lt : (x : ℕ) → x < 2 ^ 128 → (n : ℕ) → get_or (halves x) n 0 < 2 ^ 64
unfolding halves
halves-lt x h zero = omega arith
halves-lt x h (suc zero) = omega arith
halves-lt x h (suc (suc n)) = omega arith

in_halves : (x n : ℕ) → n < 128 → bit_in (halves x) n ≡ bit_at x n
unfolding halves
in_halves x n lt = elim (cases_lt n 64) [
  | inl h ↦ (let q : n / 64 ≡ 0 = omega arith in
      let r : n % 64 ≡ n = omega arith in
      ap (λ (t : ℕ). bit_at (get_or (x % 2 ^ 64 ∷ x / 2 ^ 64 ∷ []) t 0) (n % 64)) q ∙ ap (bit_at (x % 2 ^ 64)) r ∙ low_bit x 64 n h)
  | inr h ↦ (let q : n / 64 ≡ 1 = omega arith in
      let r : 64 + n % 64 ≡ n = omega arith in
      ap (λ (t : ℕ). bit_at (get_or (x % 2 ^ 64 ∷ x / 2 ^ 64 ∷ []) t 0) (n % 64)) q ∙ ap (λ (t : ℕ). t % 2) (shr-shr x 64 (n % 64)) ∙ ap (bit_at x) r)
]

unfoldable pub spread_words : Word × Word
spread_words =
    let d0 = Masked 0x00ff00ff00ff00ff (Sum (Right 8 (Input 0)) (Input 1)) in
    let h0 = Sum (Input 1) d0 in
    let l0 = Sum (Input 0) (Left 8 d0) in
    let d1 = Masked 0x0000ffff0000ffff (Sum (Right 16 l0) h0) in
    let h1 = Sum h0 d1 in
    let l1 = Sum l0 (Left 16 d1) in
    let d2 = Masked 0x00000000ffffffff (Sum (Right 32 l1) h1) in
    let h2 = Sum h1 d2 in
    let l2 = Sum l1 (Left 32 d2) in
    let d3 = Masked 0x0f0f0f0f0f0f0f0f (Sum (Right 4 l2) h2) in
    let h3 = Sum h2 d3 in
    let l3 = Sum l2 (Left 4 d3) in
    (l3, h3)

spread_sources : map (sources spread_words.0) (range_with_len 0 64) ≡ map (λ (p : ℕ). spread_place p ∷ []) (range_with_len 0 64)
unfolding spread_words sources toggle merged
spread_sources = refl

spread_sources_high : map (sources spread_words.1) (range_with_len 0 64) ≡ map (λ (p : ℕ). (spread_place p + 4) ∷ []) (range_with_len 0 64)
unfolding spread_words sources toggle merged
spread_sources_high = refl

-- the words that `spread` makes
unfoldable pub spread_low : ℕ → ℕ
spread_low x = value (halves x) spread_words.0

unfoldable pub spread_high : ℕ → ℕ
spread_high x = value (halves x) spread_words.1

pub spread_at : (x : ℕ) → x < 2 ^ 128 → (p : ℕ) → p < 64 → bit_at (spread_low x) p ≡ bit_at x (spread_place p)
unfolding spread_low
spread_at x h p lt = taken_at (halves x) (halves-lt x h) spread_words.0 spread_place spread_sources p lt ∙ in_halves x (spread_place p) (omega arith)

pub spread_high_at : (x : ℕ) → x < 2 ^ 128 → (p : ℕ) → p < 64 → bit_at (spread_high x) p ≡ bit_at x (spread_place p + 4)
unfolding spread_high
spread_high_at x h p lt = taken_at (halves x) (halves-lt x h) spread_words.1 (λ (p : ℕ). spread_place p + 4) spread_sources_high p lt ∙ in_halves x (spread_place p + 4) (omega arith)

unfoldable pub gathered_words : Word × Word
gathered_words =
    let d0 = Masked 0x0f0f0f0f0f0f0f0f (Sum (Right 4 (Input 0)) (Input 1)) in
    let h0 = Sum (Input 1) d0 in
    let l0 = Sum (Input 0) (Left 4 d0) in
    let d1 = Masked 0x00000000ffffffff (Sum (Right 32 l0) h0) in
    let h1 = Sum h0 d1 in
    let l1 = Sum l0 (Left 32 d1) in
    let d2 = Masked 0x0000ffff0000ffff (Sum (Right 16 l1) h1) in
    let h2 = Sum h1 d2 in
    let l2 = Sum l1 (Left 16 d2) in
    let d3 = Masked 0x00ff00ff00ff00ff (Sum (Right 8 l2) h2) in
    let h3 = Sum h2 d3 in
    let l3 = Sum l2 (Left 8 d3) in
    (l3, h3)

gathered_sources : map (sources gathered_words.0) (range_with_len 0 64) ≡ map (λ (p : ℕ). (64 * (p / 4 % 2) + gathered_place p) ∷ []) (range_with_len 0 64)
unfolding gathered_words sources toggle merged
gathered_sources = refl

gathered_sources_high : map (sources gathered_words.1) (range_with_len 0 64) ≡ map (λ (p : ℕ). (64 * ((64 + p) / 4 % 2) + gathered_place (64 + p)) ∷ []) (range_with_len 0 64)
unfolding gathered_words sources toggle merged
gathered_sources_high = refl

-- the two words that `gathered` puts together
unfoldable pub gathered_low : ℕ → ℕ → ℕ
gathered_low a b = value (a ∷ b ∷ []) gathered_words.0

unfoldable pub gathered_high : ℕ → ℕ → ℕ
gathered_high a b = value (a ∷ b ∷ []) gathered_words.1

pub four-lt : (a b c d : ℕ) → a < 2 ^ 64 → b < 2 ^ 64 → c < 2 ^ 64 → d < 2 ^ 64 → (n : ℕ) → get_or (a ∷ b ∷ c ∷ d ∷ []) n 0 < 2 ^ 64
four-lt a b c d ha hb hc hd zero = ha
four-lt a b c d ha hb hc hd (suc zero) = hb
four-lt a b c d ha hb hc hd (suc (suc zero)) = hc
four-lt a b c d ha hb hc hd (suc (suc (suc zero))) = hd
four-lt a b c d ha hb hc hd (suc (suc (suc (suc n)))) = omega arith

two-lt : (a b : ℕ) → a < 2 ^ 64 → b < 2 ^ 64 → (n : ℕ) → get_or (a ∷ b ∷ []) n 0 < 2 ^ 64
two-lt a b ha hb zero = ha
two-lt a b ha hb (suc zero) = hb
two-lt a b ha hb (suc (suc n)) = omega arith

in_place : (env : List ℕ) (w p : ℕ) → p < 64 → bit_in env (64 * w + p) ≡ bit_at (get_or env w 0) p
in_place env w p lt =
    let q : (64 * w + p) / 64 ≡ w = omega arith in
    let r : (64 * w + p) % 64 ≡ p = omega arith in
    ap (λ (t : ℕ). bit_at (get_or env t 0) ((64 * w + p) % 64)) q ∙ ap (bit_at (get_or env w 0)) r

pub gathered_at : (a b : ℕ) → a < 2 ^ 64 → b < 2 ^ 64 → (n : ℕ) → n < 128 → bit_at (gathered_high a b * 2 ^ 64 + gathered_low a b) n ≡ bit_at (get_or (a ∷ b ∷ []) (n / 4 % 2) 0) (gathered_place n)
unfolding gathered_low gathered_high
gathered_at a b ha hb n lt =
    let fits = value-lt (a ∷ b ∷ []) (two-lt a b ha hb) gathered_words.0 in
    elim (cases_lt n 64) [
      | inl h ↦ (
          bit_at_cat_low (gathered_high a b) 64 (gathered_low a b) n h
          ∙ taken_at (a ∷ b ∷ []) (two-lt a b ha hb) gathered_words.0 (λ (p : ℕ). 64 * (p / 4 % 2) + gathered_place p) gathered_sources n h
          ∙ in_place (a ∷ b ∷ []) (n / 4 % 2) (gathered_place n) (omega arith))
      | inr h ↦ (
          let p = n - 64 in
          let e : 64 + p ≡ n = omega arith in
          bit_at_cat_high (gathered_high a b) 64 (gathered_low a b) n fits h
          ∙ taken_at (a ∷ b ∷ []) (two-lt a b ha hb) gathered_words.1 (λ (p : ℕ). 64 * ((64 + p) / 4 % 2) + gathered_place (64 + p)) gathered_sources_high p (omega arith)
          ∙ ap (λ (t : ℕ). bit_in (a ∷ b ∷ []) (64 * (t / 4 % 2) + gathered_place t)) e
          ∙ in_place (a ∷ b ∷ []) (n / 4 % 2) (gathered_place n) (omega arith))
    ]

unfoldable pub transposed_words : List Word
transposed_words =
    let d0 = Masked 0x5555555555555555 (Sum (Right 1 (Input 0)) (Input 1)) in
    let b1 = Sum (Input 1) d0 in
    let a1 = Sum (Input 0) (Left 1 d0) in
    let d1 = Masked 0x5555555555555555 (Sum (Right 1 (Input 2)) (Input 3)) in
    let e1 = Sum (Input 3) d1 in
    let c1 = Sum (Input 2) (Left 1 d1) in
    let d2 = Masked 0x3333333333333333 (Sum (Right 2 a1) c1) in
    let c2 = Sum c1 d2 in
    let a2 = Sum a1 (Left 2 d2) in
    let d3 = Masked 0x3333333333333333 (Sum (Right 2 b1) e1) in
    let e2 = Sum e1 d3 in
    let b2 = Sum b1 (Left 2 d3) in
    a2 ∷ b2 ∷ c2 ∷ e2 ∷ []

-- the words that `transposed` makes
unfoldable pub transposed_word : List ℕ → ℕ → ℕ
transposed_word env w = value env (get_or transposed_words w (Input 0))

transposed_sources : (w : ℕ) → w < 4 → map (sources (get_or transposed_words w (Input 0))) (range_with_len 0 64) ≡ map (λ (p : ℕ). (64 * (p % 4) + (p / 4 * 4 + w)) ∷ []) (range_with_len 0 64)
unfolding transposed_words sources toggle merged
transposed_sources = below_four (λ (w : ℕ). map (sources (get_or transposed_words w (Input 0))) (range_with_len 0 64) ≡ map (λ (p : ℕ). (64 * (p % 4) + (p / 4 * 4 + w)) ∷ []) (range_with_len 0 64)) refl refl refl refl

pub transposed_at : (env : List ℕ) → ((n : ℕ) → get_or env n 0 < 2 ^ 64) → (w p : ℕ) → w < 4 → p < 64 →
    bit_at (get_or (transposed_word env 0 ∷ transposed_word env 1 ∷ transposed_word env 2 ∷ transposed_word env 3 ∷ []) w 0) p ≡ bit_at (get_or env (p % 4) 0) (p / 4 * 4 + w)
unfolding transposed_word
transposed_at env fits w p hw lt =
    let e : get_or (transposed_word env 0 ∷ transposed_word env 1 ∷ transposed_word env 2 ∷ transposed_word env 3 ∷ []) w 0 ≡ transposed_word env w =
    below_four (λ (w : ℕ). get_or (transposed_word env 0 ∷ transposed_word env 1 ∷ transposed_word env 2 ∷ transposed_word env 3 ∷ []) w 0 ≡ transposed_word env w) refl refl refl refl w hw in
    ap (λ (t : ℕ). bit_at t p) e
    ∙ taken_at env fits (get_or transposed_words w (Input 0)) (λ (p : ℕ). 64 * (p % 4) + (p / 4 * 4 + w)) (transposed_sources w hw) p lt
    ∙ in_place env (p % 4) (p / 4 * 4 + w) (omega arith)

-- the bits of a byte of a number
bits_of_field : (x m : ℕ) → bit_at x (m + 0) ∷ bit_at x (m + 1) ∷ bit_at x (m + 2) ∷ bit_at x (m + 3) ∷ bit_at x (m + 4) ∷ bit_at x (m + 5) ∷ bit_at x (m + 6) ∷ bit_at x (m + 7) ∷ [] ≡ bits_of (x / 2 ^ m % 2 ^ 8)
unfolding bits_of
bits_of_field x m = eight _ _ _ _ _ _ _ _ _ _ _ _ _ _ _ _
    (ap (λ (t : ℕ). t % 2) (sym (shr-shr x m 0)) ∙ sym (low_bit (x / 2 ^ m) 8 0 (omega arith)))
    (ap (λ (t : ℕ). t % 2) (sym (shr-shr x m 1)) ∙ sym (low_bit (x / 2 ^ m) 8 1 (omega arith)))
    (ap (λ (t : ℕ). t % 2) (sym (shr-shr x m 2)) ∙ sym (low_bit (x / 2 ^ m) 8 2 (omega arith)))
    (ap (λ (t : ℕ). t % 2) (sym (shr-shr x m 3)) ∙ sym (low_bit (x / 2 ^ m) 8 3 (omega arith)))
    (ap (λ (t : ℕ). t % 2) (sym (shr-shr x m 4)) ∙ sym (low_bit (x / 2 ^ m) 8 4 (omega arith)))
    (ap (λ (t : ℕ). t % 2) (sym (shr-shr x m 5)) ∙ sym (low_bit (x / 2 ^ m) 8 5 (omega arith)))
    (ap (λ (t : ℕ). t % 2) (sym (shr-shr x m 6)) ∙ sym (low_bit (x / 2 ^ m) 8 6 (omega arith)))
    (ap (λ (t : ℕ). t % 2) (sym (shr-shr x m 7)) ∙ sym (low_bit (x / 2 ^ m) 8 7 (omega arith)))

bytes_of_number : (x : ℕ) → map (λ (i : ℕ). x / 2 ^ (8 * (15 - i)) % 2 ^ 8) (range_with_len 0 16) ≡ block_bytes x
unfolding block_bytes
bytes_of_number x = ap (λ (t : ℕ). x / 2 ^ 120 % 2 ^ 8 ∷ x / 2 ^ 112 % 2 ^ 8 ∷ x / 2 ^ 104 % 2 ^ 8 ∷ x / 2 ^ 96 % 2 ^ 8 ∷ x / 2 ^ 88 % 2 ^ 8 ∷ x / 2 ^ 80 % 2 ^ 8 ∷ x / 2 ^ 72 % 2 ^ 8 ∷ x / 2 ^ 64 % 2 ^ 8 ∷ x / 2 ^ 56 % 2 ^ 8 ∷ x / 2 ^ 48 % 2 ^ 8 ∷ x / 2 ^ 40 % 2 ^ 8 ∷ x / 2 ^ 32 % 2 ^ 8 ∷ x / 2 ^ 24 % 2 ^ 8 ∷ x / 2 ^ 16 % 2 ^ 8 ∷ x / 2 ^ 8 % 2 ^ 8 ∷ t % 2 ^ 8 ∷ []) (div-one x)

-- a block by its bits
pub block_is : (s : Slices) (b x : ℕ) →
    ((i : ℕ) → i < 16 → bit_at s.bit0 (place 0 b i) ≡ bit_at x (8 * (15 - i) + 0)) →
    ((i : ℕ) → i < 16 → bit_at s.bit1 (place 0 b i) ≡ bit_at x (8 * (15 - i) + 1)) →
    ((i : ℕ) → i < 16 → bit_at s.bit2 (place 0 b i) ≡ bit_at x (8 * (15 - i) + 2)) →
    ((i : ℕ) → i < 16 → bit_at s.bit3 (place 0 b i) ≡ bit_at x (8 * (15 - i) + 3)) →
    ((i : ℕ) → i < 16 → bit_at s.bit4 (place 0 b i) ≡ bit_at x (8 * (15 - i) + 4)) →
    ((i : ℕ) → i < 16 → bit_at s.bit5 (place 0 b i) ≡ bit_at x (8 * (15 - i) + 5)) →
    ((i : ℕ) → i < 16 → bit_at s.bit6 (place 0 b i) ≡ bit_at x (8 * (15 - i) + 6)) →
    ((i : ℕ) → i < 16 → bit_at s.bit7 (place 0 b i) ≡ bit_at x (8 * (15 - i) + 7)) →
    block_at 0 s b ≡ block_bytes x
block_is s b x e0 e1 e2 e3 e4 e5 e6 e7 =
    (same_blocks (λ (i : ℕ). byte_at s (place 0 b i)) (λ (i : ℕ). x / 2 ^ (8 * (15 - i)) % 2 ^ 8) λ i h.
    same_by_bits (byte_at s (place 0 b i)) (x / 2 ^ (8 * (15 - i)) % 2 ^ 8) (byte_at-lt s (place 0 b i)) (omega arith)
    (sym (bits_at s (place 0 b i))
    ∙ eight _ _ _ _ _ _ _ _ _ _ _ _ _ _ _ _ (e0 i h) (e1 i h) (e2 i h) (e3 i h) (e4 i h) (e5 i h) (e6 i h) (e7 i h)
    ∙ bits_of_field x (8 * (15 - i))))
    ∙ bytes_of_number x

-- where a bit of one of four words comes from, and the other way round
module _ (lower lows : List ℕ) (hl : (w p : ℕ) → w < 4 → p < 64 → bit_at (get_or lower w 0) p ≡ bit_at (get_or lows (p % 4) 0) (p / 4 * 4 + w)) where
  packed_word : (x b k : ℕ) → b < 4 → ((p : ℕ) → p < 64 → bit_at (get_or lows b 0) p ≡ bit_at x (spread_place p + k)) → (w : ℕ) → w < 4 → (i : ℕ) → i < 16 →
      bit_at (get_or lower w 0) (place 0 b i) ≡ bit_at x (8 * (15 - i) + (w + k))
  packed_word x b k hb h w hw i hi =
      let p = place 0 b i in
      let r : p % 4 ≡ b = omega arith in
      let q : spread_place (p / 4 * 4 + w) + k ≡ 8 * (15 - i) + (w + k) = omega arith in
      hl w p hw (omega arith)
      ∙ ap (λ (t : ℕ). bit_at (get_or lows t 0) (p / 4 * 4 + w)) r
      ∙ h (p / 4 * 4 + w) (omega arith)
      ∙ ap (bit_at x) q

  unpacked_word : (x b k : ℕ) → b < 4 → ((n : ℕ) → n < 128 → n / 4 % 2 ≡ k → bit_at x n ≡ bit_at (get_or lower b 0) (gathered_place n)) → k < 2 → (w : ℕ) → w < 4 → (i : ℕ) → i < 16 →
      bit_at (get_or lows w 0) (place 0 b i) ≡ bit_at x (8 * (15 - i) + (w + 4 * k))
  unpacked_word x b k hb h hk w hw i hi =
      let n = 8 * (15 - i) + (w + 4 * k) in
      let q = gathered_place n in
      let r : q % 4 ≡ w = omega arith in
      let e : q / 4 * 4 + b ≡ place 0 b i = omega arith in
      sym (h n (omega arith) (omega arith)
      ∙ hl b q hb (omega arith)
      ∙ ap (λ (t : ℕ). bit_at (get_or lows t 0) (q / 4 * 4 + b)) r
      ∙ ap (bit_at (get_or lows w 0)) e)

pub packed_is : (lower upper lows highs : List ℕ) (x b : ℕ) → b < 4 →
    ((w p : ℕ) → w < 4 → p < 64 → bit_at (get_or lower w 0) p ≡ bit_at (get_or lows (p % 4) 0) (p / 4 * 4 + w)) →
    ((w p : ℕ) → w < 4 → p < 64 → bit_at (get_or upper w 0) p ≡ bit_at (get_or highs (p % 4) 0) (p / 4 * 4 + w)) →
    ((p : ℕ) → p < 64 → bit_at (get_or lows b 0) p ≡ bit_at x (spread_place p)) →
    ((p : ℕ) → p < 64 → bit_at (get_or highs b 0) p ≡ bit_at x (spread_place p + 4)) →
    block_at 0 (record { bit0 = get_or lower 0 0; bit1 = get_or lower 1 0; bit2 = get_or lower 2 0; bit3 = get_or lower 3 0; bit4 = get_or upper 0 0; bit5 = get_or upper 1 0; bit6 = get_or upper 2 0; bit7 = get_or upper 3 0 }) b ≡ block_bytes x
packed_is lower upper lows highs x b hb hl hu low high =
    let none = λ (p : ℕ) (lt : p < 64). low p lt ∙ ap (bit_at x) (sym (add-zero (spread_place p))) in
    let at = packed_word lower lows hl x b 0 hb none in
    let up = packed_word upper highs hu x b 4 hb high in
    block_is (record { bit0 = get_or lower 0 0; bit1 = get_or lower 1 0; bit2 = get_or lower 2 0; bit3 = get_or lower 3 0; bit4 = get_or upper 0 0; bit5 = get_or upper 1 0; bit6 = get_or upper 2 0; bit7 = get_or upper 3 0 }) b x
    (at 0 (omega arith)) (at 1 (omega arith)) (at 2 (omega arith)) (at 3 (omega arith)) (up 0 (omega arith)) (up 1 (omega arith)) (up 2 (omega arith)) (up 3 (omega arith))

pub unpacked_is : (s : Slices) (lower upper : List ℕ) (x b : ℕ) → b < 4 →
    ((w p : ℕ) → w < 4 → p < 64 → bit_at (get_or lower w 0) p ≡ bit_at (get_or (s.bit0 ∷ s.bit1 ∷ s.bit2 ∷ s.bit3 ∷ []) (p % 4) 0) (p / 4 * 4 + w)) →
    ((w p : ℕ) → w < 4 → p < 64 → bit_at (get_or upper w 0) p ≡ bit_at (get_or (s.bit4 ∷ s.bit5 ∷ s.bit6 ∷ s.bit7 ∷ []) (p % 4) 0) (p / 4 * 4 + w)) →
    ((n : ℕ) → n < 128 → bit_at x n ≡ bit_at (get_or (get_or lower b 0 ∷ get_or upper b 0 ∷ []) (n / 4 % 2) 0) (gathered_place n)) →
    block_bytes x ≡ block_at 0 s b
unpacked_is s lower upper x b hb hl hu h =
    let pick = λ (k n : ℕ) (lt : n < 128) (e : n / 4 % 2 ≡ k). h n lt ∙ ap (λ (t : ℕ). bit_at (get_or (get_or lower b 0 ∷ get_or upper b 0 ∷ []) t 0) (gathered_place n)) e in
    let at = unpacked_word lower (s.bit0 ∷ s.bit1 ∷ s.bit2 ∷ s.bit3 ∷ []) hl x b 0 hb (pick 0) (omega arith) in
    let up = unpacked_word upper (s.bit4 ∷ s.bit5 ∷ s.bit6 ∷ s.bit7 ∷ []) hu x b 1 hb (pick 1) (omega arith) in
    sym (block_is s b x
    (at 0 (omega arith)) (at 1 (omega arith)) (at 2 (omega arith)) (at 3 (omega arith)) (up 0 (omega arith)) (up 1 (omega arith)) (up 2 (omega arith)) (up 3 (omega arith)))
