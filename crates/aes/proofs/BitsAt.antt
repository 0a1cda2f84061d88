-- Bits at one place of words, and bytes by their bits.
use Rattle.std.proofs.Common.{◌≡◌, ℕ, ◌+◌, ◌*◌, ◌/◌, ◌%◌, ◌^◌, ◌<◌, zero, suc, List, [], ◌∷◌, get_or, refl, ap, ◌∙◌, arith}
use Rattle.std.specs.Int.{bit_at}
use Rattle.std.proofs.lemmas.Nat.Bits.{bit_at-lt, same_from_bits_below}
use Rattle.aes.specs.Slices.{byte_at}
use Rattle.aes.specs.declared.slices.Slices.{Slices}
use lib.Bits.{bit_xor, bit_and, xor_shr, xor_mod, and_shr, and_mod}

pub xor_at : (a b p : ℕ) → bit_at (bit_xor a b) p ≡ bit_xor (bit_at a p) (bit_at b p)
xor_at a b p = ap (λ (t : ℕ). t % 2) (xor_shr a b p) ∙ xor_mod (a / 2 ^ p) (b / 2 ^ p) 1

pub and_at : (a b p : ℕ) → bit_at (bit_and a b) p ≡ bit_and (bit_at a p) (bit_at b p)
and_at a b p = ap (λ (t : ℕ). t % 2) (and_shr a b p) ∙ and_mod (a / 2 ^ p) (b / 2 ^ p) 1

-- the byte of eight bits
unfoldable pub byte_of_bits : ℕ → ℕ → ℕ → ℕ → ℕ → ℕ → ℕ → ℕ → ℕ
byte_of_bits a b c d e f g h = a + b * 2 + c * 2 ^ 2 + d * 2 ^ 3 + e * 2 ^ 4 + f * 2 ^ 5 + g * 2 ^ 6 + h * 2 ^ 7

unfoldable pub bits_of : ℕ → List ℕ
bits_of x = x / 2 ^ 0 % 2 ∷ x / 2 ^ 1 % 2 ∷ x / 2 ^ 2 % 2 ∷ x / 2 ^ 3 % 2 ∷ x / 2 ^ 4 % 2 ∷ x / 2 ^ 5 % 2 ∷ x / 2 ^ 6 % 2 ∷ x / 2 ^ 7 % 2 ∷ []

pub eight : (a b c d e f g h i j k l m n o p : ℕ) → a ≡ i → b ≡ j → c ≡ k → d ≡ l → e ≡ m → f ≡ n → g ≡ o → h ≡ p →
    a ∷ b ∷ c ∷ d ∷ e ∷ f ∷ g ∷ h ∷ [] ≡ i ∷ j ∷ k ∷ l ∷ m ∷ n ∷ o ∷ p ∷ []
eight a b c d e f g h i j k l m n o p q r s t u v w x = rw (q, r, s, t, u, v, w, x) refl

-- bytes with the same bits are the same
pub same_by_bits : (x y : ℕ) → x < 256 → y < 256 → bits_of x ≡ bits_of y → x ≡ y
unfolding bits_of
same_by_bits x y hx hy e =
    let at = λ (j : ℕ). ap (λ (t : List ℕ). get_or t j 0) e in
    same_from_bits_below 8 x y hx hy (below_eight (λ (j : ℕ). bit_at x j ≡ bit_at y j) (at 0) (at 1) (at 2) (at 3) (at 4) (at 5) (at 6) (at 7))
  where
    below_eight : (P : ℕ → Type 0) → P 0 → P 1 → P 2 → P 3 → P 4 → P 5 → P 6 → P 7 → (j : ℕ) → j < 8 → P j
    below_eight P a b c d e f g h zero lt = a
    below_eight P a b c d e f g h (suc zero) lt = b
    below_eight P a b c d e f g h (suc (suc zero)) lt = c
    below_eight P a b c d e f g h (suc (suc (suc zero))) lt = d
    below_eight P a b c d e f g h (suc (suc (suc (suc zero)))) lt = e
    below_eight P a b c d e f g h (suc (suc (suc (suc (suc zero))))) lt = f
    below_eight P a b c d e f g h (suc (suc (suc (suc (suc (suc zero)))))) lt = g
    below_eight P a b c d e f g h (suc (suc (suc (suc (suc (suc (suc zero))))))) lt = h
    below_eight P a b c d e f g h (suc (suc (suc (suc (suc (suc (suc (suc j)))))))) lt = absurd (omega arith)

pub bits_of_byte : (a b c d e f g h : ℕ) → a < 2 → b < 2 → c < 2 → d < 2 → e < 2 → f < 2 → g < 2 → h < 2 →
    a ∷ b ∷ c ∷ d ∷ e ∷ f ∷ g ∷ h ∷ [] ≡ bits_of (byte_of_bits a b c d e f g h)
unfolding byte_of_bits bits_of
bits_of_byte a b c d e f g h ha hb hc hd he hf hg hh =
    eight a b c d e f g h _ _ _ _ _ _ _ _ (omega arith) (omega arith) (omega arith) (omega arith) (omega arith) (omega arith) (omega arith) (omega arith)

pub byte_of_bits-lt : (a b c d e f g h : ℕ) → a < 2 → b < 2 → c < 2 → d < 2 → e < 2 → f < 2 → g < 2 → h < 2 → byte_of_bits a b c d e f g h < 256
unfolding byte_of_bits
byte_of_bits-lt a b c d e f g h ha hb hc hd he hf hg hh = omega arith

-- bytes at two places are the same where their bits are
pub same_byte : (t s : Slices) (p q : ℕ) → bit_at t.bit0 p ≡ bit_at s.bit0 q → bit_at t.bit1 p ≡ bit_at s.bit1 q → bit_at t.bit2 p ≡ bit_at s.bit2 q → bit_at t.bit3 p ≡ bit_at s.bit3 q →
    bit_at t.bit4 p ≡ bit_at s.bit4 q → bit_at t.bit5 p ≡ bit_at s.bit5 q → bit_at t.bit6 p ≡ bit_at s.bit6 q → bit_at t.bit7 p ≡ bit_at s.bit7 q → byte_at t p ≡ byte_at s q
unfolding byte_at
same_byte t s p q a b c d e f g h = rw (a, b, c, d, e, f, g, h) refl

-- the bits of the byte at a place
pub bits_at : (s : Slices) (p : ℕ) → bit_at s.bit0 p ∷ bit_at s.bit1 p ∷ bit_at s.bit2 p ∷ bit_at s.bit3 p ∷ bit_at s.bit4 p ∷ bit_at s.bit5 p ∷ bit_at s.bit6 p ∷ bit_at s.bit7 p ∷ [] ≡ bits_of (byte_at s p)
unfolding byte_at byte_of_bits
bits_at s p =
    bits_of_byte (bit_at s.bit0 p) (bit_at s.bit1 p) (bit_at s.bit2 p) (bit_at s.bit3 p) (bit_at s.bit4 p) (bit_at s.bit5 p) (bit_at s.bit6 p) (bit_at s.bit7 p)
    (bit_at-lt s.bit0 p) (bit_at-lt s.bit1 p) (bit_at-lt s.bit2 p) (bit_at-lt s.bit3 p) (bit_at-lt s.bit4 p) (bit_at-lt s.bit5 p) (bit_at-lt s.bit6 p) (bit_at-lt s.bit7 p)

pub byte_at-lt : (s : Slices) (p : ℕ) → byte_at s p < 256
unfolding byte_at byte_of_bits
byte_at-lt s p =
    byte_of_bits-lt (bit_at s.bit0 p) (bit_at s.bit1 p) (bit_at s.bit2 p) (bit_at s.bit3 p) (bit_at s.bit4 p) (bit_at s.bit5 p) (bit_at s.bit6 p) (bit_at s.bit7 p)
    (bit_at-lt s.bit0 p) (bit_at-lt s.bit1 p) (bit_at-lt s.bit2 p) (bit_at-lt s.bit3 p) (bit_at-lt s.bit4 p) (bit_at-lt s.bit5 p) (bit_at-lt s.bit6 p) (bit_at-lt s.bit7 p)
