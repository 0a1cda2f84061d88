-- The circuit of SubBytes: it acts on each place of its words alone, and on the bits of one byte it is the substitution.
use Rattle.std.proofs.Common.{◌≡◌, ℕ, zero, suc, ◌+◌, ◌-◌, ◌*◌, ◌^◌, ◌<◌, List, [], ◌∷◌, get_or, refl, ap, sym, ◌∙◌, arith}
use Rattle.std.specs.Prelude.{map}
use Rattle.std.specs.Int.{bit_at}
use Rattle.std.specs.List.{range_with_len}
use Rattle.std.proofs.lemmas.List.FromFn.{get_or-map-range_with_len}
use Rattle.std.proofs.lemmas.Nat.Bits.{bit_at-zero, bit_at_ones}
use lib.Bits.{bit_xor, bit_and}
use Rattle.aes.specs.ByteField.{sbox_of}
use Rattle.aes.specs.Slices.{byte_at}
use Rattle.aes.specs.declared.slices.Slices.{Slices}
use Rattle.aes.specs.declared.sbox.TheConstants.{SBOX}
use Rattle.aes.proofs.Table.{get_or-SBOX}
use Rattle.aes.proofs.BitsAt.{xor_at, and_at, bits_at, byte_at-lt, bits_of}

-- a gate: the sum of two wires, their product, or whether they are equal
pub data Gate : Type 0 where
  Sum : ℕ → ℕ → Gate
  Product : ℕ → ℕ → Gate
  Equal : ℕ → ℕ → Gate

-- what a gate makes of the wires so far, where a word of ones is all ones
unfoldable pub made : ℕ → Gate → List ℕ → ℕ
made ones (Sum a b) ws = bit_xor (get_or ws a 0) (get_or ws b 0)
made ones (Product a b) ws = bit_and (get_or ws a 0) (get_or ws b 0)
made ones (Equal a b) ws = bit_xor (bit_xor (get_or ws a 0) (get_or ws b 0)) ones

-- the wires after a list of gates, the last first
unfoldable pub wires : ℕ → List Gate → List ℕ → List ℕ
wires ones [] ws = ws
wires ones (g ∷ gs) ws = wires ones gs (made ones g ws ∷ ws)

-- the wires at one place
lane : ℕ → List ℕ → List ℕ
lane p ws = map (λ (w : ℕ). bit_at w p) ws

get_or-lane : (p : ℕ) (ws : List ℕ) (i : ℕ) → bit_at (get_or ws i 0) p ≡ get_or (lane p ws) i 0
unfolding lane
get_or-lane p [] i = bit_at-zero p
get_or-lane p (w ∷ ws) zero = refl
get_or-lane p (w ∷ ws) (suc i) = get_or-lane p ws i

made_at : (n p : ℕ) → p < n → (g : Gate) (ws : List ℕ) → bit_at (made (2 ^ n - 1) g ws) p ≡ made 1 g (lane p ws)
unfolding made
made_at n p lt (Sum a b) ws =
    xor_at (get_or ws a 0) (get_or ws b 0) p
    ∙ ap (λ (t : ℕ). bit_xor t (bit_at (get_or ws b 0) p)) (get_or-lane p ws a) ∙ ap (bit_xor (get_or (lane p ws) a 0)) (get_or-lane p ws b)
made_at n p lt (Product a b) ws =
    and_at (get_or ws a 0) (get_or ws b 0) p
    ∙ ap (λ (t : ℕ). bit_and t (bit_at (get_or ws b 0) p)) (get_or-lane p ws a) ∙ ap (bit_and (get_or (lane p ws) a 0)) (get_or-lane p ws b)
made_at n p lt (Equal a b) ws =
    xor_at (bit_xor (get_or ws a 0) (get_or ws b 0)) (2 ^ n - 1) p
    ∙ ap (bit_xor (bit_at (bit_xor (get_or ws a 0) (get_or ws b 0)) p)) (bit_at_ones n p lt)
    ∙ ap (λ (t : ℕ). bit_xor t 1)
    (xor_at (get_or ws a 0) (get_or ws b 0) p
    ∙ ap (λ (t : ℕ). bit_xor t (bit_at (get_or ws b 0) p)) (get_or-lane p ws a) ∙ ap (bit_xor (get_or (lane p ws) a 0)) (get_or-lane p ws b))

wires_at : (n p : ℕ) → p < n → (gs : List Gate) (ws : List ℕ) → lane p (wires (2 ^ n - 1) gs ws) ≡ wires 1 gs (lane p ws)
unfolding wires lane
wires_at n p lt [] ws = refl
wires_at n p lt (g ∷ gs) ws =
    wires_at n p lt gs (made (2 ^ n - 1) g ws ∷ ws)
    ∙ ap (λ (t : ℕ). wires 1 gs (t ∷ lane p ws)) (made_at n p lt g ws)

unfoldable pub circuit : List Gate
circuit =
    Sum 4 2 ∷ Sum 8 2 ∷ Sum 9 6 ∷ Sum 10 5 ∷ Sum 10 9 ∷ Sum 0 5 ∷
    Sum 0 10 ∷ Sum 5 6 ∷ Sum 2 15 ∷ Sum 3 10 ∷ Sum 0 6 ∷ Sum 14 3 ∷
    Sum 0 14 ∷ Sum 1 19 ∷ Sum 1 14 ∷ Sum 2 10 ∷ Sum 2 13 ∷ Sum 17 0 ∷
    Sum 2 1 ∷ Sum 3 15 ∷ Sum 15 3 ∷ Sum 19 0 ∷ Sum 29 1 ∷ Product 15 10 ∷
    Product 13 9 ∷ Sum 0 1 ∷ Product 19 26 ∷ Sum 0 3 ∷ Product 26 7 ∷ Product 19 23 ∷
    Sum 0 1 ∷ Product 22 13 ∷ Sum 0 3 ∷ Product 30 16 ∷ Product 33 15 ∷ Sum 0 1 ∷
    Product 32 20 ∷ Sum 0 3 ∷ Sum 12 2 ∷ Sum 11 1 ∷ Sum 9 4 ∷ Sum 8 3 ∷
    Sum 3 28 ∷ Sum 3 23 ∷ Sum 3 22 ∷ Sum 3 22 ∷ Sum 3 2 ∷ Product 4 2 ∷
    Sum 2 0 ∷ Product 2 0 ∷ Sum 0 6 ∷ Sum 6 5 ∷ Sum 8 4 ∷ Product 0 1 ∷
    Sum 0 8 ∷ Sum 10 0 ∷ Sum 7 1 ∷ Product 11 0 ∷ Sum 0 2 ∷ Sum 10 1 ∷
    Product 9 0 ∷ Sum 14 0 ∷ Sum 0 3 ∷ Sum 12 8 ∷ Sum 13 2 ∷ Sum 10 6 ∷
    Sum 2 3 ∷ Product 1 54 ∷ Product 9 53 ∷ Product 14 69 ∷ Product 5 49 ∷ Product 9 65 ∷
    Product 21 54 ∷ Product 9 56 ∷ Product 7 55 ∷ Product 12 59 ∷ Product 10 68 ∷ Product 18 66 ∷
    Product 23 71 ∷ Product 14 77 ∷ Product 18 70 ∷ Product 30 72 ∷ Product 18 79 ∷ Product 16 82 ∷
    Product 21 80 ∷ Sum 2 1 ∷ Sum 8 7 ∷ Sum 14 6 ∷ Sum 11 10 ∷ Sum 19 9 ∷
    Sum 20 17 ∷ Sum 16 15 ∷ Sum 24 21 ∷ Sum 19 18 ∷ Sum 10 9 ∷ Sum 15 7 ∷
    Sum 6 3 ∷ Sum 25 11 ∷ Sum 27 4 ∷ Sum 13 2 ∷ Sum 18 3 ∷ Sum 9 3 ∷
    Sum 13 4 ∷ Sum 31 4 ∷ Sum 3 2 ∷ Sum 36 2 ∷ Sum 7 3 ∷ Equal 11 5 ∷
    Equal 20 8 ∷ Sum 5 4 ∷ Sum 17 4 ∷ Sum 20 5 ∷ Sum 25 7 ∷ Equal 9 2 ∷
    Equal 19 4 ∷ []

-- the byte whose bits are the outputs
byte_of : List ℕ → ℕ
byte_of ws =
    get_or ws 6 0 + get_or ws 7 0 * 2 + get_or ws 2 0 * 2 ^ 2 + get_or ws 3 0 * 2 ^ 3 + get_or ws 4 0 * 2 ^ 4 + get_or ws 0 0 * 2 ^ 5 + get_or ws 1 0 * 2 ^ 6 + get_or ws 8 0 * 2 ^ 7

-- each byte's bits, in words of 256 places
every_byte : List ℕ
every_byte =
    0xaaaaaaaaaaaaaaaaaaaaaaaaaaaaaaaaaaaaaaaaaaaaaaaaaaaaaaaaaaaaaaaa ∷
    0xcccccccccccccccccccccccccccccccccccccccccccccccccccccccccccccccc ∷
    0xf0f0f0f0f0f0f0f0f0f0f0f0f0f0f0f0f0f0f0f0f0f0f0f0f0f0f0f0f0f0f0f0 ∷
    0xff00ff00ff00ff00ff00ff00ff00ff00ff00ff00ff00ff00ff00ff00ff00ff00 ∷
    0xffff0000ffff0000ffff0000ffff0000ffff0000ffff0000ffff0000ffff0000 ∷
    0xffffffff00000000ffffffff00000000ffffffff00000000ffffffff00000000 ∷
    0xffffffffffffffff0000000000000000ffffffffffffffff0000000000000000 ∷
    0xffffffffffffffffffffffffffffffff00000000000000000000000000000000 ∷
    []

-- what the circuit makes of every byte
results : List ℕ
results = wires (2 ^ 256 - 1) circuit every_byte

bits_of_every : map (λ (x : ℕ). lane x every_byte) (range_with_len 0 256) ≡ map bits_of (range_with_len 0 256)
unfolding lane every_byte bits_of
bits_of_every = refl

results_are : map (λ (x : ℕ). byte_of (lane x results)) (range_with_len 0 256) ≡ SBOX
unfolding lane every_byte results wires made circuit byte_of
results_are = refl

lane_every : (x : ℕ) → x < 256 → lane x every_byte ≡ bits_of x
lane_every x h =
    sym (get_or-map-range_with_len (λ (x : ℕ). lane x every_byte) 0 256 x x [] h (omega arith))
    ∙ ap (λ (t : List (List ℕ)). get_or t x []) bits_of_every
    ∙ get_or-map-range_with_len bits_of 0 256 x x [] h (omega arith)

on_bits : (x : ℕ) → x < 256 → byte_of (wires 1 circuit (bits_of x)) ≡ sbox_of x
unfolding results
on_bits x h =
    ap (λ (t : List ℕ). byte_of (wires 1 circuit t)) (sym (lane_every x h))
    ∙ ap byte_of (sym (wires_at 256 x h circuit every_byte))
    ∙ sym (get_or-map-range_with_len (λ (x : ℕ). byte_of (lane x results)) 0 256 x x 0 h (omega arith))
    ∙ ap (λ (t : List ℕ). get_or t x 0) results_are
    ∙ get_or-SBOX x h

-- the outputs of the circuit, as slices
unfoldable pub outputs : List ℕ → Slices
outputs ws = record { bit0 = get_or ws 6 0; bit1 = get_or ws 7 0; bit2 = get_or ws 2 0; bit3 = get_or ws 3 0; bit4 = get_or ws 4 0; bit5 = get_or ws 0 0; bit6 = get_or ws 1 0; bit7 = get_or ws 8 0 }

unfoldable pub words_of : Slices → List ℕ
words_of s = s.bit0 ∷ s.bit1 ∷ s.bit2 ∷ s.bit3 ∷ s.bit4 ∷ s.bit5 ∷ s.bit6 ∷ s.bit7 ∷ []

outputs_at : (ws : List ℕ) (p : ℕ) → byte_at (outputs ws) p ≡ byte_of (lane p ws)
unfolding byte_at outputs byte_of
outputs_at ws p = rw (get_or-lane p ws 6, get_or-lane p ws 7, get_or-lane p ws 2, get_or-lane p ws 3, get_or-lane p ws 4, get_or-lane p ws 0, get_or-lane p ws 1, get_or-lane p ws 8) refl

words_at : (s : Slices) (p : ℕ) → lane p (words_of s) ≡ bits_of (byte_at s p)
unfolding words_of lane
words_at = bits_at

-- slices after the circuit
unfoldable pub after_circuit : Slices → Slices
after_circuit s = outputs (wires (2 ^ 64 - 1) circuit (words_of s))

circuit_at : (s : Slices) (p : ℕ) → p < 64 → byte_at (after_circuit s) p ≡ sbox_of (byte_at s p)
unfolding after_circuit
circuit_at s p lt =
    outputs_at (wires (2 ^ 64 - 1) circuit (words_of s)) p
    ∙ ap byte_of (wires_at 64 p lt circuit (words_of s))
    ∙ ap (λ (t : List ℕ). byte_of (wires 1 circuit t)) (words_at s p)
    ∙ on_bits (byte_at s p) (byte_at-lt s p)

pub substituted_at : (s t : Slices) → t ≡ after_circuit s → (p : ℕ) → p < 64 → byte_at t p ≡ sbox_of (byte_at s p)
substituted_at s t e p lt = ap (λ (t : Slices). byte_at t p) e ∙ circuit_at s p lt
