-- Facts on each byte, by computing them for all 256.
use Rattle.std.proofs.Common.{◌≡◌, ℕ, ◌<◌, ◌+◌, ◌-◌, ◌*◌, List, ◌++◌, length, take, drop, get_or, set, arith, refl, ap, sym, ◌∙◌}
use Rattle.std.specs.Prelude.{map, bit_xor, nat_lt, if◌then◌else◌}
use Rattle.std.specs.List.{range_with_len}
use Rattle.std.proofs.lemmas.List.{get_or_default}
use Rattle.std.proofs.lemmas.List.Edits.{map_over_more}
use Rattle.std.proofs.lemmas.List.FromFn.{get_or-map-range_with_len}
use Rattle.aes.specs.ByteField.{power}
use Rattle.aes.specs.declared.expansion.TheConstants.{ROUND_CONSTANTS}
use Rattle.aes.specs.ByteField.{times, reduced, product_below}

-- two functions that agree on the list of all bytes agree at each
pub at_each_byte : (f g : ℕ → ℕ) → map f (range_with_len 0 256) ≡ map g (range_with_len 0 256) → (x : ℕ) → x < 256 → f x ≡ g x
at_each_byte f g e x h =
    sym (get_or-map-range_with_len f 0 256 x x 0 h (omega arith))
    ∙ ap (λ (t : List ℕ). get_or t x 0) e
    ∙ get_or-map-range_with_len g 0 256 x x 0 h (omega arith)

abbrev doubled : ℕ → ℕ
doubled x = if nat_lt x 128 then x * 2 else bit_xor ((x - 128) * 2) 0x1b

pub doubled-times : (x : ℕ) → x < 256 → doubled x ≡ times 2 x
unfolding reduced product_below
doubled-times = at_each_byte doubled (times 2) refl

pub tripled-times : (x : ℕ) → x < 256 → bit_xor (times 2 x) x ≡ times 3 x
unfolding reduced product_below
tripled-times = at_each_byte (λ x. bit_xor (times 2 x) x) (times 3) refl

pub map_more : (f : ℕ → ℕ) (xs ys : List ℕ) (i : ℕ) → i < length xs → i < length ys → ys ≡ map f (take i xs) ++ drop i xs →
    set ys i (f (get_or ys i 0)) ≡ map f (take (i + 1) xs) ++ drop (i + 1) xs
map_more f xs ys i lt also e = map_over_more f xs ys i (get_or ys i 0) lt e (get_or_default ys i 0 (get_or ys i 0) also)

constants_are : ROUND_CONSTANTS ≡ map power (range_with_len 0 10)
unfolding power reduced product_below
constants_are = refl

pub get_or-ROUND_CONSTANTS : (n : ℕ) → n < 10 → get_or ROUND_CONSTANTS n 0 ≡ power n
get_or-ROUND_CONSTANTS n h = ap (λ (t : List ℕ). get_or t n 0) constants_are ∙ get_or-map-range_with_len power 0 10 n n 0 h (omega arith)
