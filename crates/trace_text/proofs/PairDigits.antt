-- The byte of two digits.
use Rattle.std.proofs.Common.{◌≡◌, ℕ, ◌+◌, ◌*◌, Some, Ok, refl}
use Rattle.hex.specs.Hex.{hex_digit_value, pair_value}

pub pair_value-digits : (high low at h l : ℕ) → hex_digit_value high ≡ Some h → hex_digit_value low ≡ Some l →
    pair_value high low at ≡ Ok (h * 16 + l)
pair_value-digits high low at h l is_high is_low = rw (is_high, is_low) refl
