-- How long decimal numbers are.
use Rattle.std.proofs.Common.{◌≡◌, ℕ, ◌+◌, ◌/◌, ◌%◌, ◌^◌, ◌<◌, ◌≤◌, [], ◌∷◌, length, ap, ◌∙◌, arith, length-append}
use Rattle.std.specs.Fmt.{decimal}
use Rattle.std.proofs.lemmas.Fmt.{decimal_step, decimal_digit, length-decimal-le}

-- a number of 64 bits has at most 20 digits
pub decimal_short : (n : ℕ) → n < 2 ^ 64 → length (decimal n) ≤ 20
decimal_short n h = length-decimal-le 20 n (omega arith) (omega arith) h

-- a number has one digit more than its tenth
pub decimal_longer : (n : ℕ) → 10 ≤ n → n < 2 ^ 64 → length (decimal n) ≡ length (decimal (n / 10)) + 1
decimal_longer n h fits = ap length (decimal_step n h fits) ∙ length-append (decimal (n / 10)) ((48 + n % 10) ∷ [])

-- a number below ten has one digit
pub decimal_one : (n : ℕ) → n < 10 → length (decimal n) ≡ 1
decimal_one n h = ap length (decimal_digit n h)
