-- Small laws of truth values and of numbers that tests compare, for the proofs of several crates.
use Rattle.std.proofs.Common.{◌≡◌, ◌<◌, ◌≤◌, ◌+◌, ◌*◌, ℕ, suc, Bool, true, false, ◌==◌, ◌&&◌, nat_lt, arith}
use Rattle.std.proofs.lemmas.Bool.{and_parts, false≢true}
use Rattle.std.proofs.lemmas.Bool.Decides.{nat_tests}
use Rattle.std.proofs.lemmas.Grind.{common_steps}

pub and_first : (a b : Bool) → (a && b) ≡ true → a ≡ true
and_first a b is = (and_parts a b is).0

pub and_second : (a b : Bool) → (a && b) ≡ true → b ≡ true
and_second a b is = (and_parts a b is).1

-- Where not both hold and the first does, the second does not.
pub and_rest : (a b : Bool) → (a && b) ≡ false → a ≡ true → b ≡ false
and_rest true b is a = is
and_rest false b is a = absurd (false≢true a)

-- A number is not one that is less.
pub not_less : (a b : ℕ) → b < a → (a == b) ≡ false
not_less a b less = grind (arith, nat_tests)

pub lt_false : (a b : ℕ) → b ≤ a → nat_lt a b ≡ false
lt_false a b more = grind (arith, common_steps)

-- One more unit.
pub suc_units : (k unit : ℕ) → suc k * unit ≡ k * unit + unit
suc_units k unit = grind arith
