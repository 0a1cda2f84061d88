-- Endpoints by their numbers (DSP0236, "Endpoint ID").
use Rattle.std.specs.Prelude.{ℕ, min, max}
use Rattle.std.proofs.Common.{lit≤, lit<}
use Rattle.std.proofs.Math.Nat.{le-max_left, max-le, min-le_right, lt_of_le_of_lt}
use Rattle.spdm_basis.specs.declared.values.eid.Eid.{Eid}

-- The endpoint of a number from 8 to 254; of another number, the nearest of these.
unfoldable pub eid_of : ℕ → Eid
eid_of n = record { number = max 8 (min n 254); low = le-max_left 8 (min n 254); high = lt_of_le_of_lt (max-le (lit≤ tt) (min-le_right n 254)) (lit< tt) }
