use Rattle.std.proofs.Common.{◌≡◌, length}
use Rattle.capture_difference.specs.Spots.{spot_in}
use Rattle.capture_difference.proofs.spots.spot_in.Given as goal

-- The byte stands among the fields that are left as among all.
abbrev pub invariant-loop-rest : goal.invariant-loop-rest
invariant-loop-rest l = spot_in l.rest l.left ≡ spot_in l.fields l.place

abbrev pub decreases-loop-rest : goal.decreases-loop-rest
decreases-loop-rest l = length l.rest
