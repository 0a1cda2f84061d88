use Rattle.std.proofs.Common.{◌≡◌, length}
use Rattle.measurements.specs.Faults.{has_twice}
use Rattle.measurements.proofs.search.has_twice.Given as goal

abbrev pub decreases-loop-rest : goal.decreases-loop-rest
decreases-loop-rest l = length l.rest

abbrev pub invariant-loop-rest : goal.invariant-loop-rest
invariant-loop-rest l = has_twice l.rest ≡ has_twice l.blocks
