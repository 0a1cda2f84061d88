use Rattle.std.proofs.Common.{◌≡◌, length}
use Rattle.appraise.specs.Policies.{has_twice}
use Rattle.appraise.proofs.rules.has_twice.Given as goal

abbrev pub decreases-loop-rest : goal.decreases-loop-rest
decreases-loop-rest l = length l.rest

abbrev pub invariant-loop-rest : goal.invariant-loop-rest
invariant-loop-rest l = has_twice l.rest ≡ has_twice l.rules
