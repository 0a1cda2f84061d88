use Rattle.std.proofs.Common.{◌≡◌, length}
use Rattle.responder.specs.Config.{has_same_psk}
use Rattle.responder.proofs.checks.has_same_psk.Given as goal

abbrev pub decreases-loop-rest : goal.decreases-loop-rest
decreases-loop-rest l = length l.rest

abbrev pub invariant-loop-rest : goal.invariant-loop-rest
invariant-loop-rest l = has_same_psk l.rest ≡ has_same_psk l.known
