use Rattle.std.proofs.Common.{◌≡◌, length}
use Rattle.responder.specs.Config.{has_same_eid}
use Rattle.responder.proofs.checks.has_same_eid.Given as goal

abbrev pub decreases-loop-rest : goal.decreases-loop-rest
decreases-loop-rest l = length l.rest

abbrev pub invariant-loop-rest : goal.invariant-loop-rest
invariant-loop-rest l = has_same_eid l.own.number l.rest ≡ has_same_eid l.fn.eid.number l.known
