use Rattle.std.proofs.Common.{◌≡◌}
use Rattle.check_laws.specs.Rows.{followed}
use Rattle.check_laws.proofs.verdict.SessionTable.follow.Given as goal

-- the sessions of the first RspSessionIDs went on
abbrev pub invariant-loop-slot : goal.invariant-loop-slot
invariant-loop-slot l = l.self ≡ followed l.slot l.places l.change l.fn.self
