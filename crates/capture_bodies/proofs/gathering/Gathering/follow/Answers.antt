use Rattle.std.proofs.Common.{sym}
use Rattle.capture_bodies.proofs.Places.{keeps_skipped}
use Rattle.capture_bodies.proofs.gathering.Gathering.follow.Goals as goal

pub returns-in-Err-clause-keeps : goal.returns-in-Err-clause-keeps
returns-in-Err-clause-keeps c = λ own eids older k.
    keeps_skipped c.args.self.now own eids older c.args.packet.now c.in-Err.field-0 k (sym c.in-Err.ensures.parsed)

pub returns-in-Ok-clause-keeps : goal.returns-in-Ok-clause-keeps
returns-in-Ok-clause-keeps c = λ own eids older k.
    c.take.ensures.keeps own eids older c.args.packet.now k (sym c.in-Ok.ensures.parsed)
