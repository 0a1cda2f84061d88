use Rattle.std.proofs.Common.{refl, sym}
use Rattle.trace_check.proofs.AllPairs.{refused_by}
use Rattle.trace_check.proofs.checker.Checker.take.Goals as goal
use Rattle.capture_machine.specs.Difference.Why.{BadPacket}

pub returns-in-Err : goal.returns-in-Err
returns-in-Err c = λ w older sound is few. refused_by w older c.args.self.now c.args.packet.now _ BadPacket is (sym c.in-Err.ensures.parsed) refl
