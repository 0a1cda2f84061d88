-- Where no chunk is left, none is pending.
use Rattle.std.proofs.Common.{ap}
use Rattle.std.specs.Prelude.{is_some}
use Rattle.responder_rules.proofs.Left.{left_pends}
use Rattle.responder_rules.proofs.large_answer.LargeAnswer.idle_copy.Goals as goal

-- src/large_answer.rt:64:5
pub returns-in-Some-clause-idle : goal.returns-in-Some-clause-idle
returns-in-Some-clause-idle c = λ transfer turns stands none. left_pends c.args.self.now transfer turns c.current.result (ap is_some c.in-Some.is) c.current.ensures stands none
