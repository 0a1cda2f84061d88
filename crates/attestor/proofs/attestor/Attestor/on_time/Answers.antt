use Rattle.std.proofs.Common.{◌∙◌, sym}
use Rattle.attestor.proofs.Steps.{timed_resting, timed_waiting, waits_on}
use Rattle.attestor.proofs.attestor.Attestor.on_time.Goals as goal

pub returns-then-self-clause-timed : goal.returns-then-self-clause-timed
returns-then-self-clause-timed c = λ a stands.
    let out = sym stands.waiting ∙ c.if-self.true in
    timed_waiting a c.tell.result c.tell.new.out c.tell.new.self out (c.tell.ensures.told a stands (waits_on c.args.self.now a stands out))

pub returns-else-self-clause-timed : goal.returns-else-self-clause-timed
returns-else-self-clause-timed c = λ a stands. timed_resting a c.clear.new.self c.args.self.now (sym stands.waiting ∙ c.if-self.false) c.clear.ensures stands
