use Rattle.std.proofs.Common.{◌∙◌, sym}
use Rattle.attestor.proofs.Steps.{not_failed, started_decided, started_open}
use Rattle.attestor.specs.Attesting.{attesting_started}
use Rattle.attestor.proofs.attestor.Attestor.start.Goals as goal

pub returns-then-not-self : goal.returns-then-not-self
unfolding attesting_started
returns-then-not-self c = λ a stands.
    let none = sym stands.decided ∙ c.if-not-self.true in
    started_open a a.decision c.tell.result c.tell.new.out c.tell.new.self none (c.tell.ensures.told a stands (not_failed a.decision none))

pub returns-else-not-self : goal.returns-else-not-self
unfolding attesting_started
returns-else-not-self c = λ a stands. started_decided a a.decision c.clear.new.self c.args.self.now (sym stands.decided ∙ c.if-not-self.false) c.clear.ensures stands
