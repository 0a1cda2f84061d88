use Rattle.std.proofs.Common.{refl}
use Rattle.attestor.proofs.Steps.{ends_given, not_failed, the_one}
use Rattle.attestor.specs.Attesting.{own_session}
use Rattle.requester_machine.specs.Message.Command.{End}
use Rattle.requester_machine.specs.Shown.{last_data}
use Rattle.attestor.proofs.attestor.Attestor.decide.Goals as goal

pub returns : goal.returns
returns c = λ a stands none.
    let is = the_one a.rules c.args.self.now.policy (last_data a.requester.history) c.last_data.result.now c.appraise-appraisal.result stands.rules (c.last_data.ensures a.requester stands.requester) c.appraise-appraisal.ensures.holds c.appraise-appraisal.ensures.only in
    ends_given a (End own_session) c.tell.result c.appraise-appraisal.result c.tell.new.out c.tell.new.self _ is (c.tell.ensures.told a stands (not_failed a.decision none)) refl refl refl refl
