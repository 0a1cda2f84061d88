use Rattle.std.proofs.Common.{refl, subst}
use Rattle.attestor.proofs.Steps.{goes_on_done, goes_on_failed, not_failed}
use Rattle.requester_core.specs.Joined.{command_of}
use Rattle.attestor.proofs.attestor.Attestor.go_on.Goals as goal

pub returns-in-Ok : goal.returns-in-Ok
returns-in-Ok c = λ a stands none out. goes_on_done a (command_of c.args.command) c.tell.new.out c.tell.new.self (c.in-Ok.ensures.told a stands (not_failed a.decision none))

pub returns-in-Err : goal.returns-in-Err
returns-in-Err c = λ a stands none out. goes_on_failed a (command_of c.args.command) _ c.tell.new.out c.tell.new.self _ out (c.in-Err.ensures.told a stands (not_failed a.decision none)) refl refl refl refl
