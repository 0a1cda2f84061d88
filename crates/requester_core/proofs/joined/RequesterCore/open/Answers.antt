use Rattle.std.proofs.Common.{◌∙◌, ap, sym}
use Rattle.requester_core.proofs.Joining.{clear_done, clear_fails}
use Rattle.requester_machine.specs.Message.Command.{Open}
use Rattle.spdm_machine.specs.Bodies.{clear_body}
use Rattle.requester_core.proofs.joined.RequesterCore.open.Goals as goal

pub returns-in-Ok : goal.returns-in-Ok
returns-in-Ok c = λ q h f d set_up key free allowed stands.
    clear_done q h (Open c.args.summary) f d c.in-Ok.tag c.write_clear.new.out
    (record { clear_state = c.open.new.self; gathered = c.args.self.now.gathered; sessions = c.open-in-Ok.new.self; message = c.open.new.out })
    c.open.new.out (c.in-Ok.ensures q h f d set_up free allowed (sym (c.count-live.ensures q h stands.sessions)) stands.clear_state) (c.write_clear.ensures ∙ ap clear_body c.as_slice.ensures.value)
    (λ sent adds behind. c.open-in-Ok.ensures q h f d sent key free.id adds behind stands.sessions) stands.gathers.max

pub returns-in-Err : goal.returns-in-Err
returns-in-Err c = λ q h f d set_up key free allowed stands.
    clear_fails q h (Open c.args.summary) f d c.in-Err.fault c.args.self.now c.open.new.self c.open.new.out (c.in-Err.ensures q h f d set_up free allowed (sym (c.count-live.ensures q h stands.sessions)) stands.clear_state) stands
