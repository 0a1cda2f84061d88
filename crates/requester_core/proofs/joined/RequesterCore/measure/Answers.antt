use Rattle.std.proofs.Common.{◌∙◌, ap, None}
use Rattle.requester_core.proofs.Joining.{clear_done, clear_fails}
use Rattle.requester_core.proofs.SessionsApart.{measure_passes}
use Rattle.requester_machine.specs.Message.Command.{Measure}
use Rattle.spdm_machine.specs.Bodies.{clear_body}
use Rattle.requester_core.proofs.joined.RequesterCore.measure.Goals as goal

pub returns-in-Ok : goal.returns-in-Ok
returns-in-Ok c = λ q h f d sizes stands.
    clear_done q h (Measure None c.args.op) f d c.in-Ok.tag c.write_clear.new.out
    (record { clear_state = c.measure.new.self; gathered = c.args.self.now.gathered; sessions = c.args.self.now.sessions; message = c.measure.new.out })
    c.measure.new.out (c.in-Ok.ensures q h f d sizes stands.clear_state) (c.write_clear.ensures ∙ ap clear_body c.as_slice.ensures.value)
    (λ sent adds behind. measure_passes c.args.self.now.sessions q h f d c.args.op sent adds stands.sessions) stands.gathers.max

pub returns-in-Err : goal.returns-in-Err
returns-in-Err c = λ q h f d sizes stands. clear_fails q h (Measure None c.args.op) f d c.in-Err.fault c.args.self.now c.measure.new.self c.measure.new.out (c.in-Err.ensures q h f d sizes stands.clear_state) stands
