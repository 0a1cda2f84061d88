use Rattle.std.proofs.Common.{◌∙◌, ap}
use Rattle.requester_core.proofs.Joining.{clear_done}
use Rattle.requester_machine.specs.Message.Command.{Connect}
use Rattle.spdm_machine.specs.Bodies.{clear_body}
use Rattle.requester_core.proofs.joined.RequesterCore.connect.Goals as goal

pub returns : goal.returns
returns c = λ q h f d counts max.
    clear_done q h Connect f d c.connect-tag.result c.write_clear.new.out
    (record { clear_state = c.connect-tag.new.self; gathered = c.args.self.now.gathered; sessions = c.clear.new.self; message = c.connect-tag.new.out })
    c.connect-tag.new.out (c.connect-tag.ensures q h f d counts) (c.write_clear.ensures ∙ ap clear_body c.as_slice.ensures.value)
    (λ sent adds behind. c.clear.ensures q h f d sent adds) max
