use Rattle.std.proofs.Common.{◌∙◌, ap}
use Rattle.spdm_machine.specs.Bodies.{clear_body}
use Rattle.requester_core.proofs.BodiesJoined.{as_told, closed_answer, goes_answer, rests_answer}
use Rattle.requester_core.proofs.joined.RequesterCore.on_body.Goals as goal

pub returns-in-Rests : goal.returns-in-Rests
returns-in-Rests c = λ q h f d set_up padded short stands.
    as_told q h _ c.told-in-Rests.result _ _ _ c.told-in-Rests.ensures
    (rests_answer q h c.args.owner c.args.tag c.args.body.now f d c.in-Rests.event c.args.out.now (record { clear_state = c.on_body-heard.new.self; gathered = c.on_body-heard.new.gathered; sessions = c.args.self.now.sessions; message = c.on_body-heard.new.out })
    (c.in-Rests.ensures.heard q h set_up stands.clear_state stands.gathers f d) stands.sessions (c.in-Rests.ensures.gathered q h set_up stands.clear_state stands.gathers))

pub returns-in-Closes : goal.returns-in-Closes
returns-in-Closes c = λ q h f d set_up padded short stands.
    as_told q h _ c.told-in-Closes.result _ _ _ c.told-in-Closes.ensures
    (closed_answer q h c.args.owner c.args.tag c.args.body.now f d c.in-Closes.id c.in-Closes.event c.args.out.now c.args.self.now.sessions
    (record { clear_state = c.on_body-heard.new.self; gathered = c.on_body-heard.new.gathered; sessions = c.close.new.self; message = c.on_body-heard.new.out })
    (c.in-Closes.ensures.heard q h set_up stands.clear_state stands.gathers f d)
    (λ led adds closes. c.close.ensures q h f c.args.owner c.args.tag c.args.body.now d led adds closes stands.sessions) (c.in-Closes.ensures.gathered q h set_up stands.clear_state stands.gathers))

pub returns-in-Sends : goal.returns-in-Sends
returns-in-Sends c = λ q h f d set_up padded short stands.
    as_told q h _ c.sent.result _ _ _ c.sent.ensures
    (goes_answer q h c.args.owner c.args.tag c.args.body.now f d c.in-Sends.tag c.on_body-heard.new.out c.write_clear.new.out (record { clear_state = c.on_body-heard.new.self; gathered = c.on_body-heard.new.gathered; sessions = c.args.self.now.sessions; message = c.on_body-heard.new.out })
    (c.in-Sends.ensures.heard q h set_up stands.clear_state stands.gathers f d) (c.write_clear.ensures ∙ ap clear_body c.as_slice.ensures.value) stands.sessions (c.in-Sends.ensures.gathered q h set_up stands.clear_state stands.gathers))
