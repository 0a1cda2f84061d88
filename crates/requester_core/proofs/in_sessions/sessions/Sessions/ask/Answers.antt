use Rattle.std.proofs.Common.{refl}
use Rattle.requester_core.proofs.SessionsAsked.{failed_to, few_epochs, resting, told_to}
use Rattle.requester_core.specs.declared.in_sessions.sessions.Sessions.{Sessions}
use Rattle.requester_machine.specs.Session.{session_of}
use Rattle.requester_core.proofs.in_sessions.sessions.Sessions.ask.Goals as goal

pub returns-in-Ok : goal.returns-in-Ok
returns-in-Ok c = λ q h f d padded short none phase stands.
    let id = c.args.id in
    let after : Sessions = record { slots = c.ask_at.new.self.slots; id = id } in
    let asked = c.in-Ok.ensures.own q.psk (session_of id h) (stands.slots id) (resting h id none (stands.orders id)).1 (few_epochs h id short) in
    told_to c.args.self.now after q h f d id c.args.ask c.args.pad.now padded stands none phase asked c.in-Ok.ensures.others refl

pub returns-in-Err : goal.returns-in-Err
returns-in-Err c = λ q h f d padded short none phase stands.
    let id = c.args.id in
    let asked = c.in-Err.ensures.own q.psk (session_of id h) (stands.slots id) (resting h id none (stands.orders id)).1 (few_epochs h id short) in
    failed_to c.args.self.now c.ask_at.new.self q h f d id c.args.ask c.args.pad.now c.in-Err.fault stands none phase asked c.in-Err.ensures.others c.in-Err.ensures.id
