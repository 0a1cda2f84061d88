use Rattle.responder_core.proofs.LateFetch.{pends_again}
use Rattle.responder_core.proofs.PutAnswers.{sessions_change}
use Rattle.responder_machine.specs.Session.{session_of, turns_of}
use Rattle.responder_session.proofs.LateFetch.{last_unseen}
use Rattle.responder_session.specs.LateFetch.{turn_pending}
use Rattle.responder_core.proofs.in_sessions.sessions.Sessions.make_pending.Goals as goal

pub returns : goal.returns
returns c = λ r h large unseen stands.
    let id = c.args.id in
    let answer = c.args.answer.now in
    let handle = c.args.handle in
    let measures = last_unseen (turns_of (session_of id h)) unseen in
    sessions_change (turn_pending answer handle) (pends_again answer handle) r h id c.args.self.now c.make_at.new.self measures stands (c.make_at.ensures.own r (session_of id h) large unseen (stands.slots id)) c.make_at.ensures.others c.make_at.ensures.ended
