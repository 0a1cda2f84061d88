use Rattle.responder_core.proofs.PutAnswers.{gets_bytes, sessions_change}
use Rattle.responder_rules.specs.LargeAnswer.{turn_with}
use Rattle.responder_machine.specs.Session.{session_of}
use Rattle.responder_core.proofs.in_sessions.sessions.Sessions.set_pending_bytes.Goals as goal

pub returns : goal.returns
returns c = λ r h large pending measures stands.
    let id = c.args.id in
    let answer = c.args.answer.now in
    sessions_change (turn_with answer) (gets_bytes answer) r h id c.args.self.now c.put_at.new.self measures stands (c.put_at.ensures.own r (session_of id h) large pending measures (stands.slots id)) c.put_at.ensures.others c.put_at.ensures.ended
