use Rattle.responder_core.proofs.PutAnswers.{sessions_change, was_unseen}
use Rattle.responder_rules.specs.LargeAnswer.{turn_unseen}
use Rattle.responder_machine.specs.Session.{session_of}
use Rattle.responder_core.proofs.in_sessions.sessions.Sessions.forget.Goals as goal

pub returns : goal.returns
returns c = λ r h large measures stands.
    let id = c.args.id in
    sessions_change turn_unseen was_unseen r h id c.args.self.now c.forget_at.new.self measures stands (c.forget_at.ensures.own r (session_of id h) large measures (stands.slots id)) c.forget_at.ensures.others c.forget_at.ensures.ended
