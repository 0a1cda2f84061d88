use Rattle.responder_core.proofs.PutAnswers.{connection_changes, gets_bytes}
use Rattle.responder_rules.specs.LargeAnswer.{turn_with}
use Rattle.responder_core.proofs.connected.Connection.set_pending_bytes.Goals as goal

pub returns : goal.returns
returns c = λ r h large pending measures stands.
    let answer = c.args.answer.now in
    connection_changes (turn_with answer) (gets_bytes answer) r h c.args.id c.args.self.now c.set_pending_bytes.new.self stands (c.set_pending_bytes.ensures r h large pending measures stands.sessions)
