use Rattle.responder_core.proofs.PutAnswers.{connection_changes, was_unseen}
use Rattle.responder_rules.specs.LargeAnswer.{turn_unseen}
use Rattle.responder_core.proofs.connected.Connection.forget_in.Goals as goal

pub returns : goal.returns
returns c = λ r h large measures stands. connection_changes turn_unseen was_unseen r h c.args.id c.args.self.now c.forget.new.self stands (c.forget.ensures r h large measures stands.sessions)
