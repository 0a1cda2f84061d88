use Rattle.responder_core.proofs.LateFetch.{pends_again}
use Rattle.responder_core.proofs.PutAnswers.{connection_changes}
use Rattle.responder_session.specs.LateFetch.{turn_pending}
use Rattle.responder_core.proofs.connected.Connection.make_pending.Goals as goal

pub returns : goal.returns
returns c = λ r h large unseen stands.
    let answer = c.args.answer.now in
    let handle = c.args.handle in
    connection_changes (turn_pending answer handle) (pends_again answer handle) r h c.args.id c.args.self.now c.make_pending.new.self stands (c.make_pending.ensures r h large unseen stands.sessions)
