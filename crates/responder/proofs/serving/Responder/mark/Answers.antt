use Rattle.responder.proofs.Marked.{marked, unmarked}
use Rattle.responder.proofs.serving.Responder.mark.Goals as goal
use Rattle.responder_machine.specs.Responding.{connection_of}

pub returns-in-Some : goal.returns-in-Some
returns-in-Some c = λ r stands.
    marked c.in-Some.view c.is_established.result c.args.id (connection_of c.args.eid.number r.connections) (c.in-Some.ensures r stands) c.is_established.ensures

pub returns-in-None : goal.returns-in-None
returns-in-None c = λ r stands. unmarked c.args.id (connection_of c.args.eid.number r.connections) (c.in-None.ensures r stands)
