use Rattle.responder_machine.specs.Session.{session_of}
use Rattle.check_fetched_ends.proofs.clear_fetch.handshake_left.is_begun.Goals as goal

pub returns : goal.returns
returns c = λ r h stands few. c.is_beginning.ensures (session_of c.args.id h) (c.view.ensures r h stands few)
