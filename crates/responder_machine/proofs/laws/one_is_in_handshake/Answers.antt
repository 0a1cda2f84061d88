use Rattle.responder_machine.proofs.Handshakes.{one_handshake}
use Rattle.responder_machine.proofs.laws.one_is_in_handshake.Goals as goal

pub returns : goal.returns
returns c = one_handshake
