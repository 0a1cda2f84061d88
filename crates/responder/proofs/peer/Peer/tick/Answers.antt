use Rattle.responder.proofs.peer.Peer.tick.Goals as goal

pub returns : goal.returns
returns c = λ p given k stands. record { setup = stands.setup; receiver = stands.receiver; assembler = stands.assembler; connection = c.tick.ensures k.setup k.history stands.connection }
