use Rattle.std.proofs.Common.{refl}
use Rattle.attestor.proofs.Steps.{heard_stands}
use Rattle.attestor.proofs.attestor.Attestor.hear.Goals as goal

pub returns-clause-heard : goal.returns-clause-heard
returns-clause-heard c = λ a stands.
    let given = c.on_packet-event.ensures a.requester stands.requester in
    record {
      event = given.event;
      sent = given.sent;
      stands = heard_stands c.args.self.now _ a c.args.packet.now c.on_packet-event.result stands given.event given.stands refl refl c.waits_after-self.ensures;
    }
