use Rattle.mctp_framing.proofs.Packets.{packets_join}
use Rattle.mctp_framing.proofs.laws.payloads_are_the_body.Goals as goal

pub returns : goal.returns
returns c = packets_join
