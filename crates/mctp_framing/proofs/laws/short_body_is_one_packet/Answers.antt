use Rattle.mctp_framing.proofs.Packets.{packets_of-short}
use Rattle.mctp_framing.proofs.laws.short_body_is_one_packet.Goals as goal

pub returns : goal.returns
returns c = packets_of-short
