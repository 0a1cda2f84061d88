use Rattle.mctp_framing.proofs.Spelled.{parsed-spelled_packet}
use Rattle.mctp_framing.proofs.laws.written_is_read.Goals as goal

pub returns : goal.returns
returns c = parsed-spelled_packet
