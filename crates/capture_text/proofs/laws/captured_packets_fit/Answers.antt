use Rattle.capture_text.proofs.PacketsFit.{packets_fit}
use Rattle.capture_text.proofs.laws.captured_packets_fit.Goals as goal

pub returns : goal.returns
returns c = packets_fit
