use Rattle.capture_pcap.proofs.ReadBack.{read_back}
use Rattle.capture_pcap.proofs.laws.file_is_read_back.Goals as goal

pub returns : goal.returns
returns c = read_back
