use Rattle.pcap_file.proofs.Back.{file_back}
use Rattle.pcap_file.proofs.laws.written_file_is_read.Goals as goal

pub returns : goal.returns
returns c = file_back
