use Rattle.script_laws.proofs.AtPackets.{at_packets as proved}
use Rattle.script_laws.proofs.laws.script_matches_at_packets.Goals as goal

pub returns : goal.returns
returns c = proved
