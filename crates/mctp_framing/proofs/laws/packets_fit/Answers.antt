use Rattle.mctp_framing.proofs.Packets as list
use Rattle.mctp_framing.proofs.laws.packets_fit.Goals as goal

pub returns-clause-count : goal.returns-clause-count
returns-clause-count c = list.length-packets_of

pub returns-clause-sizes : goal.returns-clause-sizes
returns-clause-sizes c = list.packets_fit
