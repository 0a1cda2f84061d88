use Rattle.mctp_framing.proofs.OwnPackets as own
use Rattle.mctp_framing.proofs.laws.others_count_in_nothing.Goals as goal

pub returns-clause-left_out : goal.returns-clause-left_out
returns-clause-left_out c = own.gathered-own

pub returns-clause-alike : goal.returns-clause-alike
returns-clause-alike c = own.gathered-alike
