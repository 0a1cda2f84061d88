use Rattle.mctp_framing.proofs.NewStart as start
use Rattle.mctp_framing.proofs.laws.first_packet_begins_anew.Goals as goal

pub returns-clause-answer : goal.returns-clause-answer
returns-clause-answer c = start.gathered-first

pub returns-clause-later : goal.returns-clause-later
returns-clause-later c = start.gathered-from
