use Rattle.psk_session.proofs.Entries.{opening_is_answer}
use Rattle.psk_session.proofs.laws.opening_is_answer.Goals as goal

pub returns : goal.returns
returns c = opening_is_answer
