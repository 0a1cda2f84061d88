use Rattle.psk_session.proofs.Entries.{data_are_last}
use Rattle.psk_session.proofs.laws.data_are_last.Goals as goal

pub returns : goal.returns
returns c = data_are_last
