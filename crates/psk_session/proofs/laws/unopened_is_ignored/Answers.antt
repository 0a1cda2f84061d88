use Rattle.psk_session.proofs.Entries.{unopened_is_ignored}
use Rattle.psk_session.proofs.laws.unopened_is_ignored.Goals as goal

pub returns : goal.returns
returns c = unopened_is_ignored
