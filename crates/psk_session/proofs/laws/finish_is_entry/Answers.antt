use Rattle.psk_session.proofs.Entries.{finish_is_entry}
use Rattle.psk_session.proofs.laws.finish_is_entry.Goals as goal

pub returns : goal.returns
returns c = finish_is_entry
