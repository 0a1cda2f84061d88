use Rattle.psk_session.proofs.Entries.{course_is_entry}
use Rattle.psk_session.proofs.laws.course_is_entry.Goals as goal

pub returns : goal.returns
returns c = course_is_entry
