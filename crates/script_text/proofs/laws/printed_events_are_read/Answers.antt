use Rattle.script_text.proofs.ReadBack.{printed_events}
use Rattle.script_text.proofs.laws.printed_events_are_read.Goals as goal

pub returns : goal.returns
returns c = printed_events
