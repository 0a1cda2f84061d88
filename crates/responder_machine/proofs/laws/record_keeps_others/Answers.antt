use Rattle.responder_machine.proofs.Entries.{others_kept}
use Rattle.responder_machine.proofs.laws.record_keeps_others.Goals as goal

pub returns : goal.returns
returns c = others_kept
