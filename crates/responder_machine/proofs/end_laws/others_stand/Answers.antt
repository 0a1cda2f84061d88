use Rattle.responder_machine.proofs.Others.{others}
use Rattle.responder_machine.proofs.end_laws.others_stand.Goals as goal

pub returns : goal.returns
returns c = others
