use Rattle.responder_machine.proofs.Codes.{asked-code}
use Rattle.responder_machine.proofs.laws.request_has_its_code.Goals as goal

pub returns : goal.returns
returns c = asked-code
