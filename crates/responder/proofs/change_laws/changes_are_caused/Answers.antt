use Rattle.responder.proofs.Caused.{caused}
use Rattle.responder.proofs.change_laws.changes_are_caused.Goals as goal

pub returns : goal.returns
returns c = caused
