use Rattle.check_laws.proofs.ChangesMade.{round_is_request}
use Rattle.check_laws.proofs.change_laws.round_is_request.Goals as goal

pub returns : goal.returns
returns c = round_is_request
