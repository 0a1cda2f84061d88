use Rattle.check_laws.proofs.ChangesMade.{copy_is_request}
use Rattle.check_laws.proofs.change_laws.copy_is_request.Goals as goal

pub returns : goal.returns
returns c = copy_is_request
