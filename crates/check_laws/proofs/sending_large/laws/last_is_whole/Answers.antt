use Rattle.check_laws.proofs.Large.PiecesShown.{last_is_whole}
use Rattle.check_laws.proofs.sending_large.laws.last_is_whole.Goals as goal

pub returns : goal.returns
returns c = last_is_whole
