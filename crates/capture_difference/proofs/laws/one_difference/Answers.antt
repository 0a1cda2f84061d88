use Rattle.capture_difference.proofs.OneTold.{one_difference_told}
use Rattle.capture_difference.proofs.laws.one_difference.Goals as goal

pub returns : goal.returns
returns c = one_difference_told
