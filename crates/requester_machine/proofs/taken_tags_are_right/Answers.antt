use Rattle.requester_machine.proofs.Right.{right}
use Rattle.requester_machine.proofs.taken_tags_are_right.Goals as goal

pub returns : goal.returns
returns c = right
