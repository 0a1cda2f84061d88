use Rattle.chunking.proofs.CutAndCollected as law
use Rattle.chunking.proofs.laws.cut_is_collected.Goals as goal

pub returns-clause-answer : goal.returns-clause-answer
returns-clause-answer c = λ max transfer handle message earlier k sound within. law.collected-nth max transfer handle message sound earlier k within

pub returns-clause-accepted : goal.returns-clause-accepted
returns-clause-accepted c = λ max transfer handle message earlier k sound within. law.accepted-nth max transfer handle message sound earlier k within
