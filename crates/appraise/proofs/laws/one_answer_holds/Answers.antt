use Rattle.appraise.proofs.Existence.{one_answer}
use Rattle.appraise.proofs.laws.one_answer_holds.Goals as goal

pub returns : goal.returns
returns c = one_answer
