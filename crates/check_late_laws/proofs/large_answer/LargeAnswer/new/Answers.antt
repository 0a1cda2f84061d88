-- Before the first chunk nothing is known.
use Rattle.std.proofs.Common.{refl}
use Rattle.check_late_laws.proofs.Taken.{new_stands}
use Rattle.check_late_laws.proofs.large_answer.LargeAnswer.new.Goals as goal

pub returns : goal.returns
returns c = λ f is. new_stands _ f refl refl c.new.ensures is
