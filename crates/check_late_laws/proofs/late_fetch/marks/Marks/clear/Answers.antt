use Rattle.std.proofs.Common.{refl}
use Rattle.check_late_laws.proofs.Late.MarksStand.{cleared}
use Rattle.check_late_laws.proofs.late_fetch.marks.Marks.clear.Goals as goal

pub returns : goal.returns
returns c = λ h tag t d taken. cleared _ h tag t d refl taken
