use Rattle.std.proofs.Common.{refl}
use Rattle.check_late_laws.proofs.Late.MarksStand.{none_marked}
use Rattle.check_late_laws.proofs.late_fetch.marks.Marks.new.Goals as goal

pub returns : goal.returns
returns c = λ id least most. none_marked _ id refl least most
