use Rattle.check_late_laws.proofs.Late.MarksStand.{dropped_stands, record_stands}
use Rattle.check_late_laws.proofs.late_fetch.marks.Marks.touch.Goals as goal

pub returns-clause-record_came : goal.returns-clause-record_came
returns-clause-record_came c = record_stands c.args.self.now c.mark.new.self c.args.id c.mark.ensures.own c.mark.ensures.others

pub returns-clause-dropped : goal.returns-clause-dropped
returns-clause-dropped c = dropped_stands c.args.self.now c.mark.new.self c.args.id c.mark.ensures.own c.mark.ensures.others
