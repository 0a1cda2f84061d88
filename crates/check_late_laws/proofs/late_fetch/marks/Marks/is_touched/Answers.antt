use Rattle.std.proofs.Common.{◌∙◌}
use Rattle.check_late_laws.proofs.late_fetch.marks.Marks.is_touched.Goals as goal

pub returns : goal.returns
returns c = λ h stands least most. c.marked.ensures ∙ stands c.args.id least most
