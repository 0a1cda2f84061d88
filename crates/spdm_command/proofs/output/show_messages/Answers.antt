use Rattle.std.proofs.Common.{◌∙◌, Err, ap}
use Rattle.script_text.specs.ShownText.{shown_in}
use Rattle.spdm_command.proofs.ToldFaults.{bad_in, bad_told}
use Rattle.spdm_command.proofs.output.show_messages.Goals as goal

pub returns-in-Err-Line-clause-bad_line : goal.returns-in-Err-Line-clause-bad_line
returns-in-Err-Line-clause-bad_line g c = λ line f e.
    bad_told (shown_in c.args.text.now) c.in-Err-Line.line c.in-Err-Line.fault (c.in-Err-Line.ensures.bad_line c.in-Err-Line.line c.in-Err-Line.fault (ap Err c.in-Err-Line.field-0-is)) ∙ ap bad_in e
