use Rattle.std.proofs.Common.{◌∙◌, ap}
use Rattle.check_fetched_ends.proofs.session_fetch.session_prepared.operation_in.Goals as goal
use Rattle.check_fetched_ends.specs.Prepared.{operation_in}

pub returns-in-Ok : goal.returns-in-Ok
returns-in-Ok c = c.operation_of.ensures ∙ ap operation_in c.in-Ok.ensures.value

pub returns-in-Err : goal.returns-in-Err
returns-in-Err c = ap operation_in c.in-Err.ensures.value
