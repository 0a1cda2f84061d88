use Rattle.std.proofs.Common.{◌≡◌, ◌⊎◌, sym, subst}
use Rattle.spdm_command.proofs.Judged.{judged_exactly}
use Rattle.spdm_command.proofs.checks.check_capture.Goals as goal
use Rattle.spdm_command.specs.Checks.{IsJudgedExactly}
use Rattle.spdm_command.specs.declared.outcome.Outcome.{Outcome}
use Rattle.spdm_command.specs.declared.outcome.Outcome.TheVariants.{OutOfMemory}

pub returns-clause-exact_verdict : goal.returns-clause-exact_verdict
returns-clause-exact_verdict g c = λ text capture left is read written.
    subst (λ (o : Outcome). (o ≡ OutOfMemory) ⊎ IsJudgedExactly capture o) (sym c.outcome_of.ensures)
    (judged_exactly capture c.check_input-answer.result (c.check_input-answer.ensures.exact_verdict text capture left is read written))
