-- What the commands come to. This project's own.
use Rattle.std.specs.Prelude.{◌≡◌, ℕ, List, Option, Result, Ok, Err}
use Rattle.appraise.specs.declared.appraisal.Appraisal.{Appraisal}
use Rattle.attest_command.specs.InputEnds.{Answers}
use Rattle.attest_command.specs.Outcome as attested
use Rattle.spdm_command.specs.Streams.{outcome_of_kept, outcome_of_verdict}
use Rattle.spdm_command.specs.declared.outcome.Outcome.{Outcome}
use Rattle.stream_commands.specs.Driven as driven
use Rattle.stream_commands.specs.InputEnds.{InputEnd}
use Rattle.stream_commands.specs.Kept.{KeeperState, KeptAnswers}
use Rattle.stream_commands.specs.Outside.{Outside}
use Rattle.stream_commands.specs.declared.kept_fault.KeptFault.{KeptFault}

-- The outcome of what came of an attestation.
abbrev pub outcome_of_attestation : Result (Option Appraisal) KeptFault → Outcome
outcome_of_attestation (Ok verdict) = outcome_of_verdict verdict
outcome_of_attestation (Err fault) = outcome_of_kept (Err fault)

-- The outcome is that of an answer which came of driving the requester so, in the life of the next boot of the keeper.
pub record IsDrivenKept (found left : KeeperState) (before after : Outside) (outcome : Outcome) : Type 0 where
  pub answer : Result (Unit {0}) KeptFault
  pub is : outcome ≡ outcome_of_kept answer
  pub answered : driven.IsAnsweredKept found left before after answer

-- The same of an attestation.
pub record IsAttestedKept (found left : KeeperState) (before after : Outside) (outcome : Outcome) : Type 0 where
  pub answer : Result (Option Appraisal) KeptFault
  pub is : outcome ≡ outcome_of_attestation answer
  pub answered : attested.IsAnsweredKept found left before after answer

-- The outcome is that of an answer to an input that ends so, of a keeper with this device.
pub record IsAttestedFor (device : List ℕ) (end : InputEnd) (outcome : Outcome) : Type 0 where
  pub answer : Result (Option Appraisal) KeptFault
  pub is : outcome ≡ outcome_of_attestation answer
  pub answers : KeptAnswers Answers device end answer
