-- What the command comes to. This project's own.
use Rattle.std.specs.Prelude.{◌≡◌, Result}
use Rattle.device_command.specs.Devised.{IsAnswered}
use Rattle.spdm_command.specs.Streams.{outcome_of}
use Rattle.spdm_command.specs.declared.outcome.Outcome.{Outcome}
use Rattle.stream_commands.specs.Outside.{Outside}
use Rattle.stream_commands.specs.declared.fault.StreamFault.{StreamFault}

-- The outcome is that of an answer which came of a device so.
pub record IsDevised (before after : Outside) (outcome : Outcome) : Type 0 where
  pub answer : Result (Unit {0}) StreamFault
  pub is : outcome ≡ outcome_of answer
  pub answered : IsAnswered before after answer
