-- What a requester does with an input: a configuration and a stream of frames after it. This project's own.
use Rattle.std.specs.Prelude.{◌≡◌, ℕ, List, Some, Result}
use Rattle.frame_stream.specs.Frames.{Ending}
use Rattle.frame_stream.specs.Frames.Ending.{Done}
use Rattle.requester_drive.specs.Driven as driving
use Rattle.requester_drive.specs.First.{first_in_life}
use Rattle.requester_machine.specs.Requesting.{Requesting}
use Rattle.script_text.specs.declared.configuration.config.ScriptConfig.{ScriptConfig}
use Rattle.stream_commands.specs.StreamStart.{config_text, stream_in}
use Rattle.stream_commands.specs.Kept.{IsKeptAnswerOf, KeeperState}
use Rattle.stream_commands.specs.Outside.{IsAnswerOf, Outside, StreamCommand}
use Rattle.stream_commands.specs.SetUp.{IsSetUp}
use Rattle.stream_commands.specs.declared.fault.StreamFault.{StreamFault}
use Rattle.stream_commands.specs.declared.kept_fault.KeptFault.{KeptFault}

-- ---- In the life of a boot number.

-- The first requester of the configuration with the seed was told and given all whole frames of the stream, and what
-- they led to was written, and no more. The stream ends so after them.
pub record IsDriven (boot : ℕ) (before after : Outside) (ending : Ending) : Type 0 where
  pub config : ScriptConfig
  pub seed : List ℕ
  pub set_up : IsSetUp config seed before after
  pub requester : Requesting
  pub first : first_in_life config seed boot ≡ Some requester
  pub driven : driving.IsDriven config requester (stream_in before.left) before.holds after.holds ending

-- A prefix of what the first frames of the stream led to was written.
pub record IsBegunToDrive (boot : ℕ) (before after : Outside) : Type 0 where
  pub config : ScriptConfig
  pub seed : List ℕ
  pub set_up : IsSetUp config seed before after
  pub requester : Requesting
  pub first : first_in_life config seed boot ≡ Some requester
  pub driven : driving.IsDrivenInPart config requester (stream_in before.left) before.holds after.holds

-- What was answered then.
abbrev pub driving_command : StreamCommand (Unit {0})
driving_command = record {
  text = config_text;
  whole = IsDriven;
  part = IsBegunToDrive;
  done = λ boot before after answer. IsDriven boot before after Done;
}

-- ---- What was answered in its first life, and in the life of the next boot of a keeper.

abbrev pub IsAnswered : (before after : Outside) → Result (Unit {0}) StreamFault → Type 0
IsAnswered before after answer = IsAnswerOf driving_command 0 before after answer

abbrev pub IsAnsweredKept : (found left : KeeperState) → (before after : Outside) → Result (Unit {0}) KeptFault → Type 0
IsAnsweredKept found left before after answer = IsKeptAnswerOf driving_command found left before after answer
