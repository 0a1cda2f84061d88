-- What a responder answers to an input: a configuration and a stream of frames after it. This project's own.
use Rattle.std.specs.Prelude.{ℕ, List, Result}
use Rattle.frame_stream.specs.Frames.{Ending}
use Rattle.frame_stream.specs.Frames.Ending.{Done}
use Rattle.responder_serve.specs.Served as serving
use Rattle.responder_serve.specs.Served.{responder_in_life}
use Rattle.script_text.specs.declared.configuration.config.ScriptConfig.{ScriptConfig}
use Rattle.stream_commands.specs.StreamStart.{config_text, stream_in}
use Rattle.stream_commands.specs.Kept.{IsKeptAnswerOf, KeeperState}
use Rattle.stream_commands.specs.Outside.{IsAnswerOf, Outside, StreamCommand}
use Rattle.stream_commands.specs.SetUp.{IsSetUp}
use Rattle.stream_commands.specs.declared.fault.StreamFault.{StreamFault}
use Rattle.stream_commands.specs.declared.kept_fault.KeptFault.{KeptFault}

-- ---- In the life of a boot number.

-- The responder of the configuration with the seed answered all whole frames of the stream, and no more was written.
-- The stream ends so after them.
pub record IsServed (boot : ℕ) (before after : Outside) (ending : Ending) : Type 0 where
  pub config : ScriptConfig
  pub seed : List ℕ
  pub set_up : IsSetUp config seed before after
  pub served : serving.IsServed (responder_in_life config seed boot) (stream_in before.left) before.holds after.holds ending

-- A prefix of its answers to the first frames of the stream was written.
pub record IsBegunToServe (boot : ℕ) (before after : Outside) : Type 0 where
  pub config : ScriptConfig
  pub seed : List ℕ
  pub set_up : IsSetUp config seed before after
  pub served : serving.IsServedInPart (responder_in_life config seed boot) (stream_in before.left) before.holds after.holds

-- What was answered then.
abbrev pub serving_command : StreamCommand (Unit {0})
serving_command = record {
  text = config_text;
  whole = IsServed;
  part = IsBegunToServe;
  done = λ boot before after answer. IsServed boot before after Done;
}

-- ---- What was answered in its first life, and in the life of the next boot of a keeper.

abbrev pub IsAnswered : (before after : Outside) → Result (Unit {0}) StreamFault → Type 0
IsAnswered before after answer = IsAnswerOf serving_command 0 before after answer

abbrev pub IsAnsweredKept : (found left : KeeperState) → (before after : Outside) → Result (Unit {0}) KeptFault → Type 0
IsAnsweredKept found left before after answer = IsKeptAnswerOf serving_command found left before after answer
