-- What a responder with an application behind it answers to an input: a configuration and a stream of frames after it.
-- This project's own.
use Rattle.std.specs.Prelude.{ℕ, List, Result}
use Rattle.device_serve.specs.Devised.{device_in_life}
use Rattle.device_serve.specs.Streams as devising
use Rattle.device_serve.specs.Streams.{IsDeviceStream}
use Rattle.frame_stream.specs.Frames.{Ending, GivenFrame}
use Rattle.frame_stream.specs.Frames.Ending.{Done}
use Rattle.script_text.specs.declared.configuration.config.ScriptConfig.{ScriptConfig}
use Rattle.stream_commands.specs.StreamStart.{config_text, stream_in}
use Rattle.stream_commands.specs.Outside.{IsAnswerOf, Outside, StreamCommand}
use Rattle.stream_commands.specs.SetUp.{IsSetUp}
use Rattle.stream_commands.specs.declared.fault.StreamFault.{StreamFault}

-- A stream that is served with an application: packets, seconds that pass, and lines `reply H` and `none`.
abbrev pub IsStreamToDevise : ScriptConfig → List ℕ → List GivenFrame → Ending → Type 0
IsStreamToDevise c stream frames ending = IsDeviceStream stream frames ending

-- The device of the configuration with the seed was given all whole frames of the stream, and what they led to was
-- written, and no more. The stream ends so after them.
pub record IsDevised (boot : ℕ) (before after : Outside) (ending : Ending) : Type 0 where
  pub config : ScriptConfig
  pub seed : List ℕ
  pub set_up : IsSetUp config seed before after
  pub devised : devising.IsDevised config (device_in_life config seed boot) (stream_in before.left) before.holds after.holds ending

-- A prefix of what the first frames of the stream led to was written.
pub record IsBegunToDevise (boot : ℕ) (before after : Outside) : Type 0 where
  pub config : ScriptConfig
  pub seed : List ℕ
  pub set_up : IsSetUp config seed before after
  pub devised : devising.IsDevisedInPart config (device_in_life config seed boot) (stream_in before.left) before.holds after.holds

-- What was answered then.
abbrev pub devising_command : StreamCommand (Unit {0})
devising_command = record {
  text = config_text;
  whole = IsDevised;
  part = IsBegunToDevise;
  done = λ boot before after answer. IsDevised boot before after Done;
}

-- What was answered, in the first life.
abbrev pub IsAnswered : (before after : Outside) → Result (Unit {0}) StreamFault → Type 0
IsAnswered before after answer = IsAnswerOf devising_command 0 before after answer
