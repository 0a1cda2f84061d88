-- The streams of a device, and what was read and written of one in a call. This project's own.
use Rattle.std.specs.Prelude.{◌≡◌, ◌<◌, ◌≤◌, ◌+◌, ◌⊎◌, ◌^◌, ◌++◌, ℕ, List, [], ◌∷◌, true, length, Option, Some, None, is_some}
use Rattle.device_serve.specs.Devised.{Device, device_kinds, devised_from, frames_of}
use Rattle.device_serve.specs.Replies.{answer_in}
use Rattle.frame_stream.specs.Frames.{AreFrames, Begin, Ending, Ends, GivenFrame, all_spelled, spelled, stream_limit}
use Rattle.frame_stream.specs.Frames.Ending.{Done, Bad, TooLong}
use Rattle.frame_stream.specs.Frames.GivenFrame.{CommandOf}
use Rattle.frame_stream.specs.declared.kinds.Kinds.{Kinds}
use Rattle.script_text.specs.declared.configuration.config.ScriptConfig.{ScriptConfig}
use Rattle.spdm_basis.specs.Stream.{Takes, TakesPrefix}

-- A frame that is taken: a line has an answer.
abbrev pub IsTold : GivenFrame → Type 0
IsTold (CommandOf line) = is_some (answer_in line) ≡ true
IsTold frame = Unit {0}

-- All of them are.
abbrev pub AreTold : List GivenFrame → Type 0
AreTold [] = Unit {0}
AreTold (frame ∷ others) = IsTold frame × AreTold others

-- Before the bytes that are left stands the whole frame of a line that is no answer. It begins at this byte, and is
-- within the limit.
pub record HasNoAnswer (limit at : ℕ) (bytes : List ℕ) : Type 0 where
  pub line : List ℕ
  pub rest : List ℕ
  pub parts : bytes ≡ spelled (CommandOf line) ++ rest
  pub fits : length line < 2 ^ 16
  pub none : answer_in line ≡ None
  pub within : at + length (spelled (CommandOf line)) ≤ limit

-- The bytes that are left end so: as a stream of frames ends, or with such a line, which is bad too.
abbrev pub Stops : Kinds → (limit at : ℕ) → List ℕ → Ending → Type 0
Stops kinds limit at bytes Done = Ends kinds limit at bytes Done
Stops kinds limit at bytes (Bad place) = Ends kinds limit at bytes (Bad place) ⊎ ((place ≡ at) × HasNoAnswer limit at bytes)
Stops kinds limit at bytes TooLong = Ends kinds limit at bytes TooLong

-- A stream: its whole frames in order, all of which are taken, and how it ends after them.
pub record IsDeviceStream (stream : List ℕ) (frames : List GivenFrame) (ending : Ending) : Type 0 where
  pub rest : List ℕ
  pub parts : stream ≡ all_spelled frames ++ rest
  pub allowed : AreFrames device_kinds frames
  pub told : AreTold frames
  pub within : length (all_spelled frames) ≤ stream_limit
  pub ends : Stops device_kinds stream_limit (length (all_spelled frames)) rest ending

-- ---- What was read and written in a call, of a device. Of a source that tells what it has left the stream is known:
-- `before` the call.

-- What the frames of the stream led to was written, and no more. The stream ends so after them.
pub record IsDevised (c : ScriptConfig) (d : Device) (before held holds : Option (List ℕ)) (ending : Ending) : Type 0 where
  pub frames : List GivenFrame
  pub stream : (left : List ℕ) → before ≡ Some left → IsDeviceStream left frames ending
  pub written : Takes held (frames_of (devised_from c d frames)) holds

-- What the first frames of the stream led to was written, and no more. All of them are taken.
pub record IsDevisedSoFar (c : ScriptConfig) (d : Device) (before held holds : Option (List ℕ)) : Type 0 where
  pub frames : List GivenFrame
  pub stream : (left : List ℕ) → before ≡ Some left → Begin device_kinds frames left
  pub told : AreTold frames
  pub written : Takes held (frames_of (devised_from c d frames)) holds

-- A prefix of it was written.
pub record IsDevisedInPart (c : ScriptConfig) (d : Device) (before held holds : Option (List ℕ)) : Type 0 where
  pub frames : List GivenFrame
  pub stream : (left : List ℕ) → before ≡ Some left → Begin device_kinds frames left
  pub told : AreTold frames
  pub written : TakesPrefix held (frames_of (devised_from c d frames)) holds
