-- What a requester writes that is driven by a stream of frames. This project's own.
use Rattle.std.specs.Prelude.{◌≡◌, ◌<◌, ◌≤◌, ◌+◌, ◌-◌, ◌⊎◌, ◌^◌, ◌++◌, ℕ, List, [], ◌∷◌, true, false, length, take, Option, Some, None, is_some}
use Rattle.frame_stream.specs.Frames.{AreFrames, Begin, Ending, Ends, GivenFrame, all_spelled, counted, spelled, stream_limit}
use Rattle.frame_stream.specs.Frames.Ending.{Done, Bad, TooLong}
use Rattle.frame_stream.specs.Frames.GivenFrame.{PacketOf, TicksOf, CommandOf}
use Rattle.frame_stream.specs.Packets.{packet_frames}
use Rattle.frame_stream.specs.declared.kinds.Kinds.{Kinds}
use Rattle.requester_drive.specs.Commands.{command_line}
use Rattle.requester_machine.specs.Message.{Command}
use Rattle.requester_machine.specs.Requesting.{CommandStep, PacketStep, Requesting, requester_given, requester_told}
use Rattle.trace_text.specs.TraceLines.{line_text}
use Rattle.script_text.specs.declared.configuration.config.ScriptConfig.{ScriptConfig}
use Rattle.spdm_basis.specs.Stream.{Takes, TakesPrefix}
use Rattle.spdm_grammar.specs.Lines.{Line, Whose}
use Rattle.world_machine.specs.World.{data_lines, id_in_event, record_lines}

-- A requester reads packets and commands, and no seconds that passed.
abbrev pub driven_kinds : Kinds
driven_kinds = record { ticks = false; commands = true }

-- ---- What is written.

-- A line without its line feed, the last byte.
abbrev pub without_feed : List ℕ → List ℕ
without_feed line = take (length line - 1) line

-- A line as a frame: kind 4, and the line without its line feed.
abbrev pub line_frame : Line → List ℕ
line_frame line = 4 ∷ counted (without_feed (line_text line))

-- Lines as frames, one after the other.
abbrev pub line_frames : List Line → List ℕ
line_frames [] = []
line_frames (line ∷ others) = line_frame line ++ line_frames others

-- ---- What a frame leads to.

-- What is written of it, and the requester after it.
pub record Driving : Type 0 where
  pub written : List ℕ
  pub after : Requesting

-- A packet: the line of what is told, those of the data and the measurement record that were taken, and the packets sent.
abbrev pub driven_by_packet : PacketStep → Driving
driven_by_packet step = record {
  written = line_frames (Line.ToRequester 1 step.event ∷ data_lines (Whose.Requester 1) (id_in_event step.event) step.taken ++ record_lines 1 step.measured)
      ++ packet_frames step.sent;
  after = step.after;
}

-- A command: its line, and the packets sent.
abbrev pub driven_by_command : CommandStep → Driving
driven_by_command step = record {
  written = line_frames (Line.Command 1 step.fault ∷ []) ++ packet_frames step.sent;
  after = step.after;
}

-- A line: its command is told. No line without one stands in such a stream.
abbrev pub driven_by_line : Requesting → Option Command → Driving
driven_by_line a None = record { written = []; after = a }
driven_by_line a (Some command) = driven_by_command (requester_told a command)

-- A frame: a packet is given, a command is told. No frame with seconds stands in such a stream.
abbrev pub driven_by : ScriptConfig → Requesting → GivenFrame → Driving
driven_by c a (PacketOf packet) = driven_by_packet (requester_given a packet)
driven_by c a (TicksOf seconds) = record { written = []; after = a }
driven_by c a (CommandOf line) = driven_by_line a (command_line c line)

-- The requester after all of them in order.
abbrev pub after_frames : ScriptConfig → Requesting → List GivenFrame → Requesting
after_frames c a [] = a
after_frames c a (frame ∷ others) = after_frames c (driven_by c a frame).after others

-- What is written of all of them, in order.
abbrev pub driven_from : ScriptConfig → Requesting → List GivenFrame → List ℕ
driven_from c a [] = []
driven_from c a (frame ∷ others) = (driven_by c a frame).written ++ driven_from c (driven_by c a frame).after others

-- ---- The stream.

-- A frame that is told or given: a line has a command of requester 1.
abbrev pub IsTold : ScriptConfig → GivenFrame → Type 0
IsTold c (CommandOf line) = is_some (command_line c line) ≡ true
IsTold c frame = Unit {0}

-- All of them are.
abbrev pub AreTold : ScriptConfig → List GivenFrame → Type 0
AreTold c [] = Unit {0}
AreTold c (frame ∷ others) = IsTold c frame × AreTold c others

-- Before the bytes that are left stands the whole frame of a line that is no command of requester 1. It begins at this
-- byte, and is within the limit.
pub record HasNoCommand (c : ScriptConfig) (limit at : ℕ) (bytes : List ℕ) : Type 0 where
  pub line : List ℕ
  pub rest : List ℕ
  pub parts : bytes ≡ spelled (CommandOf line) ++ rest
  pub fits : length line < 2 ^ 16
  pub none : command_line c line ≡ None
  pub within : at + length (spelled (CommandOf line)) ≤ limit

-- The bytes that are left end so: as a stream of frames ends, or with such a line, which is bad too.
abbrev pub Stops : ScriptConfig → Kinds → (limit at : ℕ) → List ℕ → Ending → Type 0
Stops c kinds limit at bytes Done = Ends kinds limit at bytes Done
Stops c kinds limit at bytes (Bad place) = Ends kinds limit at bytes (Bad place) ⊎ ((place ≡ at) × HasNoCommand c limit at bytes)
Stops c kinds limit at bytes TooLong = Ends kinds limit at bytes TooLong

-- A stream: its whole frames in order, all of which are told or given, and how it ends after them.
pub record IsStreamOf (c : ScriptConfig) (stream : List ℕ) (frames : List GivenFrame) (ending : Ending) : Type 0 where
  pub rest : List ℕ
  pub parts : stream ≡ all_spelled frames ++ rest
  pub allowed : AreFrames driven_kinds frames
  pub told : AreTold c frames
  pub within : length (all_spelled frames) ≤ stream_limit
  pub ends : Stops c driven_kinds stream_limit (length (all_spelled frames)) rest ending

-- ---- What was read and written in a call, of a requester. Of a source that tells what it has left the stream is
-- known: `before` the call.

-- What the frames of the stream led to was written, and no more. The stream ends so after them.
pub record IsDriven (c : ScriptConfig) (a : Requesting) (before held holds : Option (List ℕ)) (ending : Ending) : Type 0 where
  pub frames : List GivenFrame
  pub stream : (left : List ℕ) → before ≡ Some left → IsStreamOf c left frames ending
  pub written : Takes held (driven_from c a frames) holds

-- What the first frames of the stream led to was written, and no more. All of them are told or given.
pub record IsDrivenSoFar (c : ScriptConfig) (a : Requesting) (before held holds : Option (List ℕ)) : Type 0 where
  pub frames : List GivenFrame
  pub stream : (left : List ℕ) → before ≡ Some left → Begin driven_kinds frames left
  pub told : AreTold c frames
  pub written : Takes held (driven_from c a frames) holds

-- A prefix of it was written.
pub record IsDrivenInPart (c : ScriptConfig) (a : Requesting) (before held holds : Option (List ℕ)) : Type 0 where
  pub frames : List GivenFrame
  pub stream : (left : List ℕ) → before ≡ Some left → Begin driven_kinds frames left
  pub told : AreTold c frames
  pub written : TakesPrefix held (driven_from c a frames) holds
