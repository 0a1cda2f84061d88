-- What is carried to a requester and a responder that answer streams of frames, in any order, by whatever stands
-- between them. This project's own.
use Rattle.std.specs.Prelude.{◌≡◌, ℕ, List, [], ◌∷◌, true, Option, Some, None, is_some}
use Rattle.std.specs.List.{flat_map}
use Rattle.frame_stream.specs.Frames.{GivenFrame}
use Rattle.frame_stream.specs.Frames.GivenFrame.{PacketOf, TicksOf, CommandOf}
use Rattle.requester_drive.specs.Commands.{command_line}
use Rattle.requester_machine.specs.Message.{Command}
use Rattle.script_text.specs.declared.configuration.config.ScriptConfig.{ScriptConfig}
use Rattle.stream_laws.specs.Coming.{is_packet_for}
use Rattle.world_machine.specs.Happenings.{Entry, Happening}
use Rattle.world_machine.specs.Happenings.Happening.{Told, Inject, Tick}

-- A line is said to the requester; a packet, of whatever bytes, is given to either; seconds pass at the responder.
pub data Carried : Type 0 where
  Says : (line : List ℕ) → Carried
  ToRequester : (packet : List ℕ) → Carried
  ToResponder : (packet : List ℕ) → Carried
  Waits : (seconds : ℕ) → Carried

-- ---- The frames.

-- What the requester reads of it.
abbrev pub asked_frame : Carried → List GivenFrame
asked_frame (Says line) = CommandOf line ∷ []
asked_frame (ToRequester packet) = PacketOf packet ∷ []
asked_frame (ToResponder packet) = []
asked_frame (Waits seconds) = []

-- What the responder reads of it.
abbrev pub served_frame : Carried → List GivenFrame
served_frame (Says line) = []
served_frame (ToRequester packet) = []
served_frame (ToResponder packet) = PacketOf packet ∷ []
served_frame (Waits seconds) = TicksOf seconds ∷ []

-- Of all of it, in order.
abbrev pub asked_frames : List Carried → List GivenFrame
asked_frames carried = flat_map asked_frame carried

abbrev pub served_frames : List Carried → List GivenFrame
served_frames carried = flat_map served_frame carried

-- ---- What may be carried: a line with a command for requester 1, and a packet for the end that it is given to.

abbrev pub MayCarry : ScriptConfig → (requester responder : ℕ) → Carried → Type 0
MayCarry c requester responder (Says line) = is_some (command_line c line) ≡ true
MayCarry c requester responder (ToRequester packet) = is_packet_for requester packet ≡ true
MayCarry c requester responder (ToResponder packet) = is_packet_for responder packet ≡ true
MayCarry c requester responder (Waits seconds) = Unit {0}

abbrev pub MayCarryAll : ScriptConfig → (requester responder : ℕ) → List Carried → Type 0
MayCarryAll c requester responder [] = Unit {0}
MayCarryAll c requester responder (one ∷ others) = MayCarry c requester responder one × MayCarryAll c requester responder others

-- ---- The same as events of a world. They stand on no line of a script, so each has number 0.

abbrev pub event_of : Happening → Entry
event_of happening = record { line = 0; happening = happening }

abbrev pub tells_first : Option Command → List Entry
tells_first None = []
tells_first (Some command) = event_of (Told 1 command) ∷ []

abbrev pub carried_event : ScriptConfig → Carried → List Entry
carried_event c (Says line) = tells_first (command_line c line)
carried_event c (ToRequester packet) = event_of (Inject packet) ∷ []
carried_event c (ToResponder packet) = event_of (Inject packet) ∷ []
carried_event c (Waits seconds) = event_of (Tick seconds) ∷ []

abbrev pub carried_events : ScriptConfig → List Carried → List Entry
carried_events c carried = flat_map (carried_event c) carried
