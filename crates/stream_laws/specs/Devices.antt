-- What is carried to a requester and to a device, the same as events of a world, and what of the trace of a world is of
-- the device. This project's own.
use Rattle.std.specs.Prelude.{◌==◌, ◌++◌, ◌||◌, not, ℕ, List, [], ◌∷◌, filter, slice_index, if◌then◌else◌, Bool, true, false, Option, Some, None}
use Rattle.std.specs.List.{flat_map}
use Rattle.device_serve.specs.Devised.{Device, Writing, after_frames, number_in, settles}
use Rattle.device_serve.specs.Devised.Writing.{Changes, Sends, Tells}
use Rattle.device_serve.specs.Replies.{Answer, answer_in}
use Rattle.device_serve.specs.Replies.Answer.{WithData, WithoutData}
use Rattle.frame_stream.specs.Frames.{GivenFrame}
use Rattle.frame_stream.specs.Frames.GivenFrame.{PacketOf, TicksOf, CommandOf}
use Rattle.requester_drive.specs.Commands.{command_line}
use Rattle.responder_machine.specs.EndLaws.{source_of}
use Rattle.responder_machine.specs.Responding.{Responding, responder_hears}
use Rattle.script_text.specs.declared.configuration.config.ScriptConfig.{ScriptConfig}
use Rattle.spdm_basis.specs.declared.values.session_id.SessionId.{SessionId}
use Rattle.spdm_grammar.specs.Lines.{Line, Whose}
use Rattle.stream_laws.specs.Carriage.{Carried, MayCarry, asked_frame, event_of, served_frame, tells_first}
use Rattle.stream_laws.specs.Carriage.Carried.{Says, ToRequester, ToResponder, Waits}
use Rattle.world_machine.specs.Happenings.{Entry}
use Rattle.world_machine.specs.Happenings.Happening.{Inject, Reply, Tick}

-- As it is carried to a requester and a responder; and a line of the application behind the responder.
pub data DeviceCarried : Type 0 where
  Carries : (carried : Carried) → DeviceCarried
  Answers : (line : List ℕ) → DeviceCarried

-- ---- The frames.

-- What the requester reads of it.
abbrev pub asked_by : DeviceCarried → List GivenFrame
asked_by (Carries carried) = asked_frame carried
asked_by (Answers line) = []

-- What the device reads of it.
abbrev pub device_frame : DeviceCarried → List GivenFrame
device_frame (Carries carried) = served_frame carried
device_frame (Answers line) = CommandOf line ∷ []

-- Of all of it, in order.
abbrev pub all_asked : List DeviceCarried → List GivenFrame
all_asked carried = flat_map asked_by carried

abbrev pub device_frames : List DeviceCarried → List GivenFrame
device_frames carried = flat_map device_frame carried

-- What may be carried. The application may write any line.
abbrev pub MayCarryTo : ScriptConfig → (requester responder : ℕ) → DeviceCarried → Type 0
MayCarryTo c requester responder (Carries carried) = MayCarry c requester responder carried
MayCarryTo c requester responder (Answers line) = Unit {0}

abbrev pub MayCarryAllTo : ScriptConfig → (requester responder : ℕ) → List DeviceCarried → Type 0
MayCarryAllTo c requester responder [] = Unit {0}
MayCarryAllTo c requester responder (one ∷ others) = MayCarryTo c requester responder one × MayCarryAllTo c requester responder others

-- ---- The same as events of a world: a packet is given to the responder there when the device gives it, so a packet that
-- waits is given there when it is answered, and the data of the answer are queued just before.

-- The packet that waits is given.
abbrev pub gives_waiting : Option (List ℕ) → List Entry
gives_waiting None = []
gives_waiting (Some packet) = event_of (Inject packet) ∷ []

-- A packet that arrives is given, where it brings no new data.
abbrev pub gives_arriving : (packet : List ℕ) → (brought : Option (SessionId × List ℕ)) → List Entry
gives_arriving packet None = event_of (Inject packet) ∷ []
gives_arriving packet (Some brought) = []

-- The application answers.
abbrev pub gives_answered : ScriptConfig → (waits : Option (List ℕ)) → Option Answer → List Entry
gives_answered c waits None = []
gives_answered c None (Some answer) = []
gives_answered c (Some packet) (Some WithoutData) = event_of (Inject packet) ∷ []
gives_answered c (Some packet) (Some (WithData bytes)) = event_of (Reply (number_in c (source_of packet)) bytes) ∷ event_of (Inject packet) ∷ []

-- The events of a frame that the device reads.
abbrev pub frame_events : ScriptConfig → Device → GivenFrame → List Entry
frame_events c d (PacketOf packet) = gives_waiting d.waits ++ gives_arriving packet (responder_hears (settles d).after.responder packet).taken
frame_events c d (TicksOf seconds) = gives_waiting d.waits ++ event_of (Tick seconds) ∷ []
frame_events c d (CommandOf line) = gives_answered c d.waits (answer_in line)

abbrev pub device_event : ScriptConfig → Device → DeviceCarried → List Entry
device_event c d (Carries (Says line)) = tells_first (command_line c line)
device_event c d (Carries (ToRequester packet)) = event_of (Inject packet) ∷ []
device_event c d (Carries (ToResponder packet)) = frame_events c d (PacketOf packet)
device_event c d (Carries (Waits seconds)) = frame_events c d (TicksOf seconds)
device_event c d (Answers line) = frame_events c d (CommandOf line)

-- Of all that is carried, from a device on.
abbrev pub device_events : ScriptConfig → Device → List DeviceCarried → List Entry
device_events c d [] = []
device_events c d (one ∷ others) = device_event c d one ++ device_events c (after_frames c d (device_frame one)) others

-- ---- What of a trace is of the device.

-- A packet that the responder sent, which its byte 2 names.
abbrev pub own_sent : (eid : ℕ) → List ℕ → List Writing
own_sent eid packet = if slice_index packet 2 == eid then Sends packet ∷ [] else []

-- Data that the responder took, told of the requester from which they came.
abbrev pub own_taken : Whose → SessionId → List ℕ → List Writing
own_taken (Whose.Requester n) id bytes = []
own_taken (Whose.Responder n) id bytes = Tells (Line.Data (Whose.Requester n) id bytes) ∷ []

-- Of the responder: what packets told it, the data that were queued and taken, and the packets that it sent. No other
-- line is among them.
abbrev pub device_line : (eid : ℕ) → Line → List Writing
device_line eid (Line.Packet number packet) = own_sent eid packet
device_line eid (Line.ToResponder heard) = Tells (Line.ToResponder heard) ∷ []
device_line eid (Line.Reply fault) = Tells (Line.Reply fault) ∷ []
device_line eid (Line.Data whose id bytes) = own_taken whose id bytes
device_line eid _ = []

abbrev pub device_lines : (eid : ℕ) → List Line → List Writing
device_lines eid lines = flat_map (device_line eid) lines

-- ---- Lines of data. A device writes them when they arrive, and a trace has them when they are taken. Of what became of
-- sessions a device writes lines too, and a trace has none.

abbrev pub is_data_line : Line → Bool
is_data_line (Line.Data whose id bytes) = true
is_data_line _ = false

abbrev pub is_data : Writing → Bool
is_data (Tells line) = is_data_line line
is_data (Changes n change) = false
is_data (Sends packet) = false

abbrev pub is_change : Writing → Bool
is_change (Tells line) = false
is_change (Changes n change) = true
is_change (Sends packet) = false

abbrev pub only_data : List Writing → List Writing
only_data all = filter is_data all

-- All but both.
abbrev pub told_and_sent : List Writing → List Writing
told_and_sent all = filter (λ (one : Writing). not (is_data one || is_change one)) all

-- The line of the data that a packet from requester n brings, if it brings any.
abbrev pub data_brought : (n : ℕ) → (brought : Option (SessionId × List ℕ)) → List Writing
data_brought n None = []
data_brought n (Some brought) = Tells (Line.Data (Whose.Requester n) brought.0 brought.1) ∷ []

-- That of the packet that waits.
abbrev pub waiting_data : ScriptConfig → Responding → (waits : Option (List ℕ)) → List Writing
waiting_data c r None = []
waiting_data c r (Some packet) = data_brought (number_in c (source_of packet)) (responder_hears r packet).taken
