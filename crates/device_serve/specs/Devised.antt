-- What a responder with an application behind it writes on a stream of frames. This project's own.
use Rattle.std.specs.Prelude.{◌+◌, ◌==◌, ◌++◌, ℕ, List, [], ◌∷◌, map, Bool, true, Option, Some, None}
use Rattle.std.specs.List.{flat_map, position_from}
use Rattle.device_serve.specs.Changing.{change_text}
use Rattle.device_serve.specs.Replies.{Answer, answer_in}
use Rattle.device_serve.specs.Replies.Answer.{WithData, WithoutData}
use Rattle.frame_stream.specs.Frames.{GivenFrame, counted, spelled}
use Rattle.frame_stream.specs.Frames.GivenFrame.{PacketOf, TicksOf, CommandOf}
use Rattle.frame_stream.specs.declared.kinds.Kinds.{Kinds}
use Rattle.requester_drive.specs.Driven.{line_frame}
use Rattle.responder.specs.Changes.{changes_between, marks_at}
use Rattle.responder.specs.declared.changes.SessionChange.{SessionChange}
use Rattle.responder_machine.specs.EndLaws.{source_of}
use Rattle.responder_machine.specs.Responding.{Responding, RspStep, connection_of, queues, reply_fault_of, responder_hears, ticks}
use Rattle.responder_serve.specs.Served.{responder_in_life}
use Rattle.script_text.specs.declared.configuration.config.ReqPart.{ReqPart}
use Rattle.script_text.specs.declared.configuration.config.ScriptConfig.{ScriptConfig}
use Rattle.spdm_basis.specs.declared.values.session_id.SessionId.{SessionId}
use Rattle.spdm_grammar.specs.Lines.{Line, Whose}
use Rattle.spdm_grammar.specs.declared.told.heard.ReplyFault.{ReplyFault}

-- A device reads packets, seconds that passed, and lines of its application.
abbrev pub device_kinds : Kinds
device_kinds = record { ticks = true; commands = true }

-- A responder, and the packet with new application data that waits to be answered, if one does.
pub record Device : Type 0 where
  pub responder : Responding
  pub waits : Option (List ℕ)

-- Nothing waits.
abbrev pub at_rest : Responding → Device
at_rest r = record { responder = r; waits = None }

-- The device of a configuration with a seed, in the life of a boot number, which was given nothing yet.
abbrev pub device_in_life : ScriptConfig → (seed : List ℕ) → (boot : ℕ) → Device
device_in_life c seed boot = at_rest (responder_in_life c seed boot)

-- The same in its first life.
abbrev pub device_of : ScriptConfig → (seed : List ℕ) → Device
device_of c seed = device_in_life c seed 0

-- What it writes: a line, the line of what became of a session with requester n, or a packet that it sends.
pub data Writing : Type 0 where
  Tells : (line : Line) → Writing
  Changes : (n : ℕ) → (change : SessionChange) → Writing
  Sends : (packet : List ℕ) → Writing

-- Each as a frame, one after the other.
abbrev pub frame_of : Writing → List ℕ
frame_of (Tells line) = line_frame line
frame_of (Changes n change) = 4 ∷ counted (change_text n change)
frame_of (Sends packet) = spelled (PacketOf packet)

abbrev pub frames_of : List Writing → List ℕ
frames_of all = flat_map frame_of all

-- What is written, and the device after it.
pub record Devising : Type 0 where
  pub written : List Writing
  pub after : Device

-- Nothing happens to a responder for which nothing waits.
abbrev pub rests : Responding → Devising
rests r = record { written = []; after = at_rest r }

-- Something happens, and behind it something else to the responder that it leaves.
abbrev pub behind : Devising → (Responding → Devising) → Devising
behind first next = record {
  written = first.written ++ (next first.after.responder).written;
  after = (next first.after.responder).after;
}

-- ---- A packet.

-- It is given to the responder: the line of what is told, and the packets sent.
abbrev pub heard_by : RspStep → Devising
heard_by step = record {
  written = Tells (Line.ToResponder step.heard) ∷ map Sends step.sent;
  after = at_rest step.after;
}

abbrev pub hears : Responding → List ℕ → Devising
hears r packet = heard_by (responder_hears r packet)

-- The number of the requester with an end point, counted from 1; 0 where none has it.
abbrev pub has_eid : (eid : ℕ) → ReqPart → Bool
has_eid eid q = q.eid.number == eid

abbrev pub number_of : (place : Option ℕ) → ℕ
number_of None = 0
number_of (Some place) = place + 1

abbrev pub number_in : ScriptConfig → (eid : ℕ) → ℕ
number_in c eid = number_of (position_from (has_eid eid) 0 c.requesters)

-- It arrives: where it brings new application data, their line is written and it waits; any other is given to the
-- responder.
abbrev pub arrives_with : ScriptConfig → Responding → List ℕ → (brought : Option (SessionId × List ℕ)) → Devising
arrives_with c r packet None = hears r packet
arrives_with c r packet (Some brought) = record {
  written = Tells (Line.Data (Whose.Requester (number_in c (source_of packet))) brought.0 brought.1) ∷ [];
  after = record { responder = r; waits = Some packet };
}

abbrev pub arrives : ScriptConfig → Responding → List ℕ → Devising
arrives c r packet = arrives_with c r packet (responder_hears r packet).taken

-- ---- The packet that waits.

-- It is answered without data: it is given to the responder, of which no data are queued.
abbrev pub settles_waiting : Responding → (waits : Option (List ℕ)) → Devising
settles_waiting r None = rests r
settles_waiting r (Some packet) = hears r packet

abbrev pub settles : Device → Devising
settles d = settles_waiting d.responder d.waits

-- It is answered with these data: they are queued for the requester that sent it, and it is given to the responder.
-- Data with a fault are not queued.
abbrev pub queued_by : Responding → List ℕ → List ℕ → Option ReplyFault → Devising
queued_by r packet bytes fault = record {
  written = Tells (Line.Reply fault) ∷ (hears (queues fault r (source_of packet) bytes) packet).written;
  after = (hears (queues fault r (source_of packet) bytes) packet).after;
}

abbrev pub replies : Responding → List ℕ → List ℕ → Devising
replies r packet bytes = queued_by r packet bytes (reply_fault_of (connection_of (source_of packet) r.connections) bytes)

-- The application answers. Where nothing waits, nothing happens.
abbrev pub answers_waiting : Responding → (waits : Option (List ℕ)) → Answer → Devising
answers_waiting r None answer = rests r
answers_waiting r (Some packet) WithoutData = hears r packet
answers_waiting r (Some packet) (WithData bytes) = replies r packet bytes

-- No line that is no answer stands in such a stream.
abbrev pub answers : Device → Option Answer → Devising
answers d None = record { written = []; after = d }
answers d (Some answer) = answers_waiting d.responder d.waits answer

-- ---- Frames.

-- What a frame leads to, without what becomes of sessions. A packet, and seconds, answer the packet that waits without
-- data first.
abbrev pub devised_by : ScriptConfig → Device → GivenFrame → Devising
devised_by c d (PacketOf packet) = behind (settles d) (λ r. arrives c r packet)
devised_by c d (TicksOf seconds) = behind (settles d) (λ r. rests (ticks r seconds))
devised_by c d (CommandOf line) = answers d (answer_in line)

-- ---- Sessions.

-- What became of the sessions with an endpoint between two moments.
abbrev pub changes_at : (eid : ℕ) → (before after : Responding) → List (Option SessionChange)
changes_at eid before after = changes_between (marks_at (connection_of eid before.connections)) (marks_at (connection_of eid after.connections))

-- A line for each that changed, by rising RspSessionID.
abbrev pub told_changes : (n : ℕ) → List (Option SessionChange) → List Writing
told_changes n [] = []
told_changes n (None ∷ others) = told_changes n others
told_changes n (Some change ∷ others) = Changes n change ∷ told_changes n others

-- Those of requesters, counted from n.
abbrev pub changes_from : (n : ℕ) → List ReqPart → (before after : Responding) → List Writing
changes_from n [] before after = []
changes_from n (q ∷ others) before after = told_changes n (changes_at q.eid.number before after) ++ changes_from (n + 1) others before after

-- What a frame leads to, and behind it what it changed of the sessions with these requesters, the first of the
-- configuration.
abbrev pub shown_with : ScriptConfig → List ReqPart → Device → GivenFrame → List Writing
shown_with c requesters d frame = (devised_by c d frame).written ++ changes_from 1 requesters d.responder (devised_by c d frame).after.responder

-- What is written of a frame.
abbrev pub shown_by : ScriptConfig → Device → GivenFrame → List Writing
shown_by c d frame = shown_with c c.requesters d frame

-- ---- All frames.

-- The device after all of them in order.
abbrev pub after_frames : ScriptConfig → Device → List GivenFrame → Device
after_frames c d [] = d
after_frames c d (frame ∷ others) = after_frames c (devised_by c d frame).after others

-- What is written of all of them, in order. A packet that waits behind the last one is not answered.
abbrev pub devised_from : ScriptConfig → Device → List GivenFrame → List Writing
devised_from c d [] = []
devised_from c d (frame ∷ others) = shown_by c d frame ++ devised_from c (devised_by c d frame).after others
