-- What of the trace of a world is of one end, as the frames in which that end writes it. This project's own.
use Rattle.std.specs.Prelude.{◌==◌, ℕ, List, [], if◌then◌else◌, slice_index}
use Rattle.std.specs.List.{flat_map}
use Rattle.frame_stream.specs.Frames.{spelled}
use Rattle.frame_stream.specs.Frames.GivenFrame.{PacketOf}
use Rattle.requester_drive.specs.Driven.{line_frame}
use Rattle.spdm_grammar.specs.Lines.{Line, Whose}

-- A packet that an end sent, which its byte 2 names.
abbrev pub sent_by : (eid : ℕ) → List ℕ → List ℕ
sent_by eid packet = if slice_index packet 2 == eid then spelled (PacketOf packet) else []

-- A line of requester n, where that is requester 1.
abbrev pub if_first : (n : ℕ) → Line → List ℕ
if_first n line = if n == 1 then line_frame line else []

-- A line of data, where they are those that requester 1 took.
abbrev pub if_of_first : Whose → Line → List ℕ
if_of_first (Whose.Requester n) line = if_first n line
if_of_first (Whose.Responder n) line = []

-- A line of what requester 1 was told and given: its commands, what packets told it, the data and the measurement
-- records that it took; and the packets that it sent. No other line is among them.
abbrev pub first_frame : (eid : ℕ) → Line → List ℕ
first_frame eid (Line.Command n fault) = if_first n (Line.Command n fault)
first_frame eid (Line.ToRequester n event) = if_first n (Line.ToRequester n event)
first_frame eid (Line.Data whose id bytes) = if_of_first whose (Line.Data whose id bytes)
first_frame eid (Line.Record n bytes) = if_first n (Line.Record n bytes)
first_frame eid (Line.Packet number packet) = sent_by eid packet
first_frame eid _ = []

-- Of the responder the packets that it sent, and no other line.
abbrev pub responder_frame : (eid : ℕ) → Line → List ℕ
responder_frame eid (Line.Packet number packet) = sent_by eid packet
responder_frame eid _ = []

-- Of all lines, in order.
abbrev pub first_frames : (eid : ℕ) → List Line → List ℕ
first_frames eid lines = flat_map (first_frame eid) lines

abbrev pub responder_frames : (eid : ℕ) → List Line → List ℕ
responder_frames eid lines = flat_map (responder_frame eid) lines
