-- What stands while a stream is answered, and what the calls answer. This project's own.
use Rattle.std.specs.Prelude.{◌≡◌, ◌⊎◌, ℕ, List, [], ◌∷◌, Bool, true, false, take, Option, Some, None, Result, Ok, Err, IfSome}
use Rattle.std.specs.Option.{option_map}
use Rattle.device_serve.specs.Devised as devised
use Rattle.device_serve.specs.Devised.{Devising, after_frames, answers, devised_by, devised_from, frames_of, number_in, shown_with}
use Rattle.device_serve.specs.Devised.Writing.{Tells}
use Rattle.device_serve.specs.Replies.{Answer, answer_in}
use Rattle.device_serve.specs.Replies.Answer.{WithData, WithoutData}
use Rattle.device_serve.specs.Streams.{AreTold, IsDevised, IsDevisedInPart, IsDevisedSoFar, IsTold}
use Rattle.device_serve.specs.declared.device.Device.{Device}
use Rattle.device_serve.specs.declared.replies.Said.{Said}
use Rattle.device_serve.specs.declared.replies.Said.TheVariants as said
use Rattle.device_serve.specs.declared.waiting.Waiting.{Waiting}
use Rattle.frame_stream.specs.Frames.{GivenFrame}
use Rattle.frame_stream.specs.Frames.Ending.{Bad, TooLong}
use Rattle.frame_stream.specs.Frames.GivenFrame.{CommandOf}
use Rattle.frame_stream.specs.Runs.{AreRead, Counts, IsOver}
use Rattle.frame_stream.specs.Standing as reading
use Rattle.frame_stream.specs.Standing.{IsRead}
use Rattle.frame_stream.specs.declared.kinds.FrameFault.TheVariants as frame
use Rattle.frame_stream.specs.declared.reader.FrameReader.{FrameReader}
use Rattle.responder.specs.Standing as responder
use Rattle.responder.specs.declared.serving.Responder.{Responder}
use Rattle.responder_machine.specs.EndLaws.{source_of}
use Rattle.responder_machine.specs.Responding.{Responding, responder_hears}
use Rattle.responder_serve.specs.declared.fault.ServeFault.{ServeFault}
use Rattle.responder_serve.specs.declared.fault.ServeFault.TheVariants as fault
use Rattle.script_text.specs.declared.configuration.config.ReqPart.{ReqPart}
use Rattle.script_text.specs.declared.configuration.config.ScriptConfig.{ScriptConfig}
use Rattle.spdm_basis.specs.Stream.{HasFault, Takes, TakesPrefix}
use Rattle.spdm_basis.specs.declared.streams.transfer.OutFault.{OutFault}
use Rattle.spdm_basis.specs.declared.values.eid.Eid.{Eid}
use Rattle.spdm_basis.specs.declared.values.session_id.SessionId.{SessionId}
use Rattle.spdm_grammar.specs.Lines.{Line, Whose}

-- ---- What is kept of a device.

-- Of a responder.
abbrev pub IsKept : Responder → Type 0
IsKept seen = (r : Responding) × responder.StandsFor seen r

-- The packet that waits: the bytes, where its end point is kept with them.
abbrev pub packet_of : (from : Option Eid) → (bytes : List ℕ) → Option (List ℕ)
packet_of None bytes = None
packet_of (Some from) bytes = Some bytes

pub record WaitsFor (seen : Waiting) (waits : Option (List ℕ)) : Type 0 where
  pub is : waits ≡ packet_of seen.from seen.bytes.items
  pub source : IfSome seen.from (λ from. from.number ≡ source_of seen.bytes.items)

-- The responder and the packet that waits are those of a device.
pub record AreOf (seen : Responder) (waiting : Waiting) (d : devised.Device) : Type 0 where
  pub responder : responder.StandsFor seen d.responder
  pub waits : WaitsFor waiting d.waits

abbrev pub StandsFor : Device → devised.Device → Type 0
StandsFor seen d = AreOf seen.responder seen.waiting d

abbrev pub IsDevice : Device → Type 0
IsDevice seen = (d : devised.Device) × StandsFor seen d

-- ---- What is read of a line.

-- The answer, of which the data are the first bytes in the room.
abbrev pub answer_of : Said → (room : List ℕ) → Answer
answer_of said.Nothing room = WithoutData
answer_of (said.Bytes count) room = WithData (take count room)

abbrev pub answer_read : Option Said → (room : List ℕ) → Option Answer
answer_read None room = None
answer_read (Some what) room = Some (answer_of what room)

-- The counts of faults of the sink, before a call and after it.
pub record Written : Type 0 where
  pub before : ℕ
  pub after : ℕ

-- ---- A packet.

-- It was given to the responder, and all that it led to was written, or a prefix of it.
abbrev pub IsHeard : Responding → (packet : List ℕ) → (held : Option (List ℕ)) → Result (Unit {0}) OutFault → (new : Responder) → (holds : Option (List ℕ)) → Type 0
IsHeard r packet held (Ok done) new holds = responder.StandsFor new (responder_hears r packet).after × Takes held (frames_of (devised.hears r packet).written) holds
IsHeard r packet held (Err fault) new holds = TakesPrefix held (frames_of (devised.hears r packet).written) holds

-- The line of data that a packet brought.
abbrev pub brought_line : ScriptConfig → (packet : List ℕ) → SessionId × List ℕ → List ℕ
brought_line c packet brought = frames_of (Tells (Line.Data (Whose.Requester (number_in c (source_of packet))) brought.0 brought.1) ∷ [])

-- It brings no new data and nothing was written; or it brings some, from this end point, and their line was written, or
-- a prefix of it.
abbrev pub IsArrival : ScriptConfig → Responding → (packet : List ℕ) → (held : Option (List ℕ)) → Result (Option Eid) OutFault → (holds : Option (List ℕ)) → Type 0
IsArrival c r packet held (Ok None) holds = ((responder_hears r packet).taken ≡ None) × (holds ≡ held)
IsArrival c r packet held (Ok (Some from)) holds =
    (from.number ≡ source_of packet)
    × ((brought : SessionId × List ℕ) × ((responder_hears r packet).taken ≡ Some brought) × Takes held (brought_line c packet brought) holds)
IsArrival c r packet held (Err fault) holds =
    (brought : SessionId × List ℕ) × ((responder_hears r packet).taken ≡ Some brought) × TakesPrefix held (brought_line c packet brought) holds

-- ---- One frame.

-- What this says was written, or a prefix of it, and what is kept is that of the device after it.
abbrev pub IsDevisedBy : Devising → (held : Option (List ℕ)) → Result (Unit {0}) ServeFault → (new : Device) → (holds : Option (List ℕ)) → Type 0
IsDevisedBy d held (Ok done) new holds = StandsFor new d.after × Takes held (frames_of d.written) holds
IsDevisedBy d held (Err fault.WriteFault) new holds = TakesPrefix held (frames_of d.written) holds
IsDevisedBy d held (Err other) new holds = ⊥

-- The answer of a line, whose frame begins at this byte, was taken; or there is none.
abbrev pub IsObeyed : devised.Device → (at : ℕ) → (line : List ℕ) → Written → (held : Option (List ℕ)) → Result (Unit {0}) ServeFault → (new : Device) → (holds : Option (List ℕ)) → Type 0
IsObeyed d at line n held (Ok done) new holds =
    IsTold (CommandOf line) × StandsFor new (answers d (answer_in line)).after × Takes held (frames_of (answers d (answer_in line)).written) holds
IsObeyed d at line n held (Err fault.WriteFault) new holds =
    IsTold (CommandOf line) × HasFault n.before n.after × TakesPrefix held (frames_of (answers d (answer_in line)).written) holds
IsObeyed d at line n held (Err (fault.BadFrame place)) new holds = (place ≡ at) × (answer_in line ≡ None) × (holds ≡ held)
IsObeyed d at line n held (Err other) new holds = ⊥

-- A frame was read, and all that it led to was written, with what it changed of the sessions with these requesters.
pub record IsAnswered (c : ScriptConfig) (qs : List ReqPart) (d : devised.Device) (old : Device) (before held : Option (List ℕ)) (new : Device) (after holds : Option (List ℕ)) : Type 0 where
  pub frame : GivenFrame
  pub read : IsRead old.reader before frame new.reader after
  pub told : IsTold frame
  pub stands : StandsFor new (devised_by c d frame).after
  pub written : Takes held (frames_of (shown_with c qs d frame)) holds

-- Whether there was a frame.
abbrev pub IsStep : ScriptConfig → List ReqPart → devised.Device → (old : Device) → (before held : Option (List ℕ)) → Bool → (new : Device) → (after holds : Option (List ℕ)) → Type 0
IsStep c qs d old before held true new after holds = IsAnswered c qs d old before held new after holds
IsStep c qs d old before held false new after holds = IsOver old.reader before held new.reader after holds

-- A frame was read, and a prefix of what it led to was written.
pub record IsAnsweredInPart (c : ScriptConfig) (qs : List ReqPart) (d : devised.Device) (old : Device) (before held : Option (List ℕ)) (new : Device) (after holds : Option (List ℕ)) : Type 0 where
  pub frame : GivenFrame
  pub read : IsRead old.reader before frame new.reader after
  pub told : IsTold frame
  pub written : TakesPrefix held (frames_of (shown_with c qs d frame)) holds

-- A line was read that is no answer; its frame begins at this byte.
pub record IsNoAnswer (old : Device) (before : Option (List ℕ)) (at : ℕ) (new : Device) (after : Option (List ℕ)) : Type 0 where
  pub line : List ℕ
  pub read : IsRead old.reader before (CommandOf line) new.reader after
  pub none : answer_in line ≡ None
  pub at_is : at ≡ old.reader.taken

-- Why a frame led to nothing.
abbrev pub IsStepFault : ScriptConfig → List ReqPart → devised.Device → (old : Device) → (before held : Option (List ℕ)) → Counts → ServeFault → (new : Device) → (after holds : Option (List ℕ)) → Type 0
IsStepFault c qs d old before held n fault.ReadFault new after holds = HasFault n.read_before n.read_after × (holds ≡ held)
IsStepFault c qs d old before held n fault.WriteFault new after holds = HasFault n.written_before n.written_after × IsAnsweredInPart c qs d old before held new after holds
IsStepFault c qs d old before held n fault.TooLong new after holds = reading.IsCause old.reader before n.read_before n.read_after frame.TooLong × (holds ≡ held)
IsStepFault c qs d old before held n (fault.BadFrame at) new after holds =
    (reading.IsCause old.reader before n.read_before n.read_after (frame.BadFrame at) ⊎ IsNoAnswer old before at new after) × (holds ≡ held)
IsStepFault c qs d old before held n fault.OutOfMemory new after holds = ⊥
IsStepFault c qs d old before held n (fault.Responder refused) new after holds = ⊥

-- ---- All frames so far.

pub record IsRun (c : ScriptConfig) (d : devised.Device) (old : FrameReader) (before held : Option (List ℕ)) (new : Device) (after holds : Option (List ℕ)) : Type 0 where
  pub frames : List GivenFrame
  pub read : AreRead old before frames new.reader after
  pub told : AreTold frames
  pub stands : StandsFor new (after_frames c d frames)
  pub written : Takes held (frames_of (devised_from c d frames)) holds

-- The cause of a fault of the whole, of which the stream before the call is known where the source tells it.
abbrev pub IsCause : ScriptConfig → devised.Device → (before held holds : Option (List ℕ)) → Counts → ServeFault → Type 0
IsCause c d before held holds n fault.ReadFault = HasFault n.read_before n.read_after × IsDevisedSoFar c d before held holds
IsCause c d before held holds n fault.WriteFault = HasFault n.written_before n.written_after × IsDevisedInPart c d before held holds
IsCause c d before held holds n fault.TooLong = IsDevised c d before held holds TooLong
IsCause c d before held holds n (fault.BadFrame at) = IsDevised c d before held holds (Bad at)
IsCause c d before held holds n fault.OutOfMemory = holds ≡ held
IsCause c d before held holds n (fault.Responder refused) = holds ≡ held
