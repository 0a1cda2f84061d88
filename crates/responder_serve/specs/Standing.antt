-- What stands while a stream is served, and what the calls answer. This project's own.
use Rattle.std.specs.Prelude.{◌≡◌, List, ℕ, Bool, true, false, Option, Result, Ok, Err}
use Rattle.frame_stream.specs.Frames.{GivenFrame}
use Rattle.frame_stream.specs.Frames.Ending.{Bad, TooLong}
use Rattle.frame_stream.specs.Packets.{packet_frames}
use Rattle.frame_stream.specs.Runs.{AreRead, Counts, IsOver}
use Rattle.frame_stream.specs.Standing as reading
use Rattle.frame_stream.specs.Standing.{IsRead, content_in}
use Rattle.frame_stream.specs.declared.kinds.FrameFault.TheVariants as frame
use Rattle.frame_stream.specs.declared.reader.FrameReader.{FrameReader}
use Rattle.responder.specs.Standing.{StandsFor}
use Rattle.responder.specs.declared.serving.Responder.{Responder}
use Rattle.responder_machine.specs.Responding.{Responding, responder_hears}
use Rattle.responder_serve.specs.Served.{IsServed, IsServedInPart, IsServedSoFar, after_frame, after_frames, sent_for, served_from}
use Rattle.responder_serve.specs.declared.answering.Server.{Server}
use Rattle.responder_serve.specs.declared.fault.ServeFault.{ServeFault}
use Rattle.responder_serve.specs.declared.fault.ServeFault.TheVariants as fault
use Rattle.spdm_basis.specs.Stream.{HasFault, Takes, TakesPrefix}

-- It is kept of some responder.
abbrev pub IsKept : Responder → Type 0
IsKept seen = (r : Responding) × StandsFor seen r

-- ---- One frame.

-- A frame was read, and all packets of its answer were written.
pub record IsAnswered (r : Responding) (old : Server) (before held : Option (List ℕ)) (new : Server) (after holds : Option (List ℕ)) : Type 0 where
  pub frame : GivenFrame
  pub read : IsRead old.reader before frame new.reader after
  pub stands : StandsFor new.responder (after_frame r frame)
  pub written : Takes held (packet_frames (sent_for r frame)) holds

-- The packet that lies in the reader was given to the responder: its answer was written, or a prefix of it.
abbrev pub IsPacketAnswered : Responding → (old : Server) → (held : Option (List ℕ)) → Result (Unit {0}) ServeFault → (new : Server) → (holds : Option (List ℕ)) → Type 0
IsPacketAnswered r old held (Ok done) new holds =
    StandsFor new.responder (responder_hears r (content_in old.reader)).after × Takes held (packet_frames (responder_hears r (content_in old.reader)).sent) holds
IsPacketAnswered r old held (Err fault.WriteFault) new holds = TakesPrefix held (packet_frames (responder_hears r (content_in old.reader)).sent) holds
IsPacketAnswered r old held (Err other) new holds = ⊥

-- Whether there was a frame.
abbrev pub IsStep : Responding → (old : Server) → (before held : Option (List ℕ)) → Bool → (new : Server) → (after holds : Option (List ℕ)) → Type 0
IsStep r old before held true new after holds = IsAnswered r old before held new after holds
IsStep r old before held false new after holds = IsOver old.reader before held new.reader after holds

-- A frame was read, and a prefix of its answer was written.
pub record IsAnsweredInPart (r : Responding) (old : Server) (before held : Option (List ℕ)) (new : Server) (after holds : Option (List ℕ)) : Type 0 where
  pub frame : GivenFrame
  pub read : IsRead old.reader before frame new.reader after
  pub written : TakesPrefix held (packet_frames (sent_for r frame)) holds

-- Why there was no answer.
abbrev pub IsStepFault : Responding → (old : Server) → (before held : Option (List ℕ)) → Counts → ServeFault → (new : Server) → (after holds : Option (List ℕ)) → Type 0
IsStepFault r old before held n fault.ReadFault new after holds = HasFault n.read_before n.read_after × (holds ≡ held)
IsStepFault r old before held n fault.WriteFault new after holds = HasFault n.written_before n.written_after × IsAnsweredInPart r old before held new after holds
IsStepFault r old before held n fault.TooLong new after holds = reading.IsCause old.reader before n.read_before n.read_after frame.TooLong × (holds ≡ held)
IsStepFault r old before held n (fault.BadFrame at) new after holds = reading.IsCause old.reader before n.read_before n.read_after (frame.BadFrame at) × (holds ≡ held)
IsStepFault r old before held n fault.OutOfMemory new after holds = ⊥
IsStepFault r old before held n (fault.Responder refused) new after holds = ⊥

-- ---- All frames so far.

pub record IsRun (r : Responding) (old : FrameReader) (before held : Option (List ℕ)) (new : Server) (after holds : Option (List ℕ)) : Type 0 where
  pub frames : List GivenFrame
  pub read : AreRead old before frames new.reader after
  pub stands : StandsFor new.responder (after_frames r frames)
  pub written : Takes held (served_from r frames) holds

-- The cause of a fault of the whole, of which the stream before the call is known where the source tells it.
abbrev pub IsCause : Responding → (before held holds : Option (List ℕ)) → Counts → ServeFault → Type 0
IsCause r before held holds n fault.ReadFault = HasFault n.read_before n.read_after × IsServedSoFar r before held holds
IsCause r before held holds n fault.WriteFault = HasFault n.written_before n.written_after × IsServedInPart r before held holds
IsCause r before held holds n fault.TooLong = IsServed r before held holds TooLong
IsCause r before held holds n (fault.BadFrame at) = IsServed r before held holds (Bad at)
IsCause r before held holds n fault.OutOfMemory = holds ≡ held
IsCause r before held holds n (fault.Responder refused) = holds ≡ held
