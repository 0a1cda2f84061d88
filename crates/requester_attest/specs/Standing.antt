-- What stands while an attestor reads its stream, and what the calls answer. This project's own.
use Rattle.std.specs.Prelude.{◌≡◌, ℕ, List, Bool, true, false, Option, Some, Result, Ok, Err}
use Rattle.appraise.specs.declared.appraisal.Appraisal.{Appraisal}
use Rattle.attestor.specs.Attesting.{AttestStep, Attesting, attesting_started}
use Rattle.attestor.specs.Standing as attestor
use Rattle.attestor.specs.declared.progressed.Progressed.{Progressed}
use Rattle.attestor.specs.declared.progressed.Progressed.TheVariants as progress
use Rattle.frame_stream.specs.Frames.{GivenFrame}
use Rattle.frame_stream.specs.Frames.Ending.{Bad, TooLong}
use Rattle.frame_stream.specs.Runs.{AreRead, Counts, IsOver}
use Rattle.frame_stream.specs.Standing as reading
use Rattle.frame_stream.specs.Standing.{IsRead}
use Rattle.frame_stream.specs.declared.kinds.FrameFault.TheVariants as frame
use Rattle.frame_stream.specs.declared.reader.FrameReader.{FrameReader}
use Rattle.requester_attest.specs.Attested.{Appraises, IsAttested, IsAttestedInPart, IsAttestedSoFar, attested, attested_by, attesting_after, step_frames, verdict_of}
use Rattle.requester_attest.specs.declared.attending.Attending.{Attending}
use Rattle.requester_drive.specs.declared.fault.DriveFault.{DriveFault}
use Rattle.requester_drive.specs.declared.fault.DriveFault.TheVariants as fault
use Rattle.spdm_basis.specs.Stream.{HasFault, Takes, TakesPrefix}

-- The attestor is kept, and the verdict so far.
pub record StandsFor (seen : Attending) (appraised : List ℕ → Appraisal) (a : Attesting) : Type 0 where
  pub attestor : attestor.StandsFor seen.attestor a
  pub appraises : Appraises a.rules appraised
  pub verdict : seen.verdict ≡ verdict_of appraised a.decision

-- The verdict after a packet that came to this.
abbrev pub verdict_after : Progressed → (before : Option Appraisal) → Option Appraisal
verdict_after progress.Going before = before
verdict_after (progress.Verdict appraisal) before = Some appraisal
verdict_after progress.Failed before = before

-- It is kept of some attestor.
pub record IsKept (seen : Attending) : Type 0 where
  pub appraised : List ℕ → Appraisal
  pub attesting : Attesting
  pub stands : StandsFor seen appraised attesting

-- ---- One frame.

-- What a call led to was written, or a prefix of it, and what is kept is that of the attestor after it.
abbrev pub IsAttestedBy : (List ℕ → Appraisal) → AttestStep → (held : Option (List ℕ)) → Result (Unit {0}) DriveFault → (new : Attending) → (holds : Option (List ℕ)) → Type 0
IsAttestedBy appraised step held (Ok done) new holds = StandsFor new appraised step.after × Takes held (step_frames appraised step) holds
IsAttestedBy appraised step held (Err fault.WriteFault) new holds = TakesPrefix held (step_frames appraised step) holds
IsAttestedBy appraised step held (Err other) new holds = ⊥

-- The first request was written, and what is kept is that of the attestor after it.
abbrev pub IsStarted : (List ℕ → Appraisal) → Attesting → (held : Option (List ℕ)) → (new : Attending) → (holds : Option (List ℕ)) → Type 0
IsStarted appraised a held new holds = StandsFor new appraised (attesting_started a).after × Takes held (step_frames appraised (attesting_started a)) holds

-- A frame was read, and all that it led to was written.
pub record IsAnswered (appraised : List ℕ → Appraisal) (a : Attesting) (old : Attending) (before held : Option (List ℕ)) (new : Attending) (after holds : Option (List ℕ)) : Type 0 where
  pub frame : GivenFrame
  pub read : IsRead old.reader before frame new.reader after
  pub stands : StandsFor new appraised (attested_by a frame).after
  pub written : Takes held (step_frames appraised (attested_by a frame)) holds

-- Nothing changed but what the reader read ahead.
abbrev pub IsSame : (old new : Attending) → Type 0
IsSame old new = new.verdict ≡ old.verdict

-- Whether there was a frame.
abbrev pub IsStep : (List ℕ → Appraisal) → Attesting → (old : Attending) → (before held : Option (List ℕ)) → Bool → (new : Attending) → (after holds : Option (List ℕ)) → Type 0
IsStep appraised a old before held true new after holds = IsAnswered appraised a old before held new after holds
IsStep appraised a old before held false new after holds = IsOver old.reader before held new.reader after holds × IsSame old new

-- A frame was read, and a prefix of what it led to was written.
pub record IsAnsweredInPart (appraised : List ℕ → Appraisal) (a : Attesting) (old : Attending) (before held : Option (List ℕ)) (new : Attending) (after holds : Option (List ℕ)) : Type 0 where
  pub frame : GivenFrame
  pub read : IsRead old.reader before frame new.reader after
  pub written : TakesPrefix held (step_frames appraised (attested_by a frame)) holds

-- Why a frame led to nothing.
abbrev pub IsStepFault : (List ℕ → Appraisal) → Attesting → (old : Attending) → (before held : Option (List ℕ)) → Counts → DriveFault → (new : Attending) → (after holds : Option (List ℕ)) → Type 0
IsStepFault appraised a old before held n fault.ReadFault new after holds = HasFault n.read_before n.read_after × (holds ≡ held)
IsStepFault appraised a old before held n fault.WriteFault new after holds = HasFault n.written_before n.written_after × IsAnsweredInPart appraised a old before held new after holds
IsStepFault appraised a old before held n fault.TooLong new after holds = reading.IsCause old.reader before n.read_before n.read_after frame.TooLong × (holds ≡ held)
IsStepFault appraised a old before held n (fault.BadFrame at) new after holds = reading.IsCause old.reader before n.read_before n.read_after (frame.BadFrame at) × (holds ≡ held)
IsStepFault appraised a old before held n fault.OutOfMemory new after holds = ⊥
IsStepFault appraised a old before held n (fault.Requester refused) new after holds = ⊥

-- ---- All frames so far.

pub record IsRun (appraised : List ℕ → Appraisal) (a : Attesting) (old : FrameReader) (before held : Option (List ℕ)) (new : Attending) (after holds : Option (List ℕ)) : Type 0 where
  pub frames : List GivenFrame
  pub read : AreRead old before frames new.reader after
  pub stands : StandsFor new appraised (attesting_after a frames)
  pub written : Takes held (attested appraised a frames) holds

-- The cause of a fault of the whole, of which the stream before the call is known where the source tells it.
abbrev pub IsCause : (List ℕ → Appraisal) → Attesting → (before held holds : Option (List ℕ)) → Counts → DriveFault → Type 0
IsCause appraised a before held holds n fault.ReadFault = HasFault n.read_before n.read_after × IsAttestedSoFar appraised a before held holds
IsCause appraised a before held holds n fault.WriteFault = HasFault n.written_before n.written_after × IsAttestedInPart appraised a before held holds
IsCause appraised a before held holds n fault.TooLong = IsAttested appraised a before held holds TooLong
IsCause appraised a before held holds n (fault.BadFrame at) = IsAttested appraised a before held holds (Bad at)
IsCause appraised a before held holds n fault.OutOfMemory = holds ≡ held
IsCause appraised a before held holds n (fault.Requester refused) = holds ≡ held
