-- What stands while a requester is driven, and what the calls answer. This project's own.
use Rattle.std.specs.Prelude.{◌≡◌, ◌⊎◌, ℕ, List, Bool, true, false, Option, None, Result, Ok, Err}
use Rattle.frame_stream.specs.Frames.{GivenFrame}
use Rattle.frame_stream.specs.Frames.Ending.{Bad, TooLong}
use Rattle.frame_stream.specs.Frames.GivenFrame.{CommandOf}
use Rattle.frame_stream.specs.Runs.{AreRead, Counts, IsOver}
use Rattle.frame_stream.specs.Standing as reading
use Rattle.frame_stream.specs.Standing.{IsRead}
use Rattle.frame_stream.specs.declared.kinds.FrameFault.TheVariants as frame
use Rattle.frame_stream.specs.declared.reader.FrameReader.{FrameReader}
use Rattle.requester.specs.Standing.{StandsFor}
use Rattle.requester.specs.declared.whole.Requester.{Requester}
use Rattle.requester_drive.specs.Commands.{command_line}
use Rattle.requester_drive.specs.Driven.{AreTold, Driving, IsDriven, IsDrivenInPart, IsDrivenSoFar, IsTold, after_frames, driven_by, driven_from}
use Rattle.requester_drive.specs.declared.fault.DriveFault.{DriveFault}
use Rattle.requester_drive.specs.declared.fault.DriveFault.TheVariants as fault
use Rattle.requester_drive.specs.declared.telling.Driver.{Driver}
use Rattle.requester_machine.specs.Requesting.{Requesting}
use Rattle.script_text.specs.declared.configuration.config.ScriptConfig.{ScriptConfig}
use Rattle.spdm_basis.specs.Stream.{HasFault, Takes, TakesPrefix}

-- It is kept of some requester.
abbrev pub IsKept : Requester → Type 0
IsKept seen = (a : Requesting) × StandsFor seen a

-- The counts of faults of the sink, before a call and after it.
pub record Written : Type 0 where
  pub before : ℕ
  pub after : ℕ

-- ---- One frame.

-- What this says was written, or a prefix of it, and what is kept is that of the requester after it.
abbrev pub IsDrivenBy : Driving → (held : Option (List ℕ)) → Result (Unit {0}) DriveFault → (new : Driver) → (holds : Option (List ℕ)) → Type 0
IsDrivenBy d held (Ok done) new holds = StandsFor new.requester d.after × Takes held d.written holds
IsDrivenBy d held (Err fault.WriteFault) new holds = TakesPrefix held d.written holds
IsDrivenBy d held (Err other) new holds = ⊥

-- The command of a line, whose frame begins at this byte, was told; or there is none.
abbrev pub IsObeyed : ScriptConfig → Requesting → (at : ℕ) → (line : List ℕ) → Written → (held : Option (List ℕ)) → Result (Unit {0}) DriveFault → (new : Driver) → (holds : Option (List ℕ)) → Type 0
IsObeyed c a at line n held (Ok done) new holds =
    IsTold c (CommandOf line) × StandsFor new.requester (driven_by c a (CommandOf line)).after × Takes held (driven_by c a (CommandOf line)).written holds
IsObeyed c a at line n held (Err fault.WriteFault) new holds =
    IsTold c (CommandOf line) × HasFault n.before n.after × TakesPrefix held (driven_by c a (CommandOf line)).written holds
IsObeyed c a at line n held (Err (fault.BadFrame place)) new holds = (place ≡ at) × (command_line c line ≡ None) × (holds ≡ held)
IsObeyed c a at line n held (Err other) new holds = ⊥

-- A frame was read, and all that it led to was written.
pub record IsAnswered (c : ScriptConfig) (a : Requesting) (old : Driver) (before held : Option (List ℕ)) (new : Driver) (after holds : Option (List ℕ)) : Type 0 where
  pub frame : GivenFrame
  pub read : IsRead old.reader before frame new.reader after
  pub told : IsTold c frame
  pub stands : StandsFor new.requester (driven_by c a frame).after
  pub written : Takes held (driven_by c a frame).written holds

-- Whether there was a frame.
abbrev pub IsStep : ScriptConfig → Requesting → (old : Driver) → (before held : Option (List ℕ)) → Bool → (new : Driver) → (after holds : Option (List ℕ)) → Type 0
IsStep c a old before held true new after holds = IsAnswered c a old before held new after holds
IsStep c a old before held false new after holds = IsOver old.reader before held new.reader after holds

-- A frame was read, and a prefix of what it led to was written.
pub record IsAnsweredInPart (c : ScriptConfig) (a : Requesting) (old : Driver) (before held : Option (List ℕ)) (new : Driver) (after holds : Option (List ℕ)) : Type 0 where
  pub frame : GivenFrame
  pub read : IsRead old.reader before frame new.reader after
  pub told : IsTold c frame
  pub written : TakesPrefix held (driven_by c a frame).written holds

-- A line was read that is no command; its frame begins at this byte.
pub record IsNoCommand (c : ScriptConfig) (old : Driver) (before : Option (List ℕ)) (at : ℕ) (new : Driver) (after : Option (List ℕ)) : Type 0 where
  pub line : List ℕ
  pub read : IsRead old.reader before (CommandOf line) new.reader after
  pub none : command_line c line ≡ None
  pub at_is : at ≡ old.reader.taken

-- Why a frame led to nothing.
abbrev pub IsStepFault : ScriptConfig → Requesting → (old : Driver) → (before held : Option (List ℕ)) → Counts → DriveFault → (new : Driver) → (after holds : Option (List ℕ)) → Type 0
IsStepFault c a old before held n fault.ReadFault new after holds = HasFault n.read_before n.read_after × (holds ≡ held)
IsStepFault c a old before held n fault.WriteFault new after holds = HasFault n.written_before n.written_after × IsAnsweredInPart c a old before held new after holds
IsStepFault c a old before held n fault.TooLong new after holds = reading.IsCause old.reader before n.read_before n.read_after frame.TooLong × (holds ≡ held)
IsStepFault c a old before held n (fault.BadFrame at) new after holds =
    (reading.IsCause old.reader before n.read_before n.read_after (frame.BadFrame at) ⊎ IsNoCommand c old before at new after) × (holds ≡ held)
IsStepFault c a old before held n fault.OutOfMemory new after holds = ⊥
IsStepFault c a old before held n (fault.Requester refused) new after holds = ⊥

-- ---- All frames so far.

pub record IsRun (c : ScriptConfig) (a : Requesting) (old : FrameReader) (before held : Option (List ℕ)) (new : Driver) (after holds : Option (List ℕ)) : Type 0 where
  pub frames : List GivenFrame
  pub read : AreRead old before frames new.reader after
  pub told : AreTold c frames
  pub stands : StandsFor new.requester (after_frames c a frames)
  pub written : Takes held (driven_from c a frames) holds

-- The cause of a fault of the whole, of which the stream before the call is known where the source tells it.
abbrev pub IsCause : ScriptConfig → Requesting → (before held holds : Option (List ℕ)) → Counts → DriveFault → Type 0
IsCause c a before held holds n fault.ReadFault = HasFault n.read_before n.read_after × IsDrivenSoFar c a before held holds
IsCause c a before held holds n fault.WriteFault = HasFault n.written_before n.written_after × IsDrivenInPart c a before held holds
IsCause c a before held holds n fault.TooLong = IsDriven c a before held holds TooLong
IsCause c a before held holds n (fault.BadFrame at) = IsDriven c a before held holds (Bad at)
IsCause c a before held holds n fault.OutOfMemory = holds ≡ held
IsCause c a before held holds n (fault.Requester refused) = holds ≡ held
