-- Frames that are answered one after another.
use Rattle.std.proofs.Common.{◌≡◌, ◌∙◌, ◌++◌, ◌+◌, ◌≤◌, ℕ, List, [], ◌∷◌, Option, Some, length, refl, inl, inr, ap, sym, subst, append_assoc, append-nil}
use Rattle.frame_stream.proofs.Fronts.{fault_later}
use Rattle.frame_stream.proofs.Runs.{behind_frames, none_read, nothing_written, one_more_read, stream_begins, written_so_far}
use Rattle.frame_stream.proofs.Written.{takes_both, takes_then_prefix}
use Rattle.frame_stream.specs.Frames.{Ending, GivenFrame, spelled, stream_limit}
use Rattle.frame_stream.specs.Frames.Ending.{Done, Bad, TooLong}
use Rattle.frame_stream.specs.Frames.GivenFrame.{CommandOf}
use Rattle.frame_stream.specs.Runs.{Counts, IsFresh, IsOver}
use Rattle.frame_stream.specs.Standing.{left_of}
use Rattle.frame_stream.specs.declared.reader.FrameReader.{FrameReader}
use Rattle.requester.specs.Standing.{StandsFor}
use Rattle.requester_drive.specs.Driven.{AreTold, HasNoCommand, IsDriven, IsDrivenSoFar, IsStreamOf, IsTold, Stops, after_frames, driven_by, driven_from, driven_kinds}
use Rattle.requester_drive.specs.Standing.{IsAnswered, IsCause, IsNoCommand, IsRun, IsStepFault}
use Rattle.requester_drive.specs.declared.fault.DriveFault.{DriveFault}
use Rattle.requester_drive.specs.declared.fault.DriveFault.TheVariants as fault
use Rattle.requester_drive.specs.declared.telling.Driver.{Driver}
use Rattle.requester_machine.specs.Requesting.{Requesting}
use Rattle.script_text.specs.declared.configuration.config.ScriptConfig.{ScriptConfig}
use Rattle.spdm_basis.specs.Stream.{HasFault, Takes, TakesPrefix}

after_more : (c : ScriptConfig) (a : Requesting) (frames : List GivenFrame) (frame : GivenFrame) → after_frames c a (frames ++ frame ∷ []) ≡ (driven_by c (after_frames c a frames) frame).after
after_more c a [] frame = refl
after_more c a (f ∷ frames) frame = after_more c (driven_by c a f).after frames frame

driven_more : (c : ScriptConfig) (a : Requesting) (frames : List GivenFrame) (frame : GivenFrame) →
    driven_from c a (frames ++ frame ∷ []) ≡ driven_from c a frames ++ (driven_by c (after_frames c a frames) frame).written
driven_more c a [] frame = append-nil ((driven_by c a frame).written)
driven_more c a (f ∷ frames) frame =
    ap (λ (l : List ℕ). (driven_by c a f).written ++ l) (driven_more c (driven_by c a f).after frames frame)
    ∙ sym (append_assoc ((driven_by c a f).written) (driven_from c (driven_by c a f).after frames) ((driven_by c (after_frames c (driven_by c a f).after frames) frame).written))

told_more : (c : ScriptConfig) (frames : List GivenFrame) (frame : GivenFrame) → AreTold c frames → IsTold c frame → AreTold c (frames ++ frame ∷ [])
told_more c [] frame all own = (own, tt)
told_more c (f ∷ frames) frame all own = (all.0, told_more c frames frame all.1 own)

-- one more frame
pub run_more : (c : ScriptConfig) (a : Requesting) (old : FrameReader) (first held : Option (List ℕ)) (mid : Driver) (before between : Option (List ℕ)) (new : Driver) (after holds : Option (List ℕ)) →
    (run : IsRun c a old first held mid before between) → IsAnswered c (after_frames c a run.frames) mid before between new after holds → IsRun c a old first held new after holds
run_more c a old first held mid before between new after holds run step =
    let frames = run.frames in
    let frame = step.frame in
    record {
      frames = frames ++ frame ∷ [];
      read = one_more_read old first frames mid.reader before frame new.reader after run.read step.read;
      told = told_more c frames frame run.told step.told;
      stands = subst (λ (a : Requesting). StandsFor new.requester a) (sym (after_more c a frames frame)) step.stands;
      written = subst (λ (l : List ℕ). Takes held l holds) (sym (driven_more c a frames frame))
          (takes_both held between holds (driven_from c a frames) ((driven_by c (after_frames c a frames) frame).written) run.written step.written);
    }

-- what a stream is after the frames so far
stream_of : (c : ScriptConfig) (a : Requesting) (old : FrameReader) (first held : Option (List ℕ)) (mid : Driver) (before between : Option (List ℕ)) → IsFresh driven_kinds stream_limit old →
    (run : IsRun c a old first held mid before between) →
    (ending : Ending) → ((rest : List ℕ) → left_of mid.reader before ≡ Some rest → Stops c mid.reader.kinds mid.reader.limit mid.reader.taken rest ending) →
    (left : List ℕ) → left_of old first ≡ Some left → IsStreamOf c left run.frames ending
stream_of c a old first held mid before between fresh run ending ends left e =
    let behind = behind_frames (λ k limit at bytes. Stops c k limit at bytes ending) driven_kinds stream_limit old first run.frames mid.reader before fresh run.read ends left e in
    record { rest = behind.rest; parts = behind.parts; allowed = behind.allowed; told = run.told; within = behind.within; ends = behind.is }

-- the end
pub run_over : (c : ScriptConfig) (a : Requesting) (old : FrameReader) (first held : Option (List ℕ)) (mid : Driver) (before between : Option (List ℕ)) (new : FrameReader) (after holds : Option (List ℕ)) →
    IsFresh driven_kinds stream_limit old → IsRun c a old first held mid before between → IsOver mid.reader before between new after holds → IsDriven c a (left_of old first) held holds Done
run_over c a old first held mid before between new after holds fresh run over = record {
  frames = run.frames;
  stream = stream_of c a old first held mid before between fresh run Done over.done.ended;
  written = written_so_far held between holds (driven_from c a run.frames) over.same run.written;
}

-- a line that is no command
no_command : (c : ScriptConfig) (mid : Driver) (before : Option (List ℕ)) (at : ℕ) (new : Driver) (after : Option (List ℕ)) → IsNoCommand c mid before at new after →
    (rest : List ℕ) → left_of mid.reader before ≡ Some rest → HasNoCommand c mid.reader.limit mid.reader.taken rest
no_command c mid before at new after wrong rest e =
    let given = wrong.read.gives rest e in
    let within : new.reader.taken ≤ new.reader.limit = new.reader.within in
    let size : new.reader.taken ≡ mid.reader.taken + length (spelled (CommandOf wrong.line)) = wrong.read.taken in
    record {
      line = wrong.line;
      rest = given.0;
      parts = given.2;
      fits = wrong.read.allowed.1;
      none = wrong.none;
      within = subst (λ n. n ≤ mid.reader.limit) size (subst (λ n. new.reader.taken ≤ n) wrong.read.limit within);
    }

-- a fault
so_far : (c : ScriptConfig) (a : Requesting) (old : FrameReader) (first held : Option (List ℕ)) (mid : Driver) (before between holds : Option (List ℕ)) → IsFresh driven_kinds stream_limit old →
    IsRun c a old first held mid before between → holds ≡ between → IsDrivenSoFar c a (left_of old first) held holds
so_far c a old first held mid before between holds fresh run kept = record {
  frames = run.frames;
  stream = stream_begins driven_kinds stream_limit old first run.frames mid.reader before fresh run.read;
  told = run.told;
  written = written_so_far held between holds (driven_from c a run.frames) kept run.written;
}

pub run_fault : (c : ScriptConfig) (a : Requesting) (old : FrameReader) (first held : Option (List ℕ)) (mid : Driver) (before between : Option (List ℕ)) (n all : Counts) (fault : DriveFault) (new : Driver) (after holds : Option (List ℕ)) →
    IsFresh driven_kinds stream_limit old → (run : IsRun c a old first held mid before between) →
    all.read_before ≤ n.read_before → n.read_before ≤ n.read_after → all.read_after ≡ n.read_after →
    all.written_before ≤ n.written_before → n.written_before ≤ n.written_after → all.written_after ≡ n.written_after →
    IsStepFault c (after_frames c a run.frames) mid before between n fault new after holds → IsCause c a (left_of old first) held holds all fault
run_fault c a old first held mid before between n all fault.ReadFault new after holds fresh run low high same low' high' same' (counted, kept) = (
  subst (λ m. HasFault all.read_before m) (sym same) (fault_later all.read_before n.read_before n.read_after low high counted),
  so_far c a old first held mid before between holds fresh run kept,
)
run_fault c a old first held mid before between n all fault.WriteFault new after holds fresh run low high same low' high' same' (counted, part) =
    let frames = run.frames in
    let frame = part.frame in (
      subst (λ m. HasFault all.written_before m) (sym same') (fault_later all.written_before n.written_before n.written_after low' high' counted),
      record {
        frames = frames ++ frame ∷ [];
        stream = stream_begins driven_kinds stream_limit old first (frames ++ frame ∷ []) new.reader after fresh (one_more_read old first frames mid.reader before frame new.reader after run.read part.read);
        told = told_more c frames frame run.told part.told;
        written = subst (λ (l : List ℕ). TakesPrefix held l holds) (sym (driven_more c a frames frame))
            (takes_then_prefix held between holds (driven_from c a frames) ((driven_by c (after_frames c a frames) frame).written) run.written part.written);
      },
    )
run_fault c a old first held mid before between n all fault.TooLong new after holds fresh run low high same low' high' same' (cause, kept) = record {
  frames = run.frames;
  stream = stream_of c a old first held mid before between fresh run TooLong cause;
  written = written_so_far held between holds (driven_from c a run.frames) kept run.written;
}
run_fault c a old first held mid before between n all (fault.BadFrame at) new after holds fresh run low high same low' high' same' (inl cause, kept) = record {
  frames = run.frames;
  stream = stream_of c a old first held mid before between fresh run (Bad at) (λ rest e. inl (cause.0, cause.1 rest e));
  written = written_so_far held between holds (driven_from c a run.frames) kept run.written;
}
run_fault c a old first held mid before between n all (fault.BadFrame at) new after holds fresh run low high same low' high' same' (inr wrong, kept) = record {
  frames = run.frames;
  stream = stream_of c a old first held mid before between fresh run (Bad at) (λ rest e. inr (wrong.at_is, no_command c mid before at new after wrong rest e));
  written = written_so_far held between holds (driven_from c a run.frames) kept run.written;
}
run_fault c a old first held mid before between n all (fault.Requester refused) new after holds fresh run low high same low' high' same' no_fault = absurd no_fault
run_fault c a old first held mid before between n all fault.OutOfMemory new after holds fresh run low high same low' high' same' kept = absurd kept

-- before the first frame
pub run_new : (c : ScriptConfig) (a : Requesting) (driver : Driver) (first held : Option (List ℕ)) → StandsFor driver.requester a → IsRun c a driver.reader first held driver first held
run_new c a driver first held stands = record { frames = []; read = none_read driver.reader first; told = tt; stands = stands; written = nothing_written held }
