-- Frames that are answered one after another.
use Rattle.std.proofs.Common.{◌≡◌, ◌∙◌, ◌++◌, ◌+◌, ◌≤◌, ℕ, List, [], ◌∷◌, Option, Some, length, refl, inl, inr, ap, sym, subst, append_assoc, append-nil}
use Rattle.std.proofs.lemmas.Grind.{flat_map-append}
use Rattle.frame_stream.proofs.Fronts.{fault_later}
use Rattle.frame_stream.proofs.Runs.{behind_frames, none_read, nothing_written, one_more_read, stream_begins, written_so_far}
use Rattle.frame_stream.proofs.Written.{takes_both, takes_then_prefix}
use Rattle.frame_stream.specs.Frames.{Ending, GivenFrame, spelled, stream_limit}
use Rattle.frame_stream.specs.Frames.Ending.{Done, Bad, TooLong}
use Rattle.frame_stream.specs.Frames.GivenFrame.{CommandOf}
use Rattle.frame_stream.specs.Runs.{Counts, IsFresh, IsOver}
use Rattle.frame_stream.specs.Standing.{left_of}
use Rattle.frame_stream.specs.declared.reader.FrameReader.{FrameReader}
use Rattle.device_serve.specs.Devised as devised
use Rattle.device_serve.specs.Devised.{Writing, after_frames, device_kinds, devised_by, devised_from, frame_of, frames_of, shown_by}
use Rattle.device_serve.specs.Streams.{AreTold, HasNoAnswer, IsDevised, IsDevisedSoFar, IsDeviceStream, IsTold, Stops}
use Rattle.device_serve.specs.Standing.{IsAnswered, IsCause, IsNoAnswer, IsRun, IsStepFault, StandsFor}
use Rattle.responder_serve.specs.declared.fault.ServeFault.{ServeFault}
use Rattle.responder_serve.specs.declared.fault.ServeFault.TheVariants as fault
use Rattle.device_serve.specs.declared.device.Device.{Device}
use Rattle.script_text.specs.declared.configuration.config.ScriptConfig.{ScriptConfig}
use Rattle.spdm_basis.specs.Stream.{HasFault, Takes, TakesPrefix}

after_more : (c : ScriptConfig) (d : devised.Device) (frames : List GivenFrame) (frame : GivenFrame) → after_frames c d (frames ++ frame ∷ []) ≡ (devised_by c (after_frames c d frames) frame).after
after_more c d [] frame = refl
after_more c d (f ∷ frames) frame = after_more c (devised_by c d f).after frames frame

devised_more : (c : ScriptConfig) (d : devised.Device) (frames : List GivenFrame) (frame : GivenFrame) →
    devised_from c d (frames ++ frame ∷ []) ≡ devised_from c d frames ++ shown_by c (after_frames c d frames) frame
devised_more c d [] frame = append-nil (shown_by c d frame)
devised_more c d (f ∷ frames) frame =
    ap (λ (l : List Writing). shown_by c d f ++ l) (devised_more c (devised_by c d f).after frames frame)
    ∙ sym (append_assoc (shown_by c d f) (devised_from c (devised_by c d f).after frames) (shown_by c (after_frames c (devised_by c d f).after frames) frame))

-- as frames
written_more : (c : ScriptConfig) (d : devised.Device) (frames : List GivenFrame) (frame : GivenFrame) →
    frames_of (devised_from c d (frames ++ frame ∷ [])) ≡ frames_of (devised_from c d frames) ++ frames_of (shown_by c (after_frames c d frames) frame)
written_more c d frames frame =
    ap frames_of (devised_more c d frames frame)
    ∙ flat_map-append frame_of (devised_from c d frames) (shown_by c (after_frames c d frames) frame)

told_more : (frames : List GivenFrame) (frame : GivenFrame) → AreTold frames → IsTold frame → AreTold (frames ++ frame ∷ [])
told_more [] frame all own = (own, tt)
told_more (f ∷ frames) frame all own = (all.0, told_more frames frame all.1 own)

-- one more frame
pub run_more : (c : ScriptConfig) (d : devised.Device) (old : FrameReader) (first held : Option (List ℕ)) (mid : Device) (before between : Option (List ℕ)) (new : Device) (after holds : Option (List ℕ)) →
    (run : IsRun c d old first held mid before between) → IsAnswered c c.requesters (after_frames c d run.frames) mid before between new after holds → IsRun c d old first held new after holds
run_more c d old first held mid before between new after holds run step =
    let frames = run.frames in
    let frame = step.frame in
    record {
      frames = frames ++ frame ∷ [];
      read = one_more_read old first frames mid.reader before frame new.reader after run.read step.read;
      told = told_more frames frame run.told step.told;
      stands = subst (λ (e : devised.Device). StandsFor new e) (sym (after_more c d frames frame)) step.stands;
      written = subst (λ (l : List ℕ). Takes held l holds) (sym (written_more c d frames frame))
          (takes_both held between holds (frames_of (devised_from c d frames)) (frames_of (shown_by c (after_frames c d frames) frame)) run.written step.written);
    }

-- what a stream is after the frames so far
stream_of : (c : ScriptConfig) (d : devised.Device) (old : FrameReader) (first held : Option (List ℕ)) (mid : Device) (before between : Option (List ℕ)) → IsFresh device_kinds stream_limit old →
    (run : IsRun c d old first held mid before between) →
    (ending : Ending) → ((rest : List ℕ) → left_of mid.reader before ≡ Some rest → Stops mid.reader.kinds mid.reader.limit mid.reader.taken rest ending) →
    (left : List ℕ) → left_of old first ≡ Some left → IsDeviceStream left run.frames ending
stream_of c d old first held mid before between fresh run ending ends left e =
    let behind = behind_frames (λ k limit at bytes. Stops k limit at bytes ending) device_kinds stream_limit old first run.frames mid.reader before fresh run.read ends left e in
    record { rest = behind.rest; parts = behind.parts; allowed = behind.allowed; told = run.told; within = behind.within; ends = behind.is }

-- the end
pub run_over : (c : ScriptConfig) (d : devised.Device) (old : FrameReader) (first held : Option (List ℕ)) (mid : Device) (before between : Option (List ℕ)) (new : FrameReader) (after holds : Option (List ℕ)) →
    IsFresh device_kinds stream_limit old → IsRun c d old first held mid before between → IsOver mid.reader before between new after holds → IsDevised c d (left_of old first) held holds Done
run_over c d old first held mid before between new after holds fresh run over = record {
  frames = run.frames;
  stream = stream_of c d old first held mid before between fresh run Done over.done.ended;
  written = written_so_far held between holds (frames_of (devised_from c d run.frames)) over.same run.written;
}

-- a line that is no answer
no_answer : (mid : Device) (before : Option (List ℕ)) (at : ℕ) (new : Device) (after : Option (List ℕ)) → IsNoAnswer mid before at new after →
    (rest : List ℕ) → left_of mid.reader before ≡ Some rest → HasNoAnswer mid.reader.limit mid.reader.taken rest
no_answer mid before at new after wrong rest e =
    let given = wrong.read.gives rest e in
    let within : new.reader.taken ≤ new.reader.limit = new.reader.within in
    let size : new.reader.taken ≡ mid.reader.taken + length (spelled (CommandOf wrong.line)) = wrong.read.taken in
    record {
      line = wrong.line;
      rest = given.0;
      parts = given.2;
      fits = wrong.read.allowed.1;
      none = wrong.none;
      within = subst (λ n. n ≤ mid.reader.limit) size (subst (λ n. new.reader.taken ≤ n) wrong.read.limit within);
    }

-- a fault
so_far : (c : ScriptConfig) (d : devised.Device) (old : FrameReader) (first held : Option (List ℕ)) (mid : Device) (before between holds : Option (List ℕ)) → IsFresh device_kinds stream_limit old →
    IsRun c d old first held mid before between → holds ≡ between → IsDevisedSoFar c d (left_of old first) held holds
so_far c d old first held mid before between holds fresh run kept = record {
  frames = run.frames;
  stream = stream_begins device_kinds stream_limit old first run.frames mid.reader before fresh run.read;
  told = run.told;
  written = written_so_far held between holds (frames_of (devised_from c d run.frames)) kept run.written;
}

pub run_fault : (c : ScriptConfig) (d : devised.Device) (old : FrameReader) (first held : Option (List ℕ)) (mid : Device) (before between : Option (List ℕ)) (n all : Counts) (fault : ServeFault) (new : Device) (after holds : Option (List ℕ)) →
    IsFresh device_kinds stream_limit old → (run : IsRun c d old first held mid before between) →
    all.read_before ≤ n.read_before → n.read_before ≤ n.read_after → all.read_after ≡ n.read_after →
    all.written_before ≤ n.written_before → n.written_before ≤ n.written_after → all.written_after ≡ n.written_after →
    IsStepFault c c.requesters (after_frames c d run.frames) mid before between n fault new after holds → IsCause c d (left_of old first) held holds all fault
run_fault c d old first held mid before between n all fault.ReadFault new after holds fresh run low high same low' high' same' (counted, kept) = (
  subst (λ m. HasFault all.read_before m) (sym same) (fault_later all.read_before n.read_before n.read_after low high counted),
  so_far c d old first held mid before between holds fresh run kept,
)
run_fault c d old first held mid before between n all fault.WriteFault new after holds fresh run low high same low' high' same' (counted, part) =
    let frames = run.frames in
    let frame = part.frame in (
      subst (λ m. HasFault all.written_before m) (sym same') (fault_later all.written_before n.written_before n.written_after low' high' counted),
      record {
        frames = frames ++ frame ∷ [];
        stream = stream_begins device_kinds stream_limit old first (frames ++ frame ∷ []) new.reader after fresh (one_more_read old first frames mid.reader before frame new.reader after run.read part.read);
        told = told_more frames frame run.told part.told;
        written = subst (λ (l : List ℕ). TakesPrefix held l holds) (sym (written_more c d frames frame))
            (takes_then_prefix held between holds (frames_of (devised_from c d frames)) (frames_of (shown_by c (after_frames c d frames) frame)) run.written part.written);
      },
    )
run_fault c d old first held mid before between n all fault.TooLong new after holds fresh run low high same low' high' same' (cause, kept) = record {
  frames = run.frames;
  stream = stream_of c d old first held mid before between fresh run TooLong cause;
  written = written_so_far held between holds (frames_of (devised_from c d run.frames)) kept run.written;
}
run_fault c d old first held mid before between n all (fault.BadFrame at) new after holds fresh run low high same low' high' same' (inl cause, kept) = record {
  frames = run.frames;
  stream = stream_of c d old first held mid before between fresh run (Bad at) (λ rest e. inl (cause.0, cause.1 rest e));
  written = written_so_far held between holds (frames_of (devised_from c d run.frames)) kept run.written;
}
run_fault c d old first held mid before between n all (fault.BadFrame at) new after holds fresh run low high same low' high' same' (inr wrong, kept) = record {
  frames = run.frames;
  stream = stream_of c d old first held mid before between fresh run (Bad at) (λ rest e. inr (wrong.at_is, no_answer mid before at new after wrong rest e));
  written = written_so_far held between holds (frames_of (devised_from c d run.frames)) kept run.written;
}
run_fault c d old first held mid before between n all (fault.Responder refused) new after holds fresh run low high same low' high' same' no_fault = absurd no_fault
run_fault c d old first held mid before between n all fault.OutOfMemory new after holds fresh run low high same low' high' same' kept = absurd kept

-- before the first frame
pub run_new : (c : ScriptConfig) (d : devised.Device) (device : Device) (first held : Option (List ℕ)) → StandsFor device d → IsRun c d device.reader first held device first held
run_new c d device first held stands = record { frames = []; read = none_read device.reader first; told = tt; stands = stands; written = nothing_written held }
