-- Frames that are answered one after another.
use Rattle.std.proofs.Common.{◌≡◌, ◌∙◌, ◌++◌, ◌≤◌, ℕ, List, [], ◌∷◌, Option, refl, ap, sym, subst, append_assoc, append-nil}
use Rattle.appraise.specs.declared.appraisal.Appraisal.{Appraisal}
use Rattle.attestor.specs.Attesting.{Attesting, attesting_started}
use Rattle.frame_stream.proofs.Fronts.{fault_later}
use Rattle.frame_stream.proofs.Runs.{none_read, one_more_read, stream_begins, stream_is, written_so_far}
use Rattle.frame_stream.proofs.Written.{prefix_of_first, takes_both, takes_then_prefix}
use Rattle.frame_stream.specs.Frames.{GivenFrame, stream_limit}
use Rattle.frame_stream.specs.Frames.Ending.{Done, Bad, TooLong}
use Rattle.frame_stream.specs.Runs.{AreRead, Counts, IsFresh, IsOver}
use Rattle.frame_stream.specs.Standing.{left_of}
use Rattle.frame_stream.specs.declared.reader.FrameReader.{FrameReader}
use Rattle.requester_attest.specs.Attested.{HasVerdict, IsAttestedInPart, after_frames, attested, attested_by, attested_from, attested_kinds, attesting_after, step_frames}
use Rattle.requester_attest.specs.Standing.{IsAnswered, IsCause, IsRun, IsSame, IsStepFault, StandsFor}
use Rattle.requester_attest.specs.declared.attending.Attending.{Attending}
use Rattle.requester_drive.specs.declared.fault.DriveFault.{DriveFault}
use Rattle.requester_drive.specs.declared.fault.DriveFault.TheVariants as fault
use Rattle.spdm_basis.specs.Stream.{HasFault, Takes, TakesPrefix}

after_more : (a : Attesting) (frames : List GivenFrame) (frame : GivenFrame) → after_frames a (frames ++ frame ∷ []) ≡ (attested_by (after_frames a frames) frame).after
after_more a [] frame = refl
after_more a (f ∷ frames) frame = after_more (attested_by a f).after frames frame

from_more : (appraised : List ℕ → Appraisal) (a : Attesting) (frames : List GivenFrame) (frame : GivenFrame) →
    attested_from appraised a (frames ++ frame ∷ []) ≡ attested_from appraised a frames ++ step_frames appraised (attested_by (after_frames a frames) frame)
from_more appraised a [] frame = append-nil (step_frames appraised (attested_by a frame))
from_more appraised a (f ∷ frames) frame =
    ap (λ (l : List ℕ). step_frames appraised (attested_by a f) ++ l) (from_more appraised (attested_by a f).after frames frame)
    ∙ sym (append_assoc (step_frames appraised (attested_by a f)) (attested_from appraised (attested_by a f).after frames) (step_frames appraised (attested_by (after_frames (attested_by a f).after frames) frame)))

attested_more : (appraised : List ℕ → Appraisal) (a : Attesting) (frames : List GivenFrame) (frame : GivenFrame) →
    attested appraised a (frames ++ frame ∷ []) ≡ attested appraised a frames ++ step_frames appraised (attested_by (attesting_after a frames) frame)
attested_more appraised a frames frame =
    let start = attesting_started a in
    ap (λ (l : List ℕ). step_frames appraised start ++ l) (from_more appraised start.after frames frame)
    ∙ sym (append_assoc (step_frames appraised start) (attested_from appraised start.after frames) (step_frames appraised (attested_by (attesting_after a frames) frame)))

-- one more frame
pub run_more : (appraised : List ℕ → Appraisal) (a : Attesting) (old : FrameReader) (first held : Option (List ℕ)) (mid : Attending) (before between : Option (List ℕ)) (new : Attending) (after holds : Option (List ℕ)) →
    (run : IsRun appraised a old first held mid before between) → IsAnswered appraised (attesting_after a run.frames) mid before between new after holds → IsRun appraised a old first held new after holds
run_more appraised a old first held mid before between new after holds run step =
    let frames = run.frames in
    let frame = step.frame in
    record {
      frames = frames ++ frame ∷ [];
      read = one_more_read old first frames mid.reader before frame new.reader after run.read step.read;
      stands = subst (λ (b : Attesting). StandsFor new appraised b) (sym (after_more (attesting_started a).after frames frame)) step.stands;
      written = subst (λ (l : List ℕ). Takes held l holds) (sym (attested_more appraised a frames frame))
          (takes_both held between holds (attested appraised a frames) (step_frames appraised (attested_by (attesting_after a frames) frame)) run.written step.written);
    }

-- the end
pub run_over : (appraised : List ℕ → Appraisal) (a : Attesting) (old : FrameReader) (first held : Option (List ℕ)) (mid : Attending) (before between : Option (List ℕ)) (new : Attending) (after holds : Option (List ℕ)) →
    IsFresh attested_kinds stream_limit old → IsRun appraised a old first held mid before between → IsOver mid.reader before between new.reader after holds → IsSame mid new →
    HasVerdict appraised a (left_of old first) held holds new.verdict
run_over appraised a old first held mid before between new after holds fresh run over same = record {
  whole = record {
    frames = run.frames;
    stream = stream_is attested_kinds stream_limit old first run.frames mid.reader before Done fresh run.read over.done.ended;
    written = written_so_far held between holds (attested appraised a run.frames) over.same run.written;
  };
  is = same ∙ run.stands.verdict;
}

-- a fault
pub run_fault : (appraised : List ℕ → Appraisal) (a : Attesting) (old : FrameReader) (first held : Option (List ℕ)) (mid : Attending) (before between : Option (List ℕ)) (n all : Counts) (fault : DriveFault) (new : Attending) (after holds : Option (List ℕ)) →
    IsFresh attested_kinds stream_limit old → (run : IsRun appraised a old first held mid before between) →
    all.read_before ≤ n.read_before → n.read_before ≤ n.read_after → all.read_after ≡ n.read_after →
    all.written_before ≤ n.written_before → n.written_before ≤ n.written_after → all.written_after ≡ n.written_after →
    IsStepFault appraised (attesting_after a run.frames) mid before between n fault new after holds → IsCause appraised a (left_of old first) held holds all fault
run_fault appraised a old first held mid before between n all fault.ReadFault new after holds fresh run low high same low' high' same' (counted, kept) = (
  subst (λ m. HasFault all.read_before m) (sym same) (fault_later all.read_before n.read_before n.read_after low high counted),
  record {
    frames = run.frames;
    stream = stream_begins attested_kinds stream_limit old first run.frames mid.reader before fresh run.read;
    written = written_so_far held between holds (attested appraised a run.frames) kept run.written;
  },
)
run_fault appraised a old first held mid before between n all fault.WriteFault new after holds fresh run low high same low' high' same' (counted, part) =
    let frames = run.frames in
    let frame = part.frame in (
      subst (λ m. HasFault all.written_before m) (sym same') (fault_later all.written_before n.written_before n.written_after low' high' counted),
      record {
        frames = frames ++ frame ∷ [];
        stream = stream_begins attested_kinds stream_limit old first (frames ++ frame ∷ []) new.reader after fresh (one_more_read old first frames mid.reader before frame new.reader after run.read part.read);
        written = subst (λ (l : List ℕ). TakesPrefix held l holds) (sym (attested_more appraised a frames frame))
            (takes_then_prefix held between holds (attested appraised a frames) (step_frames appraised (attested_by (attesting_after a frames) frame)) run.written part.written);
      },
    )
run_fault appraised a old first held mid before between n all fault.TooLong new after holds fresh run low high same low' high' same' (cause, kept) = record {
  frames = run.frames;
  stream = stream_is attested_kinds stream_limit old first run.frames mid.reader before TooLong fresh run.read cause;
  written = written_so_far held between holds (attested appraised a run.frames) kept run.written;
}
run_fault appraised a old first held mid before between n all (fault.BadFrame at) new after holds fresh run low high same low' high' same' (cause, kept) = record {
  frames = run.frames;
  stream = stream_is attested_kinds stream_limit old first run.frames mid.reader before (Bad at) fresh run.read (λ rest e. (cause.0, cause.1 rest e));
  written = written_so_far held between holds (attested appraised a run.frames) kept run.written;
}
run_fault appraised a old first held mid before between n all (fault.Requester refused) new after holds fresh run low high same low' high' same' no_fault = absurd no_fault
run_fault appraised a old first held mid before between n all fault.OutOfMemory new after holds fresh run low high same low' high' same' no_fault = absurd no_fault

-- behind the beginning and before the first frame
pub run_new : (appraised : List ℕ → Appraisal) (a : Attesting) (old : FrameReader) (new : Attending) (first held holds : Option (List ℕ)) → new.reader ≡ old → StandsFor new appraised (attesting_started a).after →
    Takes held (step_frames appraised (attesting_started a)) holds → IsRun appraised a old first held new first holds
run_new appraised a old new first held holds same stands written = record {
  frames = [];
  read = subst (λ (r : FrameReader). AreRead old first [] r first) (sym same) (none_read old first);
  stands = stands;
  written = subst (λ (l : List ℕ). Takes held l holds) (sym (append-nil (step_frames appraised (attesting_started a)))) written;
}

-- where the beginning was not written whole
pub not_begun : (appraised : List ℕ → Appraisal) (a : Attesting) (before held holds : Option (List ℕ)) → TakesPrefix held (step_frames appraised (attesting_started a)) holds → IsAttestedInPart appraised a before held holds
not_begun appraised a before held holds part = record {
  frames = [];
  stream = λ left e. record { rest = left; parts = refl; allowed = tt };
  written = prefix_of_first held holds (step_frames appraised (attesting_started a)) [] part;
}
