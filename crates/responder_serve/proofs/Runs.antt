-- Frames that are answered one after another.
use Rattle.std.proofs.Common.{◌≡◌, ◌∙◌, ◌++◌, ◌≤◌, ℕ, List, [], ◌∷◌, Option, refl, ap, sym, subst, append_assoc, append-nil}
use Rattle.frame_stream.proofs.Fronts.{fault_later}
use Rattle.frame_stream.proofs.Runs.{none_read, nothing_written, one_more_read, stream_begins, stream_is, written_so_far}
use Rattle.frame_stream.proofs.Written.{takes_both, takes_then_prefix}
use Rattle.frame_stream.specs.Frames.{GivenFrame, stream_limit}
use Rattle.frame_stream.specs.Frames.Ending.{Done, Bad, TooLong}
use Rattle.frame_stream.specs.Packets.{packet_frames}
use Rattle.frame_stream.specs.Runs.{Counts, IsFresh, IsOver}
use Rattle.frame_stream.specs.Standing.{left_of}
use Rattle.frame_stream.specs.declared.reader.FrameReader.{FrameReader}
use Rattle.responder.specs.Standing.{StandsFor}
use Rattle.responder_machine.specs.Responding.{Responding}
use Rattle.responder_serve.specs.Served.{IsServed, after_frame, after_frames, sent_for, served_from, served_kinds}
use Rattle.responder_serve.specs.Standing.{IsAnswered, IsCause, IsRun, IsStepFault}
use Rattle.responder_serve.specs.declared.answering.Server.{Server}
use Rattle.responder_serve.specs.declared.fault.ServeFault.{ServeFault}
use Rattle.responder_serve.specs.declared.fault.ServeFault.TheVariants as fault
use Rattle.spdm_basis.specs.Stream.{HasFault, Takes, TakesPrefix}

after_more : (r : Responding) (frames : List GivenFrame) (frame : GivenFrame) → after_frames r (frames ++ frame ∷ []) ≡ after_frame (after_frames r frames) frame
after_more r [] frame = refl
after_more r (f ∷ frames) frame = after_more (after_frame r f) frames frame

served_more : (r : Responding) (frames : List GivenFrame) (frame : GivenFrame) →
    served_from r (frames ++ frame ∷ []) ≡ served_from r frames ++ packet_frames (sent_for (after_frames r frames) frame)
served_more r [] frame = append-nil (packet_frames (sent_for r frame))
served_more r (f ∷ frames) frame =
    ap (λ (l : List ℕ). packet_frames (sent_for r f) ++ l) (served_more (after_frame r f) frames frame)
    ∙ sym (append_assoc (packet_frames (sent_for r f)) (served_from (after_frame r f) frames) (packet_frames (sent_for (after_frames (after_frame r f) frames) frame)))

-- one more frame
pub run_more : (r : Responding) (old : FrameReader) (first held : Option (List ℕ)) (mid : Server) (before between : Option (List ℕ)) (new : Server) (after holds : Option (List ℕ)) →
    (run : IsRun r old first held mid before between) → IsAnswered (after_frames r run.frames) mid before between new after holds → IsRun r old first held new after holds
run_more r old first held mid before between new after holds run step =
    let frames = run.frames in
    let frame = step.frame in
    record {
      frames = frames ++ frame ∷ [];
      read = one_more_read old first frames mid.reader before frame new.reader after run.read step.read;
      stands = subst (λ (a : Responding). StandsFor new.responder a) (sym (after_more r frames frame)) step.stands;
      written = subst (λ (l : List ℕ). Takes held l holds) (sym (served_more r frames frame))
          (takes_both held between holds (served_from r frames) (packet_frames (sent_for (after_frames r frames) frame)) run.written step.written);
    }

-- the end
pub run_over : (r : Responding) (old : FrameReader) (first held : Option (List ℕ)) (mid : Server) (before between : Option (List ℕ)) (new : FrameReader) (after holds : Option (List ℕ)) → IsFresh served_kinds stream_limit old →
    IsRun r old first held mid before between → IsOver mid.reader before between new after holds → IsServed r (left_of old first) held holds Done
run_over r old first held mid before between new after holds fresh run over = record {
  frames = run.frames;
  stream = stream_is served_kinds stream_limit old first run.frames mid.reader before Done fresh run.read over.done.ended;
  written = written_so_far held between holds (served_from r run.frames) over.same run.written;
}

-- a fault
pub run_fault : (r : Responding) (old : FrameReader) (first held : Option (List ℕ)) (mid : Server) (before between : Option (List ℕ)) (n all : Counts) (fault : ServeFault) (new : Server) (after holds : Option (List ℕ)) →
    IsFresh served_kinds stream_limit old → (run : IsRun r old first held mid before between) →
    all.read_before ≤ n.read_before → n.read_before ≤ n.read_after → all.read_after ≡ n.read_after →
    all.written_before ≤ n.written_before → n.written_before ≤ n.written_after → all.written_after ≡ n.written_after →
    IsStepFault (after_frames r run.frames) mid before between n fault new after holds → IsCause r (left_of old first) held holds all fault
run_fault r old first held mid before between n all fault.ReadFault new after holds fresh run low high same low' high' same' (counted, kept) = (
  subst (λ m. HasFault all.read_before m) (sym same) (fault_later all.read_before n.read_before n.read_after low high counted),
  record {
    frames = run.frames;
    stream = stream_begins served_kinds stream_limit old first run.frames mid.reader before fresh run.read;
    written = written_so_far held between holds (served_from r run.frames) kept run.written;
  },
)
run_fault r old first held mid before between n all fault.WriteFault new after holds fresh run low high same low' high' same' (counted, part) =
    let frames = run.frames in
    let frame = part.frame in (
      subst (λ m. HasFault all.written_before m) (sym same') (fault_later all.written_before n.written_before n.written_after low' high' counted),
      record {
        frames = frames ++ frame ∷ [];
        stream = stream_begins served_kinds stream_limit old first (frames ++ frame ∷ []) new.reader after fresh (one_more_read old first frames mid.reader before frame new.reader after run.read part.read);
        written = subst (λ (l : List ℕ). TakesPrefix held l holds) (sym (served_more r frames frame))
            (takes_then_prefix held between holds (served_from r frames) (packet_frames (sent_for (after_frames r frames) frame)) run.written part.written);
      },
    )
run_fault r old first held mid before between n all fault.TooLong new after holds fresh run low high same low' high' same' (cause, kept) = record {
  frames = run.frames;
  stream = stream_is served_kinds stream_limit old first run.frames mid.reader before TooLong fresh run.read cause;
  written = written_so_far held between holds (served_from r run.frames) kept run.written;
}
run_fault r old first held mid before between n all (fault.BadFrame at) new after holds fresh run low high same low' high' same' (cause, kept) = record {
  frames = run.frames;
  stream = stream_is served_kinds stream_limit old first run.frames mid.reader before (Bad at) fresh run.read (λ rest e. (cause.0, cause.1 rest e));
  written = written_so_far held between holds (served_from r run.frames) kept run.written;
}
run_fault r old first held mid before between n all (fault.Responder refused) new after holds fresh run low high same low' high' same' no_fault = absurd no_fault
run_fault r old first held mid before between n all fault.OutOfMemory new after holds fresh run low high same low' high' same' no_fault = absurd no_fault

-- before the first frame
pub run_new : (r : Responding) (server : Server) (first held : Option (List ℕ)) → StandsFor server.responder r → IsRun r server.reader first held server first held
run_new r server first held stands = record { frames = []; read = none_read server.reader first; stands = stands; written = nothing_written held }
