-- What came of a frame that was read.
use Rattle.std.proofs.Common.{◌≡◌, ◌<◌, ◌++◌, ℕ, List, [], inr, arith, length, subst, sym, append-nil, Option, Ok, Err}
use Rattle.device_serve.specs.Devised as devised
use Rattle.device_serve.specs.Devised.{Writing, devised_by, frames_of}
use Rattle.device_serve.specs.Standing.{IsAnswered, IsDevisedBy, IsObeyed, IsStepFault, Written}
use Rattle.device_serve.specs.Streams.{IsTold}
use Rattle.device_serve.specs.declared.device.Device.{Device}
use Rattle.frame_stream.specs.Frames.{GivenFrame, spelled}
use Rattle.frame_stream.specs.Frames.GivenFrame.{CommandOf}
use Rattle.frame_stream.specs.Runs.{Counts}
use Rattle.frame_stream.specs.Standing.{IsRead, beginning_of}
use Rattle.frame_stream.specs.declared.reader.FrameReader.{FrameReader}
use Rattle.responder_serve.specs.declared.fault.ServeFault.{ServeFault}
use Rattle.responder_serve.specs.declared.fault.ServeFault.TheVariants as fault
use Rattle.script_text.specs.declared.configuration.config.ScriptConfig.{ScriptConfig}
use Rattle.spdm_basis.specs.Stream.{HasFault, Takes, TakesPrefix}

-- A frame has some bytes.
pub spelled_some : (frame : GivenFrame) → 0 < length (spelled frame)
spelled_some frame = omega arith

-- Of no requesters nothing more is told.
no_more : (written : List Writing) (held holds : Option (List ℕ)) → Takes held (frames_of written) holds → Takes held (frames_of (written ++ [])) holds
no_more written held holds took = subst (λ (l : List Writing). Takes held (frames_of l) holds) (sym (append-nil written)) took

no_more_part : (written : List Writing) (held holds : Option (List ℕ)) → TakesPrefix held (frames_of written) holds → TakesPrefix held (frames_of (written ++ [])) holds
no_more_part written held holds took = subst (λ (l : List Writing). TakesPrefix held (frames_of l) holds) (sym (append-nil written)) took

module _ (c : ScriptConfig) (d : devised.Device) (old : Device) (before held : Option (List ℕ)) (mid : FrameReader) (after : Option (List ℕ)) where
  read_by : (frame : GivenFrame) (new : Device) → new.reader ≡ mid → IsRead old.reader before frame mid after → IsRead old.reader before frame new.reader after
  read_by frame new same read = subst (λ (q : FrameReader). IsRead old.reader before frame q after) (sym same) read

  -- A packet, or seconds.
  module _ (frame : GivenFrame) (read : IsRead old.reader before frame mid after) (told : IsTold frame) (new : Device) (holds : Option (List ℕ)) (same : new.reader ≡ mid) where
    pub answered : IsDevisedBy (devised_by c d frame) held (Ok tt) new holds → IsAnswered c [] d old before held new after holds
    answered is = record { frame = frame; read = read_by frame new same read; told = told; stands = is.0; written = no_more (devised_by c d frame).written held holds is.1 }

    pub answered_part : (n : Counts) (f : ServeFault) → HasFault n.written_before n.written_after → IsDevisedBy (devised_by c d frame) held (Err f) new holds → IsStepFault c [] d old before held n f new after holds
    answered_part n fault.WriteFault counted is = (counted, record { frame = frame; read = read_by frame new same read; told = told; written = no_more_part (devised_by c d frame).written held holds is })
    answered_part n fault.ReadFault counted is = absurd is
    answered_part n fault.TooLong counted is = absurd is
    answered_part n (fault.BadFrame at) counted is = absurd is
    answered_part n (fault.Responder of) counted is = absurd is
    answered_part n fault.OutOfMemory counted is = absurd is

  -- A line.
  module _ (line : List ℕ) (read : IsRead old.reader before (CommandOf line) mid after) (new : Device) (holds : Option (List ℕ)) (same : new.reader ≡ mid) (w : Written) where
    pub line_answered : IsObeyed d (beginning_of mid) line w held (Ok tt) new holds → IsAnswered c [] d old before held new after holds
    line_answered is = record { frame = CommandOf line; read = read_by (CommandOf line) new same read; told = is.0; stands = is.1; written = no_more (devised_by c d (CommandOf line)).written held holds is.2 }

    pub line_part : (n : Counts) (f : ServeFault) → n.written_before ≡ w.before → n.written_after ≡ w.after → IsObeyed d (beginning_of mid) line w held (Err f) new holds → IsStepFault c [] d old before held n f new after holds
    line_part n fault.WriteFault was is_now is = (
      subst (λ (m : ℕ). HasFault n.written_before m) (sym is_now) (subst (λ (m : ℕ). HasFault m w.after) (sym was) is.1),
      record { frame = CommandOf line; read = read_by (CommandOf line) new same read; told = is.0; written = no_more_part (devised_by c d (CommandOf line)).written held holds is.2 },
    )
    line_part n (fault.BadFrame place) was is_now is = (
      inr (record { line = line; read = read_by (CommandOf line) new same read; none = is.1; at_is = (let begins = read.begins in let at = is.0 in omega (arith, begins, at)) }),
      is.2,
    )
    line_part n fault.ReadFault was is_now is = absurd is
    line_part n fault.TooLong was is_now is = absurd is
    line_part n (fault.Responder of) was is_now is = absurd is
    line_part n fault.OutOfMemory was is_now is = absurd is
