-- What a fault that is told says of the call.
use Rattle.std.proofs.Common.{ℕ, List, Option, refl}
use Rattle.device_serve.specs.Devised as devised
use Rattle.device_serve.specs.Standing.{IsCause, IsStepFault}
use Rattle.device_serve.specs.declared.device.Device.{Device}
use Rattle.frame_stream.specs.Runs.{Counts}
use Rattle.responder_serve.specs.Told.{IsEarly, IsLate}
use Rattle.responder_serve.specs.declared.fault.ServeFault.{ServeFault}
use Rattle.responder_serve.specs.declared.fault.ServeFault.TheVariants as fault
use Rattle.script_text.specs.declared.configuration.config.ScriptConfig.{ScriptConfig}

-- before the responder is made nothing is written
pub early_cause : (c : ScriptConfig) (d : devised.Device) (before held : Option (List ℕ)) (n : Counts) (f : ServeFault) → IsEarly c f → IsCause c d before held held n f
early_cause c d before held n fault.ReadFault early = absurd early
early_cause c d before held n fault.WriteFault early = absurd early
early_cause c d before held n fault.TooLong early = absurd early
early_cause c d before held n (fault.BadFrame at) early = absurd early
early_cause c d before held n (fault.Responder of) early = refl
early_cause c d before held n fault.OutOfMemory early = refl

-- after it no fault is of these
pub step_late : (c : ScriptConfig) (d : devised.Device) (old : Device) (before held : Option (List ℕ)) (n : Counts) (f : ServeFault) (new : Device) (after holds : Option (List ℕ)) → IsStepFault c c.requesters d old before held n f new after holds → IsLate f
step_late c d old before held n fault.ReadFault new after holds is = tt
step_late c d old before held n fault.WriteFault new after holds is = tt
step_late c d old before held n fault.TooLong new after holds is = tt
step_late c d old before held n (fault.BadFrame at) new after holds is = tt
step_late c d old before held n (fault.Responder of) new after holds is = is
step_late c d old before held n fault.OutOfMemory new after holds is = is
