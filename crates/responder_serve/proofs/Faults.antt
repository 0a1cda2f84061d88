-- What a fault that is told says of the call.
use Rattle.std.proofs.Common.{ℕ, List, Option, refl}
use Rattle.script_ends.specs.Configured.{IsResponderFault}
use Rattle.frame_stream.specs.Runs.{Counts}
use Rattle.responder.specs.declared.fault.RspConfigFault.{RspConfigFault}
use Rattle.responder.specs.declared.fault.RspConfigFault.TheVariants as answering
use Rattle.responder_serve.specs.Standing as standing
use Rattle.responder_serve.specs.Standing.{IsStepFault}
use Rattle.responder_serve.specs.Told.{IsEarly, IsLate, IsRefusal, IsUnread, of_responder}
use Rattle.responder_serve.specs.declared.answering.Server.{Server}
use Rattle.responder_serve.specs.declared.fault.ServeFault.{ServeFault}
use Rattle.responder_serve.specs.declared.fault.ServeFault.TheVariants as fault
use Rattle.responder_machine.specs.Responding.{Responding}
use Rattle.script_text.specs.declared.configuration.config.ScriptConfig.{ScriptConfig}

pub responder_cause : (c : ScriptConfig) (f : RspConfigFault) → IsResponderFault c f → IsEarly c (of_responder f)
responder_cause c answering.TooManyRequesters is = is
responder_cause c answering.SameEid is = is
responder_cause c answering.SamePsk is = is
responder_cause c answering.SizeRange is = is
responder_cause c (answering.Inventory of) is = is
responder_cause c answering.OutOfMemory is = tt

-- before the responder is made nothing is read and nothing is written
pub early_refused : (c : ScriptConfig) (f : ServeFault) → IsEarly c f → IsRefusal c f
early_refused c fault.ReadFault early = absurd early
early_refused c fault.WriteFault early = absurd early
early_refused c fault.TooLong early = absurd early
early_refused c (fault.BadFrame at) early = absurd early
early_refused c (fault.Responder of) early = early
early_refused c fault.OutOfMemory early = tt

pub early_unread : (c : ScriptConfig) (f : ServeFault) (o : Option (List ℕ)) → IsEarly c f → IsUnread o o f
early_unread c fault.ReadFault o early = absurd early
early_unread c fault.WriteFault o early = absurd early
early_unread c fault.TooLong o early = absurd early
early_unread c (fault.BadFrame at) o early = absurd early
early_unread c (fault.Responder of) o early = refl
early_unread c fault.OutOfMemory o early = refl

pub early_cause : (c : ScriptConfig) (r : Responding) (before held : Option (List ℕ)) (n : Counts) (f : ServeFault) → IsEarly c f → standing.IsCause r before held held n f
early_cause c r before held n fault.ReadFault early = absurd early
early_cause c r before held n fault.WriteFault early = absurd early
early_cause c r before held n fault.TooLong early = absurd early
early_cause c r before held n (fault.BadFrame at) early = absurd early
early_cause c r before held n (fault.Responder of) early = refl
early_cause c r before held n fault.OutOfMemory early = refl

-- after it no fault is of these
pub late_refused : (c : ScriptConfig) (f : ServeFault) → IsLate f → IsRefusal c f
late_refused c fault.ReadFault late = tt
late_refused c fault.WriteFault late = tt
late_refused c fault.TooLong late = tt
late_refused c (fault.BadFrame at) late = tt
late_refused c (fault.Responder of) late = absurd late
late_refused c fault.OutOfMemory late = absurd late

pub late_unread : (f : ServeFault) (o p : Option (List ℕ)) → IsLate f → IsUnread o p f
late_unread fault.ReadFault o p late = tt
late_unread fault.WriteFault o p late = tt
late_unread fault.TooLong o p late = tt
late_unread (fault.BadFrame at) o p late = tt
late_unread (fault.Responder of) o p late = absurd late
late_unread fault.OutOfMemory o p late = absurd late

pub step_late : (r : Responding) (old : Server) (before held : Option (List ℕ)) (n : Counts) (f : ServeFault) (new : Server) (after holds : Option (List ℕ)) → IsStepFault r old before held n f new after holds → IsLate f
step_late r old before held n fault.ReadFault new after holds is = tt
step_late r old before held n fault.WriteFault new after holds is = tt
step_late r old before held n fault.TooLong new after holds is = tt
step_late r old before held n (fault.BadFrame at) new after holds is = tt
step_late r old before held n (fault.Responder of) new after holds is = is
step_late r old before held n fault.OutOfMemory new after holds is = is
