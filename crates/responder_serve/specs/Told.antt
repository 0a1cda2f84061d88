-- Faults of what stands below, as they are told of serving a stream. This project's own.
use Rattle.std.specs.Prelude.{◌≡◌, ℕ, List, Option, Some}
use Rattle.script_ends.specs.Configured.{HasResponderFault}
use Rattle.frame_stream.specs.declared.kinds.FrameFault.{FrameFault}
use Rattle.frame_stream.specs.declared.kinds.FrameFault.TheVariants as frame
use Rattle.responder_serve.specs.declared.fault.ServeFault.{ServeFault}
use Rattle.responder.specs.declared.fault.RspConfigFault.{RspConfigFault}
use Rattle.responder.specs.declared.fault.RspConfigFault.TheVariants as answering
use Rattle.responder_serve.specs.declared.fault.ServeFault.TheVariants.{BadFrame, OutOfMemory, ReadFault, Responder, TooLong}
use Rattle.script_text.specs.declared.configuration.config.ScriptConfig.{ScriptConfig}

-- A fault of the stream.
abbrev pub told_of : FrameFault → ServeFault
told_of frame.ReadFault = ReadFault
told_of frame.TooLong = TooLong
told_of (frame.BadFrame at) = BadFrame at

-- A fault of the configuration; allocation failure is the same of all.
abbrev pub of_responder : RspConfigFault → ServeFault
of_responder answering.OutOfMemory = OutOfMemory
of_responder fault = Responder fault

-- A configuration is refused for its first fault.
abbrev pub IsRefusal : ScriptConfig → ServeFault → Type 0
IsRefusal c (Responder fault) = HasResponderFault c (Some fault)
IsRefusal c fault = Unit {0}

-- Nothing was read where there is no responder, or memory ran out.
abbrev pub IsUnread : (before after : Option (List ℕ)) → ServeFault → Type 0
IsUnread before after (Responder fault) = after ≡ before
IsUnread before after OutOfMemory = after ≡ before
IsUnread before after fault = Unit {0}

-- A fault that comes only once the responder is made.
abbrev pub IsLate : ServeFault → Type 0
IsLate (Responder fault) = ⊥
IsLate OutOfMemory = ⊥
IsLate fault = Unit {0}

-- A fault that comes only before.
abbrev pub IsEarly : ScriptConfig → ServeFault → Type 0
IsEarly c (Responder fault) = HasResponderFault c (Some fault)
IsEarly c OutOfMemory = Unit {0}
IsEarly c fault = ⊥
