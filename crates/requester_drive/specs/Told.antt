-- Faults of what stands below, as they are told of driving a requester. This project's own.
use Rattle.std.specs.Prelude.{◌≡◌, ℕ, List, Option, Some}
use Rattle.frame_stream.specs.declared.kinds.FrameFault.{FrameFault}
use Rattle.frame_stream.specs.declared.kinds.FrameFault.TheVariants as frame
use Rattle.requester.specs.declared.fault.ReqConfigFault.{ReqConfigFault}
use Rattle.requester.specs.declared.fault.ReqConfigFault.TheVariants as asking
use Rattle.requester_drive.specs.First.{HasFirstFault}
use Rattle.requester_drive.specs.declared.fault.DriveFault.{DriveFault}
use Rattle.requester_drive.specs.declared.fault.DriveFault.TheVariants.{BadFrame, OutOfMemory, ReadFault, Requester, TooLong}
use Rattle.script_text.specs.declared.configuration.config.ScriptConfig.{ScriptConfig}

-- A fault of the stream.
abbrev pub told_of : FrameFault → DriveFault
told_of frame.ReadFault = ReadFault
told_of frame.TooLong = TooLong
told_of (frame.BadFrame at) = BadFrame at

-- A fault of the configuration; allocation failure is the same of all.
abbrev pub of_requester : ReqConfigFault → DriveFault
of_requester asking.OutOfMemory = OutOfMemory
of_requester fault = Requester fault

-- A configuration is refused for its first fault.
abbrev pub IsRefusal : ScriptConfig → DriveFault → Type 0
IsRefusal c (Requester fault) = HasFirstFault c (Some fault)
IsRefusal c fault = Unit {0}

-- Nothing was read where there is no requester, or no memory.
abbrev pub IsUnread : (before after : Option (List ℕ)) → DriveFault → Type 0
IsUnread before after OutOfMemory = after ≡ before
IsUnread before after (Requester fault) = after ≡ before
IsUnread before after fault = Unit {0}

-- A fault that comes once the requester is made.
abbrev pub IsLate : DriveFault → Type 0
IsLate (Requester fault) = ⊥
IsLate OutOfMemory = ⊥
IsLate fault = Unit {0}

-- A fault that comes before.
abbrev pub IsEarly : ScriptConfig → DriveFault → Type 0
IsEarly c (Requester fault) = HasFirstFault c (Some fault)
IsEarly c OutOfMemory = Unit {0}
IsEarly c fault = ⊥
