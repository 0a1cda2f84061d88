-- Faults of what stands below, as a command tells them. This project's own.
use Rattle.std.specs.Prelude.{◌≡◌}
use Rattle.requester_drive.specs.declared.fault.DriveFault.{DriveFault}
use Rattle.requester_drive.specs.declared.fault.DriveFault.TheVariants as driving
use Rattle.responder_serve.specs.declared.fault.ServeFault.{ServeFault}
use Rattle.responder_serve.specs.declared.fault.ServeFault.TheVariants as serving
use Rattle.script_text.specs.declared.texts.faults.LineFault.TheVariants.{TooManyEvents}
use Rattle.script_text.specs.declared.texts.faults.ScriptFault.{ScriptFault}
use Rattle.script_text.specs.declared.texts.faults.ScriptFault.TheVariants as script
use Rattle.spdm_basis.specs.declared.streams.transfer.InFault.{InFault}
use Rattle.spdm_basis.specs.declared.streams.transfer.InFault.TheVariants as reading
use Rattle.stream_commands.specs.declared.fault.StreamFault.{StreamFault}
use Rattle.stream_commands.specs.declared.fault.StreamFault.TheVariants as fault

-- A fault of reading.
abbrev pub told_of_reading : InFault → StreamFault
told_of_reading reading.ReadFault = fault.ReadFault
told_of_reading reading.TooLong = fault.TooLong
told_of_reading reading.OutOfMemory = fault.OutOfMemory

-- Why a text is not taken.
abbrev pub told_of_text : ScriptFault → StreamFault
told_of_text (script.Line line f) = fault.BadScript line f
told_of_text (script.TooManyEvents line) = fault.BadScript line TooManyEvents
told_of_text script.OutOfMemory = fault.OutOfMemory

-- A fault of serving a stream. A responder is refused in no configuration that was read.
abbrev pub IsTold : ServeFault → StreamFault → Type 0
IsTold serving.ReadFault told = told ≡ fault.ReadFault
IsTold serving.WriteFault told = told ≡ fault.WriteFault
IsTold serving.TooLong told = told ≡ fault.TooLong
IsTold (serving.BadFrame at) told = told ≡ fault.BadFrame at
IsTold serving.OutOfMemory told = told ≡ fault.OutOfMemory
IsTold (serving.Responder refused) told = ⊥

abbrev pub IsOfStream : ServeFault → Type 0
IsOfStream (serving.Responder refused) = ⊥
IsOfStream other = Unit {0}

-- A fault of driving a requester, which is refused in no configuration that was read either.
abbrev pub IsDriveTold : DriveFault → StreamFault → Type 0
IsDriveTold driving.ReadFault told = told ≡ fault.ReadFault
IsDriveTold driving.WriteFault told = told ≡ fault.WriteFault
IsDriveTold driving.TooLong told = told ≡ fault.TooLong
IsDriveTold (driving.BadFrame at) told = told ≡ fault.BadFrame at
IsDriveTold driving.OutOfMemory told = told ≡ fault.OutOfMemory
IsDriveTold (driving.Requester refused) told = ⊥

abbrev pub IsOfDriving : DriveFault → Type 0
IsOfDriving (driving.Requester refused) = ⊥
IsOfDriving other = Unit {0}
