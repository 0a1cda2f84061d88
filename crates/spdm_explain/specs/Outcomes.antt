-- What was read and written with each outcome. This project's own.
use Rattle.std.specs.Prelude.{Bool, true, false}
use Rattle.spdm_explain.specs.declared.run.Outcome.{Outcome}
use Rattle.spdm_explain.specs.declared.run.Outcome.TheVariants.{Good, Bad, Usage, ReadFault, WriteFault, OutOfMemory, TooLong}

-- Nothing was written.
abbrev pub writes_nothing : Outcome → Bool
writes_nothing Good = false
writes_nothing Bad = false
writes_nothing WriteFault = false
writes_nothing Usage = true
writes_nothing ReadFault = true
writes_nothing OutOfMemory = true
writes_nothing TooLong = true

-- The text was read to its end.
abbrev pub reads_whole : Outcome → Bool
reads_whole Good = true
reads_whole Bad = true
reads_whole WriteFault = true
reads_whole Usage = false
reads_whole ReadFault = false
reads_whole OutOfMemory = false
reads_whole TooLong = false
