-- The exit status of each outcome. This project's own.
use Rattle.std.specs.Prelude.{ℕ}
use Rattle.spdm_view.specs.declared.outcome.Outcome.{Outcome}
use Rattle.spdm_view.specs.declared.outcome.Outcome.TheVariants.{Done, Usage, BadText, LinkFull, TooMany, BadFile, ReadFault, WriteFault, OutOfMemory, TooLong}

abbrev pub status_of : Outcome → ℕ
status_of Done = 0
status_of Usage = 2
status_of (BadText line f) = 3
status_of ReadFault = 4
status_of WriteFault = 5
status_of OutOfMemory = 6
status_of TooLong = 8
status_of (LinkFull line) = 9
status_of (BadFile f) = 10
status_of (TooMany line) = 15
