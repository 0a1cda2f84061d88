-- The exit status and the name of each outcome. This project's own.
use Rattle.std.specs.Prelude.{ℕ, List, codes}
use Rattle.spdm_command.specs.declared.outcome.Outcome.{Outcome}
use Rattle.spdm_command.specs.declared.outcome.Outcome.TheVariants.{Done, Usage, Differs, BadFrame, BadScript, BootsSpent, KeeperFault, NoVerdict, ReadFault, WriteFault, OutOfMemory, SeedFault, TooLong, LinkFull, Untrusted}

abbrev pub status_of : Outcome → ℕ
status_of Done = 0
status_of (Differs packet why) = 1
status_of Usage = 2
status_of (BadScript line fault) = 3
status_of ReadFault = 4
status_of WriteFault = 5
status_of OutOfMemory = 6
status_of SeedFault = 7
status_of TooLong = 8
status_of (LinkFull line) = 9
status_of (BadFrame at) = 10
status_of KeeperFault = 11
status_of BootsSpent = 12
status_of (Untrusted appraisal) = 13
status_of NoVerdict = 14

-- The name of the variant, without its fields.
abbrev pub name_of : Outcome → List ℕ
name_of Done = codes "Done"
name_of (Differs packet why) = codes "Differs"
name_of Usage = codes "Usage"
name_of (BadScript line fault) = codes "BadScript"
name_of ReadFault = codes "ReadFault"
name_of WriteFault = codes "WriteFault"
name_of OutOfMemory = codes "OutOfMemory"
name_of SeedFault = codes "SeedFault"
name_of TooLong = codes "TooLong"
name_of (LinkFull line) = codes "LinkFull"
name_of (BadFrame at) = codes "BadFrame"
name_of KeeperFault = codes "KeeperFault"
name_of BootsSpent = codes "BootsSpent"
name_of (Untrusted appraisal) = codes "Untrusted"
name_of NoVerdict = codes "NoVerdict"
