-- What is said of every world. This project's own.
use Rattle.world_machine.specs.Chance.{HasChance}
use Rattle.world_machine.specs.Happenings.{Happening}
use Rattle.world_machine.specs.World.{World, happens}

-- Once something agrees by chance, it does so after every further event.
abbrev pub ChanceStays : Type 0
ChanceStays = (world : World) (event : Happening) → HasChance world.log → HasChance (happens world event).after.log
