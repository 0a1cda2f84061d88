-- The whole world, as the program represents it: the link of a world.
use Rattle.link_world.specs.Standing.{IsLink}
use Rattle.link_world.specs.declared.world.World as program
use Rattle.world_machine.specs.World.{World}

-- It stands for this world.
abbrev pub StandsFor : program.World → World → Type 0
StandsFor seen w = IsLink seen.link w
