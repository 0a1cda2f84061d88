-- Which packets an event gives to the ends. This project's own.
use Rattle.std.specs.Prelude.{◌≡◌, ◌⊎◌, ℕ, zero, suc, List, Some}
use Rattle.world_machine.specs.Happenings.{Happening}
use Rattle.world_machine.specs.Happenings.Happening.{Deliver, Inject, Pump}
use Rattle.world_machine.specs.World.{World, delivers, first_waiting, packet_of, without_waiting}

-- The packet of a number is given in this world, in which it waits no longer.
pub record IsDelivered (world : World) (number : ℕ) (between : World) (packet : List ℕ) : Type 0 where
  pub sent : packet_of number world.sent ≡ Some packet
  pub is : between ≡ without_waiting number world

-- One of so many waiting packets, the least numbers first, is given in this world.
abbrev pub IsPumped : ℕ → World → World → List ℕ → Type 0
IsPumped zero world between packet = ⊥
IsPumped (suc count) world between packet =
    (number : ℕ) × (first_waiting world.sent ≡ Some number)
    × (IsDelivered world number between packet ⊎ IsPumped count (delivers world number (packet_of number world.sent)).after between packet)

-- With this event, from a world on, a packet is given in this world to the end that it names: a packet that was sent, or
-- injected bytes.
abbrev pub IsGivenIn : World → Happening → World → List ℕ → Type 0
IsGivenIn world (Deliver number) between packet = IsDelivered world number between packet
IsGivenIn world (Inject bytes) between packet = (between ≡ world) × (packet ≡ bytes)
IsGivenIn world (Pump count) between packet = IsPumped count world between packet
IsGivenIn world _ between packet = ⊥
