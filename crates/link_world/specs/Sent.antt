-- The packets that were sent, as the program represents them: one after the other in one memory.
use Rattle.std.specs.Prelude.{⊤, ◌≡◌, ◌≢◌, ◌≤◌, ℕ, zero, suc, List, [], ◌∷◌, map, length, slice_range, Bool, false}
use Rattle.link_world.specs.declared.sent.Place.{Place}
use Rattle.link_world.specs.declared.sent.SendFault.{SendFault}
use Rattle.link_world.specs.declared.sent.SendFault.TheVariants.{LinkFull, OutOfMemory}
use Rattle.world_machine.specs.World.{SentPacket}

-- How many packets a link holds. This project's own.
abbrev pub packet_limit : ℕ
packet_limit = 65536

-- The packet at a place of these bytes.
abbrev pub packet_in : List ℕ → Place → SentPacket
packet_in bytes p = record { bytes = slice_range bytes p.start p.end; waits = p.waits }

abbrev pub sent_of : List ℕ → List Place → List SentPacket
sent_of bytes places = map (packet_in bytes) places

-- The spans lie within n bytes.
abbrev pub AreWithin : ℕ → List Place → Type 0
AreWithin count [] = ⊤
AreWithin count (p ∷ others) = (p.start ≤ p.end) × (p.end ≤ count) × AreWithin count others

-- None of the first n packets waits.
abbrev pub NoneWaits : ℕ → List Place → Type 0
NoneWaits zero places = ⊤
NoneWaits (suc count) [] = ⊤
NoneWaits (suc count) (p ∷ others) = (p.waits ≡ false) × NoneWaits count others

-- The cause of a fault: allocation failure comes only where the link is not full.
abbrev pub IsCause : List SentPacket → SendFault → Type 0
IsCause sent LinkFull = length sent ≡ packet_limit
IsCause sent OutOfMemory = length sent ≢ packet_limit

-- ---- Which packets wait.

-- The packet at a place, counted from 0, waits.
abbrev pub waits_at : (place : ℕ) → List SentPacket → Bool
waits_at place [] = false
waits_at zero (packet ∷ others) = packet.waits
waits_at (suc place) (packet ∷ others) = waits_at place others

-- The packet of a number, counted from 1, waits.
abbrev pub waits_of : (number : ℕ) → List SentPacket → Bool
waits_of zero sent = false
waits_of (suc place) sent = waits_at place sent
