-- The packets that the link of a script carries, in order: each when it is sent, once more when it is delivered again,
-- and injected ones when they are injected. This project's own.
use Rattle.std.specs.Prelude.{ℕ, List, [], ◌∷◌, ◌++◌, map, drop, length, if◌then◌else◌, Option, Some, None}
use Rattle.link_world.specs.Sent.{waits_of}
use Rattle.script_laws.specs.Scripts.{entries_in, set_up}
use Rattle.script_text.specs.declared.texts.script.Script.{Script}
use Rattle.world_machine.specs.Happenings.{Entry, Happening}
use Rattle.world_machine.specs.Happenings.Happening.{Deliver, Inject}
use Rattle.world_machine.specs.World.{SentPacket, World, entry_step, new_world, packet_of}

abbrev pub bytes_of : SentPacket → List ℕ
bytes_of packet = packet.bytes

abbrev pub list_of : Option (List ℕ) → List (List ℕ)
list_of None = []
list_of (Some packet) = packet ∷ []

-- The packet of a number that is delivered though it does not wait: it was delivered or lost before. The first delivery
-- of a packet carries nothing more, since the packet was carried when it was sent.
abbrev pub again : ℕ → List SentPacket → List (List ℕ)
again number sent = if waits_of number sent then [] else list_of (packet_of number sent)

-- What the link itself puts between the ends.
abbrev pub put : List SentPacket → Happening → List (List ℕ)
put sent (Deliver number) = again number sent
put sent (Inject bytes) = bytes ∷ []
put sent _ = []

-- The packets behind the first so many.
abbrev pub sent_behind : ℕ → List SentPacket → List (List ℕ)
sent_behind count sent = drop count (map bytes_of sent)

-- What an event carries: what the link puts there, and then what the ends send.
abbrev pub carried : World → Entry → List (List ℕ)
carried world entry = put world.sent entry.happening ++ sent_behind (length world.sent) (entry_step world entry).after.sent

abbrev pub carried_from : World → List Entry → List (List ℕ)
carried_from world [] = []
carried_from world (entry ∷ entries) = carried world entry ++ carried_from (entry_step world entry).after entries

-- All packets of a script.
abbrev pub carried_in : Script → List (List ℕ)
carried_in script = carried_from (new_world (set_up script)) (entries_in script.events)
