-- What comes to the ends of a world by its events. Which packet is given where one is named by its number, the world
-- tells; so it is told event by event, as the lines of a trace are. This project's own.
use Rattle.std.specs.Prelude.{◌==◌, ◌&&◌, ◌++◌, not, nat_lt, zero, suc, ℕ, List, [], ◌∷◌, length, slice_index, Bool, true, false, Option, Some, None}
use Rattle.requester_machine.specs.Message.{Command}
use Rattle.world_machine.specs.Happenings.{Entry, Happening}
use Rattle.world_machine.specs.Happenings.Happening.{Told, Reply, Deliver, Lose, Inject, Pump, Tick, Show}
use Rattle.world_machine.specs.World.{World, delivers, entry_step, first_waiting, packet_of}

-- Requester n, counted from 1, is told a command; a packet is given to the end that its byte 1 names, if it names one;
-- seconds pass at the responder.
pub data Coming : Type 0 where
  Tells : (n : ℕ) → (command : Command) → Coming
  Gives : (packet : List ℕ) → Coming
  Passes : (seconds : ℕ) → Coming

-- ---- What comes by an event. Queued data come to no end from outside.

-- A packet that was named, if there is one.
abbrev pub gives_named : Option (List ℕ) → List Coming
gives_named None = []
gives_named (Some packet) = Gives packet ∷ []

-- By a turn: the waiting packet, if one waits, and then what follows.
abbrev pub turn_gives : World → (World → List Coming) → Option ℕ → List Coming
turn_gives world next None = []
turn_gives world next (Some number) = gives_named (packet_of number world.sent) ++ next (delivers world number (packet_of number world.sent)).after

-- By so many turns at most.
unfoldable pub turns_give : ℕ → World → List Coming
turns_give zero world = []
turns_give (suc count) world = turn_gives world (turns_give count) (first_waiting world.sent)

abbrev pub comes : World → Happening → List Coming
comes world (Told n command) = Tells n command ∷ []
comes world (Reply n bytes) = []
comes world (Deliver number) = gives_named (packet_of number world.sent)
comes world (Lose number) = []
comes world (Inject bytes) = Gives bytes ∷ []
comes world (Pump count) = turns_give count world
comes world (Tick seconds) = Passes seconds ∷ []
comes world Show = []

-- By events, one after another, from a world on.
abbrev pub comes_from : World → List Entry → List Coming
comes_from world [] = []
comes_from world (entry ∷ entries) = comes world entry.happening ++ comes_from (entry_step world entry).after entries

-- ---- To which end it comes.

-- A packet is for the end that its byte 1 names. One of fewer than two bytes is for nobody.
abbrev pub is_packet_for : (eid : ℕ) → List ℕ → Bool
is_packet_for eid packet = not (nat_lt (length packet) 2) && slice_index packet 1 == eid

-- It comes to requester 1, which has this endpoint.
abbrev pub is_for_first : (eid : ℕ) → Coming → Bool
is_for_first eid (Tells n command) = n == 1
is_for_first eid (Gives packet) = is_packet_for eid packet
is_for_first eid (Passes seconds) = false

-- It comes to the responder, which has this endpoint.
abbrev pub is_for_responder : (eid : ℕ) → Coming → Bool
is_for_responder eid (Tells n command) = false
is_for_responder eid (Gives packet) = is_packet_for eid packet
is_for_responder eid (Passes seconds) = true
