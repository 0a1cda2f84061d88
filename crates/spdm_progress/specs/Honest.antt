-- Honest scripts: each packet is given to its end once, in order, and no command comes while a packet waits. This
-- project's own.
use Rattle.std.specs.Prelude.{◌≡◌, ℕ, List, [], ◌∷◌, Bool, true, false, None, Contains}
use Rattle.responder_machine.specs.Responding.{Connection}
use Rattle.responder_machine.specs.Session.{session_of, is_live, after_tick}
use Rattle.world_machine.specs.Happenings.{Happening, Entry}
use Rattle.world_machine.specs.Happenings.Happening.{Told, Reply, Deliver, Lose, Inject, Pump, Tick, Show}
use Rattle.world_machine.specs.World.{World, first_waiting, entry_step}

-- No packet waits.
abbrev pub NothingWaits : World → Type 0
NothingWaits world = first_waiting world.sent ≡ None

-- So many seconds end no session of the responder.
abbrev pub EndsNone : World → (seconds : ℕ) → Type 0
EndsNone world seconds =
    (c : Connection) → Contains world.responder.connections c → (id : ℕ)
    → is_live (session_of id c.history) ≡ true
    → is_live (after_tick (session_of id c.history) seconds) ≡ true

-- What an honest script may say in a world: a command where no packet waits; queued data, pumps and that the ends be
-- shown at any time; and seconds that end no session. It gives, loses and injects no packet by hand.
abbrev pub IsHonest : World → Happening → Type 0
IsHonest world (Told n command) = NothingWaits world
IsHonest world (Reply n bytes) = Unit {0}
IsHonest world (Deliver number) = ⊥
IsHonest world (Lose number) = ⊥
IsHonest world (Inject bytes) = ⊥
IsHonest world (Pump count) = Unit {0}
IsHonest world (Tick seconds) = EndsNone world seconds
IsHonest world Show = Unit {0}

-- Each event is honest in the world that the events before it lead to.
abbrev pub AreHonest : World → List Entry → Type 0
AreHonest world [] = Unit {0}
AreHonest world (entry ∷ entries) = IsHonest world entry.happening
    × AreHonest (entry_step world entry).after entries

-- ---- Between two commands.

-- The event is a command.
abbrev pub is_command : Happening → Bool
is_command (Told n command) = true
is_command _ = false

-- No event is a command.
abbrev pub HaveNoCommand : List Entry → Type 0
HaveNoCommand [] = Unit {0}
HaveNoCommand (entry ∷ entries) = (is_command entry.happening ≡ false) × HaveNoCommand entries
