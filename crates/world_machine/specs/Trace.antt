-- Runs of a script: the worlds that its events lead to, and its trace. This project's own.
use Rattle.std.specs.Prelude.{nat_lt, ℕ, List, [], ◌∷◌, ◌++◌, length, Bool}
use Rattle.world_machine.specs.Happenings.{Entry}
use Rattle.spdm_grammar.specs.Lines.{Line}
use Rattle.world_machine.specs.Setup.{WorldSetup}
use Rattle.world_machine.specs.World.{World, new_world, entry_step, shown_lines}

-- The world after events, from a world on.
abbrev pub world_from : World → List Entry → World
world_from world [] = world
world_from world (entry ∷ entries) = world_from (entry_step world entry).after entries

-- The world after events, from the beginning on.
abbrev pub world_after : WorldSetup → List Entry → World
world_after w entries = world_from (new_world w) entries

-- The lines of events, one after another.
abbrev pub lines_from : World → List Entry → List Line
lines_from world [] = []
lines_from world (entry ∷ entries) = (entry_step world entry).lines ++ lines_from (entry_step world entry).after entries

-- The trace: the ends as they are at first, and then the lines of each event.
abbrev pub trace_lines : WorldSetup → List Entry → List Line
trace_lines w entries = shown_lines (new_world w) ++ lines_from (new_world w) entries

-- How many packets a run may send. This project's own limit.
abbrev pub packets_max : ℕ
packets_max = 65536

-- An event sends a packet while so many stand.
abbrev pub is_full : World → Entry → Bool
is_full world entry = nat_lt packets_max (length (entry_step world entry).after.sent)
