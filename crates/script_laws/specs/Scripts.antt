-- What a script leads to: the world that it sets up, its events, the worlds after them, and its trace. This project's own.
use Rattle.std.specs.Prelude.{ℕ, List, [], ◌∷◌, map, if◌then◌else◌, Option, Some, None}
use Rattle.std.specs.Option.{unwrap_or}
use Rattle.script_text.specs.declared.configuration.config.ScriptConfig.{ScriptConfig}
use Rattle.script_text.specs.declared.events.event.Entry.{Entry}
use Rattle.script_text.specs.declared.texts.script.Script.{Script}
use Rattle.script_ends.specs.Configured.{configuration_in}
use Rattle.link_world.specs.Events.{entry_of}
use Rattle.link_world.specs.Written.{before_full, has_full, text_of}
use Rattle.world_machine.specs.Happenings as machine
use Rattle.world_machine.specs.Setup.{WorldSetup, script_world}
use Rattle.world_machine.specs.Trace.{trace_lines, world_after}
use Rattle.world_machine.specs.World.{World, entry_step, new_world}

-- The seed of a script, from which its ends have theirs. Each script that a text is has one.
abbrev pub seed_in : ScriptConfig → List ℕ
seed_in c = unwrap_or c.seed []

-- The ends of a script, in the one life that it has.
abbrev pub set_up : Script → WorldSetup
set_up script = script_world (configuration_in script.config) (seed_in script.config) 0

-- An event of the script, as what happens in the world.
abbrev pub entry_in : Entry → machine.Entry
entry_in e = entry_of e.line e.event

abbrev pub entries_in : List Entry → List machine.Entry
entries_in events = map entry_in events

-- The world after some of the first events.
abbrev pub world_in : Script → List Entry → World
world_in script events = world_after (set_up script) (entries_in events)

-- The world after all events.
abbrev pub last_world : Script → World
last_world script = world_in script script.events

-- The trace: the ends as they are at first, and then the lines of each event.
abbrev pub trace_in : Script → List ℕ
trace_in script = text_of (trace_lines (set_up script) (entries_in script.events))

-- ---- A link that is full.

-- The line of the first event, from this world on, that sends a packet for which the link has no room.
abbrev pub full_from : World → List machine.Entry → Option ℕ
full_from world [] = None
full_from world (entry ∷ entries) =
    if has_full (entry_step world entry).lines then Some entry.line
    else full_from (entry_step world entry).after entries

-- The line of the first event of a script that does.
abbrev pub full_line : Script → Option ℕ
full_line script = full_from (new_world (set_up script)) (entries_in script.events)

-- The trace up to the packet for which there is no room: all of it, where there is room for each.
abbrev pub written_in : Script → List ℕ
written_in script = text_of (before_full (trace_lines (set_up script) (entries_in script.events)))
