-- What lives of all ends lead to, one after another: the worlds that they begin and end with, and what is written of
-- them. This project's own.
use Rattle.std.specs.Prelude.{◌+◌, ◌++◌, ℕ, List, [], ◌∷◌, Option, Some, None}
use Rattle.link_world.specs.Written.{before_full, text_of}
use Rattle.script_ends.specs.Configured.{configuration_in}
use Rattle.script_laws.specs.Scripts.{entries_in, full_from, seed_in}
use Rattle.script_text.specs.declared.configuration.config.ScriptConfig.{ScriptConfig}
use Rattle.script_text.specs.declared.events.event.Entry.{Entry}
use Rattle.script_text.specs.declared.texts.script.Life.{Life}
use Rattle.script_text.specs.declared.texts.script.Lives.{Lives}
use Rattle.spdm_grammar.specs.Lines.Line.{At}
use Rattle.trace_text.specs.OtherLines.{cycle_text}
use Rattle.trace_text.specs.TraceLines.{line_text}
use Rattle.world_machine.specs.Setup.{WorldSetup, script_world}
use Rattle.world_machine.specs.Trace.{trace_lines, world_after}
use Rattle.world_machine.specs.World.{World, new_world}

-- ---- One life.

-- The ends of a configuration, in the life of a boot number: their draws begin 2^40 behind those of the life before.
abbrev pub set_up_in : ScriptConfig → (boot : ℕ) → WorldSetup
set_up_in c boot = script_world (configuration_in c) (seed_in c) boot

-- The world after the events of a life. All ends are new when it begins, and no packet was sent.
abbrev pub life_world : ScriptConfig → (boot : ℕ) → List Entry → World
life_world c boot events = world_after (set_up_in c boot) (entries_in events)

-- Its trace, up to a packet for which the link has no room: the ends as they are at first, and then the lines of each
-- event. Packets are counted from its beginning.
abbrev pub life_text : ScriptConfig → (boot : ℕ) → List Entry → List ℕ
life_text c boot events = text_of (before_full (trace_lines (set_up_in c boot) (entries_in events)))

-- The line of its first event that finds the link full, if one does.
abbrev pub life_full : ScriptConfig → (boot : ℕ) → List Entry → Option ℕ
life_full c boot events = full_from (new_world (set_up_in c boot)) (entries_in events)

-- ---- Lives behind others, of which the first has this boot, and each further one the next.

-- The line of a `cycle`, and the one that tells the boot of the life which it begins.
abbrev pub cycle_lines : (line boot : ℕ) → List ℕ
cycle_lines line boot = line_text (At line) ++ cycle_text boot

-- Behind a life in which the link was full nothing is written.
abbrev pub unless_full : (full : Option ℕ) → List ℕ → List ℕ
unless_full None later = later
unless_full (Some line) later = []

-- What is written of them: what begins a life, its trace, and then what is written of those behind it.
abbrev pub later_text : ScriptConfig → (boot : ℕ) → List Life → List ℕ
later_text c boot [] = []
later_text c boot (life ∷ others) =
    cycle_lines life.cycle_line boot
    ++ (life_text c boot life.events ++ unless_full (life_full c boot life.events) (later_text c (boot + 1) others))

-- The first of two lines, if there is one.
abbrev pub first_line : (first second : Option ℕ) → Option ℕ
first_line None second = second
first_line (Some line) second = Some line

-- The line of the first event that finds the link of its life full.
abbrev pub later_full : ScriptConfig → (boot : ℕ) → List Life → Option ℕ
later_full c boot [] = None
later_full c boot (life ∷ others) = first_line (life_full c boot life.events) (later_full c (boot + 1) others)

-- The world after the last of them, where this one stood before them.
abbrev pub later_world : ScriptConfig → (boot : ℕ) → World → List Life → World
later_world c boot world [] = world
later_world c boot world (life ∷ others) = later_world c (boot + 1) (life_world c boot life.events) others

-- ---- All lives. The first has boot 1, as the first boot of a new keeper is, and it has no `cycle` in front. A text has
-- one at least.

abbrev pub text_of_lives : ScriptConfig → List Life → List ℕ
text_of_lives c [] = []
text_of_lives c (first ∷ others) = life_text c 1 first.events ++ unless_full (life_full c 1 first.events) (later_text c 2 others)

-- What is written of lives: the trace of each behind that of the one before it, up to a packet for which the link of its
-- life has no room.
abbrev pub written_lives : Lives → List ℕ
written_lives lives = text_of_lives lives.config lives.lives

-- The line of the first event that finds the link of its life full.
abbrev pub full_in_lives : Lives → Option ℕ
full_in_lives lives = later_full lives.config 1 lives.lives

abbrev pub world_of_lives : ScriptConfig → List Life → World
world_of_lives c [] = new_world (set_up_in c 1)
world_of_lives c (first ∷ others) = later_world c 2 (life_world c 1 first.events) others

-- The world after all events of the last life.
abbrev pub last_of_lives : Lives → World
last_of_lives lives = world_of_lives lives.config lives.lives
