-- The lines that tell requester 1 a command. This project's own.
use Rattle.std.specs.Prelude.{◌==◌, ℕ, List, length, if◌then◌else◌, Option, Some, None, Result, Ok, Err}
use Rattle.std.specs.Option.{option_map}
use Rattle.requester_core.specs.Joined.{command_of}
use Rattle.requester_core.specs.declared.command.Command as declared
use Rattle.requester_machine.specs.Message.{Command}
use Rattle.requester_machine.specs.Message.Command.{Beat, Connect, End, Measure, Open, Retry, Send, Update}
use Rattle.script_text.specs.CommandText.{command_in}
use Rattle.script_text.specs.declared.configuration.config.ScriptConfig.{ScriptConfig}
use Rattle.script_text.specs.declared.events.event.LinkEvent.{LinkEvent}
use Rattle.script_text.specs.declared.events.event.LinkEvent.TheVariants as event
use Rattle.script_text.specs.declared.texts.faults.ScriptFault.{ScriptFault}

-- A command, where it is told requester 1.
abbrev pub for_first : (q : ℕ) → Command → Option Command
for_first q command = if q == 1 then Some command else None

-- The command that an event tells requester 1, if it tells it one.
abbrev pub command_told : LinkEvent → Option Command
command_told (event.Connect q) = for_first q Connect
command_told (event.Retry q) = for_first q Retry
command_told (event.Open q summary) = for_first q (Open summary)
command_told (event.Send q session bytes) = for_first q (Send session bytes)
command_told (event.Beat q session) = for_first q (Beat session)
command_told (event.End q session) = for_first q (End session)
command_told (event.Update q session all) = for_first q (Update session all)
command_told (event.Measure q session op) = for_first q (Measure session op)
command_told _ = None

-- The same of what a line says: a line with a fault tells nothing.
abbrev pub command_read : Result LinkEvent ScriptFault → Option Command
command_read (Ok said) = command_told said
command_read (Err fault) = None

-- The command that a line tells requester 1, where these are configured, if it tells it one.
abbrev pub command_line : ScriptConfig → List ℕ → Option Command
command_line c line = command_read (command_in (length c.requesters) line)

-- A command as the program tells it.
abbrev pub as_told : Option declared.Command → Option Command
as_told told = option_map command_of told
