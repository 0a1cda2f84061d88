-- One command as a text of its own. This project's own.
use Rattle.std.specs.Prelude.{ℕ, List, if◌then◌else◌, Option, Some, None, Result, Ok, Err}
use Rattle.script_text.specs.Commands.{command_fault, command_of}
use Rattle.script_text.specs.EventLines.{event_kind}
use Rattle.script_text.specs.Lines.{is_too_long}
use Rattle.script_text.specs.declared.events.event.LinkEvent.{LinkEvent}
use Rattle.script_text.specs.declared.events.event_kind.EventKind.{EventKind}
use Rattle.script_text.specs.declared.events.event_kind.EventKind.TheVariants.{Command}
use Rattle.script_text.specs.declared.texts.faults.LineFault.{LineFault}
use Rattle.script_text.specs.declared.texts.faults.LineFault.TheVariants.{LineTooLong, Unknown}
use Rattle.script_text.specs.declared.texts.faults.ScriptFault.{ScriptFault}
use Rattle.script_text.specs.declared.texts.faults.ScriptFault.TheVariants.{Line}

-- A command without a fault is taken.
abbrev pub command_or : Option LineFault → LinkEvent → Result LinkEvent ScriptFault
command_or None event = Ok event
command_or (Some f) event = Err (Line 1 f)

-- Another event, an empty line and a comment are unknown.
abbrev pub command_of_kind : (requesters : ℕ) → Option EventKind → List ℕ → Result LinkEvent ScriptFault
command_of_kind requesters (Some (Command q kind)) line = command_or (command_fault requesters q kind line) (command_of q kind line)
command_of_kind requesters _ line = Err (Line 1 Unknown)

-- The command that a line is where `requesters` are configured, or its first fault.
unfoldable pub command_in : (requesters : ℕ) → List ℕ → Result LinkEvent ScriptFault
command_in requesters line =
    if is_too_long line then Err (Line 1 LineTooLong)
    else command_of_kind requesters (event_kind line) line
