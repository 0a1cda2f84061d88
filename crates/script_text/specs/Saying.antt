-- What the line of a command says: whom it tells what, with which bytes. This project's own.
use Rattle.std.specs.Prelude.{◌≡◌, ℕ, List, true, take, Result, Ok, Err}
use Rattle.script_text.specs.HexWords.{is_hex_in, most_bytes}
use Rattle.script_text.specs.declared.events.command_text.CommandLine.{CommandLine}
use Rattle.script_text.specs.declared.events.event.LinkEvent.{LinkEvent}
use Rattle.script_text.specs.declared.events.event.LinkEvent.TheVariants as event
use Rattle.script_text.specs.declared.texts.faults.LineFault.{LineFault}
use Rattle.script_text.specs.declared.texts.faults.ScriptFault.{ScriptFault}
use Rattle.script_text.specs.declared.texts.faults.ScriptFault.TheVariants.{Line}
use Rattle.script_text.specs.declared.events.parsed_command.ParsedCommand.{ParsedCommand}
use Rattle.script_text.specs.declared.events.parsed_command.ParsedCommand.TheVariants as said

-- The event of what is asked of requester `q`, with these bytes.
abbrev pub event_of : (q : ℕ) → ParsedCommand → (bytes : List ℕ) → LinkEvent
event_of q said.Connect bytes = event.Connect q
event_of q said.Retry bytes = event.Retry q
event_of q (said.Open summary) bytes = event.Open q summary
event_of q (said.Send session) bytes = event.Send q session bytes
event_of q (said.Beat session) bytes = event.Beat q session
event_of q (said.End session) bytes = event.End q session
event_of q (said.Update session all) bytes = event.Update q session all
event_of q (said.Measure session op) bytes = event.Measure q session op

-- The last word of a line that says this is bytes, where bytes are asked for.
abbrev pub HasBytes : ParsedCommand → (word : List ℕ) → Type 0
HasBytes (said.Send session) word = is_hex_in 0 most_bytes word ≡ true
HasBytes _ word = Unit {0}

-- The event of a line whose bytes stand in front in this room.
abbrev pub event_in : CommandLine → (room : List ℕ) → LinkEvent
event_in line room = event_of line.q line.said (take line.count room)

-- An answer about a line is what the line says.
abbrev pub IsSaying : Result LinkEvent ScriptFault → (room : List ℕ) → Result CommandLine LineFault → Type 0
IsSaying says room (Ok line) = says ≡ Ok (event_in line room)
IsSaying says room (Err fault) = says ≡ Err (Line 1 fault)
