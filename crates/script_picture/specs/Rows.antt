-- The rows of a script: an arrow for each packet that its link carries, and a note for each other line of its trace.
-- This project's own.
use Rattle.std.specs.Prelude.{ℕ, List, [], ◌∷◌, ◌++◌, ◌+◌, ◌==◌, ◌&&◌, nat_lt, codes, length, unwrap_or, if◌then◌else◌, Bool, false, Option, Some, None}
use Rattle.std.specs.List.{list_any}
use Rattle.capture_picture.specs.Arrows.{arrow_of}
use Rattle.link_world.specs.Sent.{waits_of}
use Rattle.link_world.specs.Written.{text_of}
use Rattle.script_laws.specs.Scripts.{entry_in, set_up}
use Rattle.script_picture.specs.Lines.{begins, note_rows}
use Rattle.script_text.specs.Lines.{lines_of}
use Rattle.script_text.specs.declared.configuration.config.ScriptConfig.{ScriptConfig}
use Rattle.script_text.specs.declared.events.event.Entry.{Entry}
use Rattle.script_text.specs.declared.events.event.LinkEvent.{LinkEvent}
use Rattle.script_text.specs.declared.events.event.LinkEvent.TheVariants as event
use Rattle.script_text.specs.declared.texts.script.Script.{Script}
use Rattle.sequence_picture.specs.declared.rows.Fate.{Fate}
use Rattle.sequence_picture.specs.declared.rows.Fate.TheVariants.{Arrives, Lost}
use Rattle.sequence_picture.specs.declared.rows.Row.{Row}
use Rattle.sequence_picture.specs.declared.rows.Row.TheVariants.{Packet}
use Rattle.world_machine.specs.World.{SentPacket, World, entry_step, new_world, packet_of}

-- ---- What becomes of a packet.

abbrev pub loses : ℕ → Entry → Bool
loses number entry = is_loss number entry.event
  where
    is_loss : ℕ → LinkEvent → Bool
    is_loss number (event.Lose other) = other == number
    is_loss number _ = false

-- The packet of this number is lost by one of the events of the script.
abbrev pub fate_of : ℕ → List Entry → Fate
fate_of number events = if list_any (loses number) events then Lost else Arrives

-- ---- What the link itself puts between the ends: a packet that does not wait any more, under its number; and injected
-- bytes, under the number 0.

abbrev pub again_rows : ScriptConfig → ℕ → Option (List ℕ) → List Row
again_rows config number None = []
again_rows config number (Some packet) = Packet (arrow_of config number Arrives packet) ∷ []

abbrev pub put_rows : ScriptConfig → List SentPacket → LinkEvent → List Row
put_rows config sent (event.Deliver number) = if waits_of number sent then [] else again_rows config number (packet_of number sent)
put_rows config sent (event.Inject bytes) = Packet (arrow_of config 0 Arrives bytes) ∷ []
put_rows config sent _ = []

-- ---- The lines of a step, where so many packets were sent before it.

-- The line of a packet that was sent.
abbrev pub is_sent : ℕ → List SentPacket → List ℕ → Bool
is_sent count sent line = begins (codes "packet ") line && nat_lt count (length sent)

abbrev pub sent_row : ScriptConfig → List Entry → ℕ → List SentPacket → Row
sent_row config events number sent = Packet (arrow_of config number (fate_of number events) (unwrap_or (packet_of number sent) []))

abbrev pub rows_of_lines : ScriptConfig → List Entry → (count : ℕ) → List SentPacket → List (List ℕ) → List Row
rows_of_lines config events count sent [] = []
rows_of_lines config events count sent (line ∷ lines) =
    if is_sent count sent line then sent_row config events (count + 1) sent ∷ rows_of_lines config events (count + 1) sent lines
    else note_rows config line ++ rows_of_lines config events count sent lines

-- The lines that a step writes, and no line of what is shown.
abbrev pub step_lines : World → Entry → List (List ℕ)
step_lines w entry = lines_of (text_of (entry_step w (entry_in entry)).lines)

-- ---- The rows of events.

abbrev pub event_rows : ScriptConfig → List Entry → World → Entry → List Row
event_rows config events w entry =
    put_rows config w.sent entry.event ++ rows_of_lines config events (length w.sent) (entry_step w (entry_in entry)).after.sent (step_lines w entry)

abbrev pub rows_from : ScriptConfig → List Entry → World → List Entry → List Row
rows_from config events w [] = []
rows_from config events w (entry ∷ entries) =
    event_rows config events w entry ++ rows_from config events (entry_step w (entry_in entry)).after entries

abbrev pub rows_in : Script → List Row
rows_in script = rows_from script.config script.events (new_world (set_up script)) script.events
