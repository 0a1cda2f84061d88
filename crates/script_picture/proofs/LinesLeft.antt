-- The rows of the lines that are left, behind those of the lines before.
use Rattle.std.proofs.Common.{◌≡◌, ◌+◌, ◌++◌, ◌∷◌, ℕ, List, Bool, true, false, ap, cond}
use Rattle.script_picture.specs.Lines.{note_rows}
use Rattle.script_picture.specs.Rows.{is_sent, rows_of_lines, sent_row}
use Rattle.script_text.specs.declared.configuration.config.ScriptConfig.{ScriptConfig}
use Rattle.script_text.specs.declared.events.event.Entry.{Entry}
use Rattle.sequence_picture.specs.declared.rows.Row.{Row}
use Rattle.world_machine.specs.World.{SentPacket}

module _ (config : ScriptConfig) (events : List Entry) (count : ℕ) (sent : List SentPacket) (line : List ℕ) (lines : List (List ℕ)) where
  abbrev rows_by : Bool → List Row
  rows_by b = cond b (sent_row config events (count + 1) sent ∷ rows_of_lines config events (count + 1) sent lines) (note_rows config line ++ rows_of_lines config events count sent lines)

  -- A packet.
  pub sent_first : is_sent count sent line ≡ true → rows_of_lines config events count sent (line ∷ lines) ≡ sent_row config events (count + 1) sent ∷ rows_of_lines config events (count + 1) sent lines
  sent_first is = ap rows_by is

  -- A note.
  pub note_first : is_sent count sent line ≡ false → rows_of_lines config events count sent (line ∷ lines) ≡ note_rows config line ++ rows_of_lines config events count sent lines
  note_first is = ap rows_by is
