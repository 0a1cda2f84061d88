-- The rows of one event.
use Rattle.std.proofs.Common.{◌≡◌, ◌∙◌, ◌++◌, [], ℕ, List, length, ap, append_assoc, refl, Option, Some}
use Rattle.std.specs.Prelude.{unwrap_or}
use Rattle.link_world.specs.Written.{text_of}
use Rattle.script_laws.specs.Scripts.{entry_in}
use Rattle.script_picture.specs.Rows.{event_rows, put_rows, rows_of_lines}
use Rattle.script_text.specs.Lines.{lines_of}
use Rattle.script_text.specs.declared.configuration.config.ScriptConfig.{ScriptConfig}
use Rattle.script_text.specs.declared.events.event.Entry.{Entry}
use Rattle.sequence_picture.specs.declared.rows.Row.{Row}
use Rattle.spdm_basis.specs.Stream.{Takes}
use Rattle.world_machine.specs.World.{SentPacket, World, WorldStep, entry_step}

-- What was written into an empty text.
pub written : (old bytes text : List ℕ) → old ≡ [] → Takes (Some old) bytes (Some text) → text ≡ bytes
written old bytes text empty takes = ap (λ (o : Option (List ℕ)). unwrap_or o []) (takes old refl) ∙ ap (λ (l : List ℕ). l ++ bytes) empty

module _ (config : ScriptConfig) (events : List Entry) (w : World) (entry : Entry) where
  abbrev step : WorldStep
  step = entry_step w (entry_in entry)

  pub event_is : (old mid new : List Row) (before : ℕ) (was sent : List SentPacket) (text : List ℕ) → was ≡ w.sent → before ≡ length was → sent ≡ step.after.sent → text ≡ text_of step.lines
      → mid ≡ old ++ put_rows config was entry.event → new ≡ mid ++ rows_of_lines config events before sent (lines_of text) → new ≡ old ++ event_rows config events w entry
  event_is old mid new before was sent text is_was is_before is_sent is_text put lines =
      let count : before ≡ length w.sent = is_before ∙ ap length is_was in
      let behind : rows_of_lines config events before sent (lines_of text) ≡ rows_of_lines config events (length w.sent) step.after.sent (lines_of (text_of step.lines)) =
      ap (λ (n : ℕ). rows_of_lines config events n sent (lines_of text)) count
      ∙ ap (λ (s : List SentPacket). rows_of_lines config events (length w.sent) s (lines_of text)) is_sent
      ∙ ap (λ (t : List ℕ). rows_of_lines config events (length w.sent) step.after.sent (lines_of t)) is_text in
      let front : mid ≡ old ++ put_rows config w.sent entry.event = put ∙ ap (λ (s : List SentPacket). old ++ put_rows config s entry.event) is_was in
      lines
      ∙ ap (λ (l : List Row). l ++ rows_of_lines config events before sent (lines_of text)) front
      ∙ ap (λ (l : List Row). (old ++ put_rows config w.sent entry.event) ++ l) behind
      ∙ append_assoc old (put_rows config w.sent entry.event) (rows_of_lines config events (length w.sent) step.after.sent (lines_of (text_of step.lines)))
