use Rattle.std.proofs.Common.{◌∙◌, ◌+◌, ◌++◌, ◌∷◌, [], List, ap, append_assoc, sym}
use Rattle.script_picture.proofs.LinesLeft.{note_first, sent_first}
use Rattle.script_picture.specs.Lines.{note_rows}
use Rattle.script_picture.specs.Rows.{rows_of_lines, sent_row}
use Rattle.sequence_picture.specs.declared.rows.Row.{Row}
use Rattle.script_picture.proofs.lines.add_line.Goals as goal

pub returns-then-is_sent : goal.returns-then-is_sent
returns-then-is_sent c = λ others.
    let config = c.args.config.now in
    let events = c.args.events.now in
    let count = c.args.count in
    let sent = c.args.sent.now in
    let more = rows_of_lines config events (count + 1) sent others in
    ap (λ (l : List Row). l ++ more) c.in_ok-add_sent.ensures
    ∙ append_assoc c.args.rows.now (sent_row config events (count + 1) sent ∷ []) more
    ∙ ap (λ (l : List Row). c.args.rows.now ++ l) (sym (sent_first config events count sent c.args.line.now others (sym c.is_sent.ensures.is ∙ c.if-is_sent.true)))

pub returns : goal.returns
returns c = λ others.
    let config = c.args.config.now in
    let events = c.args.events.now in
    let count = c.args.count in
    let sent = c.args.sent.now in
    let more = rows_of_lines config events count sent others in
    ap (λ (l : List Row). l ++ more) c.in_ok-add_note.ensures
    ∙ append_assoc c.args.rows.now (note_rows config c.args.line.now) more
    ∙ ap (λ (l : List Row). c.args.rows.now ++ l) (sym (note_first config events count sent c.args.line.now others (sym c.is_sent.ensures.is ∙ c.if-is_sent.false)))
