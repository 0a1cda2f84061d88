use Rattle.std.proofs.Common.{◌∙◌, ap, length, sym}
use Rattle.script_picture.proofs.Stepped.{event_is, written}
use Rattle.script_picture.proofs.events.add_event.Goals as goal

pub returns-in-Ok-add_lines-clause-rows : goal.returns-in-Ok-add_lines-clause-rows
returns-in-Ok-add_lines-clause-rows c = λ w stood.
    let after = c.in-Ok-step.ensures.stands w stood in
    event_is c.args.config.now c.args.events.now w c.args.entry.now c.args.rows.now c.add_puts.new.rows c.add_lines.new.rows
    c.count-before.result c.sent-2.result.now c.sent-3.result.now c.as_slice.result.now
    (c.sent-2.ensures w stood)
    (c.count-before.ensures ∙ ap length (c.sent.ensures w stood ∙ sym (c.sent-2.ensures w stood)))
    (c.sent-3.ensures _ after)
    (c.as_slice.ensures ∙ written _ _ _ c.new-text.ensures (c.in-Ok-step.ensures.written w stood))
    c.in-Ok.ensures
    c.in-Ok-add_lines.ensures
