use Rattle.script_text.proofs.Drawn.{drawn-more, events-more}
use Rattle.script_text.proofs.generator.generate.Goals as goal

pub loop-i-preserved : goal.loop-i-preserved
loop-i-preserved c =
    let seed = c.args.seed in
    let i = c.loop-i.i in
    let next = drawn-more seed i c.loop-i.x c.next_drawn-x.result c.loop-i.invariant.drawn c.next_drawn-x.ensures in
    record {
      drawn = next;
      events = events-more seed i c.next_drawn-x.result c.in_ok-event.field-0 c.loop-i.events c.push.new.events c.loop-i.invariant.events next c.in_ok-event.ensures c.in_ok-push.ensures;
    }
