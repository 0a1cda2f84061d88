use Rattle.std.proofs.Common.{◌≡◌, ◌<◌, ◌+◌, refl, Err, ap, arith, length, take}
use Rattle.std.proofs.lemmas.Grind.{common_steps}
use Rattle.script_picture.proofs.Going.{fills, goes, no_full, too_many}
use Rattle.script_picture.specs.Drawn.{most_rows}
use Rattle.script_picture.proofs.events.add_events.Goals as goal

pub returns-in-Err-LinkFull-clause-cause : goal.returns-in-Err-LinkFull-clause-cause
returns-in-Err-LinkFull-clause-cause c = λ w stood.
    let went = c.loop-entry.invariant.went w stood in
    fills c.args.config.now c.args.events.now w c.args.events.now c.loop-entry.entry-index c.entry-item.result c.entry-item.is c.loop-entry-test.true c.loop-entry.rows c.loop-entry.world went
    c.entry-item.result.line refl (c.in-Err-LinkFull.ensures.link_full _ went.stands (ap Err c.in-Err-LinkFull.field-0-is))

pub returns-then-len-gt-MOST_ROWS-clause-cause : goal.returns-then-len-gt-MOST_ROWS-clause-cause
returns-then-len-gt-MOST_ROWS-clause-cause c = λ w stood.
    let went = c.loop-entry.invariant.went w stood in
    let on = goes c.args.config.now c.args.events.now w c.args.events.now c.loop-entry.entry-index c.entry-item.result c.entry-item.is c.loop-entry-test.true c.loop-entry.rows c.loop-entry.world went
    c.add_event.new.rows c.add_event.new.world (c.in-Ok.ensures.stands _ went.stands) (c.in-Ok.ensures.fits _ went.stands) (c.in-Ok.ensures.rows _ went.stands) in
    let many : most_rows < length c.add_event.new.rows = omega (arith, c.len.ensures, c.if-len-gt-MOST_ROWS.true) in
    too_many c.args.config.now c.args.events.now w c.args.events.now (c.loop-entry.entry-index + 1) c.add_event.new.rows c.add_event.new.world most_rows on many

pub loop-entry-preserved : goal.loop-entry-preserved
loop-entry-preserved c = record {
  went = λ w stood.
      let went = c.loop-entry.invariant.went w stood in
      goes c.args.config.now c.args.events.now w c.args.events.now c.loop-entry.entry-index c.entry-item.result c.entry-item.is c.loop-entry-test.true c.loop-entry.rows c.loop-entry.world went
      c.add_event.new.rows c.add_event.new.world (c.in-Ok.ensures.stands _ went.stands) (c.in-Ok.ensures.fits _ went.stands) (c.in-Ok.ensures.rows _ went.stands);
  few = omega (arith, c.len.ensures, c.if-len-gt-MOST_ROWS.false);
}

pub returns-clause-room : goal.returns-clause-room
returns-clause-room c = λ w stood.
    let events = c.args.events.now in
    let i = c.loop-entry.entry-index in
    let all : take i events ≡ events = grind (arith, common_steps) in
    no_full c.args.config.now c.args.events.now w events i c.loop-entry.rows c.loop-entry.world all (c.loop-entry.invariant.went w stood)
