use Rattle.std.proofs.Common.{◌≡◌, ◌<◌, ◌+◌, refl, Err, ap, arith, length, take}
use Rattle.std.proofs.lemmas.Grind.{common_steps}
use Rattle.script_capture.proofs.Going.{fills, goes, no_full, too_many}
use Rattle.script_capture.specs.Written.{most_packets}
use Rattle.script_capture.proofs.carrying.carry_all.Goals as goal

pub returns-in-Err-LinkFull-clause-cause : goal.returns-in-Err-LinkFull-clause-cause
returns-in-Err-LinkFull-clause-cause c = λ w stood.
    let went = c.loop-entry.invariant.went w stood in
    fills w c.args.events.now c.loop-entry.entry-index c.entry-item.result c.entry-item.is c.loop-entry-test.true c.loop-entry.packets c.loop-entry.world went
    c.entry-item.result.line refl (c.in-Err-LinkFull.ensures.link_full _ went.stands (ap Err c.in-Err-LinkFull.field-0-is))

pub returns-then-len-gt-MOST_PACKETS-clause-cause : goal.returns-then-len-gt-MOST_PACKETS-clause-cause
returns-then-len-gt-MOST_PACKETS-clause-cause c = λ w stood.
    let went = c.loop-entry.invariant.went w stood in
    let on = goes w c.args.events.now c.loop-entry.entry-index c.entry-item.result c.entry-item.is c.loop-entry-test.true c.loop-entry.packets c.loop-entry.world went
    c.carry.new.packets c.carry.new.world (c.in-Ok.ensures.stands _ went.stands) (c.in-Ok.ensures.fits _ went.stands) (c.in-Ok.ensures.packets _ went.stands) in
    let many : most_packets < length c.carry.new.packets = omega (arith, c.len.ensures, c.if-len-gt-MOST_PACKETS.true) in
    too_many w c.args.events.now (c.loop-entry.entry-index + 1) c.carry.new.packets c.carry.new.world most_packets on many

pub loop-entry-preserved : goal.loop-entry-preserved
loop-entry-preserved c = record {
  went = λ w stood.
      let went = c.loop-entry.invariant.went w stood in
      goes w c.args.events.now c.loop-entry.entry-index c.entry-item.result c.entry-item.is c.loop-entry-test.true c.loop-entry.packets c.loop-entry.world went
      c.carry.new.packets c.carry.new.world (c.in-Ok.ensures.stands _ went.stands) (c.in-Ok.ensures.fits _ went.stands) (c.in-Ok.ensures.packets _ went.stands);
  few = omega (arith, c.len.ensures, c.if-len-gt-MOST_PACKETS.false);
}

pub returns-clause-room : goal.returns-clause-room
returns-clause-room c = λ w stood.
    let events = c.args.events.now in
    let i = c.loop-entry.entry-index in
    let all : take i events ≡ events = grind (arith, common_steps) in
    no_full w events i c.loop-entry.packets c.loop-entry.world all (c.loop-entry.invariant.went w stood)
