use Rattle.std.proofs.Common.{◌≡◌, ap, arith, take, Err}
use Rattle.std.proofs.lemmas.Grind.{common_steps}
use Rattle.link_world.proofs.Writing.{whole_prefix}
use Rattle.script_run.proofs.Going.{fills, goes, stops, went_all}
use Rattle.script_run.specs.Going.{text_from}
use Rattle.script_run.proofs.events.run_events.Goals as goal

pub returns-in-Err-LinkFull-clause-prefix : goal.returns-in-Err-LinkFull-clause-prefix
returns-in-Err-LinkFull-clause-prefix g c = λ w stood.
    let went = c.loop-entry.invariant.went w stood in
    stops w c.args.events.now c.loop-entry.entry-index c.entry-item.result c.entry-item.is c.loop-entry-test.true
    (g.K.Sink.contents c.args.sink.now) (g.K.Sink.contents c.loop-entry.sink) (g.K.Sink.contents c.step.new.sink) c.loop-entry.world went
    (c.in-Err-LinkFull.ensures.prefix _ went.stands)

pub returns-in-Err-LinkFull-clause-link_full : goal.returns-in-Err-LinkFull-clause-link_full
returns-in-Err-LinkFull-clause-link_full g c = λ w stood line told.
    let went = c.loop-entry.invariant.went w stood in
    fills w c.args.events.now c.loop-entry.entry-index c.entry-item.result c.entry-item.is c.loop-entry-test.true
    (g.K.Sink.contents c.args.sink.now) (g.K.Sink.contents c.loop-entry.sink) (g.K.Sink.contents c.step.new.sink) c.loop-entry.world went
    line (cc told) (c.in-Err-LinkFull.ensures.link_full _ went.stands (ap Err c.in-Err-LinkFull.field-0-is)) (c.in-Err-LinkFull.ensures.before_full _ went.stands (ap Err c.in-Err-LinkFull.field-0-is))

pub returns-in-Err-WriteFault-clause-prefix : goal.returns-in-Err-WriteFault-clause-prefix
returns-in-Err-WriteFault-clause-prefix g c = λ w stood.
    let went = c.loop-entry.invariant.went w stood in
    stops w c.args.events.now c.loop-entry.entry-index c.entry-item.result c.entry-item.is c.loop-entry-test.true
    (g.K.Sink.contents c.args.sink.now) (g.K.Sink.contents c.loop-entry.sink) (g.K.Sink.contents c.step.new.sink) c.loop-entry.world went
    (c.in-Err-WriteFault.ensures.prefix _ went.stands)

pub returns-in-Err-OutOfMemory-clause-prefix : goal.returns-in-Err-OutOfMemory-clause-prefix
returns-in-Err-OutOfMemory-clause-prefix g c = λ w stood.
    let went = c.loop-entry.invariant.went w stood in
    stops w c.args.events.now c.loop-entry.entry-index c.entry-item.result c.entry-item.is c.loop-entry-test.true
    (g.K.Sink.contents c.args.sink.now) (g.K.Sink.contents c.loop-entry.sink) (g.K.Sink.contents c.step.new.sink) c.loop-entry.world went
    (c.in-Err-OutOfMemory.ensures.prefix _ went.stands)

pub loop-entry-preserved : goal.loop-entry-preserved
loop-entry-preserved g c = record {
  went = λ w stood.
      let went = c.loop-entry.invariant.went w stood in
      goes w c.args.events.now c.loop-entry.entry-index c.entry-item.result c.entry-item.is c.loop-entry-test.true
      (g.K.Sink.contents c.args.sink.now) (g.K.Sink.contents c.loop-entry.sink) (g.K.Sink.contents c.step.new.sink) c.loop-entry.world went
      c.step.new.self (c.in-Ok.ensures.stands _ went.stands) (c.in-Ok.ensures.fits _ went.stands) (c.in-Ok.ensures.written _ went.stands);
  later = omega (arith, c.loop-entry.invariant.later, c.step.ensures.later);
}

pub returns-clause-whole : goal.returns-clause-whole
returns-clause-whole g c = λ w stood.
    let events = c.args.events.now in
    let i = c.loop-entry.entry-index in
    let all : take i events ≡ events = grind (arith, common_steps) in
    (went_all w events i (g.K.Sink.contents c.args.sink.now) (g.K.Sink.contents c.loop-entry.sink) c.loop-entry.world all (c.loop-entry.invariant.went w stood)).written

pub returns-clause-last : goal.returns-clause-last
returns-clause-last g c = λ w stood.
    let events = c.args.events.now in
    let i = c.loop-entry.entry-index in
    let all : take i events ≡ events = grind (arith, common_steps) in
    (went_all w events i (g.K.Sink.contents c.args.sink.now) (g.K.Sink.contents c.loop-entry.sink) c.loop-entry.world all (c.loop-entry.invariant.went w stood)).stands

pub returns-clause-room : goal.returns-clause-room
returns-clause-room g c = λ w stood.
    let events = c.args.events.now in
    let i = c.loop-entry.entry-index in
    let all : take i events ≡ events = grind (arith, common_steps) in
    (went_all w events i (g.K.Sink.contents c.args.sink.now) (g.K.Sink.contents c.loop-entry.sink) c.loop-entry.world all (c.loop-entry.invariant.went w stood)).none

pub returns-clause-prefix : goal.returns-clause-prefix
returns-clause-prefix g c = λ w stood.
    let events = c.args.events.now in
    let i = c.loop-entry.entry-index in
    let all : take i events ≡ events = grind (arith, common_steps) in
    whole_prefix (g.K.Sink.contents c.args.sink.now) (g.K.Sink.contents c.loop-entry.sink) (text_from w events)
    (went_all w events i (g.K.Sink.contents c.args.sink.now) (g.K.Sink.contents c.loop-entry.sink) c.loop-entry.world all (c.loop-entry.invariant.went w stood)).written
