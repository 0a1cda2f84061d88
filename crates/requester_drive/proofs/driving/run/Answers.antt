use Rattle.std.proofs.Common.{◌∙◌, arith, refl, subst, Bool}
use Rattle.frame_stream.proofs.Runs.{end_reached}
use Rattle.frame_stream.specs.Runs.{Counts}
use Rattle.requester.specs.Standing.{StandsFor}
use Rattle.requester_drive.proofs.Runs.{run_fault, run_more, run_new, run_over}
use Rattle.requester_drive.specs.Driven.{after_frames}
use Rattle.requester_drive.specs.Standing.{IsStep}
use Rattle.requester_machine.specs.Requesting.{Requesting}
use Rattle.requester_drive.proofs.driving.run.Goals as goal

pub loop-driver-preserved : goal.loop-driver-preserved
loop-driver-preserved g c =
    let old = c.args.driver.reader in
    let first = g.S.Source.remaining c.args.source.now in
    let held = g.K.Sink.contents c.args.sink.now in
    let mid = c.loop-driver.driver in
    let before = g.S.Source.remaining c.loop-driver.source in
    let between = g.K.Sink.contents c.loop-driver.sink in
    let new = c.drive_next.new.self in
    let after = g.S.Source.remaining c.drive_next.new.source in
    let holds = g.K.Sink.contents c.drive_next.new.sink in
    let inv = c.loop-driver.invariant in
    let stepped = λ (a : Requesting) (stands : StandsFor mid.requester a).
    subst (λ (b : Bool). IsStep c.args.config.now a mid before between b new after holds) c.in-Ok-true.field-0-test (c.in-Ok-true.ensures.step a stands) in
    let kept = inv.run c.requires.kept.0 c.requires.kept.1 in
    let own = stepped (after_frames c.args.config.now c.requires.kept.0 kept.frames) kept.stands in
    record {
      run = λ a stands.
          let run = inv.run a stands in
          run_more c.args.config.now a old first held mid before between new after holds run (stepped (after_frames c.args.config.now a run.frames) run.stands);
      kinds = own.read.kinds ∙ inv.kinds;
      read_later = omega arith;
      written_later = omega arith;
    }

pub returns-in-Ok-false-clause-driven : goal.returns-in-Ok-false-clause-driven
returns-in-Ok-false-clause-driven g c =
    let mid = c.loop-driver.driver in
    let before = g.S.Source.remaining c.loop-driver.source in
    let between = g.K.Sink.contents c.loop-driver.sink in
    let new = c.drive_next.new.self in
    let after = g.S.Source.remaining c.drive_next.new.source in
    let holds = g.K.Sink.contents c.drive_next.new.sink in
    λ a stands.
    let run = c.loop-driver.invariant.run a stands in
    run_over c.args.config.now a c.args.driver.reader (g.S.Source.remaining c.args.source.now) (g.K.Sink.contents c.args.sink.now) mid before between new.reader after holds c.requires.fresh run
    (subst (λ (b : Bool). IsStep c.args.config.now (after_frames c.args.config.now a run.frames) mid before between b new after holds) c.in-Ok-false.field-0-test (c.in-Ok-false.ensures.step (after_frames c.args.config.now a run.frames) run.stands))

pub returns-in-Ok-false-clause-end : goal.returns-in-Ok-false-clause-end
returns-in-Ok-false-clause-end g c =
    let mid = c.loop-driver.driver in
    let before = g.S.Source.remaining c.loop-driver.source in
    let between = g.K.Sink.contents c.loop-driver.sink in
    let new = c.drive_next.new.self in
    let after = g.S.Source.remaining c.drive_next.new.source in
    let holds = g.K.Sink.contents c.drive_next.new.sink in
    let a = c.requires.kept.0 in
    let run = c.loop-driver.invariant.run a c.requires.kept.1 in
    let over = subst (λ (b : Bool). IsStep c.args.config.now (after_frames c.args.config.now a run.frames) mid before between b new after holds) c.in-Ok-false.field-0-test (c.in-Ok-false.ensures.step (after_frames c.args.config.now a run.frames) run.stands) in
    end_reached c.args.driver.reader (g.S.Source.remaining c.args.source.now) run.frames mid.reader before new.reader after run.read over.done

pub returns-in-Err-clause-fault : goal.returns-in-Err-clause-fault
returns-in-Err-clause-fault g c =
    let mid = c.loop-driver.driver in
    let before = g.S.Source.remaining c.loop-driver.source in
    let between = g.K.Sink.contents c.loop-driver.sink in
    let new = c.drive_next.new.self in
    let after = g.S.Source.remaining c.drive_next.new.source in
    let holds = g.K.Sink.contents c.drive_next.new.sink in
    let inv = c.loop-driver.invariant in
    let n : Counts = record {
      read_before = g.S.Source.faults c.loop-driver.source;
      read_after = g.S.Source.faults c.drive_next.new.source;
      written_before = g.K.Sink.faults c.loop-driver.sink;
      written_after = g.K.Sink.faults c.drive_next.new.sink;
    } in
    let all : Counts = record {
      read_before = g.S.Source.faults c.args.source.now;
      read_after = g.S.Source.faults c.drive_next.new.source;
      written_before = g.K.Sink.faults c.args.sink.now;
      written_after = g.K.Sink.faults c.drive_next.new.sink;
    } in
    λ a stands.
    let run = inv.run a stands in
    run_fault c.args.config.now a c.args.driver.reader (g.S.Source.remaining c.args.source.now) (g.K.Sink.contents c.args.sink.now) mid before between n all c.in-Err.fault new after holds
    c.requires.fresh run inv.read_later c.in-Err.ensures.read_later refl inv.written_later c.in-Err.ensures.written_later refl
    (c.in-Err.ensures.fault (after_frames c.args.config.now a run.frames) run.stands)

pub loop-driver-init : goal.loop-driver-init
loop-driver-init g c = record {
  run = λ a stands. run_new c.args.config.now a c.args.driver (g.S.Source.remaining c.args.source.now) (g.K.Sink.contents c.args.sink.now) stands;
  kinds = c.requires.fresh.kinds;
  read_later = omega arith;
  written_later = omega arith;
}

pub drive_next-requires-clause-kept : goal.drive_next-requires-clause-kept
drive_next-requires-clause-kept g c =
    let run = c.loop-driver.invariant.run c.requires.kept.0 c.requires.kept.1 in
    (after_frames c.args.config.now c.requires.kept.0 run.frames, run.stands)
