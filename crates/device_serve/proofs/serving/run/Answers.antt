use Rattle.std.proofs.Common.{◌∙◌, ◌≤◌, arith, refl, subst, Bool}
use Rattle.frame_stream.proofs.Runs.{end_reached}
use Rattle.frame_stream.specs.Runs.{Counts}
use Rattle.device_serve.proofs.Faults.{step_late}
use Rattle.device_serve.proofs.Steps.{spelled_some}
use Rattle.device_serve.proofs.Runs.{run_fault, run_more, run_new, run_over}
use Rattle.device_serve.specs.Devised as devised
use Rattle.device_serve.specs.Devised.{after_frames}
use Rattle.device_serve.specs.Standing.{IsStep, StandsFor}
use Rattle.device_serve.proofs.serving.run.Goals as goal

pub loop-device-preserved : goal.loop-device-preserved
loop-device-preserved g c =
    let old = c.args.device.reader in
    let first = g.S.Source.remaining c.args.source.now in
    let held = g.K.Sink.contents c.args.sink.now in
    let mid = c.loop-device.device in
    let before = g.S.Source.remaining c.loop-device.source in
    let between = g.K.Sink.contents c.loop-device.sink in
    let new = c.answer_next.new.self in
    let after = g.S.Source.remaining c.answer_next.new.source in
    let holds = g.K.Sink.contents c.answer_next.new.sink in
    let inv = c.loop-device.invariant in
    let stepped = λ (d : devised.Device) (stands : StandsFor mid d).
    subst (λ (b : Bool). IsStep c.args.config.now c.args.config.now.requesters d mid before between b new after holds) c.in-Ok-true.field-0-test (c.in-Ok-true.ensures.step d stands) in
    let kept = inv.run c.requires.device.0 c.requires.device.1 in
    let own = stepped (after_frames c.args.config.now c.requires.device.0 kept.frames) kept.stands in
    record {
      run = λ d stands.
          let run = inv.run d stands in
          run_more c.args.config.now d old first held mid before between new after holds run (stepped (after_frames c.args.config.now d run.frames) run.stands);
      kinds = own.read.kinds ∙ inv.kinds;
      read_later = omega arith;
      written_later = omega arith;
    }

pub returns-in-Ok-false-clause-served : goal.returns-in-Ok-false-clause-served
returns-in-Ok-false-clause-served g c =
    let mid = c.loop-device.device in
    let before = g.S.Source.remaining c.loop-device.source in
    let between = g.K.Sink.contents c.loop-device.sink in
    let new = c.answer_next.new.self in
    let after = g.S.Source.remaining c.answer_next.new.source in
    let holds = g.K.Sink.contents c.answer_next.new.sink in
    λ d stands.
    let run = c.loop-device.invariant.run d stands in
    run_over c.args.config.now d c.args.device.reader (g.S.Source.remaining c.args.source.now) (g.K.Sink.contents c.args.sink.now) mid before between new.reader after holds c.requires.fresh run
    (subst (λ (b : Bool). IsStep c.args.config.now c.args.config.now.requesters (after_frames c.args.config.now d run.frames) mid before between b new after holds) c.in-Ok-false.field-0-test (c.in-Ok-false.ensures.step (after_frames c.args.config.now d run.frames) run.stands))

pub returns-in-Ok-false-clause-end : goal.returns-in-Ok-false-clause-end
returns-in-Ok-false-clause-end g c =
    let mid = c.loop-device.device in
    let before = g.S.Source.remaining c.loop-device.source in
    let between = g.K.Sink.contents c.loop-device.sink in
    let new = c.answer_next.new.self in
    let after = g.S.Source.remaining c.answer_next.new.source in
    let holds = g.K.Sink.contents c.answer_next.new.sink in
    let d = c.requires.device.0 in
    let run = c.loop-device.invariant.run d c.requires.device.1 in
    let over = subst (λ (b : Bool). IsStep c.args.config.now c.args.config.now.requesters (after_frames c.args.config.now d run.frames) mid before between b new after holds) c.in-Ok-false.field-0-test (c.in-Ok-false.ensures.step (after_frames c.args.config.now d run.frames) run.stands) in
    end_reached c.args.device.reader (g.S.Source.remaining c.args.source.now) run.frames mid.reader before new.reader after run.read over.done

pub returns-in-Err-clause-fault : goal.returns-in-Err-clause-fault
returns-in-Err-clause-fault g c =
    let mid = c.loop-device.device in
    let before = g.S.Source.remaining c.loop-device.source in
    let between = g.K.Sink.contents c.loop-device.sink in
    let new = c.answer_next.new.self in
    let after = g.S.Source.remaining c.answer_next.new.source in
    let holds = g.K.Sink.contents c.answer_next.new.sink in
    let inv = c.loop-device.invariant in
    let n : Counts = record {
      read_before = g.S.Source.faults c.loop-device.source;
      read_after = g.S.Source.faults c.answer_next.new.source;
      written_before = g.K.Sink.faults c.loop-device.sink;
      written_after = g.K.Sink.faults c.answer_next.new.sink;
    } in
    let all : Counts = record {
      read_before = g.S.Source.faults c.args.source.now;
      read_after = g.S.Source.faults c.answer_next.new.source;
      written_before = g.K.Sink.faults c.args.sink.now;
      written_after = g.K.Sink.faults c.answer_next.new.sink;
    } in
    λ d stands.
    let run = inv.run d stands in
    run_fault c.args.config.now d c.args.device.reader (g.S.Source.remaining c.args.source.now) (g.K.Sink.contents c.args.sink.now) mid before between n all c.in-Err.fault new after holds
    c.requires.fresh run inv.read_later c.in-Err.ensures.read_later refl inv.written_later c.in-Err.ensures.written_later refl
    (c.in-Err.ensures.fault (after_frames c.args.config.now d run.frames) run.stands)

pub loop-device-init : goal.loop-device-init
loop-device-init g c = record {
  run = λ d stands. run_new c.args.config.now d c.args.device (g.S.Source.remaining c.args.source.now) (g.K.Sink.contents c.args.sink.now) stands;
  kinds = c.requires.fresh.kinds;
  read_later = omega arith;
  written_later = omega arith;
}

pub answer_next-requires-clause-device : goal.answer_next-requires-clause-device
answer_next-requires-clause-device g c =
    let run = c.loop-device.invariant.run c.requires.device.0 c.requires.device.1 in
    (after_frames c.args.config.now c.requires.device.0 run.frames, run.stands)

pub loop-device-smaller : goal.loop-device-smaller
loop-device-smaller g c =
    let mid = c.loop-device.device in
    let before = g.S.Source.remaining c.loop-device.source in
    let between = g.K.Sink.contents c.loop-device.sink in
    let new = c.answer_next.new.self in
    let after = g.S.Source.remaining c.answer_next.new.source in
    let holds = g.K.Sink.contents c.answer_next.new.sink in
    let d = c.requires.device.0 in
    let run = c.loop-device.invariant.run d c.requires.device.1 in
    let own = subst (λ (b : Bool). IsStep c.args.config.now c.args.config.now.requesters (after_frames c.args.config.now d run.frames) mid before between b new after holds) c.in-Ok-true.field-0-test (c.in-Ok-true.ensures.step (after_frames c.args.config.now d run.frames) run.stands) in
    let some = spelled_some own.frame in
    let within : new.reader.taken ≤ new.reader.limit = new.reader.within in
    omega (arith, own.read.taken, own.read.limit, some, within)

pub returns-in-Err-clause-late : goal.returns-in-Err-clause-late
returns-in-Err-clause-late g c =
    let mid = c.loop-device.device in
    let before = g.S.Source.remaining c.loop-device.source in
    let between = g.K.Sink.contents c.loop-device.sink in
    let new = c.answer_next.new.self in
    let after = g.S.Source.remaining c.answer_next.new.source in
    let holds = g.K.Sink.contents c.answer_next.new.sink in
    let n : Counts = record {
      read_before = g.S.Source.faults c.loop-device.source;
      read_after = g.S.Source.faults c.answer_next.new.source;
      written_before = g.K.Sink.faults c.loop-device.sink;
      written_after = g.K.Sink.faults c.answer_next.new.sink;
    } in
    let d = c.requires.device.0 in
    let run = c.loop-device.invariant.run d c.requires.device.1 in
    let own = after_frames c.args.config.now d run.frames in
    step_late c.args.config.now own mid before between n c.in-Err.fault new after holds (c.in-Err.ensures.fault own run.stands)
