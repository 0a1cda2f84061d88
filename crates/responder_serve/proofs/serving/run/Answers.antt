use Rattle.std.proofs.Common.{◌∙◌, arith, refl, subst, Bool}
use Rattle.responder.specs.Standing.{StandsFor}
use Rattle.frame_stream.proofs.Runs.{end_reached}
use Rattle.frame_stream.specs.Runs.{Counts}
use Rattle.responder_serve.proofs.Runs.{run_fault, run_more, run_new, run_over}
use Rattle.responder_serve.specs.Served.{after_frames}
use Rattle.responder_serve.specs.Standing.{IsStep}
use Rattle.responder_machine.specs.Responding.{Responding}
use Rattle.responder_serve.proofs.serving.run.Goals as goal

pub loop-server-preserved : goal.loop-server-preserved
loop-server-preserved g c =
    let old = c.args.server.reader in
    let first = g.S.Source.remaining c.args.source.now in
    let held = g.K.Sink.contents c.args.sink.now in
    let mid = c.loop-server.server in
    let before = g.S.Source.remaining c.loop-server.source in
    let between = g.K.Sink.contents c.loop-server.sink in
    let new = c.answer_next.new.self in
    let after = g.S.Source.remaining c.answer_next.new.source in
    let holds = g.K.Sink.contents c.answer_next.new.sink in
    let inv = c.loop-server.invariant in
    let stepped = λ (r : Responding) (stands : StandsFor mid.responder r).
    subst (λ (b : Bool). IsStep r mid before between b new after holds) c.in-Ok-true.field-0-test (c.in-Ok-true.ensures.step r stands) in
    let kept = inv.run c.requires.kept.0 c.requires.kept.1 in
    let own = stepped (after_frames c.requires.kept.0 kept.frames) kept.stands in
    record {
      run = λ r stands.
          let run = inv.run r stands in
          run_more r old first held mid before between new after holds run (stepped (after_frames r run.frames) run.stands);
      kinds = own.read.kinds ∙ inv.kinds;
      read_later = omega arith;
      written_later = omega arith;
    }

pub answer_next-requires-clause-kept : goal.answer_next-requires-clause-kept
answer_next-requires-clause-kept g c =
    let run = c.loop-server.invariant.run c.requires.kept.0 c.requires.kept.1 in
    (after_frames c.requires.kept.0 run.frames, run.stands)

pub returns-in-Ok-false-clause-served : goal.returns-in-Ok-false-clause-served
returns-in-Ok-false-clause-served g c =
    let mid = c.loop-server.server in
    let before = g.S.Source.remaining c.loop-server.source in
    let between = g.K.Sink.contents c.loop-server.sink in
    let new = c.answer_next.new.self in
    let after = g.S.Source.remaining c.answer_next.new.source in
    let holds = g.K.Sink.contents c.answer_next.new.sink in
    λ r stands.
    let run = c.loop-server.invariant.run r stands in
    run_over r c.args.server.reader (g.S.Source.remaining c.args.source.now) (g.K.Sink.contents c.args.sink.now) mid before between new.reader after holds c.requires.fresh run
    (subst (λ (b : Bool). IsStep (after_frames r run.frames) mid before between b new after holds) c.in-Ok-false.field-0-test (c.in-Ok-false.ensures.step (after_frames r run.frames) run.stands))

pub returns-in-Ok-false-clause-end : goal.returns-in-Ok-false-clause-end
returns-in-Ok-false-clause-end g c =
    let mid = c.loop-server.server in
    let before = g.S.Source.remaining c.loop-server.source in
    let between = g.K.Sink.contents c.loop-server.sink in
    let new = c.answer_next.new.self in
    let after = g.S.Source.remaining c.answer_next.new.source in
    let holds = g.K.Sink.contents c.answer_next.new.sink in
    let r = c.requires.kept.0 in
    let run = c.loop-server.invariant.run r c.requires.kept.1 in
    let over = subst (λ (b : Bool). IsStep (after_frames r run.frames) mid before between b new after holds) c.in-Ok-false.field-0-test (c.in-Ok-false.ensures.step (after_frames r run.frames) run.stands) in
    end_reached c.args.server.reader (g.S.Source.remaining c.args.source.now) run.frames mid.reader before new.reader after run.read over.done

pub returns-in-Err-clause-fault : goal.returns-in-Err-clause-fault
returns-in-Err-clause-fault g c =
    let mid = c.loop-server.server in
    let before = g.S.Source.remaining c.loop-server.source in
    let between = g.K.Sink.contents c.loop-server.sink in
    let new = c.answer_next.new.self in
    let after = g.S.Source.remaining c.answer_next.new.source in
    let holds = g.K.Sink.contents c.answer_next.new.sink in
    let inv = c.loop-server.invariant in
    let n : Counts = record {
      read_before = g.S.Source.faults c.loop-server.source;
      read_after = g.S.Source.faults c.answer_next.new.source;
      written_before = g.K.Sink.faults c.loop-server.sink;
      written_after = g.K.Sink.faults c.answer_next.new.sink;
    } in
    let all : Counts = record {
      read_before = g.S.Source.faults c.args.source.now;
      read_after = g.S.Source.faults c.answer_next.new.source;
      written_before = g.K.Sink.faults c.args.sink.now;
      written_after = g.K.Sink.faults c.answer_next.new.sink;
    } in
    λ r stands.
    let run = inv.run r stands in
    run_fault r c.args.server.reader (g.S.Source.remaining c.args.source.now) (g.K.Sink.contents c.args.sink.now) mid before between n all c.in-Err.fault new after holds
    c.requires.fresh run inv.read_later c.in-Err.ensures.read_later refl inv.written_later c.in-Err.ensures.written_later refl
    (c.in-Err.ensures.fault (after_frames r run.frames) run.stands)

pub loop-server-init : goal.loop-server-init
loop-server-init g c = record {
  run = λ r stands. run_new r c.args.server (g.S.Source.remaining c.args.source.now) (g.K.Sink.contents c.args.sink.now) stands;
  kinds = c.requires.fresh.kinds;
  read_later = omega arith;
  written_later = omega arith;
}
