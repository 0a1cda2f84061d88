use Rattle.std.proofs.Common.{◌∙◌, Bool, List, ap, arith, refl, subst, ℕ}
use Rattle.appraise.specs.declared.appraisal.Appraisal.{Appraisal}
use Rattle.attestor.specs.Attesting.{Attesting}
use Rattle.frame_stream.proofs.Runs.{end_reached}
use Rattle.frame_stream.specs.Runs.{Counts}
use Rattle.frame_stream.specs.Standing.{left_of}
use Rattle.frame_stream.specs.declared.reader.FrameReader.{FrameReader}
use Rattle.requester_attest.proofs.Runs.{not_begun, run_fault, run_more, run_new, run_over}
use Rattle.requester_attest.specs.Attested.{attesting_after}
use Rattle.requester_attest.specs.Standing.{IsStep, StandsFor}
use Rattle.requester_attest.proofs.attesting.run.Goals as goal

pub loop-attending-preserved : goal.loop-attending-preserved
loop-attending-preserved g c =
    let old = c.args.attending.reader in
    let first = g.S.Source.remaining c.args.source.now in
    let held = g.K.Sink.contents c.args.sink.now in
    let mid = c.loop-attending.attending in
    let before = g.S.Source.remaining c.loop-attending.source in
    let between = g.K.Sink.contents c.loop-attending.sink in
    let new = c.attest_next.new.self in
    let after = g.S.Source.remaining c.attest_next.new.source in
    let holds = g.K.Sink.contents c.attest_next.new.sink in
    let inv = c.loop-attending.invariant in
    let stepped = λ (appraised : List ℕ → Appraisal) (a : Attesting) (stands : StandsFor mid appraised a).
    subst (λ (b : Bool). IsStep appraised a mid before between b new after holds) c.in-Ok-true.field-0-test (c.in-Ok-true.ensures.step appraised a stands) in
    let own = c.requires.kept in
    let kept = inv.run own.appraised own.attesting own.stands in
    let step = stepped own.appraised (attesting_after own.attesting kept.frames) kept.stands in
    record {
      run = λ appraised a stands.
          let run = inv.run appraised a stands in
          run_more appraised a old first held mid before between new after holds run (stepped appraised (attesting_after a run.frames) run.stands);
      kinds = step.read.kinds ∙ inv.kinds;
      read_later = omega arith;
      written_later = omega arith;
    }

pub attest_next-requires-clause-kept : goal.attest_next-requires-clause-kept
attest_next-requires-clause-kept g c =
    let own = c.requires.kept in
    let run = c.loop-attending.invariant.run own.appraised own.attesting own.stands in
    record { appraised = own.appraised; attesting = attesting_after own.attesting run.frames; stands = run.stands }

pub returns-in-Ok-false-clause-attested : goal.returns-in-Ok-false-clause-attested
returns-in-Ok-false-clause-attested g c =
    let mid = c.loop-attending.attending in
    let before = g.S.Source.remaining c.loop-attending.source in
    let between = g.K.Sink.contents c.loop-attending.sink in
    let new = c.attest_next.new.self in
    let after = g.S.Source.remaining c.attest_next.new.source in
    let holds = g.K.Sink.contents c.attest_next.new.sink in
    λ appraised a stands.
    let run = c.loop-attending.invariant.run appraised a stands in
    let over = subst (λ (b : Bool). IsStep appraised (attesting_after a run.frames) mid before between b new after holds) c.in-Ok-false.field-0-test (c.in-Ok-false.ensures.step appraised (attesting_after a run.frames) run.stands) in
    run_over appraised a c.args.attending.reader (g.S.Source.remaining c.args.source.now) (g.K.Sink.contents c.args.sink.now) mid before between new after holds c.requires.fresh run over.0 over.1

pub returns-in-Ok-false-clause-end : goal.returns-in-Ok-false-clause-end
returns-in-Ok-false-clause-end g c =
    let mid = c.loop-attending.attending in
    let before = g.S.Source.remaining c.loop-attending.source in
    let between = g.K.Sink.contents c.loop-attending.sink in
    let new = c.attest_next.new.self in
    let after = g.S.Source.remaining c.attest_next.new.source in
    let holds = g.K.Sink.contents c.attest_next.new.sink in
    let own = c.requires.kept in
    let run = c.loop-attending.invariant.run own.appraised own.attesting own.stands in
    let over = subst (λ (b : Bool). IsStep own.appraised (attesting_after own.attesting run.frames) mid before between b new after holds) c.in-Ok-false.field-0-test
    (c.in-Ok-false.ensures.step own.appraised (attesting_after own.attesting run.frames) run.stands) in
    end_reached c.args.attending.reader (g.S.Source.remaining c.args.source.now) run.frames mid.reader before new.reader after run.read over.0.done

pub returns-in-Err-attest_next-clause-fault : goal.returns-in-Err-attest_next-clause-fault
returns-in-Err-attest_next-clause-fault g c =
    let mid = c.loop-attending.attending in
    let before = g.S.Source.remaining c.loop-attending.source in
    let between = g.K.Sink.contents c.loop-attending.sink in
    let new = c.attest_next.new.self in
    let after = g.S.Source.remaining c.attest_next.new.source in
    let holds = g.K.Sink.contents c.attest_next.new.sink in
    let inv = c.loop-attending.invariant in
    let n : Counts = record {
      read_before = g.S.Source.faults c.loop-attending.source;
      read_after = g.S.Source.faults c.attest_next.new.source;
      written_before = g.K.Sink.faults c.loop-attending.sink;
      written_after = g.K.Sink.faults c.attest_next.new.sink;
    } in
    let all : Counts = record {
      read_before = g.S.Source.faults c.args.source.now;
      read_after = g.S.Source.faults c.attest_next.new.source;
      written_before = g.K.Sink.faults c.args.sink.now;
      written_after = g.K.Sink.faults c.attest_next.new.sink;
    } in
    λ appraised a stands.
    let run = inv.run appraised a stands in
    run_fault appraised a c.args.attending.reader (g.S.Source.remaining c.args.source.now) (g.K.Sink.contents c.args.sink.now) mid before between n all c.in-Err-attest_next.fault new after holds
    c.requires.fresh run inv.read_later c.in-Err-attest_next.ensures.read_later refl inv.written_later c.in-Err-attest_next.ensures.written_later refl
    (c.in-Err-attest_next.ensures.fault appraised (attesting_after a run.frames) run.stands)

pub returns-in-Err-clause-fault : goal.returns-in-Err-clause-fault
returns-in-Err-clause-fault g c = λ appraised a stands. (
  c.in-Err.ensures.fault,
  not_begun appraised a (left_of c.args.attending.reader (g.S.Source.remaining c.args.source.now)) (g.K.Sink.contents c.args.sink.now) (g.K.Sink.contents c.begin.new.sink) (c.in-Err.ensures.prefix appraised a stands),
)

pub loop-attending-init : goal.loop-attending-init
loop-attending-init g c = record {
  run = λ appraised a stands.
      let begun = c.in-Ok.ensures.begun appraised a stands in
      run_new appraised a c.args.attending.reader c.begin.new.self (g.S.Source.remaining c.args.source.now) (g.K.Sink.contents c.args.sink.now) (g.K.Sink.contents c.begin.new.sink) c.begin.ensures.reader begun.0 begun.1;
  kinds = ap (λ (r : FrameReader). r.kinds) c.begin.ensures.reader ∙ c.requires.fresh.kinds;
  read_later = omega arith;
  written_later = c.begin.ensures.later;
}
