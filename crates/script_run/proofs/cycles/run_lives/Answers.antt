use Rattle.std.proofs.Common.{◌≡◌, ◌∙◌, [], arith, drop, sym, ap, Err}
use Rattle.std.proofs.lemmas.Grind.{common_steps}
use Rattle.link_world.proofs.Writing.{whole_prefix}
use Rattle.script_run.proofs.Lived.{begun_full, begun_lived, begun_partly, lived_all, next_full, next_lived, next_partly}
use Rattle.script_run.specs.Lives.{written_lives}
use Rattle.script_run.proofs.cycles.run_lives.Goals as goal

pub returns-in-Err-clause-prefix : goal.returns-in-Err-clause-prefix
returns-in-Err-clause-prefix g c =
    begun_partly c.args.lives.now.config c.args.lives.now.lives c.in-Some.first.now c.in-Some.others.now (sym c.as_slice.ensures ∙ c.in-Some.ensures.cases.0) c.as_slice-2.result.now c.as_slice-2.ensures
    (g.K.Sink.contents c.args.sink.now) (g.K.Sink.contents c.run_life.new.sink) c.in-Err.ensures.prefix

pub returns-in-Err-clause-link_full : goal.returns-in-Err-clause-link_full
returns-in-Err-clause-link_full g c = λ line told.
    let full = begun_full c.args.lives.now.config c.args.lives.now.lives c.in-Some.first.now c.in-Some.others.now (sym c.as_slice.ensures ∙ c.in-Some.ensures.cases.0) c.as_slice-2.result.now c.as_slice-2.ensures
    (g.K.Sink.contents c.args.sink.now) (g.K.Sink.contents c.run_life.new.sink) line (c.in-Err.ensures.link_full line (ap Err (cc told))) in
    (full.full, full.written)

pub loop-life-init : goal.loop-life-init
loop-life-init g c = record {
  lived = begun_lived c.args.lives.now.config c.args.lives.now.lives c.in-Some.first.now c.in-Some.others.now (sym c.as_slice.ensures ∙ c.in-Some.ensures.cases.0) c.as_slice-2.result.now c.as_slice-2.ensures
      (g.K.Sink.contents c.args.sink.now) (g.K.Sink.contents c.run_life.new.sink) c.in-Ok.world c.in-Ok.ensures.last c.in-Ok.ensures.room c.in-Ok.ensures.whole;
  counted = omega arith;
  later = c.in-Ok.ensures.later;
}

pub returns-in-Err-run_next-clause-prefix : goal.returns-in-Err-run_next-clause-prefix
returns-in-Err-run_next-clause-prefix g c =
    next_partly c.args.lives.now.config c.args.lives.now.lives c.loop-life.boot c.in-Some.others.now c.loop-life.life-index c.life-item.result c.loop-life-test.true c.life-item.is
    (g.K.Sink.contents c.args.sink.now) (g.K.Sink.contents c.loop-life.sink) (g.K.Sink.contents c.run_next.new.sink) c.loop-life.world c.loop-life.invariant.lived c.in-Err-run_next.ensures.prefix

pub returns-in-Err-run_next-clause-link_full : goal.returns-in-Err-run_next-clause-link_full
returns-in-Err-run_next-clause-link_full g c = λ line told.
    let full = next_full c.args.lives.now.config c.args.lives.now.lives c.loop-life.boot c.in-Some.others.now c.loop-life.life-index c.life-item.result c.loop-life-test.true c.life-item.is
    (g.K.Sink.contents c.args.sink.now) (g.K.Sink.contents c.loop-life.sink) (g.K.Sink.contents c.run_next.new.sink) c.loop-life.world c.loop-life.invariant.lived line (c.in-Err-run_next.ensures.link_full line (ap Err (cc told))) in
    (full.full, full.written)

pub loop-life-preserved : goal.loop-life-preserved
loop-life-preserved g c = record {
  lived = next_lived c.args.lives.now.config c.args.lives.now.lives c.loop-life.boot c.in-Some.others.now c.loop-life.life-index c.life-item.result c.loop-life-test.true c.life-item.is
      (g.K.Sink.contents c.args.sink.now) (g.K.Sink.contents c.loop-life.sink) (g.K.Sink.contents c.run_next.new.sink) c.loop-life.world c.loop-life.invariant.lived
      c.in-Ok-run_next.world c.in-Ok-run_next.ensures.last c.in-Ok-run_next.ensures.room c.in-Ok-run_next.ensures.whole;
  counted = (let counted = c.loop-life.invariant.counted in omega (arith, counted));
  later = (let earlier = c.loop-life.invariant.later in let next = c.run_next.ensures.later in omega (arith, earlier, next));
}

pub returns-clause-whole : goal.returns-clause-whole
returns-clause-whole g c =
    let none : drop c.loop-life.life-index c.in-Some.others.now ≡ [] = grind (arith, common_steps) in
    (lived_all c.args.lives.now.config c.args.lives.now.lives c.loop-life.boot (drop c.loop-life.life-index c.in-Some.others.now) (g.K.Sink.contents c.args.sink.now) (g.K.Sink.contents c.loop-life.sink) c.loop-life.world none c.loop-life.invariant.lived).written

pub returns-clause-last : goal.returns-clause-last
returns-clause-last g c =
    let none : drop c.loop-life.life-index c.in-Some.others.now ≡ [] = grind (arith, common_steps) in
    (lived_all c.args.lives.now.config c.args.lives.now.lives c.loop-life.boot (drop c.loop-life.life-index c.in-Some.others.now) (g.K.Sink.contents c.args.sink.now) (g.K.Sink.contents c.loop-life.sink) c.loop-life.world none c.loop-life.invariant.lived).stands

pub returns-clause-room : goal.returns-clause-room
returns-clause-room g c =
    let none : drop c.loop-life.life-index c.in-Some.others.now ≡ [] = grind (arith, common_steps) in
    (lived_all c.args.lives.now.config c.args.lives.now.lives c.loop-life.boot (drop c.loop-life.life-index c.in-Some.others.now) (g.K.Sink.contents c.args.sink.now) (g.K.Sink.contents c.loop-life.sink) c.loop-life.world none c.loop-life.invariant.lived).none

pub returns-clause-prefix : goal.returns-clause-prefix
returns-clause-prefix g c =
    let none : drop c.loop-life.life-index c.in-Some.others.now ≡ [] = grind (arith, common_steps) in
    whole_prefix (g.K.Sink.contents c.args.sink.now) (g.K.Sink.contents c.loop-life.sink) (written_lives c.args.lives.now)
    (lived_all c.args.lives.now.config c.args.lives.now.lives c.loop-life.boot (drop c.loop-life.life-index c.in-Some.others.now) (g.K.Sink.contents c.args.sink.now) (g.K.Sink.contents c.loop-life.sink) c.loop-life.world none c.loop-life.invariant.lived).written
