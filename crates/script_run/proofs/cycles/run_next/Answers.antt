use Rattle.std.proofs.Common.{◌≡◌, Err, Some, ap, subst, List}
use Rattle.link_world.proofs.Writing.{prefix_longer, prefix_more, takes_more}
use Rattle.script_run.specs.Lives.{cycle_lines, life_full, life_text}
use Rattle.script_text.specs.declared.events.event.Entry.{Entry}
use Rattle.spdm_basis.specs.Stream.{Takes, TakesPrefix}
use Rattle.script_run.proofs.cycles.run_next.Goals as goal

pub returns-in-Err-clause-prefix : goal.returns-in-Err-clause-prefix
returns-in-Err-clause-prefix g c =
    prefix_longer (g.K.Sink.contents c.args.sink.now) (g.K.Sink.contents c.write_cycle.new.sink) (cycle_lines c.args.life.now.cycle_line c.args.boot)
    (life_text c.args.config.now c.args.boot c.args.life.now.events) c.in-Err.ensures.prefix

pub returns-in-Ok-run_life-clause-whole : goal.returns-in-Ok-run_life-clause-whole
returns-in-Ok-run_life-clause-whole g c =
    takes_more (g.K.Sink.contents c.args.sink.now) (g.K.Sink.contents c.write_cycle.new.sink) (g.K.Sink.contents c.run_life.new.sink) (cycle_lines c.args.life.now.cycle_line c.args.boot)
    (life_text c.args.config.now c.args.boot c.args.life.now.events) c.in-Ok.ensures.whole
    (subst (λ (e : List Entry). Takes (g.K.Sink.contents c.write_cycle.new.sink) (life_text c.args.config.now c.args.boot e) (g.K.Sink.contents c.run_life.new.sink)) c.as_slice.ensures c.in-Ok-run_life.ensures.whole)

pub returns-in-Ok-run_life-clause-prefix : goal.returns-in-Ok-run_life-clause-prefix
returns-in-Ok-run_life-clause-prefix g c =
    prefix_more (g.K.Sink.contents c.args.sink.now) (g.K.Sink.contents c.write_cycle.new.sink) (g.K.Sink.contents c.run_life.new.sink) (cycle_lines c.args.life.now.cycle_line c.args.boot)
    (life_text c.args.config.now c.args.boot c.args.life.now.events) c.in-Ok.ensures.whole
    (subst (λ (e : List Entry). TakesPrefix (g.K.Sink.contents c.write_cycle.new.sink) (life_text c.args.config.now c.args.boot e) (g.K.Sink.contents c.run_life.new.sink)) c.as_slice.ensures c.in-Ok-run_life.ensures.prefix)

pub returns-in-Err-run_life-clause-prefix : goal.returns-in-Err-run_life-clause-prefix
returns-in-Err-run_life-clause-prefix g c =
    prefix_more (g.K.Sink.contents c.args.sink.now) (g.K.Sink.contents c.write_cycle.new.sink) (g.K.Sink.contents c.run_life.new.sink) (cycle_lines c.args.life.now.cycle_line c.args.boot)
    (life_text c.args.config.now c.args.boot c.args.life.now.events) c.in-Ok.ensures.whole
    (subst (λ (e : List Entry). TakesPrefix (g.K.Sink.contents c.write_cycle.new.sink) (life_text c.args.config.now c.args.boot e) (g.K.Sink.contents c.run_life.new.sink)) c.as_slice.ensures c.in-Err-run_life.ensures.prefix)

pub returns-in-Err-run_life-clause-link_full : goal.returns-in-Err-run_life-clause-link_full
returns-in-Err-run_life-clause-link_full g c = λ line told.
    let full = c.in-Err-run_life.ensures.link_full line (ap Err (cc told)) in (
      subst (λ (e : List Entry). life_full c.args.config.now c.args.boot e ≡ Some line) c.as_slice.ensures full.0,
      takes_more (g.K.Sink.contents c.args.sink.now) (g.K.Sink.contents c.write_cycle.new.sink) (g.K.Sink.contents c.run_life.new.sink) (cycle_lines c.args.life.now.cycle_line c.args.boot)
          (life_text c.args.config.now c.args.boot c.args.life.now.events) c.in-Ok.ensures.whole
          (subst (λ (e : List Entry). Takes (g.K.Sink.contents c.write_cycle.new.sink) (life_text c.args.config.now c.args.boot e) (g.K.Sink.contents c.run_life.new.sink)) c.as_slice.ensures full.1),
    )
