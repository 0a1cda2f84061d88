use Rattle.std.proofs.Common.{ap, Err}
use Rattle.script_run.proofs.LifeText.{all_written, begun, gone_on, is_full_line}
use Rattle.script_run.specs.Lives.{set_up_in}
use Rattle.world_machine.specs.World.{new_world}
use Rattle.script_run.proofs.life.run_life.Goals as goal

pub returns-in-Err-WriteFault-clause-prefix : goal.returns-in-Err-WriteFault-clause-prefix
returns-in-Err-WriteFault-clause-prefix g c =
    let world = new_world (set_up_in c.args.config.now c.args.boot) in
    begun c.args.config.now c.args.boot c.args.events.now (g.K.Sink.contents c.args.sink.now) (g.K.Sink.contents c.start.new.sink) (g.K.Sink.contents c.start.new.sink)
    (c.in-Err-WriteFault.ensures.prefix world c.in-Ok.ensures)

pub returns-in-Err-clause-prefix : goal.returns-in-Err-clause-prefix
returns-in-Err-clause-prefix g c =
    let world = new_world (set_up_in c.args.config.now c.args.boot) in
    gone_on c.args.config.now c.args.boot c.args.events.now (g.K.Sink.contents c.args.sink.now) (g.K.Sink.contents c.start.new.sink) (g.K.Sink.contents c.run_events.new.sink)
    (c.in-Ok-start.ensures.written world c.in-Ok.ensures) (c.in-Err.ensures.prefix world c.in-Ok.ensures)

pub returns-in-Err-clause-link_full : goal.returns-in-Err-clause-link_full
returns-in-Err-clause-link_full g c = λ line told.
    let world = new_world (set_up_in c.args.config.now c.args.boot) in
    is_full_line c.args.config.now c.args.boot c.args.events.now (g.K.Sink.contents c.args.sink.now) (g.K.Sink.contents c.start.new.sink) (g.K.Sink.contents c.run_events.new.sink)
    line (c.in-Ok-start.ensures.written world c.in-Ok.ensures) (c.in-Err.ensures.link_full world c.in-Ok.ensures line (ap Err (cc told)))

pub returns-in-Ok-run_events-clause-whole : goal.returns-in-Ok-run_events-clause-whole
returns-in-Ok-run_events-clause-whole g c =
    let world = new_world (set_up_in c.args.config.now c.args.boot) in
    all_written c.args.config.now c.args.boot c.args.events.now (g.K.Sink.contents c.args.sink.now) (g.K.Sink.contents c.start.new.sink) (g.K.Sink.contents c.run_events.new.sink)
    (c.in-Ok-start.ensures.written world c.in-Ok.ensures) (c.in-Ok-run_events.ensures.whole world c.in-Ok.ensures)

pub returns-in-Ok-run_events-clause-last : goal.returns-in-Ok-run_events-clause-last
returns-in-Ok-run_events-clause-last g c = c.in-Ok-run_events.ensures.last (new_world (set_up_in c.args.config.now c.args.boot)) c.in-Ok.ensures

pub returns-in-Ok-run_events-clause-room : goal.returns-in-Ok-run_events-clause-room
returns-in-Ok-run_events-clause-room g c = c.in-Ok-run_events.ensures.room (new_world (set_up_in c.args.config.now c.args.boot)) c.in-Ok.ensures

pub returns-in-Ok-run_events-clause-prefix : goal.returns-in-Ok-run_events-clause-prefix
returns-in-Ok-run_events-clause-prefix g c =
    let world = new_world (set_up_in c.args.config.now c.args.boot) in
    gone_on c.args.config.now c.args.boot c.args.events.now (g.K.Sink.contents c.args.sink.now) (g.K.Sink.contents c.start.new.sink) (g.K.Sink.contents c.run_events.new.sink)
    (c.in-Ok-start.ensures.written world c.in-Ok.ensures) (c.in-Ok-run_events.ensures.prefix world c.in-Ok.ensures)
