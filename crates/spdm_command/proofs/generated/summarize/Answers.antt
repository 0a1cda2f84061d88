use Rattle.std.proofs.Common.{◌∙◌, ap, Err}
use Rattle.script_run.specs.declared.fault.RunFault.TheVariants.{LinkFull}
use Rattle.script_text.specs.Generator.{generated}
use Rattle.script_laws.specs.Scripts.{full_line, last_world, set_up}
use Rattle.spdm_command.proofs.Generating.{has_room, is_full_at, is_sound, last_stands, summary_prefix, summary_whole}
use Rattle.spdm_command.proofs.generated.summarize.Goals as goal
use Rattle.spdm_command.specs.Answer.{summary_of}
use Rattle.world_machine.specs.Totals.{totals_of}
use Rattle.world_machine.specs.World.{new_world}

pub new_world-requires : goal.new_world-requires
new_world-requires g c = is_sound c.args.seed c.args.count c.in-Ok.script c.in-Ok.ensures

pub returns-in-Err-LinkFull-clause-link_full : goal.returns-in-Err-LinkFull-clause-link_full
returns-in-Err-LinkFull-clause-link_full g c = λ line told.
    let world = new_world (set_up c.in-Ok.script) in
    is_full_at c.args.seed c.args.count c.in-Ok.script c.in-Ok.ensures c.as_slice.result.now c.as_slice.ensures
    line (c.in-Err-LinkFull.ensures.link_full world c.in-Ok-new_world.ensures line (ap Err (c.in-Err-LinkFull.field-0-is ∙ ap LinkFull (cc told)))).is

pub returns-in-Ok-write_summary-clause-whole : goal.returns-in-Ok-write_summary-clause-whole
returns-in-Ok-write_summary-clause-whole g c =
    let seed = c.args.seed in
    let count = c.args.count in
    let went = c.in-Ok-run_events.ensures.last (new_world (set_up c.in-Ok.script)) c.in-Ok-new_world.ensures in
    let last = last_stands seed count c.in-Ok.script c.in-Ok.ensures c.as_slice.result.now c.as_slice.ensures c.run_events.new.world went in
    c.in-Ok-write_summary.ensures.whole (last_world (generated seed count)) last

pub returns-in-Ok-write_summary-clause-last : goal.returns-in-Ok-write_summary-clause-last
returns-in-Ok-write_summary-clause-last g c =
    let went = c.in-Ok-run_events.ensures.last (new_world (set_up c.in-Ok.script)) c.in-Ok-new_world.ensures in
    last_stands c.args.seed c.args.count c.in-Ok.script c.in-Ok.ensures c.as_slice.result.now c.as_slice.ensures c.run_events.new.world went

pub returns-in-Ok-write_summary-clause-room : goal.returns-in-Ok-write_summary-clause-room
returns-in-Ok-write_summary-clause-room g c =
    let none = c.in-Ok-run_events.ensures.room (new_world (set_up c.in-Ok.script)) c.in-Ok-new_world.ensures in
    has_room c.args.seed c.args.count c.in-Ok.script c.in-Ok.ensures c.as_slice.result.now c.as_slice.ensures none

pub returns-in-Ok-write_summary-clause-prefix : goal.returns-in-Ok-write_summary-clause-prefix
returns-in-Ok-write_summary-clause-prefix g c =
    let seed = c.args.seed in
    let count = c.args.count in
    let world = new_world (set_up c.in-Ok.script) in
    let went = c.in-Ok-run_events.ensures.last world c.in-Ok-new_world.ensures in
    let none = c.in-Ok-run_events.ensures.room world c.in-Ok-new_world.ensures in
    let last = last_stands seed count c.in-Ok.script c.in-Ok.ensures c.as_slice.result.now c.as_slice.ensures c.run_events.new.world went in
    summary_whole (g.K.Sink.contents c.args.sink.now) (g.K.Sink.contents c.write_summary.new.sink)
    (summary_of seed count (totals_of (last_world (generated seed count)))) (full_line (generated seed count))
    (has_room seed count c.in-Ok.script c.in-Ok.ensures c.as_slice.result.now c.as_slice.ensures none)
    (c.in-Ok-write_summary.ensures.whole (last_world (generated seed count)) last)

pub returns-clause-prefix : goal.returns-clause-prefix
returns-clause-prefix g c =
    let seed = c.args.seed in
    let count = c.args.count in
    let world = new_world (set_up c.in-Ok.script) in
    let went = c.in-Ok-run_events.ensures.last world c.in-Ok-new_world.ensures in
    let none = c.in-Ok-run_events.ensures.room world c.in-Ok-new_world.ensures in
    let last = last_stands seed count c.in-Ok.script c.in-Ok.ensures c.as_slice.result.now c.as_slice.ensures c.run_events.new.world went in
    summary_prefix (g.K.Sink.contents c.args.sink.now) (g.K.Sink.contents c.write_summary.new.sink)
    (summary_of seed count (totals_of (last_world (generated seed count)))) (full_line (generated seed count))
    (has_room seed count c.in-Ok.script c.in-Ok.ensures c.as_slice.result.now c.as_slice.ensures none)
    (c.in-Err-WriteFault-write_summary.ensures.prefix (last_world (generated seed count)) last)
