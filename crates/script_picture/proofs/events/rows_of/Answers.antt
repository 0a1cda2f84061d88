use Rattle.std.proofs.Common.{◌≡◌, IfErr, IfOk, List, subst}
use Rattle.script_laws.specs.Scripts.{set_up}
use Rattle.script_picture.proofs.events.rows_of.Goals as goal
use Rattle.script_picture.specs.Drawn.{HaveNone}
use Rattle.script_picture.specs.Rows.{rows_from}
use Rattle.script_picture.specs.declared.fault.DrawFault.{DrawFault}
use Rattle.script_text.specs.declared.events.event.Entry.{Entry}
use Rattle.sequence_picture.specs.declared.rows.Row.{Row}
use Rattle.world_machine.specs.World.{new_world}

pub returns-clause-rows : goal.returns-clause-rows
returns-clause-rows c =
    let config = c.args.script.now.config in
    let w = new_world (set_up c.args.script.now) in
    subst (λ (e : List Entry). IfOk c.add_events.result (λ (rows : List Row). rows ≡ rows_from config e w e)) c.as_slice.ensures (c.add_events.ensures.rows w c.in-Ok.ensures)

pub returns-clause-cause : goal.returns-clause-cause
returns-clause-cause c =
    let config = c.args.script.now.config in
    let w = new_world (set_up c.args.script.now) in
    subst (λ (e : List Entry). IfErr c.add_events.result (λ (fault : DrawFault). HaveNone config e w e fault)) c.as_slice.ensures (c.add_events.ensures.cause w c.in-Ok.ensures)
