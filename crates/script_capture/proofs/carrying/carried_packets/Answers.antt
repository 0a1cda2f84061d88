use Rattle.std.proofs.Common.{◌≡◌, IfErr, IfOk, ℕ, List, subst}
use Rattle.script_capture.proofs.carrying.carried_packets.Goals as goal
use Rattle.script_capture.specs.Carried.{carried_from}
use Rattle.script_capture.specs.Written.{HaveNone}
use Rattle.script_capture.specs.declared.fault.CaptureFault.{CaptureFault}
use Rattle.script_laws.specs.Scripts.{entries_in, set_up}
use Rattle.script_text.specs.declared.events.event.Entry.{Entry}
use Rattle.world_machine.specs.World.{new_world}

pub returns-clause-packets : goal.returns-clause-packets
returns-clause-packets c =
    subst (λ (e : List Entry). IfOk c.carry_all.result (λ (packets : List (List ℕ)). packets ≡ carried_from (new_world (set_up c.args.script.now)) (entries_in e))) c.as_slice.ensures
    (c.carry_all.ensures.packets (new_world (set_up c.args.script.now)) c.in-Ok.ensures)

pub returns-clause-cause : goal.returns-clause-cause
returns-clause-cause c =
    subst (λ (e : List Entry). IfErr c.carry_all.result (λ (fault : CaptureFault). HaveNone (new_world (set_up c.args.script.now)) e fault)) c.as_slice.ensures
    (c.carry_all.ensures.cause (new_world (set_up c.args.script.now)) c.in-Ok.ensures)
