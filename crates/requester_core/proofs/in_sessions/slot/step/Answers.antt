use Rattle.std.proofs.Common.{subst, sym}
use Rattle.requester_core.proofs.SlotLaws.{session_shows, stepped_by}
use Rattle.requester_core.specs.RecordOutcome.{IsStepped, settled}
use Rattle.requester_core.specs.declared.in_sessions.record_outcome.RecordOutcome.{RecordOutcome}
use Rattle.requester_core.specs.declared.in_sessions.slot.Slot.TheVariants as slot
use Rattle.requester_core.proofs.in_sessions.slot.step.Goals as goal

pub returns : goal.returns
returns c = λ psk s a awaits few taken.
    let new = c.take_with.new.self in
    let shows = session_shows s c.view.result (c.view.ensures.awaiting psk s a awaits taken) in
    subst (λ (l : RecordOutcome). IsStepped psk s a c.args.sealed.now c.args.pad.now (settled l (slot.Live new)) l) (sym c.led_as.ensures)
    (stepped_by psk s a c.args.sealed.now c.args.pad.now c.args.session.now new c.take_with.result c.view.result.id shows awaits (c.take_with.ensures.told psk s a awaits))
