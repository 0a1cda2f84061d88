use Rattle.std.proofs.Common.{List, None, Some, ℕ, subst}
use Rattle.requester_core.proofs.SlotLaws.{finish_lost, finish_opened, finishing_asks, finishing_shows, finishing_took}
use Rattle.requester_core.specs.RecordOutcome.{IsStepped}
use Rattle.requester_core.specs.Slot.{IsFinishingSlot}
use Rattle.requester_core.specs.declared.in_sessions.record_outcome.RecordOutcome.TheVariants as seen
use Rattle.requester_core.specs.declared.in_sessions.slot.Slot.{Slot}
use Rattle.requester_core.specs.declared.in_sessions.slot.Slot.TheVariants as slot
use Rattle.psk_session.specs.Finished.{IsJudged, finished_by}
use Rattle.psk_session.specs.ReqOpen as open_state
use Rattle.requester_machine.specs.Message.{Ask}
use Rattle.requester_machine.specs.Session.{Steps}
use Rattle.spdm_grammar.specs.declared.told.event.Event.TheVariants as event
use Rattle.spdm_grammar.specs.declared.told.event.Finished.TheVariants as finished
use Rattle.requester_core.proofs.in_sessions.slot.Slot.finish.Goals as goal

pub returns-in-Open : goal.returns-in-Open
returns-in-Open c = λ psk s a pad is waits.
    let sealed : List ℕ = c.args.sealed.now in
    let state = c.in-Finishing.state in
    let f = subst (λ (x : Slot). IsFinishingSlot x psk s) c.in-Finishing.is is in
    let shows = finishing_shows state psk s c.view.result f (c.view.ensures psk f.negotiation f.exchange f.answer f.pad f.stands) in
    let took = finishing_took state psk s f (λ (x : Steps). IsJudged psk x sealed None × open_state.StandsFor c.in-Open.open psk (finished_by psk x sealed)) (c.in-Open.ensures psk f.negotiation f.exchange f.answer f.pad f.stands) in
    subst (λ (b : Ask). IsStepped psk s b sealed pad (slot.Live c.into_session.result) (seen.Rests (event.Done (finished.Opened c.view.result.id)))) (finishing_asks state psk s a f waits)
    (finish_opened psk s sealed pad c.view.result.id shows c.into_session.result took.0 (c.into_session.ensures psk (finished_by psk s sealed) took.1))

pub returns-in-Bad : goal.returns-in-Bad
returns-in-Bad c = λ psk s a pad is waits.
    let sealed : List ℕ = c.args.sealed.now in
    let state = c.in-Finishing.state in
    let f = subst (λ (x : Slot). IsFinishingSlot x psk s) c.in-Finishing.is is in
    let shows = finishing_shows state psk s c.view.result f (c.view.ensures psk f.negotiation f.exchange f.answer f.pad f.stands) in
    let judged = finishing_took state psk s f (λ (x : Steps). IsJudged psk x sealed (Some c.in-Bad.fault)) (c.in-Bad.ensures psk f.negotiation f.exchange f.answer f.pad f.stands) in
    subst (λ (b : Ask). IsStepped psk s b sealed pad slot.Empty (seen.Ends (event.Lost c.view.result.id c.in-Bad.fault))) (finishing_asks state psk s a f waits)
    (finish_lost psk s sealed pad c.view.result.id shows c.in-Bad.fault judged)
