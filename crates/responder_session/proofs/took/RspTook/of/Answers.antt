use Rattle.std.proofs.Common.{subst}
use Rattle.responder_session.proofs.Taken.{state_after}
use Rattle.responder_session.specs.EndedTook.{IsEndedTold}
use Rattle.responder_session.specs.Took.{IsTold, turn_in, reply_in}
use Rattle.responder_session.specs.declared.told.RspTold.{RspTold}
use Rattle.responder_session.proofs.took.RspTook.of.Goals as goal

pub returns-in-Moved-clause-live : goal.returns-in-Moved-clause-live
returns-in-Moved-clause-live c = λ r s f sealed sizes told.
    let h = subst (λ (y : RspTold). IsTold r s f sealed c.args.session y) c.in-Moved.is told in
    (h.0, h.1, state_after c.args.session c.of-state.result r s sealed (turn_in r s f sealed) (reply_in r s f sealed) sizes c.of-state.ensures.live c.of-state.ensures.ended h.2, h.3)

pub returns-in-Same-clause-ended : goal.returns-in-Same-clause-ended
returns-in-Same-clause-ended c = λ id old answer sealed told.
    let h = subst (λ (y : RspTold). IsEndedTold id old answer sealed c.args.session y) c.in-Same.is told in
    (h.0, c.of-state.ensures.ended id old answer h.1)

pub returns-in-Unopened-clause-ended : goal.returns-in-Unopened-clause-ended
returns-in-Unopened-clause-ended c = λ id old answer sealed told.
    let h = subst (λ (y : RspTold). IsEndedTold id old answer sealed c.args.session y) c.in-Unopened.is told in
    (h.0, h.1, c.of-state.ensures.ended id old answer h.2)
