use Rattle.std.proofs.Common.{◌≡◌, subst}
use Rattle.std.specs.Prelude.{MatchOption}
use Rattle.responder_machine.specs.Setup.{inventory_of}
use Rattle.responder_session.proofs.Allowed.{measure_in_open}
use Rattle.responder_session.proofs.requests.measure.Goals as goal

pub returns-in-Some : goal.returns-in-Some
returns-in-Some c = λ r s f blocks given place a.
    let at = measure_in_open r s c.args.message.now c.args.op a in
    c.measure_of.ensures r s f (subst (λ x. MatchOption x ⊥ (λ i. inventory_of r ≡ i.now)) c.in-Some.is (blocks at)) (given at).free place a

pub returns-in-None : goal.returns-in-None
returns-in-None c = λ r s f blocks given place a.
    absurd (subst (λ x. MatchOption x ⊥ (λ i. inventory_of r ≡ i.now)) c.in-None.is (blocks (measure_in_open r s c.args.message.now c.args.op a)))
