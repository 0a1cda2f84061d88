use Rattle.std.proofs.Common.{◌∙◌, List, ℕ, ap, subst, sym}
use Rattle.attestor.proofs.Outstanding.{given_quiet, given_waits}
use Rattle.attestor.proofs.Steps.{given_decided, given_open}
use Rattle.attestor.specs.Attesting.{attesting_given, follows, with_requester}
use Rattle.attestor.specs.Standing.{IsGiven, waits, waits_after}
use Rattle.requester_machine.specs.Requesting.{requester_given}
use Rattle.spdm_grammar.specs.declared.told.event.Event.{Event}
use Rattle.attestor.proofs.attestor.Attestor.on_packet.Goals as goal

pub returns-then-self-clause-given : goal.returns-then-self-clause-given
unfolding attesting_given
returns-then-self-clause-given c = λ a stands.
    let heard = c.hear-event.ensures.heard a stands in
    given_decided a (requester_given a.requester c.args.packet.now) a.decision c.hear-event.new.out c.hear-event.new.self (sym stands.decided ∙ sym c.hear-event.ensures.decided ∙ c.if-self.true) heard.sent heard.stands

pub returns-then-self-clause-silent : goal.returns-then-self-clause-silent
returns-then-self-clause-silent c = λ a stands failed.
    (c.hear-event.ensures.heard a stands).sent ∙ (given_quiet a.requester c.args.packet.now (stands.rests failed)).0

pub returns-clause-given : goal.returns-clause-given
unfolding attesting_given
returns-clause-given c = λ a stands.
    let step = requester_given a.requester c.args.packet.now in
    let next = with_requester a step.after in
    let heard = c.hear-event.ensures.heard a stands in
    let none = sym stands.decided ∙ sym c.hear-event.ensures.decided ∙ c.if-self.false in
    let out = given_waits a.requester c.args.packet.now ∙ ap (λ (e : Event). waits_after e (waits a)) (sym heard.event) in
    let given = c.follow.ensures next (waits a) heard.stands none out in
    given_open a step a.decision c.follow.result c.follow.new.out c.follow.new.self none
    (subst (λ (e : Event). IsGiven (follows next step.sent e) c.follow.result c.follow.new.out c.follow.new.self) heard.event
    (subst (λ (l : List (List ℕ)). IsGiven (follows next l c.hear-event.result) c.follow.result c.follow.new.out c.follow.new.self) heard.sent given))
