use Rattle.std.proofs.Common.{rules, ◌≡◌, ◌∙◌, ◌<◌, ℕ, List, Option, Some, None, ap, length, subst, sym, true}
use Rattle.requester_core.specs.Joined.{IsSentAs}
use Rattle.requester.proofs.Chosen.{none_upon, sent_upon}
use Rattle.requester.proofs.Tags.{heard_fits}
use Rattle.requester.proofs.hearing.hear.Goals as goal
use Rattle.requester_machine.proofs.Making.{hears_made}
use Rattle.requester_machine.specs.Does.{body_chosen, requester_hears}
use Rattle.requester_machine.specs.Shown.{sent_by}
use Rattle.spdm_machine.specs.Packets.{packets_to}
use Rattle.requester_machine.proofs.Choosing.{body_pad}

pub returns-in-Some : goal.returns-in-Some
returns-in-Some c = λ q h d part made few empty stands.
    let o = requester_hears q h c.args.route.owner c.args.route.tag c.args.bytes.now d in
    let answered = c.on_body-reaction.ensures q h (body_chosen q h d) d (c.setup.ensures q part) (body_pad q h d) few stands in
    let is : c.on_body-reaction.result.tag ≡ Some c.in-Some.tag = search rules in
    let body : List ℕ = c.on_body-reaction.new.out in
    let sends = subst (λ (t : Option ℕ). IsSentAs (sent_by o) t body) is answered.sends in
    let fits = hears_made q h c.args.route.owner c.args.route.tag c.args.bytes.now d made in
    record {
      event = answered.event;
      sent = sent_upon q (sent_by o) c.in-Some.tag body c.send.new.out sends (λ s out. heard_fits q h o c.on_body-reaction.result.event s answered.event fits.made out)
          (λ low long. c.send.ensures q part low (subst (λ (xs : List ℕ). 0 < length xs) (sym c.as_slice.ensures.value) long) ∙ ap (packets_to q.responder q.eid true c.in-Some.tag q.unit) c.as_slice.ensures.value);
      stands = answered.stands;
    }

pub returns-in_default : goal.returns-in_default
returns-in_default c = λ q h d part made few empty stands.
    let o = requester_hears q h c.args.route.owner c.args.route.tag c.args.bytes.now d in
    let answered = c.on_body-reaction.ensures q h (body_chosen q h d) d (c.setup.ensures q part) (body_pad q h d) few stands in
    let is : c.on_body-reaction.result.tag ≡ None = search rules in
    let sends = subst (λ (t : Option ℕ). IsSentAs (sent_by o) t c.on_body-reaction.new.out) is answered.sends in
    record {
      event = answered.event;
      sent = none_upon q (sent_by o) c.on_body-reaction.new.out c.args.out.now sends empty;
      stands = answered.stands;
    }
