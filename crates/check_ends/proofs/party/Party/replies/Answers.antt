use Rattle.std.proofs.Common.{◌-◌, ◌^◌, ◌<◌, subst, length, arith, List, ℕ}
use Rattle.check_laws.specs.RepliesShown.{responder_for}
use Rattle.check_requester.proofs.CarriedBy.{keeps_carries}
use Rattle.check_ends.proofs.PartyPrepared.{same_party}
use Rattle.check_ends.proofs.PartyReplied.{few_messages}
use Rattle.check_ends.proofs.party.Party.replies.Goals as goal
use Rattle.check_responder.specs.AnswerKeys.{IsComing}

pub returns-clause-told : goal.returns-clause-told
returns-clause-told c = λ w q older rows k route keeps below byte now set_up none party stands.
    let few : length older < 2 ^ 64 - 1 = omega (arith, below) in
    let r = responder_for w k in
    let new = c.prepare.new.self in
    let small = few_messages w q older k (keeps_carries w q older k keeps) few in
    let coming = subst (λ (b : List ℕ). IsComing new.coming r k.responder b) c.body.ensures (c.prepare.ensures.coming r k.responder party.answerer small) in
    c.replies_prepared.ensures.told w q older rows k route keeps below byte now set_up none (same_party c.args.self.now new c.prepare.ensures.same w q k rows party) coming stands
