use Rattle.std.proofs.Common.{◌≡◌, ◌∙◌, ap, subst, sym, Option}
use Rattle.check_ends.proofs.PartyPrepared.{same_party}
use Rattle.check_ends.proofs.WalkRows.{walk_round}
use Rattle.check_ends.specs.Conversation as conversations
use Rattle.check_laws.proofs.KeptAnswers.{kept_is_restored}
use Rattle.check_laws.specs.Keeping.{restored}
use Rattle.check_laws.specs.Order.{body_in}
use Rattle.check_laws.specs.RepliesShown.{responder_for}
use Rattle.check_fetched_ends.proofs.EndsLeft.{sent_rest}
use Rattle.check_fetched_ends.proofs.EndsPrepared.{party_prepared, talk_prepared}
use Rattle.check_fetched_ends.proofs.EndsReplied.{none_sent}
use Rattle.check_fetched_ends.proofs.LargeRecords.{none_asked}
use Rattle.check_fetched_ends.proofs.judged_ends.JudgedEnds.replies_at_rest.Goals as goal
use Rattle.check_laws.specs.declared.sending_large.large_request.LargeRequest.{LargeRequest}

pub returns-then-is_some-clause-told : goal.returns-then-is_some-clause-told
returns-then-is_some-clause-told c = λ w q older rows packet route at few byte round set_up why rest stands table.
    let talk = c.args.self.now.talk in
    sent_rest w q older rows packet route c.args.answer.now c.replies.new.self c.args.self.now.fetched rest c.replies.new.table talk.party talk.large (sym c.is_some.ensures ∙ c.if-is_some.true) stands c.replies.result
    (c.replies.ensures.told w q older rows packet route at few byte round set_up why stands table)

pub returns-then-asks-clause-told : goal.returns-then-asks-clause-told
returns-then-asks-clause-told c = λ w q older rows packet route at few byte round set_up why rest stands table.
    let talk = c.args.self.now.talk in
    let none = none_sent talk.large (sym c.is_some.ensures ∙ c.if-is_some.false) in
    let ready = talk_prepared talk.party c.prepare.new.self c.prepare.ensures.same talk.large none w q older rows stands in
    c.begins_session.ensures.told w q older rows packet route at few byte round set_up why rest none ready table

pub returns-clause-told : goal.returns-clause-told
returns-clause-told c = λ w q older rows packet route at few byte round set_up why rest stands table.
    let talk = c.args.self.now.talk in
    let none = none_sent talk.large (sym c.is_some.ensures ∙ c.if-is_some.false) in
    let there = subst (λ (o : Option LargeRequest). conversations.StandsAs talk.party o w q older rows) none stands in
    let k = there.0 in
    let now : c.args.round.now ≡ k.round = round ∙ sym (walk_round w q older (restored k) (kept_is_restored w q older k there.1).0) in
    let ready = c.prepare.new.self in
    let coming = party_prepared w q older k there.1 few rows talk.party ready c.args.round.now c.body.result.now c.body.ensures there.2 c.prepare.ensures.coming in
    let unasked = sym (c.asks.ensures (responder_for w k) k.responder (body_in c.args.round.now) coming) ∙ c.if-asks.false in
    let other = none_asked w k route.tag c.args.answer.now (body_in c.args.round.now) (λ x is. ap body_in (now ∙ is)) unasked in
    c.begins_other.ensures.told w q older rows packet route k at few byte round set_up why rest none there.1 other (same_party talk.party ready c.prepare.ensures.same w q k rows there.2) coming table
