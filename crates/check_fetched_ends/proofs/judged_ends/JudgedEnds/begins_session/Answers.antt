use Rattle.std.proofs.Common.{◌≡◌, ◌∙◌, subst, sym, length, List, Option, None, Result}
use Rattle.std.specs.Prelude.{IfOk}
use Rattle.mctp_framing.specs.Gathering.Gathered.{Whole}
use Rattle.requester_machine.specs.Setup.{ReqSetup}
use Rattle.responder_machine.specs.Setup.{towards}
use Rattle.spdm_basis.specs.declared.OutOfMemory.{OutOfMemory}
use Rattle.check_ends.proofs.PartyPrepared.{same_party}
use Rattle.check_ends.proofs.WalkRows.{walk_round}
use Rattle.check_ends.specs.Conversation as conversations
use Rattle.check_laws.proofs.KeptAnswers.{kept_is_restored}
use Rattle.check_laws.proofs.PairWalks.{walks_setup}
use Rattle.check_laws.specs.Keeping.{restored}
use Rattle.check_laws.specs.Order.{answered_why}
use Rattle.check_laws.specs.Rows.{StandsForRows}
use Rattle.check_laws.specs.declared.verdict.Seen.{Seen}
use Rattle.responder_core.specs.Setup.{IsSetUp}
use Rattle.check_fetched_ends.proofs.EndsLeft.{told_in}
use Rattle.check_fetched_ends.proofs.EndsPrepared.{party_prepared}
use Rattle.check_fetched_ends.proofs.EndsReplied.{begun_on}
use Rattle.check_fetched_ends.proofs.judged_ends.JudgedEnds.begins_session.Goals as goal
use Rattle.check_fetched_ends.specs.BegunIn.{IsBegunIn}
use Rattle.check_fetched_ends.specs.declared.session_fetch.in_session_begins.BegunIn.{BegunIn}
use Rattle.check_fetched_ends.specs.declared.fetch.Fetch.TheVariants as fetch
use Rattle.check_laws.specs.declared.sending_large.large_request.LargeRequest.{LargeRequest}
use Rattle.capture_machine.specs.Rounds.{Round}
use Rattle.world_machine.specs.Setup.{known_of}

pub returns-in-Not-clause-told : goal.returns-in-Not-clause-told
returns-in-Not-clause-told c = λ w q older rows packet route at few byte round set_up why rest none stands table.
    let answer = c.args.answer.now in
    let talk = c.args.self.now.talk in
    let there = subst (λ (o : Option LargeRequest). conversations.StandsAs talk.party o w q older rows) none stands in
    let k = there.0 in
    let keeps = there.1 in
    let walk = (kept_is_restored w q older k keeps).0 in
    let now : c.args.round.now ≡ k.round = round ∙ sym (walk_round w q older (restored k) walk) in
    let towards_it = subst (λ (s : ReqSetup). IsSetUp c.args.setup.now (towards w.responder (known_of s))) (sym (walks_setup w q older (restored k) walk)) set_up in
    let right = subst (λ (o : Option Round). answered_why o (Whole route answer) ≡ None) now why in
    let new = c.begins_in_session.new.party in
    let after = c.begins_in_session.new.table in
    let begun = subst (λ (x : Result BegunIn OutOfMemory). IfOk x (λ y. IsBegunIn w q older rows k route answer y new c.args.table.now after)) c.in_ok-begins_in_session.was
    (c.begins_in_session.ensures.told w q older rows k route keeps few byte now towards_it right there.2 table) in
    let is = subst (λ (x : BegunIn). IsBegunIn w q older rows k route answer x new c.args.table.now after) c.in-Not.is begun in
    let entries = subst (λ (t : List Seen). StandsForRows t w (length older) rows) (sym is.2) table in
    let ready = c.prepare.new.self in
    let coming = party_prepared w q older k keeps few rows new ready c.args.round.now c.body.result.now c.body.ensures is.1 c.prepare.ensures.coming in
    c.begins_other.ensures.told w q older rows packet route k at few byte round set_up why rest none keeps is.0 (same_party new ready c.prepare.ensures.same w q k rows is.1) coming entries

pub returns-in-Fetching-clause-told : goal.returns-in-Fetching-clause-told
returns-in-Fetching-clause-told c = λ w q older rows packet route at few byte round set_up why rest none stands table.
    let answer = c.args.answer.now in
    let talk = c.args.self.now.talk in
    let there = subst (λ (o : Option LargeRequest). conversations.StandsAs talk.party o w q older rows) none stands in
    let k = there.0 in
    let keeps = there.1 in
    let walk = (kept_is_restored w q older k keeps).0 in
    let now : c.args.round.now ≡ k.round = round ∙ sym (walk_round w q older (restored k) walk) in
    let towards_it = subst (λ (s : ReqSetup). IsSetUp c.args.setup.now (towards w.responder (known_of s))) (sym (walks_setup w q older (restored k) walk)) set_up in
    let right = subst (λ (o : Option Round). answered_why o (Whole route answer) ≡ None) now why in
    let new = c.begins_in_session.new.party in
    let after = c.begins_in_session.new.table in
    let begun = subst (λ (x : Result BegunIn OutOfMemory). IfOk x (λ y. IsBegunIn w q older rows k route answer y new c.args.table.now after)) c.in_ok-begins_in_session.was
    (c.begins_in_session.ensures.told w q older rows k route keeps few byte now towards_it right there.2 table) in
    let is = subst (λ (x : BegunIn). IsBegunIn w q older rows k route answer x new c.args.table.now after) c.in-Fetching.is begun in
    begun_on w q older rows packet route answer at k is.0 (record talk { party = new }) (fetch.InSession c.in-Fetching.fetched) after keeps is.1 none is.2 is.3

pub returns-in-Told-clause-told : goal.returns-in-Told-clause-told
returns-in-Told-clause-told c = λ w q older rows packet route at few byte round set_up why rest none stands table.
    let answer = c.args.answer.now in
    let talk = c.args.self.now.talk in
    let there = subst (λ (o : Option LargeRequest). conversations.StandsAs talk.party o w q older rows) none stands in
    let k = there.0 in
    let keeps = there.1 in
    let walk = (kept_is_restored w q older k keeps).0 in
    let now : c.args.round.now ≡ k.round = round ∙ sym (walk_round w q older (restored k) walk) in
    let towards_it = subst (λ (s : ReqSetup). IsSetUp c.args.setup.now (towards w.responder (known_of s))) (sym (walks_setup w q older (restored k) walk)) set_up in
    let right = subst (λ (o : Option Round). answered_why o (Whole route answer) ≡ None) now why in
    let new = c.begins_in_session.new.party in
    let after = c.begins_in_session.new.table in
    let begun = subst (λ (x : Result BegunIn OutOfMemory). IfOk x (λ y. IsBegunIn w q older rows k route answer y new c.args.table.now after)) c.in_ok-begins_in_session.was
    (c.begins_in_session.ensures.told w q older rows k route keeps few byte now towards_it right there.2 table) in
    let is = subst (λ (x : BegunIn). IsBegunIn w q older rows k route answer x new c.args.table.now after) c.in-Told.is begun in
    told_in w q older k keeps route answer rows packet at talk none c.args.self.now.fetched rest new after is.1 c.in-Told.told is.0 is.2
