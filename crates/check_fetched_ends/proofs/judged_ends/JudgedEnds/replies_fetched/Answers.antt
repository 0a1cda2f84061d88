use Rattle.std.proofs.Common.{◌≡◌, ◌∙◌, ap, subst, sym, Option, None, Result, Ok}
use Rattle.std.specs.Prelude.{IfOk}
use Rattle.mctp_framing.specs.Gathering.Gathered.{Whole}
use Rattle.requester_machine.specs.Setup.{ReqSetup}
use Rattle.responder_machine.specs.Setup.{towards}
use Rattle.spdm_grammar.specs.declared.told.why.Why as declared
use Rattle.spdm_basis.specs.declared.OutOfMemory.{OutOfMemory}
use Rattle.check_ends.proofs.WalkRows.{walk_round}
use Rattle.check_laws.proofs.PairWalks.{walks_setup}
use Rattle.check_laws.specs.Order.{answered_why}
use Rattle.responder_core.specs.Setup.{IsSetUp}
use Rattle.check_fetched_ends.proofs.EndsReplied.{ended_on, goes_on, refused_on, turns_on}
use Rattle.check_fetched_ends.proofs.judged_ends.JudgedEnds.replies_fetched.Goals as goal
use Rattle.check_fetched_ends.specs.Fetched.{IsRepliedTo}
use Rattle.check_fetched_ends.specs.InSession.{IsFetchedIn}
use Rattle.check_fetched_ends.specs.declared.fetch.Fetch.TheVariants as fetch
use Rattle.check_fetched_ends.specs.declared.upon.Upon.{Upon}
use Rattle.check_late_laws.specs.Fetching.{dialogue_of}
use Rattle.capture_machine.specs.Rounds.{Round}
use Rattle.world_machine.specs.Setup.{known_of}

pub returns-in-Ok-Fetched-clause-told : goal.returns-in-Ok-Fetched-clause-told
returns-in-Ok-Fetched-clause-told c = λ w q older rows packet route f at few byte round set_up why rest own is table.
    let answer = c.args.answer.now in
    let u = own.stands.0 in
    let walk = own.all u own.stands.1 in
    let now : c.args.round.now ≡ f.kept.round = round ∙ sym (walk_round w q older (dialogue_of f u) walk) in
    let towards_it = subst (λ (s : ReqSetup). IsSetUp c.args.setup.now (towards w.responder (known_of s))) (sym (walks_setup w q older (dialogue_of f u) walk)) set_up in
    let right = subst (λ (o : Option Round). answered_why o (Whole route answer) ≡ None) now why in
    let party = c.replies_in_session.new.party in
    let behind = c.replies_in_session.new.fetched in
    let told = subst (λ (x : Result (Result Upon declared.Why) OutOfMemory). IfOk x (λ y. IsRepliedTo w q older rows f route answer y party (λ next among. IsFetchedIn party behind w q next among) c.replies_in_session.new.table)) c.in_ok-replies_in_session.was
    (c.replies_in_session.ensures.told w q older rows f route own few byte now towards_it right is table) in
    let upon = subst (λ (x : Result Upon declared.Why). IsRepliedTo w q older rows f route answer x party (λ next among. IsFetchedIn party behind w q next among) c.replies_in_session.new.table) (c.in-Ok-Fetched.is ∙ ap Ok c.in-Ok-Fetched.field-0-is) told in
    goes_on w q older rows packet route answer at f own (record c.args.self.now.talk { party = party }) (fetch.InSession behind) rest c.replies_in_session.new.table upon

pub returns-in-Ok-Turned-clause-told : goal.returns-in-Ok-Turned-clause-told
returns-in-Ok-Turned-clause-told c = λ w q older rows packet route f at few byte round set_up why rest own is table.
    let answer = c.args.answer.now in
    let u = own.stands.0 in
    let walk = own.all u own.stands.1 in
    let now : c.args.round.now ≡ f.kept.round = round ∙ sym (walk_round w q older (dialogue_of f u) walk) in
    let towards_it = subst (λ (s : ReqSetup). IsSetUp c.args.setup.now (towards w.responder (known_of s))) (sym (walks_setup w q older (dialogue_of f u) walk)) set_up in
    let right = subst (λ (o : Option Round). answered_why o (Whole route answer) ≡ None) now why in
    let party = c.replies_in_session.new.party in
    let behind = c.replies_in_session.new.fetched in
    let told = subst (λ (x : Result (Result Upon declared.Why) OutOfMemory). IfOk x (λ y. IsRepliedTo w q older rows f route answer y party (λ next among. IsFetchedIn party behind w q next among) c.replies_in_session.new.table)) c.in_ok-replies_in_session.was
    (c.replies_in_session.ensures.told w q older rows f route own few byte now towards_it right is table) in
    let upon = subst (λ (x : Result Upon declared.Why). IsRepliedTo w q older rows f route answer x party (λ next among. IsFetchedIn party behind w q next among) c.replies_in_session.new.table) (c.in-Ok-Turned.is ∙ ap Ok c.in-Ok-Turned.field-0-is) told in
    turns_on w q older rows packet route answer at f own (record c.args.self.now.talk { party = party }) (fetch.InSession behind) rest c.replies_in_session.new.table upon

pub returns-in-Ok-Ended-clause-told : goal.returns-in-Ok-Ended-clause-told
returns-in-Ok-Ended-clause-told c = λ w q older rows packet route f at few byte round set_up why rest own is table.
    let answer = c.args.answer.now in
    let u = own.stands.0 in
    let walk = own.all u own.stands.1 in
    let now : c.args.round.now ≡ f.kept.round = round ∙ sym (walk_round w q older (dialogue_of f u) walk) in
    let towards_it = subst (λ (s : ReqSetup). IsSetUp c.args.setup.now (towards w.responder (known_of s))) (sym (walks_setup w q older (dialogue_of f u) walk)) set_up in
    let right = subst (λ (o : Option Round). answered_why o (Whole route answer) ≡ None) now why in
    let party = c.replies_in_session.new.party in
    let behind = c.replies_in_session.new.fetched in
    let told = subst (λ (x : Result (Result Upon declared.Why) OutOfMemory). IfOk x (λ y. IsRepliedTo w q older rows f route answer y party (λ next among. IsFetchedIn party behind w q next among) c.replies_in_session.new.table)) c.in_ok-replies_in_session.was
    (c.replies_in_session.ensures.told w q older rows f route own few byte now towards_it right is table) in
    let upon = subst (λ (x : Result Upon declared.Why). IsRepliedTo w q older rows f route answer x party (λ next among. IsFetchedIn party behind w q next among) c.replies_in_session.new.table) (c.in-Ok-Ended.is ∙ ap Ok c.in-Ok-Ended.field-0-is) told in
    ended_on w q older rows packet route answer at f own (record c.args.self.now.talk { party = party }) (fetch.InSession behind) rest c.replies_in_session.new.table upon

pub returns-in-Err-clause-told : goal.returns-in-Err-clause-told
returns-in-Err-clause-told c = λ w q older rows packet route f at few byte round set_up why rest own is table.
    let answer = c.args.answer.now in
    let u = own.stands.0 in
    let walk = own.all u own.stands.1 in
    let now : c.args.round.now ≡ f.kept.round = round ∙ sym (walk_round w q older (dialogue_of f u) walk) in
    let towards_it = subst (λ (s : ReqSetup). IsSetUp c.args.setup.now (towards w.responder (known_of s))) (sym (walks_setup w q older (dialogue_of f u) walk)) set_up in
    let right = subst (λ (o : Option Round). answered_why o (Whole route answer) ≡ None) now why in
    let party = c.replies_in_session.new.party in
    let behind = c.replies_in_session.new.fetched in
    let told = subst (λ (x : Result (Result Upon declared.Why) OutOfMemory). IfOk x (λ y. IsRepliedTo w q older rows f route answer y party (λ next among. IsFetchedIn party behind w q next among) c.replies_in_session.new.table)) c.in_ok-replies_in_session.was
    (c.replies_in_session.ensures.told w q older rows f route own few byte now towards_it right is table) in
    let upon = subst (λ (x : Result Upon declared.Why). IsRepliedTo w q older rows f route answer x party (λ next among. IsFetchedIn party behind w q next among) c.replies_in_session.new.table) c.in-Err.is told in
    refused_on w q older rows packet route answer at f own (record c.args.self.now.talk { party = party }) (fetch.InSession behind) rest c.replies_in_session.new.table c.args.self.now.fetched c.in-Err.why upon
