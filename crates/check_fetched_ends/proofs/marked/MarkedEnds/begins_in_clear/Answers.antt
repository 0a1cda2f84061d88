use Rattle.std.proofs.Common.{◌≡◌, ◌==◌, ◌∙◌, ℕ, List, Option, None, Result, subst, sym, true, length}
use Rattle.std.specs.Prelude.{IfOk, slice_index}
use Rattle.check_ends.proofs.InTurn.{answers_in_turn}
use Rattle.check_ends.proofs.WalkRows.{walk_round}
use Rattle.check_ends.specs.Conversation as conversations
use Rattle.check_ends.specs.declared.party.Party.{Party}
use Rattle.check_laws.proofs.KeptAnswers.{kept_is_restored}
use Rattle.check_laws.proofs.PairWalks.{walks_setup}
use Rattle.check_laws.specs.Keeping.{restored}
use Rattle.check_laws.specs.Order.{answered_why, body_in}
use Rattle.check_laws.specs.Rows.{StandsForRows}
use Rattle.check_laws.specs.declared.verdict.Seen.{Seen}
use Rattle.responder_core.specs.Setup.{IsSetUp}
use Rattle.check_fetched_ends.proofs.ClearAsked.{clear_asked}
use Rattle.check_fetched_ends.proofs.MarkedAgain.{fetched_on, none_of_each, passed_on}
use Rattle.check_fetched_ends.proofs.marked.MarkedEnds.begins_in_clear.Goals as goal
use Rattle.check_fetched_ends.specs.JudgedEnds as judged
use Rattle.check_fetched_ends.specs.LateBegins.{IsBegunLate}
use Rattle.check_fetched_ends.specs.declared.fetch.Fetch.{Fetch}
use Rattle.check_fetched_ends.specs.declared.clear_fetch.held_begins.BegunHeld.{BegunHeld}
use Rattle.check_laws.specs.declared.sending_large.large_request.LargeRequest.{LargeRequest}
use Rattle.mctp_framing.specs.Gathering.Gathered.{Whole}
use Rattle.requester_machine.specs.Holds.{Holds}
use Rattle.requester_machine.specs.Setup.{ReqSetup}
use Rattle.requester_machine.specs.UnderWay.{HasSizes}
use Rattle.responder_machine.specs.Setup.{towards}
use Rattle.spdm_basis.specs.declared.OutOfMemory.{OutOfMemory}
use Rattle.capture_machine.specs.Rounds.{Round}
use Rattle.world_machine.specs.Setup.{known_of}

pub returns-in-Not-clause-told : goal.returns-in-Not-clause-told
returns-in-Not-clause-told c = λ w q older rows packet route at few byte round set_up why type rest none stands table.
    let answer : List ℕ = c.args.answer.now in
    let ends = c.args.self.now.ends in
    let talk = ends.talk in
    let there = subst (λ (o : Option Fetch). judged.StandsAs talk o w q older rows) rest stands.0 in
    let own = subst (λ (x : Option LargeRequest). conversations.StandsAs talk.party x w q older rows) none there in
    let k = own.0 in
    let keeps = own.1 in
    let walk = (kept_is_restored w q older k keeps).0 in
    let now : c.args.round.now ≡ k.round = round ∙ sym (walk_round w q older (restored k) walk) in
    let towards_it = subst (λ (s : ReqSetup). IsSetUp c.args.setup.now (towards w.responder (known_of s))) (sym (walks_setup w q older (restored k) walk)) set_up in
    let right = subst (λ (o : Option Round). answered_why o (Whole route answer) ≡ None) now why in
    let new = c.begins_late.new.party in
    let after = c.begins_late.new.table in
    let begun = subst (λ (x : Result BegunHeld OutOfMemory). IfOk x (λ y. IsBegunLate w q older rows k route answer y talk.party new c.args.table.now after)) c.in_ok-begins_late.was
    (c.begins_late.ensures.told w q older rows k route keeps few byte now towards_it right own.2 stands.1 table) in
    let is = subst (λ (x : BegunHeld). IsBegunLate w q older rows k route answer x talk.party new c.args.table.now after) c.in-Not.is begun in
    let stands_on = subst (λ (p : Party). judged.StandsAs (record talk { party = p }) ends.fetched w q older rows) (sym is.1) stands.0 in
    let table_on = subst (λ (t : List Seen). StandsForRows t w (length older) rows) (sym is.2) table in
    let turn = answers_in_turn k route answer right in
    let clear = subst (λ (o : Option Round). (slice_index (body_in o) 0 == 5) ≡ true) (now ∙ turn.answers.0) type in
    let asker = own.2.asker in
    let holds = subst (λ (x : ReqSetup). Holds x (restored k).requester) (sym asker.setup) asker.stands.clear_state.holds in
    let sizes = subst HasSizes (sym asker.setup) asker.kept.sizes in
    let asked = clear_asked w q older packet route answer at byte k keeps turn clear holds sizes own.2.answerer.sizes (λ other keeps_other left. none_of_each w q older rows packet route answer k keeps is.0 other keeps_other left) in
    c.judges.ensures.told w q older rows packet route at few byte round set_up why asked (stands_on, stands.1) table_on

pub returns-in-Passed-clause-told : goal.returns-in-Passed-clause-told
returns-in-Passed-clause-told c = λ w q older rows packet route at few byte round set_up why type rest none stands table.
    let answer : List ℕ = c.args.answer.now in
    let ends = c.args.self.now.ends in
    let talk = ends.talk in
    let there = subst (λ (o : Option Fetch). judged.StandsAs talk o w q older rows) rest stands.0 in
    let own = subst (λ (x : Option LargeRequest). conversations.StandsAs talk.party x w q older rows) none there in
    let k = own.0 in
    let keeps = own.1 in
    let walk = (kept_is_restored w q older k keeps).0 in
    let now : c.args.round.now ≡ k.round = round ∙ sym (walk_round w q older (restored k) walk) in
    let towards_it = subst (λ (s : ReqSetup). IsSetUp c.args.setup.now (towards w.responder (known_of s))) (sym (walks_setup w q older (restored k) walk)) set_up in
    let right = subst (λ (o : Option Round). answered_why o (Whole route answer) ≡ None) now why in
    let new = c.begins_late.new.party in
    let after = c.begins_late.new.table in
    let begun = subst (λ (x : Result BegunHeld OutOfMemory). IfOk x (λ y. IsBegunLate w q older rows k route answer y talk.party new c.args.table.now after)) c.in_ok-begins_late.was
    (c.begins_late.ensures.told w q older rows k route keeps few byte now towards_it right own.2 stands.1 table) in
    let is = subst (λ (x : BegunHeld). IsBegunLate w q older rows k route answer x talk.party new c.args.table.now after) c.in-Passed.is begun in
    passed_on w q older rows packet route answer at k keeps talk none ends.fetched rest c.args.self.now.marks stands.1 new after is.0 is.1 is.2 is.3

pub returns-in-Fetching-clause-told : goal.returns-in-Fetching-clause-told
returns-in-Fetching-clause-told c = λ w q older rows packet route at few byte round set_up why type rest none stands table.
    let answer : List ℕ = c.args.answer.now in
    let ends = c.args.self.now.ends in
    let talk = ends.talk in
    let there = subst (λ (o : Option Fetch). judged.StandsAs talk o w q older rows) rest stands.0 in
    let own = subst (λ (x : Option LargeRequest). conversations.StandsAs talk.party x w q older rows) none there in
    let k = own.0 in
    let keeps = own.1 in
    let walk = (kept_is_restored w q older k keeps).0 in
    let now : c.args.round.now ≡ k.round = round ∙ sym (walk_round w q older (restored k) walk) in
    let towards_it = subst (λ (s : ReqSetup). IsSetUp c.args.setup.now (towards w.responder (known_of s))) (sym (walks_setup w q older (restored k) walk)) set_up in
    let right = subst (λ (o : Option Round). answered_why o (Whole route answer) ≡ None) now why in
    let new = c.begins_late.new.party in
    let after = c.begins_late.new.table in
    let begun = subst (λ (x : Result BegunHeld OutOfMemory). IfOk x (λ y. IsBegunLate w q older rows k route answer y talk.party new c.args.table.now after)) c.in_ok-begins_late.was
    (c.begins_late.ensures.told w q older rows k route keeps few byte now towards_it right own.2 stands.1 table) in
    let is = subst (λ (x : BegunHeld). IsBegunLate w q older rows k route answer x talk.party new c.args.table.now after) c.in-Fetching.is begun in
    fetched_on w q older rows packet route answer at k keeps talk none ends.fetched rest c.args.self.now.marks stands.1 new after c.in-Fetching.held is.0 is.1 is.2 is.3 is.4

pub returns-in-Not-clause-memory : goal.returns-in-Not-clause-memory
returns-in-Not-clause-memory c = c.judges.ensures.memory
