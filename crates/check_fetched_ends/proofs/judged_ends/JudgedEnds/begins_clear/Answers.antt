use Rattle.std.proofs.Common.{◌≡◌, ◌∙◌, subst, sym, length, List, Option, None, Ok, Result, inl}
use Rattle.std.specs.Prelude.{IfOk}
use Rattle.mctp_framing.specs.Gathering.Gathered.{Whole}
use Rattle.requester_machine.specs.Setup.{ReqSetup}
use Rattle.responder_machine.specs.Setup.{towards}
use Rattle.spdm_basis.specs.declared.OutOfMemory.{OutOfMemory}
use Rattle.check_ends.proofs.WalkRows.{walk_round}
use Rattle.check_laws.proofs.KeptAnswers.{kept_is_restored}
use Rattle.check_laws.proofs.PairWalks.{walks_setup}
use Rattle.check_laws.specs.Keeping.{restored}
use Rattle.check_laws.specs.Order.{answered_why}
use Rattle.check_laws.specs.Rows.{StandsForRows}
use Rattle.check_laws.specs.declared.verdict.Seen.{Seen}
use Rattle.responder_core.specs.Setup.{IsSetUp}
use Rattle.check_fetched_ends.proofs.EndsLeft.{all_rest, kept_rest, no_part}
use Rattle.check_fetched_ends.proofs.EndsReplied.{begun_on}
use Rattle.check_fetched_ends.proofs.judged_ends.JudgedEnds.begins_clear.Goals as goal
use Rattle.check_fetched_ends.specs.BegunHeld.{IsBegunHeld}
use Rattle.check_fetched_ends.specs.declared.clear_fetch.held_begins.BegunHeld.{BegunHeld}
use Rattle.check_fetched_ends.specs.declared.fetch.Fetch.TheVariants as fetch
use Rattle.capture_machine.specs.Rounds.{Round}
use Rattle.world_machine.specs.Setup.{known_of}

pub returns-in-Not-clause-told : goal.returns-in-Not-clause-told
returns-in-Not-clause-told c = λ w q older rows packet route k at few byte round set_up why rest none keeps sealed party table.
    let answer = c.args.answer.now in
    let talk = c.args.self.now.talk in
    let walk = (kept_is_restored w q older k keeps).0 in
    let now : c.args.round.now ≡ k.round = round ∙ sym (walk_round w q older (restored k) walk) in
    let towards_it = subst (λ (s : ReqSetup). IsSetUp c.args.setup.now (towards w.responder (known_of s))) (sym (walks_setup w q older (restored k) walk)) set_up in
    let right = subst (λ (o : Option Round). answered_why o (Whole route answer) ≡ None) now why in
    let new = c.begins_held.new.party in
    let after = c.begins_held.new.table in
    let begun = subst (λ (x : Result BegunHeld OutOfMemory). IfOk x (λ y. IsBegunHeld w q older rows k route answer y new c.args.table.now after)) c.in_ok-begins_held.was
    (c.begins_held.ensures.told w q older rows k route keeps few byte now towards_it right party table) in
    let is = subst (λ (x : BegunHeld). IsBegunHeld w q older rows k route answer x new c.args.table.now after) c.in-Not.is begun in
    let entries = subst (λ (t : List Seen). StandsForRows t w (length older) rows) (sym is.2) table in
    all_rest w q older k keeps route answer rows packet at talk none c.args.self.now.fetched rest c.replies.new.self c.replies.new.table (no_part w q older k keeps route answer is.0 sealed) c.replies.result
    (c.replies.ensures.told w q older rows k route keeps few byte now towards_it right is.1 entries)

pub returns-in-Passed-clause-told : goal.returns-in-Passed-clause-told
returns-in-Passed-clause-told c = λ w q older rows packet route k at few byte round set_up why rest none keeps sealed party table.
    let answer = c.args.answer.now in
    let talk = c.args.self.now.talk in
    let walk = (kept_is_restored w q older k keeps).0 in
    let now : c.args.round.now ≡ k.round = round ∙ sym (walk_round w q older (restored k) walk) in
    let towards_it = subst (λ (s : ReqSetup). IsSetUp c.args.setup.now (towards w.responder (known_of s))) (sym (walks_setup w q older (restored k) walk)) set_up in
    let right = subst (λ (o : Option Round). answered_why o (Whole route answer) ≡ None) now why in
    let new = c.begins_held.new.party in
    let after = c.begins_held.new.table in
    let begun = subst (λ (x : Result BegunHeld OutOfMemory). IfOk x (λ y. IsBegunHeld w q older rows k route answer y new c.args.table.now after)) c.in_ok-begins_held.was
    (c.begins_held.ensures.told w q older rows k route keeps few byte now towards_it right party table) in
    let is = subst (λ (x : BegunHeld). IsBegunHeld w q older rows k route answer x new c.args.table.now after) c.in-Passed.is begun in
    kept_rest w q older k keeps route answer rows packet at talk none c.args.self.now.fetched rest new after (is.0, is.1, is.2)

pub returns-in-Fetching-clause-told : goal.returns-in-Fetching-clause-told
returns-in-Fetching-clause-told c = λ w q older rows packet route k at few byte round set_up why rest none keeps sealed party table.
    let answer = c.args.answer.now in
    let talk = c.args.self.now.talk in
    let walk = (kept_is_restored w q older k keeps).0 in
    let now : c.args.round.now ≡ k.round = round ∙ sym (walk_round w q older (restored k) walk) in
    let towards_it = subst (λ (s : ReqSetup). IsSetUp c.args.setup.now (towards w.responder (known_of s))) (sym (walks_setup w q older (restored k) walk)) set_up in
    let right = subst (λ (o : Option Round). answered_why o (Whole route answer) ≡ None) now why in
    let new = c.begins_held.new.party in
    let after = c.begins_held.new.table in
    let begun = subst (λ (x : Result BegunHeld OutOfMemory). IfOk x (λ y. IsBegunHeld w q older rows k route answer y new c.args.table.now after)) c.in_ok-begins_held.was
    (c.begins_held.ensures.told w q older rows k route keeps few byte now towards_it right party table) in
    let is = subst (λ (x : BegunHeld). IsBegunHeld w q older rows k route answer x new c.args.table.now after) c.in-Fetching.is begun in
    begun_on w q older rows packet route answer at k is.0 (record talk { party = new }) (fetch.InClear c.in-Fetching.held) after keeps is.1 none is.2 is.3
