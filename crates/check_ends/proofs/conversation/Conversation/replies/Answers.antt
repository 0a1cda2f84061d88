use Rattle.std.proofs.Common.{◌≡◌, ◌∙◌, List, ℕ, sym, subst, Option, Some, None, Result, Ok, Err}
use Rattle.std.specs.Prelude.{IfOk}
use Rattle.responder_core.specs.Setup.{IsSetUp}
use Rattle.mctp_framing.specs.Gathering.Gathered.{Whole}
use Rattle.requester_machine.specs.Setup.{ReqSetup}
use Rattle.responder_machine.specs.Setup.{towards}
use Rattle.spdm_grammar.specs.declared.told.why.Why as declared
use Rattle.spdm_basis.specs.declared.OutOfMemory.{OutOfMemory}
use Rattle.check_laws.proofs.KeptAnswers.{kept_is_restored}
use Rattle.check_laws.proofs.PairWalks.{walks_setup}
use Rattle.check_laws.specs.Keeping.{restored}
use Rattle.check_laws.specs.Order.{answered_why}
use Rattle.check_ends.proofs.AnswerWalks.{told_on}
use Rattle.check_ends.proofs.PlainlyAsked.{none_sent}
use Rattle.check_ends.proofs.WalkRows.{walk_round}
use Rattle.check_ends.proofs.conversation.Conversation.replies.Goals as goal
use Rattle.check_ends.specs.Conversation.{IsJudgedAnswer, StandsAs}
use Rattle.check_ends.specs.PartyReplies.{IsReplied}
use Rattle.check_ends.specs.declared.continuation.Continuation.{Continuation}
use Rattle.check_laws.specs.declared.sending_large.large_request.LargeRequest.{LargeRequest}
use Rattle.capture_machine.specs.Rounds.{Round}
use Rattle.world_machine.specs.Setup.{known_of}

if_ok : (P Q : Result Continuation declared.Why → Type 0) (r : Result (Result Continuation declared.Why) OutOfMemory) → ((x : Result Continuation declared.Why) → P x → Q x) → IfOk r P → IfOk r Q
if_ok P Q (Ok x) goes is = goes x is
if_ok P Q (Err e) goes is = is

pub returns-clause-told : goal.returns-clause-told
returns-clause-told c = λ w q older rows packet route at few byte round set_up none stands table.
    let rest = none_sent c.args.self.now.large (sym c.is_some.ensures ∙ c.if-is_some.false) in
    let there = subst (λ (o : Option LargeRequest). StandsAs c.args.self.now.party o w q older rows) rest stands in
    let k = there.0 in
    let keeps = there.1 in
    let answer : List ℕ = c.args.answer.now in
    let walk = (kept_is_restored w q older k keeps).0 in
    let now : c.args.round.now ≡ k.round = round ∙ sym (walk_round w q older (restored k) walk) in
    let towards_it = subst (λ (a : ReqSetup). IsSetUp c.args.setup.now (towards w.responder (known_of a))) (sym (walks_setup w q older (restored k) walk)) set_up in
    let why = subst (λ (o : Option Round). answered_why o (Whole route answer) ≡ None) now none in
    let told = if_ok (λ x. IsReplied w q older rows k route answer x c.replies.new.self c.replies.new.table) (λ x. IsJudgedAnswer w q older rows packet route answer x c.replies.new.self None c.replies.new.table) c.replies.result
    (λ x is. told_on w q older rows packet route answer at k keeps x c.replies.new.self c.replies.new.table is)
    (c.replies.ensures.told w q older rows k route keeps few byte now towards_it why there.2 table) in
    subst (λ (o : Option LargeRequest). IfOk c.replies.result (λ x. IsJudgedAnswer w q older rows packet route answer x c.replies.new.self o c.replies.new.table)) (sym rest) told
