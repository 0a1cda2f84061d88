use Rattle.std.proofs.Common.{◌≡◌, ◌∙◌, Option, None, subst, sym}
use Rattle.mctp_framing.specs.Gathering.Gathered.{Whole}
use Rattle.check_requester.proofs.CarriedBy.{keeps_carries}
use Rattle.check_ends.proofs.PartyAsked.{beside_of, whole_by}
use Rattle.check_ends.proofs.PlainlyAsked.{none_begins, plainly_on}
use Rattle.check_ends.proofs.WalkRows.{walk_round}
use Rattle.check_ends.proofs.conversation.Conversation.asks_plainly.Goals as goal
use Rattle.check_ends.specs.Conversation.{StandsAs}
use Rattle.check_laws.proofs.KeptAnswers.{kept_is_restored}
use Rattle.check_laws.specs.Keeping.{restored}
use Rattle.check_laws.specs.Order.{asked_why}
use Rattle.check_laws.specs.declared.sending_large.large_request.LargeRequest.{LargeRequest}
use Rattle.capture_machine.specs.Rounds.{Round}

pub returns-clause-told : goal.returns-clause-told
returns-clause-told c = λ w q older rows packet route at few fits tag round none plain rest stands table.
    let body = c.args.body.now in
    let party = c.args.self.now.party in
    let is = subst (λ (o : Option LargeRequest). StandsAs party o w q older rows) rest stands in
    let k = is.0 in
    let keeps = is.1 in
    let same = round ∙ sym (walk_round w q older (restored k) (kept_is_restored w q older k keeps).0) in
    let why = subst (λ (o : Option Round). asked_why o (Whole route body) ≡ None) same none in
    let told = whole_by w q older rows k route body c.asks_whole.result party c.asks_whole.new.self c.asks_whole.new.table is.2 c.asks_whole.ensures.answerer
    (c.asks_whole.ensures.told w q older rows k route (keeps_carries w q older k keeps) few fits same tag why (beside_of party w q k rows is.2) table) in
    plainly_on w q older rows packet route body at k keeps (none_begins k route body plain) c.asks_whole.result (record c.args.self.now { party = c.asks_whole.new.self }) c.asks_whole.new.table rest told
