use Rattle.std.proofs.Common.{◌≡◌, ◌∙◌, Option, None, subst, sym}
use Rattle.check_ends.proofs.SendingWalks.{form, walk_form}
use Rattle.check_ends.proofs.WalkRows.{walk_round}
use Rattle.check_ends.proofs.party.Party.asks_at.Goals as goal
use Rattle.check_ends.specs.Conversation.{StandsAs}
use Rattle.check_laws.proofs.KeptAnswers.{kept_is_restored}
use Rattle.check_laws.specs.Keeping.{restored}
use Rattle.check_laws.specs.Order.{asked_why}
use Rattle.check_laws.specs.declared.sending_large.large_request.LargeRequest.{LargeRequest}
use Rattle.mctp_framing.specs.Gathering.Gathered.{Whole}
use Rattle.capture_machine.specs.Rounds.{Round}

pub returns-in-None-clause-told : goal.returns-in-None-clause-told
returns-in-None-clause-told c = λ w q older rows packet route at few fits tag round none stands table.
    let is = subst (λ (o : Option LargeRequest). StandsAs c.args.self.now o w q older rows) c.in-None.is stands in
    let same = round ∙ sym (walk_round w q older (restored is.0) (kept_is_restored w q older is.0 is.1).0) in
    c.asks_at_rest.ensures.told w q older rows packet route is.0 at few fits same tag (subst (λ (o : Option Round). asked_why o (Whole route c.args.body.now) ≡ None) same none) is.1 is.2 table

pub returns-in-Some-clause-told : goal.returns-in-Some-clause-told
returns-in-Some-clause-told c = λ w q older rows packet route at few fits tag round none stands table.
    let is = subst (λ (o : Option LargeRequest). StandsAs c.args.self.now o w q older rows) c.in-Some.is stands in
    let same = round ∙ sym (walk_round w q older (form w q older is.0 is.1.sending) (walk_form w q older is.0 is.1.sending)) in
    c.asks_meanwhile.ensures.told w q older rows packet route is.0 at few same tag (subst (λ (o : Option Round). asked_why o (Whole route c.args.body.now) ≡ None) same none) is.1 table
