use Rattle.std.proofs.Common.{◌≡◌, ◌∙◌, refl, sym, subst, Option, None}
use Rattle.mctp_framing.specs.Gathering.Gathered.{Whole}
use Rattle.check_ends.proofs.WalkRows.{walk_round}
use Rattle.check_laws.specs.Order.{asked_why}
use Rattle.check_fetched_ends.proofs.Awaited.{fetching_carries}
use Rattle.check_fetched_ends.proofs.EndsAsked.{asked_on}
use Rattle.check_fetched_ends.proofs.EndsKept.{beside_of}
use Rattle.check_fetched_ends.proofs.EndsReplied.{asked_rest, none_of, some_of}
use Rattle.check_fetched_ends.proofs.judged_ends.JudgedEnds.asks.Goals as goal
use Rattle.check_fetched_ends.specs.JudgedEnds.{StandsAs}
use Rattle.check_fetched_ends.specs.declared.fetch.Fetch.{Fetch}
use Rattle.check_late_laws.specs.Fetching.{dialogue_of}
use Rattle.capture_machine.specs.Rounds.{Round}

pub returns-then-is_some-clause-told : goal.returns-then-is_some-clause-told
returns-then-is_some-clause-told c = λ w q older rows packet route at few fits tag round none stands table.
    let talk = c.args.self.now.talk in
    let some = some_of c.args.self.now.fetched (sym c.is_some.ensures ∙ c.if-is_some.true) in
    let there = subst (λ (o : Option Fetch). StandsAs talk o w q older rows) some.1 stands in
    let f = there.1.0 in
    let own = there.1.1 in
    let is = there.1.2 in
    let u = own.stands.0 in
    let now : c.args.round.now ≡ f.kept.round = round ∙ sym (walk_round w q older (dialogue_of f u) (own.all u own.stands.1)) in
    let right : asked_why f.kept.round (Whole route c.args.body.now) ≡ None = subst (λ (o : Option Round). asked_why o (Whole route c.args.body.now) ≡ None) now none in
    asked_on w q older rows packet route c.args.body.now at f own talk (record talk { party = c.asks_whole.new.self }) some.0 is there.0 refl c.asks_whole.ensures.answerer c.asks_whole.ensures.keys c.args.self.now.fetched c.asks_whole.new.table c.asks_whole.result some.1
    (c.asks_whole.ensures.told w q older rows f.kept route (fetching_carries w q older f own) few fits now tag right (beside_of talk.party some.0 w q f rows is) table)

pub returns-clause-told : goal.returns-clause-told
returns-clause-told c = λ w q older rows packet route at few fits tag round none stands table.
    let rests = none_of c.args.self.now.fetched (sym c.is_some.ensures ∙ c.if-is_some.false) in
    asked_rest w q older rows packet (Whole route c.args.body.now) c.asks.result c.asks.new.self c.args.self.now.fetched c.asks.new.table rests
    (c.asks.ensures.told w q older rows packet route at few fits tag round none (subst (λ (o : Option Fetch). StandsAs c.args.self.now.talk o w q older rows) rests stands) table)
