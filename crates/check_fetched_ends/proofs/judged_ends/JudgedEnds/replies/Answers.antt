use Rattle.std.proofs.Common.{◌∙◌, Option, subst, sym}
use Rattle.std.specs.Prelude.{OnErr}
use Rattle.check_fetched_ends.proofs.EndsReplied.{none_of}
use Rattle.check_fetched_ends.proofs.judged_ends.JudgedEnds.replies.Goals as goal
use Rattle.check_fetched_ends.specs.JudgedEnds.{MayBegin, StandsAs}
use Rattle.check_fetched_ends.specs.declared.fetch.Fetch.{Fetch}

pub returns-clause-told : goal.returns-clause-told
returns-clause-told c = λ w q older rows packet route at few byte round set_up none stands table.
    let rest = none_of c.args.self.now.fetched (sym c.is_some.ensures ∙ c.if-is_some.false) in
    let rests = subst (λ (o : Option Fetch). StandsAs c.args.self.now.talk o w q older rows) rest stands in
    c.replies_at_rest.ensures.told w q older rows packet route at few byte round set_up none rest rests table

pub returns-clause-memory : goal.returns-clause-memory
returns-clause-memory c =
    let rest = none_of c.args.self.now.fetched (sym c.is_some.ensures ∙ c.if-is_some.false) in
    subst (λ (o : Option Fetch). OnErr c.replies_at_rest.result (MayBegin o c.args.answer.now)) (sym rest) c.replies_at_rest.ensures.memory
