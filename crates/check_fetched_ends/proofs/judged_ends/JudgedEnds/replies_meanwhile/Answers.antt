use Rattle.std.proofs.Common.{◌∙◌, Option, Some, Result, Ok, Err, ap, subst, sym}
use Rattle.std.specs.Prelude.{OnErr}
use Rattle.spdm_basis.specs.declared.OutOfMemory.{OutOfMemory}
use Rattle.check_ends.specs.declared.continuation.Continuation.{Continuation}
use Rattle.check_fetched_ends.proofs.judged_ends.JudgedEnds.replies_meanwhile.Goals as goal
use Rattle.check_fetched_ends.specs.JudgedEnds.{MayBegin, StandsAs}
use Rattle.check_fetched_ends.specs.declared.fetch.Fetch.{Fetch}
use Rattle.spdm_grammar.specs.declared.told.why.Why as declared_why

pub returns-in-None-clause-told : goal.returns-in-None-clause-told
returns-in-None-clause-told c = λ w q older rows packet route at few byte round set_up none stands table.
    let rests = subst (λ (o : Option Fetch). StandsAs c.args.self.now.talk o w q older rows) (sym c.take.ensures.value ∙ c.in-None.is) stands in
    c.replies_at_rest.ensures.told w q older rows packet route at few byte round set_up none c.take.ensures.after rests table

pub returns-in-Some-InSession-clause-told : goal.returns-in-Some-InSession-clause-told
returns-in-Some-InSession-clause-told c = λ w q older rows packet route at few byte round set_up none stands table.
    let there = subst (λ (o : Option Fetch). StandsAs c.args.self.now.talk o w q older rows) (sym c.take.ensures.value ∙ c.in-Some-InSession.is ∙ ap Some c.in-Some-InSession.field-0-is) stands in
    c.replies_fetched.ensures.told w q older rows packet route there.1.0 at few byte round set_up none there.0 there.1.1 there.1.2 table

pub returns-in-Some-InClear-clause-told : goal.returns-in-Some-InClear-clause-told
returns-in-Some-InClear-clause-told c = λ w q older rows packet route at few byte round set_up none stands table.
    let there = subst (λ (o : Option Fetch). StandsAs c.args.self.now.talk o w q older rows) (sym c.take.ensures.value ∙ c.in-Some-InClear.is ∙ ap Some c.in-Some-InClear.field-0-is) stands in
    c.replies_clear.ensures w q older rows packet route there.1.0 at few byte round set_up none there.0 there.1.1 there.1.2 table

pub returns-in-None-clause-memory : goal.returns-in-None-clause-memory
returns-in-None-clause-memory c =
    subst (λ (o : Option Fetch). OnErr c.replies_at_rest.result (MayBegin o c.args.answer.now)) (sym (sym c.take.ensures.value ∙ c.in-None.is)) c.replies_at_rest.ensures.memory

pub returns-in-Some-InSession-clause-memory : goal.returns-in-Some-InSession-clause-memory
returns-in-Some-InSession-clause-memory c =
    subst (λ (o : Option Fetch). OnErr c.replies_fetched.result (MayBegin o c.args.answer.now)) (sym (sym c.take.ensures.value ∙ c.in-Some-InSession.is ∙ ap Some c.in-Some-InSession.field-0-is)) c.replies_fetched.ensures.memory

-- Nothing is claimed of memory.
on_any : (x : Result (Result Continuation declared_why.Why) OutOfMemory) → OnErr x (Unit {0})
on_any (Ok told) = tt
on_any (Err e) = tt

pub returns-in-Some-InClear-clause-memory : goal.returns-in-Some-InClear-clause-memory
returns-in-Some-InClear-clause-memory c =
    subst (λ (o : Option Fetch). OnErr c.replies_clear.result (MayBegin o c.args.answer.now)) (sym (sym c.take.ensures.value ∙ c.in-Some-InClear.is ∙ ap Some c.in-Some-InClear.field-0-is)) (on_any c.replies_clear.result)
