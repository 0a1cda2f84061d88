use Rattle.std.proofs.Common.{◌≡◌, ◌∙◌, ℕ, List, ap, subst, Ok, Result}
use Rattle.std.specs.Prelude.{IfOk}
use Rattle.check_ends.specs.declared.continuation.Continuation.{Continuation}
use Rattle.check_fetched_ends.proofs.marked.MarkedEnds.judges.Goals as goal
use Rattle.check_fetched_ends.specs.MarkedEnds.{IsMovedAnswer}
use Rattle.spdm_grammar.specs.declared.told.why.Why as declared
use Rattle.spdm_basis.specs.declared.OutOfMemory.{OutOfMemory}

pub returns-in-Ok-Kept-clause-told : goal.returns-in-Ok-Kept-clause-told
returns-in-Ok-Kept-clause-told c = λ w q older rows packet route at few byte round set_up why none stands table.
    let answer : List ℕ = c.args.answer.now in
    let all = subst (λ (x : Result (Result Continuation declared.Why) OutOfMemory). IfOk x (λ y. IsMovedAnswer w q older rows packet route answer y c.replies_on.new.self c.replies_on.new.table)) c.in_ok-replies_on.was
    (c.replies_on.ensures.told w q older rows packet route at few byte round set_up why stands table) in
    subst (λ (x : Result Continuation declared.Why). IsMovedAnswer w q older rows packet route answer x c.replies_on.new.self c.replies_on.new.table) (c.in-Ok-Kept.is ∙ ap Ok c.in-Ok-Kept.field-0-is) all

pub returns-in-Ok-Large-clause-told : goal.returns-in-Ok-Large-clause-told
returns-in-Ok-Large-clause-told c = λ w q older rows packet route at few byte round set_up why none stands table.
    let answer : List ℕ = c.args.answer.now in
    let all = subst (λ (x : Result (Result Continuation declared.Why) OutOfMemory). IfOk x (λ y. IsMovedAnswer w q older rows packet route answer y c.replies_on.new.self c.replies_on.new.table)) c.in_ok-replies_on.was
    (c.replies_on.ensures.told w q older rows packet route at few byte round set_up why stands table) in
    absurd (subst (λ (x : Result Continuation declared.Why). IsMovedAnswer w q older rows packet route answer x c.replies_on.new.self c.replies_on.new.table) (c.in-Ok-Large.is ∙ ap Ok c.in-Ok-Large.field-0-is) all)

pub returns-in-Ok-Asked-clause-told : goal.returns-in-Ok-Asked-clause-told
returns-in-Ok-Asked-clause-told c = λ w q older rows packet route at few byte round set_up why none stands table.
    let answer : List ℕ = c.args.answer.now in
    let all = subst (λ (x : Result (Result Continuation declared.Why) OutOfMemory). IfOk x (λ y. IsMovedAnswer w q older rows packet route answer y c.replies_on.new.self c.replies_on.new.table)) c.in_ok-replies_on.was
    (c.replies_on.ensures.told w q older rows packet route at few byte round set_up why stands table) in
    let asked = subst (λ (x : Result Continuation declared.Why). IsMovedAnswer w q older rows packet route answer x c.replies_on.new.self c.replies_on.new.table) (c.in-Ok-Asked.is ∙ ap Ok c.in-Ok-Asked.field-0-is) all in
    (none asked.0.0 asked.0.1 asked.0.2, asked.1)

pub returns-in-Err-clause-told : goal.returns-in-Err-clause-told
returns-in-Err-clause-told c = λ w q older rows packet route at few byte round set_up why none stands table.
    let answer : List ℕ = c.args.answer.now in
    let all = subst (λ (x : Result (Result Continuation declared.Why) OutOfMemory). IfOk x (λ y. IsMovedAnswer w q older rows packet route answer y c.replies_on.new.self c.replies_on.new.table)) c.in_ok-replies_on.was
    (c.replies_on.ensures.told w q older rows packet route at few byte round set_up why stands table) in
    subst (λ (x : Result Continuation declared.Why). IsMovedAnswer w q older rows packet route answer x c.replies_on.new.self c.replies_on.new.table) c.in-Err.is all
