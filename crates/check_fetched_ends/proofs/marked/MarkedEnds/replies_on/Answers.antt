use Rattle.std.proofs.Common.{◌≡◌, ◌==◌, ◌∙◌, ℕ, List, ap, subst, sym, refl, Ok, Result, eq-eqb, Bool}
use Rattle.std.specs.Prelude.{IfOk, slice_index}
use Rattle.check_ends.specs.declared.continuation.Continuation.{Continuation}
use Rattle.check_fetched_ends.proofs.MarkedOn.{answered_marked}
use Rattle.check_fetched_ends.proofs.marked.MarkedEnds.replies_on.Goals as goal
use Rattle.check_fetched_ends.specs.JudgedEnds as judged
use Rattle.responder_machine.specs.Session.{id_in_record}
use Rattle.spdm_grammar.specs.declared.told.why.Why as declared
use Rattle.spdm_basis.specs.declared.OutOfMemory.{OutOfMemory}

pub returns-in-Ok-Kept-clause-told : goal.returns-in-Ok-Kept-clause-told
returns-in-Ok-Kept-clause-told c = λ w q older rows packet route at few byte round set_up why stands table.
    let answer : List ℕ = c.args.answer.now in
    let before = c.args.self.now.ends in
    let new = c.replies.new.self in
    let all = subst (λ (x : Result (Result Continuation declared.Why) OutOfMemory). IfOk x (λ y. judged.IsJudgedAnswer w q older rows packet route answer y new c.replies.new.table)) c.in_ok-replies.was
    (c.replies.ensures.told w q older rows packet route at few byte round set_up why stands.0 table) in
    let behind = subst (λ (x : Result Continuation declared.Why). judged.IsJudgedAnswer w q older rows packet route answer x new c.replies.new.table) (c.in-Ok-Kept.is ∙ ap Ok c.in-Ok-Kept.field-0-is) all in (
      behind,
      answered_marked w q older rows packet route answer at c.args.round.now round before stands.0 new c.replies.new.table behind c.args.self.now.marks c.move_marks.new.marks c.tag-tag.result c.body-body.result.now c.behind_type-message.result.now
          c.repeats_clear-repeats.result c.repeats_record-kept.result c.is_live_in-live.result c.moves_behind-moves.result c.is_clear-clear.result c.record_id.result.rsp
          c.tag-tag.ensures c.body-body.ensures c.behind_type-message.ensures c.is_clear-clear.ensures (ap (λ x. x.rsp) c.record_id.ensures)
          (record {
            clear = λ d walk. c.repeats_clear-repeats.ensures w q older rows d stands.0 walk;
            sealed = λ d walk other. c.repeats_record-kept.ensures w q older rows d stands.0 walk other;
            lives = λ d walk other. c.is_live_in-live.ensures w q older rows d stands.0 walk other;
          })
          (λ among d h there walk one two. c.moves_behind-moves.ensures w q _ among d h there walk one two)
          c.move_marks.ensures stands.1,
    )

pub returns-in-Ok-Large-clause-told : goal.returns-in-Ok-Large-clause-told
returns-in-Ok-Large-clause-told c = λ w q older rows packet route at few byte round set_up why stands table.
    let answer : List ℕ = c.args.answer.now in
    let new = c.replies.new.self in
    let all = subst (λ (x : Result (Result Continuation declared.Why) OutOfMemory). IfOk x (λ y. judged.IsJudgedAnswer w q older rows packet route answer y new c.replies.new.table)) c.in_ok-replies.was
    (c.replies.ensures.told w q older rows packet route at few byte round set_up why stands.0 table) in
    subst (λ (x : Result Continuation declared.Why). judged.IsJudgedAnswer w q older rows packet route answer x new c.replies.new.table) (c.in-Ok-Large.is ∙ ap Ok c.in-Ok-Large.field-0-is) all

pub returns-in-Ok-Asked-clause-told : goal.returns-in-Ok-Asked-clause-told
returns-in-Ok-Asked-clause-told c = λ w q older rows packet route at few byte round set_up why stands table.
    let answer : List ℕ = c.args.answer.now in
    let new = c.replies.new.self in
    let all = subst (λ (x : Result (Result Continuation declared.Why) OutOfMemory). IfOk x (λ y. judged.IsJudgedAnswer w q older rows packet route answer y new c.replies.new.table)) c.in_ok-replies.was
    (c.replies.ensures.told w q older rows packet route at few byte round set_up why stands.0 table) in
    subst (λ (x : Result Continuation declared.Why). judged.IsJudgedAnswer w q older rows packet route answer x new c.replies.new.table) (c.in-Ok-Asked.is ∙ ap Ok c.in-Ok-Asked.field-0-is) all

pub returns-in-Err-clause-told : goal.returns-in-Err-clause-told
returns-in-Err-clause-told c = λ w q older rows packet route at few byte round set_up why stands table.
    let answer : List ℕ = c.args.answer.now in
    let new = c.replies.new.self in
    let all = subst (λ (x : Result (Result Continuation declared.Why) OutOfMemory). IfOk x (λ y. judged.IsJudgedAnswer w q older rows packet route answer y new c.replies.new.table)) c.in_ok-replies.was
    (c.replies.ensures.told w q older rows packet route at few byte round set_up why stands.0 table) in
    subst (λ (x : Result Continuation declared.Why). judged.IsJudgedAnswer w q older rows packet route answer x new c.replies.new.table) c.in-Err.is all
