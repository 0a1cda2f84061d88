use Rattle.std.proofs.Common.{◌∙◌, sym, subst, List, ℕ, eqb-true}
use Rattle.std.specs.Prelude.{slice_index}
use Rattle.spdm_machine.specs.Bodies.{record_body}
use Rattle.check_responder.proofs.BodyJudged.{judged_to_record}
use Rattle.check_responder.proofs.KeysComing.{record_coming}
use Rattle.check_responder.proofs.judged_responder.JudgedResponder.judges_with.Goals as goal
use Rattle.check_responder.specs.AnswerKeys.{IsComing}
use Rattle.check_responder.specs.Given.{IsGiven}
use Rattle.check_responder.specs.declared.given.Judged.{Judged}

pub returns-then-is_clear : goal.returns-then-is_clear
returns-then-is_clear c = λ r d round set_up answerer few tag body typed apart coming.
    c.judges_reply.ensures r d round set_up answerer few tag body (eqb-true (slice_index c.args.body.now 0) 5 (sym c.is_clear.ensures ∙ c.if-is_clear.true)) apart

pub returns : goal.returns
returns c = λ r d round set_up answerer few tag body typed apart coming.
    let other = sym c.is_clear.ensures ∙ c.if-is_clear.false in
    let own = subst (λ (m : List ℕ). IsComing c.args.coming.now r d.responder (record_body m)) (sym c.behind_type.ensures) (record_coming c.args.coming.now r d.responder c.args.body.now other coming) in
    subst (λ (x : Judged). IsGiven r d round c.args.answer.now x c.answers_record_with-given.new.self) (sym c.judged_of.ensures)
    (judged_to_record r d round c.args.body.now c.args.answer.now c.behind_type.result.now c.answers_record_with-given.result c.answers_record_with-given.new.self body typed other c.behind_type.ensures
    (c.answers_record_with-given.ensures.told r d.responder round.tag set_up answerer few own) (c.answers_record_with-given.ensures.stands r d.responder round.tag set_up answerer few own))
