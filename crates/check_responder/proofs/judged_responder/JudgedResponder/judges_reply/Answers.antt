use Rattle.std.proofs.Common.{◌∙◌, sym, eqb-true}
use Rattle.std.specs.Prelude.{slice_index}
use Rattle.check_responder.proofs.BodyJudged.{judged_otherwise}
use Rattle.check_responder.proofs.judged_responder.JudgedResponder.judges_reply.Goals as goal

pub returns-then-is_clear : goal.returns-then-is_clear
returns-then-is_clear c = λ r d round set_up answerer few tag body clear apart.
    c.judges_in_clear.ensures r d round set_up answerer few tag body clear (eqb-true (slice_index c.args.answer.now 0) 5 (sym c.is_clear.ensures ∙ c.if-is_clear.true))

pub returns : goal.returns
returns c = λ r d round set_up answerer few tag body clear apart.
    judged_otherwise r d round c.args.body.now c.args.answer.now c.args.self.now body clear (sym c.is_clear.ensures ∙ c.if-is_clear.false) apart
