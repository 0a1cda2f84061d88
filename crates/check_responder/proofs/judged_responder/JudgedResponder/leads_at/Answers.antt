use Rattle.std.proofs.Common.{◌≡◌, ◌∙◌, sym, subst, Bool, true}
use Rattle.std.specs.Prelude.{◌↔◌}
use Rattle.check_responder.proofs.WholeAnswered.{brought_large, large_given}
use Rattle.check_responder.specs.ClearAnswers.{given_in}
use Rattle.check_responder.specs.WholeAnswers.{IsLargeAt}
use Rattle.check_responder.proofs.judged_responder.JudgedResponder.leads_at.Goals as goal

pub returns-clause-told : goal.returns-clause-told
returns-clause-told c = λ r h f set stands few free long.
    let told = c.answers_at.ensures.told r h f set stands few free (c.values_are_bounded.ensures f free) long in
    subst (λ (b : Bool). (b ≡ true) ↔ IsLargeAt r h c.args.tag c.args.message.now f c.args.reply.now) (sym c.brings_large.ensures)
    (brought_large r h c.args.tag c.args.message.now f c.args.reply.now (given_in c.answers_at.result) told.0)

pub returns-clause-stands : goal.returns-clause-stands
returns-clause-stands c = λ r h f set stands few free is.
    c.answers_at.ensures.stands r h f set stands few free (c.values_are_bounded.ensures f free) (large_given (given_in c.answers_at.result) (sym c.brings_large.ensures ∙ is))
