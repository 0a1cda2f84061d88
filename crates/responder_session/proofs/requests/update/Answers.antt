use Rattle.std.proofs.Common.{◌∙◌, ap, sym}
use Rattle.responder_machine.specs.Refusal.{fits_stage}
use Rattle.spdm_grammar.specs.declared.told.phase.Stage.{Stage}
use Rattle.spdm_grammar.specs.declared.messages.error_code.ErrorCode.TheVariants.{UnexpectedRequest}
use Rattle.responder_session.proofs.Doing.{refused_deed, misplaced_turn, verified_deed, update_deed}
use Rattle.responder_session.proofs.Allowed.{update_in_open}
use Rattle.responder_session.proofs.requests.update.Goals as goal

pub returns-else-fits_stage : goal.returns-else-fits_stage
returns-else-fits_stage c = λ r s f low high place epochs a.
    refused_deed r s f c.args.message.now c.refused.new.out UnexpectedRequest c.refused.result c.refused.ensures.deed (c.refused.ensures.answer r s f place (λ e. cc))
    (misplaced_turn r s f c.args.message.now c.args.op c.args.tag a (ap (λ (x : Stage). fits_stage x c.args.op) place.stage ∙ sym c.fits_stage.ensures ∙ c.if-fits_stage.false))

pub returns-then-op-eq-VERIFY_NEW_KEY : goal.returns-then-op-eq-VERIFY_NEW_KEY
returns-then-op-eq-VERIFY_NEW_KEY c = λ r s f low high place epochs a.
    let fits = ap (λ (x : Stage). fits_stage x c.args.op) place.stage ∙ sym c.fits_stage.ensures ∙ c.if-fits_stage.true in
    verified_deed r s f c.args.message.now c.write_update_answer.new.out c.args.op c.args.tag a fits c.if-op-eq-VERIFY_NEW_KEY.true (c.write_update_answer.ensures low high)

pub returns-else-op-eq-VERIFY_NEW_KEY : goal.returns-else-op-eq-VERIFY_NEW_KEY
returns-else-op-eq-VERIFY_NEW_KEY c = λ r s f low high place epochs a.
    let fits = ap (λ (x : Stage). fits_stage x c.args.op) place.stage ∙ sym c.fits_stage.ensures ∙ c.if-fits_stage.true in
    update_deed r s f c.args.message.now c.write_update_answer.new.out c.args.op c.args.tag a fits low high c.if-op-eq-VERIFY_NEW_KEY.false
    (epochs (update_in_open r s c.args.message.now c.args.op c.args.tag a fits c.if-op-eq-VERIFY_NEW_KEY.false)) (c.write_update_answer.ensures low high)
