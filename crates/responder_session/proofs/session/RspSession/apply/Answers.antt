use Rattle.std.proofs.Common.{ap, sym, subst, refl, inl, ℕ, List}
use Rattle.responder_session.specs.RequestEffects.{IsFit}
use Rattle.responder_session.specs.Took.{IsMoved}
use Rattle.responder_session.specs.RequestEffects.{turn_for}
use Rattle.responder_session.specs.declared.request_effect.RequestEffect.{RequestEffect}
use Rattle.responder_session.specs.declared.told.RspAct.TheVariants.{Answered}
use Rattle.responder_session.proofs.Taken.{moved_by, whole_but}
use Rattle.responder_session.proofs.session.RspSession.apply.Goals as goal

pub returns-in-Large : goal.returns-in-Large
returns-in-Large c = λ r s f stands sizes fit.
    let fits = subst (λ (d : RequestEffect). IsFit r s f c.args.opened.now.message.now c.args.answer.now d) c.in-Large.is fit in
    moved_by r s f c.args.opened.now.message.now c.args.answer.now c.args.opened.now.sealed.now c.args.opened.now.pad.now c.args.deed.now _ _ _ c.in-Large.is
    (inl (refl, c.answer_large.ensures r s c.in-Large.op stands sizes fits), ap Answered c.byte_at.ensures)

pub returns-in_default : goal.returns-in_default
returns-in_default c = λ r s f stands sizes fit.
    let same = c.as_slice.ensures.value in
    subst (λ (x : List ℕ). IsMoved r.psk s c.args.opened.now.sealed.now (turn_for r s f c.args.opened.now.message.now x c.args.deed.now) c.args.opened.now.pad.now c.apply_whole.new.self c.apply_whole.result) same
    (c.apply_whole.ensures r s f stands (whole_but c.args.deed.now c.in_default.not-Large) (subst (λ (x : List ℕ). IsFit r s f c.args.opened.now.message.now x c.args.deed.now) (sym same) fit))
