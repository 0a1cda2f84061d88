use Rattle.std.proofs.Common.{◌∙◌, ap, sym, subst, refl, inl, inr}
use Rattle.spdm_grammar.specs.Message.RequestMessage.{GetMeasurements, Heartbeat}
use Rattle.responder_session.specs.RequestEffects.{IsFit, is_whole}
use Rattle.responder_session.specs.declared.request_effect.RequestEffect.{RequestEffect}
use Rattle.responder_session.specs.declared.told.RspAct.TheVariants.{Answered, Refused}
use Rattle.responder_session.proofs.Taken.{moved_by}
use Rattle.responder_session.proofs.session.RspSession.apply_whole.Goals as goal

pub returns-in-Refused : goal.returns-in-Refused
returns-in-Refused c = λ r s f stands whole fit.
    let fits = subst (λ (d : RequestEffect). IsFit r s f c.args.opened.now.message.now c.args.answer.now d) c.in-Refused.is fit in
    moved_by r s f c.args.opened.now.message.now c.args.answer.now c.args.opened.now.sealed.now c.args.opened.now.pad.now c.args.deed.now _ _ _ c.in-Refused.is
    (inl (refl, c.refuse.ensures r s f c.in-Refused.code stands fits), ap Refused c.number.ensures)

pub returns-in-Data : goal.returns-in-Data
returns-in-Data c = λ r s f stands whole fit.
    let fits = subst (λ (d : RequestEffect). IsFit r s f c.args.opened.now.message.now c.args.answer.now d) c.in-Data.is fit in
    moved_by r s f c.args.opened.now.message.now c.args.answer.now c.args.opened.now.sealed.now c.args.opened.now.pad.now c.args.deed.now _ _ _ c.in-Data.is
    (inl (refl, c.take_data.ensures r.psk s f stands fits.0 (sym fits.2) fits.1), refl)

pub returns-in-Finished : goal.returns-in-Finished
returns-in-Finished c = λ r s f stands whole fit.
    let fits = subst (λ (d : RequestEffect). IsFit r s f c.args.opened.now.message.now c.args.answer.now d) c.in-Finished.is fit in
    moved_by r s f c.args.opened.now.message.now c.args.answer.now c.args.opened.now.sealed.now c.args.opened.now.pad.now c.args.deed.now _ _ _ c.in-Finished.is
    (inl (refl, c.open.ensures r.psk s c.in-Finished.verify.now stands fits.0 fits.1), ap Answered c.byte_at.ensures)

pub returns-in-Alive : goal.returns-in-Alive
returns-in-Alive c = λ r s f stands whole fit.
    moved_by r s f c.args.opened.now.message.now c.args.answer.now c.args.opened.now.sealed.now c.args.opened.now.pad.now c.args.deed.now _ _ _ c.in-Alive.is
    (inl (refl, c.answer.ensures r.psk s Heartbeat stands refl), ap Answered c.byte_at.ensures)

pub returns-in-Measured : goal.returns-in-Measured
returns-in-Measured c = λ r s f stands whole fit.
    moved_by r s f c.args.opened.now.message.now c.args.answer.now c.args.opened.now.sealed.now c.args.opened.now.pad.now c.args.deed.now _ _ _ c.in-Measured.is
    (inl (refl, c.answer-in-Measured.ensures r.psk s (GetMeasurements c.in-Measured.op) stands refl), ap Answered c.byte_at.ensures)

pub returns-in-Update : goal.returns-in-Update
returns-in-Update c = λ r s f stands whole fit.
    let fits = subst (λ (d : RequestEffect). IsFit r s f c.args.opened.now.message.now c.args.answer.now d) c.in-Update.is fit in
    moved_by r s f c.args.opened.now.message.now c.args.answer.now c.args.opened.now.sealed.now c.args.opened.now.pad.now c.args.deed.now _ _ _ c.in-Update.is
    (inl (refl, c.update.ensures r.psk s c.in-Update.tag stands fits.0 fits.1 fits.2), ap Answered c.byte_at.ensures)

pub returns-in-Verified : goal.returns-in-Verified
returns-in-Verified c = λ r s f stands whole fit.
    let fits = subst (λ (d : RequestEffect). IsFit r s f c.args.opened.now.message.now c.args.answer.now d) c.in-Verified.is fit in
    moved_by r s f c.args.opened.now.message.now c.args.answer.now c.args.opened.now.sealed.now c.args.opened.now.pad.now c.args.deed.now _ _ _ c.in-Verified.is
    (inl (refl, c.verify.ensures r.psk s c.in-Verified.tag stands fits.0 fits.1), ap Answered c.byte_at.ensures)

pub returns-in-Ended : goal.returns-in-Ended
returns-in-Ended c = λ r s f stands whole fit.
    moved_by r s f c.args.opened.now.message.now c.args.answer.now c.args.opened.now.sealed.now c.args.opened.now.pad.now c.args.deed.now _ _ _ c.in-Ended.is
    (inr (refl, c.end.ensures r.psk s stands), ap Answered c.byte_at.ensures)

pub returns-in-Chunk : goal.returns-in-Chunk
returns-in-Chunk c = λ r s f stands whole fit.
    moved_by r s f c.args.opened.now.message.now c.args.answer.now c.args.opened.now.sealed.now c.args.opened.now.pad.now c.args.deed.now _ _ _ c.in-Chunk.is
    (inl (refl, c.give_chunk.ensures r.psk s c.in-Chunk.handle c.in-Chunk.number stands), ap Answered c.byte_at.ensures)

pub returns-in-Large : goal.returns-in-Large
returns-in-Large c = λ r s f stands whole fit. absurd (Rattle.std.proofs.lemmas.Bool.false≢true (sym (ap is_whole c.in-Large.is) ∙ whole))
