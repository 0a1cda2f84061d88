use Rattle.std.proofs.Common.{◌∙◌, ap, sym}
use Rattle.negotiate.specs.declared.shared.Common.{Common}
use Rattle.responder_machine.specs.Place.{session_place}
use Rattle.responder_session.proofs.Contents.{form_code, inner_code}
use Rattle.responder_session.proofs.Opened.{data_deed, data_in_open, inner_deed, misfit_inner, refused_inner, spoken}
use Rattle.responder_session.proofs.session.RspSession.judge.Goals as goal

pub returns-in-Some : goal.returns-in-Some
returns-in-Some c = λ r s f sizes blocks given stands at.
    let place = c.place-place.ensures r.psk s stands at in
    refused_inner r s f c.args.stage c.args.inner.now c.behind_type-message.result.now c.refused.new.out c.in-Some.code c.refused.result at c.in-Some.ensures c.behind_type-message.ensures c.refused.ensures.deed
    (c.refused.ensures.answer r s f place (inner_code c.args.stage c.args.inner.now c.in-Some.code (sym c.in-Some.ensures)))

pub returns-then-byte_at-ne-SPDM : goal.returns-then-byte_at-ne-SPDM
returns-then-byte_at-ne-SPDM c = λ r s f sizes blocks given stands at.
    let opened = data_in_open s c.args.stage c.args.inner.now c.byte_at.result at c.in_default.ensures c.byte_at.ensures c.if-byte_at-ne-SPDM.true in
    data_deed r s f c.args.stage c.args.inner.now c.write_data.new.out c.byte_at.result at c.in_default.ensures c.byte_at.ensures c.if-byte_at-ne-SPDM.true
    (c.write_data.ensures ∙ sym (given opened).free.reply)

pub returns-in-Err : goal.returns-in-Err
returns-in-Err c = λ r s f sizes blocks given stands at.
    let place = c.place-place.ensures r.psk s stands at in
    let m = c.behind_type-message.result.now in
    let limit = ap (λ (x : Common). x.to_responder.transfer) (sym place.common) ∙ ap (λ (x : Rattle.negotiate.specs.declared.shared.Sizes.Sizes). x.transfer) sizes.own in
    let read = c.in-Err.ensures r (session_place s) place limit in
    misfit_inner r s f c.args.inner.now m c.refused-in-Err.new.out c.in-Err.code c.refused-in-Err.result c.behind_type-message.ensures (spoken r s f c.args.stage c.args.inner.now c.behind_type-message.result.now c.byte_at.result at c.in_default.ensures c.byte_at.ensures c.if-byte_at-ne-SPDM.false c.behind_type-message.ensures) read c.refused-in-Err.ensures.deed
    (c.refused-in-Err.ensures.answer r s f place (form_code r (session_place s) m c.in-Err.code read))

pub returns-in-Ok : goal.returns-in-Ok
returns-in-Ok c = λ r s f sizes blocks given stands at.
    let place = c.place-place.ensures r.psk s stands at in
    let m = c.behind_type-message.result.now in
    let limit = ap (λ (x : Common). x.to_responder.transfer) (sym place.common) ∙ ap (λ (x : Rattle.negotiate.specs.declared.shared.Sizes.Sizes). x.transfer) sizes.own in
    let read = c.in-Ok.ensures r (session_place s) place limit in
    inner_deed r s f c.args.inner.now m c.judge_request.new.out c.judge_request.result c.behind_type-message.ensures (spoken r s f c.args.stage c.args.inner.now c.behind_type-message.result.now c.byte_at.result at c.in_default.ensures c.byte_at.ensures c.if-byte_at-ne-SPDM.false c.behind_type-message.ensures)
    (c.judge_request.ensures r s f sizes blocks given stands place read)
