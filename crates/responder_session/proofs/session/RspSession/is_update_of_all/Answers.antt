use Rattle.std.proofs.Common.{◌∙◌, ap, sym}
use Rattle.negotiate.specs.declared.shared.Common.{Common}
use Rattle.negotiate.specs.declared.shared.Sizes.{Sizes}
use Rattle.responder_machine.specs.Place.{session_place}
use Rattle.responder_machine.specs.Turn.{updates}
use Rattle.responder_session.proofs.AllKeys.{data_other, none_refused, refused_other}
use Rattle.responder_session.proofs.Contents.{turn-misfit}
use Rattle.responder_session.proofs.Opened.{spoken}
use Rattle.responder_session.proofs.session.RspSession.is_update_of_all.Goals as goal

pub returns-then-is_some : goal.returns-then-is_some
returns-then-is_some c = λ r s f sizes stands at.
    refused_other r s f c.args.stage c.args.inner.now c.inner_refusal.result at c.inner_refusal.ensures (sym c.is_some.ensures ∙ c.if-is_some.true)

pub returns-then-byte_at-ne-SPDM : goal.returns-then-byte_at-ne-SPDM
returns-then-byte_at-ne-SPDM c = λ r s f sizes stands at.
    let none = sym (none_refused c.inner_refusal.result (sym c.is_some.ensures ∙ c.if-is_some.false)) ∙ c.inner_refusal.ensures in
    data_other r s f c.args.stage c.args.inner.now c.byte_at.result at none c.byte_at.ensures c.if-byte_at-ne-SPDM.true

pub returns-in-Ok : goal.returns-in-Ok
returns-in-Ok c = λ r s f sizes stands at.
    let place = c.place-place.ensures r.psk s stands at in
    let limit = ap (λ (x : Common). x.to_responder.transfer) (sym place.common) ∙ ap (λ (x : Sizes). x.transfer) sizes.own in
    let none = sym (none_refused c.inner_refusal.result (sym c.is_some.ensures ∙ c.if-is_some.false)) ∙ c.inner_refusal.ensures in
    let turn = spoken r s f c.args.stage c.args.inner.now c.behind_type-message.result.now c.byte_at.result at none c.byte_at.ensures c.if-byte_at-ne-SPDM.false c.behind_type-message.ensures in
    c.asks_all.ensures r s f sizes place (c.in-Ok.ensures r (session_place s) place limit) ∙ ap (updates 2) (sym turn)

pub returns-in-Err : goal.returns-in-Err
returns-in-Err c = λ r s f sizes stands at.
    let place = c.place-place.ensures r.psk s stands at in
    let limit = ap (λ (x : Common). x.to_responder.transfer) (sym place.common) ∙ ap (λ (x : Sizes). x.transfer) sizes.own in
    let none = sym (none_refused c.inner_refusal.result (sym c.is_some.ensures ∙ c.if-is_some.false)) ∙ c.inner_refusal.ensures in
    let m = c.behind_type-message.result.now in
    let turn = spoken r s f c.args.stage c.args.inner.now m c.byte_at.result at none c.byte_at.ensures c.if-byte_at-ne-SPDM.false c.behind_type-message.ensures in
    sym (ap (updates 2) (turn ∙ turn-misfit r (session_place s) m f c.in-Err.field-0 (c.in-Err.ensures r (session_place s) place limit)))
