use Rattle.std.proofs.Common.{◌∙◌, ap, subst, List, ℕ, Some}
use Rattle.responder_core.proofs.Recorded.{moved, not_opened, session_again}
use Rattle.responder_core.proofs.in_sessions.sessions.Sessions.answer.Goals as goal
use Rattle.responder_core.specs.Sessions.{IsDelivered, IsSettled}
use Rattle.responder_machine.specs.Responder.{decrypt_error}
use Rattle.responder_session.specs.Laws.{told_as}
use Rattle.responder_session.specs.declared.told.RspTold.{RspTold}
use Rattle.spdm_basis.specs.declared.values.session_id.SessionId.{SessionId}

pub returns-in-Moved : goal.returns-in-Moved
returns-in-Moved c = λ r h tag f d phase given.
    let sealed : List ℕ = c.args.sealed.now in
    let out : List ℕ = c.args.out.now in
    let id = ap (λ (x : SessionId). x.rsp) c.record_id-id.ensures in
    let now = subst (λ (t : RspTold). IsDelivered r h sealed f (Some t) c.args.self.now out) c.in-Moved.is given in
    let here : IsSettled r sealed c.as_slice.result.now c.args.self.now c.settle.new.self c.record_id-id.result.rsp =
    record { live = c.settle.ensures.live r; gone = c.settle.ensures.gone; others = c.settle.ensures.others } in
    let there = subst (λ (o : List ℕ). IsSettled r sealed o c.args.self.now c.settle.new.self c.record_id-id.result.rsp) c.as_slice.ensures.value here in
    let settled = subst (λ (n : ℕ). IsSettled r sealed out c.args.self.now c.settle.new.self n) id there in
    moved r h tag sealed f d c.args.self.now c.settle.new.self c.in-Moved.act out c.heard_as.result now settled (c.heard_as.ensures ∙ ap (λ (x : SessionId). told_as x c.in-Moved.act) c.record_id-id.ensures)

pub returns-in-Same : goal.returns-in-Same
returns-in-Same c = λ r h tag f d phase given.
    let sealed : List ℕ = c.args.sealed.now in
    let out : List ℕ = c.args.out.now in
    session_again r h tag sealed f d c.args.self.now out (subst (λ (t : RspTold). IsDelivered r h sealed f (Some t) c.args.self.now out) c.in-Same.is given)

pub returns-in-Unopened : goal.returns-in-Unopened
returns-in-Unopened c = λ r h tag f d phase given.
    let sealed : List ℕ = c.args.sealed.now in
    let out : List ℕ = c.args.out.now in
    not_opened r h tag sealed f d c.args.self.now c.in-Unopened.field-0 out c.write_decrypt_error.new.out (subst (λ (t : RspTold). IsDelivered r h sealed f (Some t) c.args.self.now out) c.in-Unopened.is given)
    (c.write_decrypt_error.ensures ∙ ap decrypt_error phase)
