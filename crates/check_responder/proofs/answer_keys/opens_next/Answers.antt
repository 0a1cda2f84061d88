use Rattle.std.proofs.Common.{◌≡◌, ap, subst, Option, Some, ℕ, []}
use Rattle.responder_core.specs.OwnAnswers.{IsNextKey}
use Rattle.responder_core.specs.Sessions.{IsViewOf}
use Rattle.responder_machine.specs.Session.{id_in_record, session_of}
use Rattle.spdm_basis.specs.declared.values.session_id.SessionId.{SessionId}
use Rattle.spdm_grammar.specs.declared.told.session_view.SessionView.{SessionView}
use Rattle.check_responder.proofs.KeysOpen.{fresh_next, none_next, some_next, spent_next}
use Rattle.check_responder.proofs.answer_keys.opens_next.Goals as goal

pub returns-in_default : goal.returns-in_default
returns-in_default c = λ r h stands few.
    let id = ap (λ (x : SessionId). x.rsp) c.record_id.ensures in
    let view = subst (λ (v : Option SessionView). IsViewOf v (session_of c.record_id.result.rsp h)) c.in_default.is (c.view.ensures r h stands few) in
    none_next r (session_of (id_in_record c.args.named.now) h) c.args.sealed.now (subst (λ (n : ℕ). session_of n h ≡ []) id view)

pub returns-then-view-ge-MAX_RECORDS : goal.returns-then-view-ge-MAX_RECORDS
returns-then-view-ge-MAX_RECORDS c = λ r h stands few.
    let id = ap (λ (x : SessionId). x.rsp) c.record_id.ensures in
    let view = subst (λ (v : Option SessionView). IsViewOf v (session_of c.record_id.result.rsp h)) c.in-Some.is (c.view.ensures r h stands few) in
    let here = subst (λ (n : ℕ). IsViewOf (Some c.in-Some.view) (session_of n h)) id view in
    spent_next r (session_of (id_in_record c.args.named.now) h) c.args.sealed.now c.in-Some.view here.1 c.if-view-ge-MAX_RECORDS.true

pub returns-in-Some-next_answer_key : goal.returns-in-Some-next_answer_key
returns-in-Some-next_answer_key c = λ r h stands few.
    let id = ap (λ (x : SessionId). x.rsp) c.record_id.ensures in
    let s = session_of (id_in_record c.args.named.now) h in
    let view = subst (λ (v : Option SessionView). IsViewOf v (session_of c.record_id.result.rsp h)) c.in-Some.is (c.view.ensures r h stands few) in
    let here = subst (λ (n : ℕ). IsViewOf (Some c.in-Some.view) (session_of n h)) id view in
    let key = subst (IsNextKey r s) c.in-Some-next_answer_key.is (c.next_answer_key.ensures r h stands) in
    fresh_next r s c.args.sealed.now c.in-Some.view c.in-Some-next_answer_key.key c.opens_by.result here.0 here.1 c.if-view-ge-MAX_RECORDS.false key.1 c.opens_by.ensures

pub returns-in-None : goal.returns-in-None
returns-in-None c = λ r h stands few.
    let id = ap (λ (x : SessionId). x.rsp) c.record_id.ensures in
    let s = session_of (id_in_record c.args.named.now) h in
    let view = subst (λ (v : Option SessionView). IsViewOf v (session_of c.record_id.result.rsp h)) c.in-Some.is (c.view.ensures r h stands few) in
    let here = subst (λ (n : ℕ). IsViewOf (Some c.in-Some.view) (session_of n h)) id view in
    some_next r s c.in-Some.view here.0 here.1 c.if-view-ge-MAX_RECORDS.false (subst (IsNextKey r s) c.in-None.is (c.next_answer_key.ensures r h stands))
