use Rattle.std.proofs.Common.{◌≡◌, ◌==◌, ◌||◌, ◌∙◌, ℕ, List, Bool, true, false, cond, Some, None, drop, sym, ap}
use Rattle.std.specs.Prelude.{slice_index}
use Rattle.check_laws.specs.KeptChanges.{is_kept_record, taken_shown}
use Rattle.responder_machine.specs.History.{History}
use Rattle.responder_machine.specs.Session.{id_in_record}
use Rattle.spdm_basis.specs.declared.values.session_id.SessionId.{SessionId}
use Rattle.check_responder.proofs.judged_responder.JudgedResponder.taken.Goals as goal

taken_by : (h : History) (body answer : List ℕ) (b : Bool) → (slice_index body 0 == 5) ≡ false → (slice_index answer 0 == 5) ≡ false → is_kept_record h (drop 1 body) ≡ b
    → taken_shown h body answer ≡ cond b None (Some (id_in_record (drop 1 body)))
taken_by h body answer b type plain again =
    ap (λ (x : Bool). cond (x || (slice_index answer 0 == 5 || is_kept_record h (drop 1 body))) None (Some (id_in_record (drop 1 body)))) type
    ∙ ap (λ (x : Bool). cond (x || is_kept_record h (drop 1 body)) None (Some (id_in_record (drop 1 body)))) plain
    ∙ ap (λ (x : Bool). cond x None (Some (id_in_record (drop 1 body)))) again

pub returns-then-is_repeated : goal.returns-then-is_repeated
returns-then-is_repeated c = λ r h stands.
    sym (taken_by h c.args.body.now c.args.answer.now true (sym c.is_clear.ensures ∙ c.if-is_clear.false) (sym c.is_clear-2.ensures ∙ c.if-is_clear-2.false)
    (ap (is_kept_record h) (sym c.rest_of-sealed.ensures) ∙ sym (c.is_repeated.ensures r h stands) ∙ c.if-is_repeated.true))

pub returns : goal.returns
returns c = λ r h stands.
    ap (λ (n : ℕ). Some n) (ap (λ (x : SessionId). x.rsp) c.record_id.ensures ∙ ap id_in_record c.rest_of-sealed.ensures)
    ∙ sym (taken_by h c.args.body.now c.args.answer.now false (sym c.is_clear.ensures ∙ c.if-is_clear.false) (sym c.is_clear-2.ensures ∙ c.if-is_clear-2.false)
    (ap (is_kept_record h) (sym c.rest_of-sealed.ensures) ∙ sym (c.is_repeated.ensures r h stands) ∙ c.if-is_repeated.false))
