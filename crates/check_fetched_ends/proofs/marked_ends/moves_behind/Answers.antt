use Rattle.std.proofs.Common.{◌≡◌, ◌==◌, ◌&&◌, ◌∙◌, refl, sym, ap, subst, drop, ne_eqb, List, ℕ, Bool, true, false, cond}
use Rattle.std.specs.Prelude.{not, slice_index}
use Rattle.check_laws.specs.KeptChanges.{is_kept_record}
use Rattle.check_fetched_ends.proofs.marked_ends.moves_behind.Goals as goal
use Rattle.check_fetched_ends.specs.Marked.{is_taken_by, is_touched_by}
use Rattle.responder_machine.specs.History.{kept_of}
use Rattle.responder_machine.specs.Responder.{is_repeat}
use Rattle.responder_machine.specs.Session.{id_in_record, is_live, session_of}

pub returns-then-repeats : goal.returns-then-repeats
returns-then-repeats c = λ w q older rows d h stands walk clear sealed.
    let body : List ℕ = c.args.body.now in
    let m : List ℕ = drop 1 body in
    let type = ap (λ (n : ℕ). n == 5) (sym c.byte_at.ensures ∙ c.if-byte_at-eq-SPDM.true) in
    sym
    (ap (λ (b : Bool). cond b (is_taken_by h d.responder c.args.tag m) (is_touched_by h d.responder m c.args.answer.now)) type
    ∙ ap (λ (b : Bool). not b && is_repeat (kept_of d.responder) c.args.tag m) (sym (clear type) ∙ c.if-repeats.true))

pub returns-then-byte_at-eq-SPDM : goal.returns-then-byte_at-eq-SPDM
returns-then-byte_at-eq-SPDM c = λ w q older rows d h stands walk clear sealed.
    let body : List ℕ = c.args.body.now in
    let m : List ℕ = drop 1 body in
    let type = ap (λ (n : ℕ). n == 5) (sym c.byte_at.ensures ∙ c.if-byte_at-eq-SPDM.true) in
    c.repeats_clear.ensures w q older rows d stands walk ∙ ap (λ (l : List ℕ). is_repeat (kept_of d.responder) c.args.tag l) c.behind_type-message.ensures
    ∙ sym
    (ap (λ (b : Bool). cond b (is_taken_by h d.responder c.args.tag m) (is_touched_by h d.responder m c.args.answer.now)) type
    ∙ ap (λ (b : Bool). not b && is_repeat (kept_of d.responder) c.args.tag m) (sym (clear type) ∙ c.if-repeats.false))

pub returns-then-not-live : goal.returns-then-not-live
returns-then-not-live c = λ w q older rows d h stands walk clear sealed.
    let body : List ℕ = c.args.body.now in
    let m : List ℕ = drop 1 body in
    let type = ne_eqb (slice_index body 0) 5 (λ e. c.if-byte_at-eq-SPDM.false (c.byte_at.ensures ∙ e)) in
    let it = sealed type in
    let open_answer = ap (λ (n : ℕ). n == 5) (sym c.byte_at-2.ensures ∙ c.if-byte_at-eq-SPDM-2.true) in
    let gone : Bool = not (is_live (session_of (id_in_record m) d.responder)) in
    sym
    (ap (λ (b : Bool). cond b (is_taken_by h d.responder c.args.tag m) (is_touched_by h d.responder m c.args.answer.now)) type
    ∙ ap (λ (b : Bool). cond b (is_live (session_of (id_in_record m) h) && gone) (not (is_kept_record h m))) open_answer ∙ ap (λ (b : Bool). b && gone) (sym it.1 ∙ c.if-not-live.true))

pub returns-then-byte_at-eq-SPDM-2 : goal.returns-then-byte_at-eq-SPDM-2
returns-then-byte_at-eq-SPDM-2 c = λ w q older rows d h stands walk clear sealed.
    let body : List ℕ = c.args.body.now in
    let m : List ℕ = drop 1 body in
    let type = ne_eqb (slice_index body 0) 5 (λ e. c.if-byte_at-eq-SPDM.false (c.byte_at.ensures ∙ e)) in
    let it = sealed type in
    let open_answer = ap (λ (n : ℕ). n == 5) (sym c.byte_at-2.ensures ∙ c.if-byte_at-eq-SPDM-2.true) in
    let gone : Bool = not (is_live (session_of (id_in_record m) d.responder)) in
    ap not (c.is_live_in.ensures w q older rows d stands walk it.2 ∙ ap (λ (l : List ℕ). is_live (session_of (id_in_record l) d.responder)) c.behind_type-message.ensures)
    ∙ sym
    (ap (λ (b : Bool). cond b (is_taken_by h d.responder c.args.tag m) (is_touched_by h d.responder m c.args.answer.now)) type
    ∙ ap (λ (b : Bool). cond b (is_live (session_of (id_in_record m) h) && gone) (not (is_kept_record h m))) open_answer ∙ ap (λ (b : Bool). b && gone) (sym it.1 ∙ c.if-not-live.false))

pub returns : goal.returns
returns c = λ w q older rows d h stands walk clear sealed.
    let body : List ℕ = c.args.body.now in
    let m : List ℕ = drop 1 body in
    let type = ne_eqb (slice_index body 0) 5 (λ e. c.if-byte_at-eq-SPDM.false (c.byte_at.ensures ∙ e)) in
    let closed = ne_eqb (slice_index c.args.answer.now 0) 5 (λ e. c.if-byte_at-eq-SPDM-2.false (c.byte_at-2.ensures ∙ e)) in
    let gone : Bool = not (is_live (session_of (id_in_record m) d.responder)) in
    ap not (sealed type).0
    ∙ sym
    (ap (λ (b : Bool). cond b (is_taken_by h d.responder c.args.tag m) (is_touched_by h d.responder m c.args.answer.now)) type
    ∙ ap (λ (b : Bool). cond b (is_live (session_of (id_in_record m) h) && gone) (not (is_kept_record h m))) closed)
