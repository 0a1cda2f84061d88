use Rattle.std.proofs.Common.{◌≡◌, ◌==◌, ◌&&◌, ◌∙◌, ℕ, List, Bool, ap, cond, drop, sym, true, false}
use Rattle.std.specs.Prelude.{slice_index}
use Rattle.check_fetched_ends.proofs.marked.MarkedEnds.may_come_again.Goals as goal
use Rattle.check_fetched_ends.specs.LateBegins.{is_free_body, is_large_body}
use Rattle.responder_machine.specs.Responder.{repeats}
use Rattle.responder_machine.specs.Session.{id_in_record, last_of, session_of}

pub returns-then-is_clear : goal.returns-then-is_clear
returns-then-is_clear c = λ r h stands.
    let body : List ℕ = c.args.body.now in
    let type : (slice_index body 0 == 5) ≡ true = sym c.is_clear.ensures ∙ c.if-is_clear.true in
    c.may_begin_late.ensures ∙ sym (ap (λ (b : Bool). cond b (is_free_body body && is_large_body c.args.answer.now) (repeats (last_of (session_of (id_in_record (drop 1 body)) h)) (drop 1 body))) type)

pub returns : goal.returns
returns c = λ r h stands.
    let body : List ℕ = c.args.body.now in
    let type : (slice_index body 0 == 5) ≡ false = sym c.is_clear.ensures ∙ c.if-is_clear.false in
    c.repeats_last.ensures r h stands ∙ ap (λ (m : List ℕ). repeats (last_of (session_of (id_in_record m) h)) m) c.behind_type.ensures
    ∙ sym (ap (λ (b : Bool). cond b (is_free_body body && is_large_body c.args.answer.now) (repeats (last_of (session_of (id_in_record (drop 1 body)) h)) (drop 1 body))) type)
