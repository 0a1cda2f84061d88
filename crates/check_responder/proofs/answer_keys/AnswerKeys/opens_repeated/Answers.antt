use Rattle.std.proofs.Common.{◌||◌, ◌∙◌, sym, ap, subst, List, ℕ}
use Rattle.responder_machine.specs.Session.{id_in_record, last_of, session_of}
use Rattle.spdm_basis.specs.declared.values.session_id.SessionId.{SessionId}
use Rattle.check_responder.proofs.KeysKept.{repeats_some}
use Rattle.check_responder.proofs.KeysOpen.{either_is}
use Rattle.check_responder.proofs.answer_keys.AnswerKeys.opens_repeated.Goals as goal
use Rattle.check_responder.specs.AnswerKeys.{IsLastKey, last_key}
use Rattle.capture_machine.specs.Opening.{opens_next}

pub returns-then-opens_again : goal.returns-then-opens_again
returns-then-opens_again c = λ r h stands few keys again.
    let request : List ℕ = c.args.request.now in
    let s = session_of (id_in_record request) h in
    let id = ap (λ (x : SessionId). x.rsp) c.record_id.ensures in
    let own = subst (λ (n : ℕ). IsLastKey r s (last_key c.args.self.now n)) (sym id) (keys.last (id_in_record request)) in
    let told = c.opens_again.ensures r s own (repeats_some (last_of s) request again) in
    c.if-opens_again.true ∙ sym (ap (λ b. b || opens_next r s c.args.sealed.now) (sym told ∙ c.if-opens_again.true))

pub returns-else-opens_again : goal.returns-else-opens_again
returns-else-opens_again c = λ r h stands few keys again.
    let request : List ℕ = c.args.request.now in
    let s = session_of (id_in_record request) h in
    let id = ap (λ (x : SessionId). x.rsp) c.record_id.ensures in
    let own = subst (λ (n : ℕ). IsLastKey r s (last_key c.args.self.now n)) (sym id) (keys.last (id_in_record request)) in
    let told = c.opens_again.ensures r s own (repeats_some (last_of s) request again) in
    c.opens_next.ensures r h stands (either_is few) ∙ sym (ap (λ b. b || opens_next r s c.args.sealed.now) (sym told ∙ c.if-opens_again.false))
