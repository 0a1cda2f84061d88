use Rattle.std.proofs.Common.{◌∙◌, ◌∷◌, [], ap, sym, subst, cond, ℕ, Bool}
use Rattle.responder_core.specs.Connected.{StandsFor}
use Rattle.responder_machine.specs.History.Entry.{Dropped}
use Rattle.responder_machine.specs.May.{with_dropped}
use Rattle.responder_machine.specs.Session.{id_in_record}
use Rattle.spdm_basis.specs.declared.values.session_id.SessionId.{SessionId}
use Rattle.check_responder.proofs.judged_responder.JudgedResponder.drop_closed.Goals as goal

pub returns-then-shows_drop : goal.returns-then-shows_drop
returns-then-shows_drop c = λ r h stands.
    let id : ℕ = id_in_record c.args.request.now in
    let shows = sym (c.shows_drop.ensures r h stands) ∙ c.if-shows_drop.true in
    subst (λ (b : Bool). StandsFor c.expire.new.self r (with_dropped h (cond b (id ∷ []) []))) (sym shows)
    (subst (λ (n : ℕ). StandsFor c.expire.new.self r (Dropped n ∷ h)) (ap (λ (x : SessionId). x.rsp) c.record_id.ensures) (c.expire.ensures r h stands))
