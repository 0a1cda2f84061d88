use Rattle.std.proofs.Common.{◌≡◌, ◌∙◌, ◌&&◌, ap, sym, ℕ, Bool, true}
use Rattle.responder_machine.specs.Session.{id_in_record, is_live, session_of}
use Rattle.spdm_basis.proofs.Bools.{and_second}
use Rattle.spdm_basis.specs.declared.values.session_id.SessionId.{SessionId}
use Rattle.check_responder.proofs.record_closed.shows_drop.Goals as goal
use Rattle.check_laws.specs.DropsShown.{may_be_dropped}
use Rattle.capture_machine.specs.CapturedAnswers.{belongs_to}

pub returns-then-belongs : goal.returns-then-belongs
returns-then-belongs c = λ r h stands.
    let request = c.args.request.now in
    let id : ℕ = id_in_record request in
    let s = session_of id h in
    let one : belongs_to r s request ≡ true = and_second (is_live s) (belongs_to r s request) (sym (c.belongs-belongs.ensures r h stands) ∙ c.if-belongs.true) in
    c.is_timed-timed.ensures r h stands ∙ ap (λ (n : ℕ). may_be_dropped h n) (ap (λ (x : SessionId). x.rsp) c.record_id.ensures) ∙ sym (ap (λ (b : Bool). b && may_be_dropped h id) one)
