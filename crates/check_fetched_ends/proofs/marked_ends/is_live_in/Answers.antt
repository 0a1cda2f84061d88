use Rattle.std.proofs.Common.{◌≡◌, ◌∙◌, ℕ, ap, refl, subst, sym, true, false, Option, Some, None, is_some}
use Rattle.responder_core.specs.SeenTerms.{AreTermsIn}
use Rattle.check_fetched_ends.proofs.EndsSeen.{stands_like}
use Rattle.check_fetched_ends.proofs.marked_ends.is_live_in.Goals as goal
use Rattle.responder_machine.specs.Session.{Events, id_in_record, is_live, session_of}
use Rattle.session_keys.specs.declared.terms.SessionTerms.{SessionTerms}

-- There are terms exactly of a live session.
live_by : (o : Option SessionTerms) (s : Events) → AreTermsIn o s → is_some o ≡ is_live s
live_by None s none = ap is_live (sym none)
live_by (Some terms) s are = sym are.0

pub returns : goal.returns
returns c = λ w q older rows d stands walk other.
    let like = stands_like w q older d walk c.args.ends.now rows stands other in
    let id : c.record_id.result.rsp ≡ id_in_record c.args.request.now = ap (λ x. x.rsp) c.record_id.ensures in
    c.is_some.ensures ∙ live_by c.session_terms.result (session_of c.record_id.result.rsp like.history) (c.session_terms.ensures like.responder like.history like.stands)
    ∙ ap (λ (n : ℕ). is_live (session_of n like.history)) id ∙ like.live (id_in_record c.args.request.now)
