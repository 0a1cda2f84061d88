use Rattle.std.proofs.Common.{◌≡◌, ◌∙◌, ap, sym, subst, ℕ, [], Some}
use Rattle.std.proofs.lemmas.Bool.{false≢true}
use Rattle.responder_core.specs.SeenTerms.{AreTermsIn}
use Rattle.responder_machine.specs.Session.{id_in_record, is_live, session_of}
use Rattle.spdm_basis.specs.declared.values.session_id.SessionId.{SessionId}
use Rattle.check_responder.proofs.judged_responder.JudgedResponder.gives_shown.Goals as goal

pub returns-in-Some-clause-told : goal.returns-in-Some-clause-told
returns-in-Some-clause-told c = λ r h tag set stands few live opens.
    c.gives_under.ensures.told r h tag set stands few (subst (λ (n : ℕ). AreTermsIn (Some c.in-Some.terms) (session_of n h)) (ap (λ (x : SessionId). x.rsp) c.record_id.ensures) (c.in-Some.ensures r h stands)) opens

pub returns-in-Some-clause-stands : goal.returns-in-Some-clause-stands
returns-in-Some-clause-stands c = λ r h tag set stands few live is.
    c.gives_under.ensures.stands r h tag set stands few (subst (λ (n : ℕ). AreTermsIn (Some c.in-Some.terms) (session_of n h)) (ap (λ (x : SessionId). x.rsp) c.record_id.ensures) (c.in-Some.ensures r h stands)) is

pub returns-in-None-clause-told : goal.returns-in-None-clause-told
returns-in-None-clause-told c = λ r h tag set stands few live opens.
    let none : session_of (id_in_record c.args.request.now) h ≡ [] = subst (λ (n : ℕ). session_of n h ≡ []) (ap (λ (x : SessionId). x.rsp) c.record_id.ensures) (c.in-None.ensures r h stands) in
    absurd (false≢true (sym (ap is_live none) ∙ live))
