use Rattle.std.proofs.Common.{◌≤◌, ◌∙◌, sym, subst, drop, length, List, ℕ, arith}
use Rattle.std.proofs.lemmas.Bool.{false≢true}
use Rattle.responder_machine.specs.Answer.{answer_bytes}
use Rattle.responder_machine.specs.Place.{session_place}
use Rattle.responder_machine.specs.Session.{id_in_record, session_of}
use Rattle.spdm_grammar.specs.declared.names.TheConstants.{MAX_MESSAGE_SIZE}
use Rattle.check_responder.proofs.judged_responder.JudgedResponder.gives.Goals as goal

pub returns-then-not-may_give-clause-told : goal.returns-then-not-may_give-clause-told
returns-then-not-may_give-clause-told c = λ r h tag f set stands few free chosen opens.
    let p = session_place (session_of (id_in_record c.args.request.now) h) in
    let test = c.may_give.ensures.told r h p f set stands (omega (arith, few)) free chosen in (
      λ no. absurd (false≢true no),
      λ a. absurd (false≢true (sym c.if-not-may_give.true ∙ test.1 (a.allowed, subst (λ (l : List ℕ). length (answer_bytes r p (drop 1 l) f) ≤ MAX_MESSAGE_SIZE) (sym opens) a.short))),
    )

pub returns-clause-told : goal.returns-clause-told
returns-clause-told c = λ r h tag f set stands few free chosen opens.
    let p = session_place (session_of (id_in_record c.args.request.now) h) in
    let known = (c.may_give.ensures.told r h p f set stands (omega (arith, few)) free chosen).0 c.if-not-may_give.false in
    let told = c.sends.ensures.told r h tag f set stands few (c.record_free.ensures.free f free) in (
      λ is. record { allowed = known.0; short = subst (λ (l : List ℕ). length (answer_bytes r p (drop 1 l) f) ≤ MAX_MESSAGE_SIZE) opens known.1; body = told.0 is },
      λ a. told.1 a.body,
    )

pub returns-clause-stands : goal.returns-clause-stands
returns-clause-stands c = λ r h tag f set stands few free is. c.sends.ensures.stands r h tag f set stands few (c.record_free.ensures.free f free)
