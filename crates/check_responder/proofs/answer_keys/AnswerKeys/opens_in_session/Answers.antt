use Rattle.std.proofs.Common.{◌∙◌, refl, sym, subst, List, ℕ, Option}
use Rattle.responder_machine.specs.History.{ended_of}
use Rattle.responder_machine.specs.Session.{id_in_record, session_of}
use Rattle.responder_session.specs.declared.answer_key.AnswerKey.{AnswerKey}
use Rattle.check_responder.proofs.KeysComing.{none_had, reply_had}
use Rattle.check_responder.proofs.KeysKept.{repeats_some}
use Rattle.check_responder.proofs.KeysOpen.{by_again, by_ended, by_next, by_reply, either_is, reply_key}
use Rattle.check_responder.proofs.answer_keys.AnswerKeys.opens_in_session.Goals as goal
use Rattle.check_responder.specs.Opening.{IsByKey}
use Rattle.capture_machine.specs.Opening.{any_free, opens_in_session, opens_to, turn_in}

pub returns-then-repeats_ended : goal.returns-then-repeats_ended
returns-then-repeats_ended c = λ r h stands few keys coming.
    let request : List ℕ = c.args.request.now in
    let again = sym (c.repeats_ended.ensures r h stands) ∙ c.if-repeats_ended.true in
    by_ended r h (session_of (id_in_record request) h) request c.args.sealed.now c.opens_ended-opens.result again
    (c.opens_ended-opens.ensures r h keys.ended (repeats_some (ended_of h) request again))

pub returns-then-repeats_last : goal.returns-then-repeats_last
returns-then-repeats_last c = λ r h stands few keys coming.
    let request : List ℕ = c.args.request.now in
    let again = sym (c.repeats_last.ensures r h stands) ∙ c.if-repeats_last.true in
    by_again r h (session_of (id_in_record request) h) request c.args.sealed.now c.opens_repeated-opens.result (sym (c.repeats_ended.ensures r h stands) ∙ c.if-repeats_ended.false) again
    (c.opens_repeated-opens.ensures r h stands few keys again)

pub returns-in-Some : goal.returns-in-Some
returns-in-Some c = λ r h stands few keys coming.
    let request : List ℕ = c.args.request.now in
    let sealed : List ℕ = c.args.sealed.now in
    let s = session_of (id_in_record request) h in
    let other = sym (c.repeats_ended.ensures r h stands) ∙ c.if-repeats_ended.false in
    let anew = sym (c.repeats_last.ensures r h stands) ∙ c.if-repeats_last.false in
    let own = reply_had c.args.coming.now r h request c.in-Some.field-0 c.in-Some.is other anew coming any_free in
    let is = opens_in_session r h s request sealed in
    let t = turn_in r s request in
    subst (λ (o : Option AnswerKey). IsByKey o sealed is) (sym c.in-Some.is)
    (reply_key r s t sealed c.in-Some.field-0 is own.2 (by_reply r h s request sealed (opens_to r s t sealed) other anew own.0 refl))

pub returns-in-None : goal.returns-in-None
returns-in-None c = λ r h stands few keys coming.
    let request : List ℕ = c.args.request.now in
    let s = session_of (id_in_record request) h in
    let other = sym (c.repeats_ended.ensures r h stands) ∙ c.if-repeats_ended.false in
    let anew = sym (c.repeats_last.ensures r h stands) ∙ c.if-repeats_last.false in
    by_next r h s request c.args.sealed.now c.opens_next-opens.result other anew (none_had c.args.coming.now r h request c.in-None.is other anew coming) (c.opens_next-opens.ensures r h stands (either_is few))
