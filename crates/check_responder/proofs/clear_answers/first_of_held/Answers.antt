use Rattle.std.proofs.Common.{◌∙◌, sym, true, false}
use Rattle.std.proofs.lemmas.Bool.{eq-eqb, ne_eqb}
use Rattle.responder_machine.specs.Place.{held_of}
use Rattle.check_responder.proofs.ShownDrops.{few_held, first_held, last_held, second_held, third_held}
use Rattle.check_responder.proofs.clear_answers.first_of_held.Goals as goal

pub returns-then-held-ne-MAX_SESSIONS : goal.returns-then-held-ne-MAX_SESSIONS
returns-then-held-ne-MAX_SESSIONS c = λ r h stands. few_held h (ne_eqb (held_of h) 4 (λ e. c.if-held-ne-MAX_SESSIONS.true (c.held.ensures r h stands ∙ e)))

pub returns-then-is_timed : goal.returns-then-is_timed
returns-then-is_timed c = λ r h stands.
    let all = eq-eqb (held_of h) 4 (sym (c.held.ensures r h stands) ∙ c.if-held-ne-MAX_SESSIONS.false) in
    first_held h all (sym (c.is_timed.ensures r h stands) ∙ c.if-is_timed.true)

pub returns-then-is_timed-2 : goal.returns-then-is_timed-2
returns-then-is_timed-2 c = λ r h stands.
    let all = eq-eqb (held_of h) 4 (sym (c.held.ensures r h stands) ∙ c.if-held-ne-MAX_SESSIONS.false) in
    second_held h all (sym (c.is_timed.ensures r h stands) ∙ c.if-is_timed.false) (sym (c.is_timed-2.ensures r h stands) ∙ c.if-is_timed-2.true)

pub returns-then-is_timed-3 : goal.returns-then-is_timed-3
returns-then-is_timed-3 c = λ r h stands.
    let all = eq-eqb (held_of h) 4 (sym (c.held.ensures r h stands) ∙ c.if-held-ne-MAX_SESSIONS.false) in
    third_held h all (sym (c.is_timed.ensures r h stands) ∙ c.if-is_timed.false) (sym (c.is_timed-2.ensures r h stands) ∙ c.if-is_timed-2.false) (sym (c.is_timed-3.ensures r h stands) ∙ c.if-is_timed-3.true)

pub returns-then-is_timed-4 : goal.returns-then-is_timed-4
returns-then-is_timed-4 c = λ r h stands.
    let all = eq-eqb (held_of h) 4 (sym (c.held.ensures r h stands) ∙ c.if-held-ne-MAX_SESSIONS.false) in
    last_held h all (sym (c.is_timed.ensures r h stands) ∙ c.if-is_timed.false) (sym (c.is_timed-2.ensures r h stands) ∙ c.if-is_timed-2.false) (sym (c.is_timed-3.ensures r h stands) ∙ c.if-is_timed-3.false)
    true (sym (c.is_timed-4.ensures r h stands) ∙ c.if-is_timed-4.true)

pub returns : goal.returns
returns c = λ r h stands.
    let all = eq-eqb (held_of h) 4 (sym (c.held.ensures r h stands) ∙ c.if-held-ne-MAX_SESSIONS.false) in
    last_held h all (sym (c.is_timed.ensures r h stands) ∙ c.if-is_timed.false) (sym (c.is_timed-2.ensures r h stands) ∙ c.if-is_timed-2.false) (sym (c.is_timed-3.ensures r h stands) ∙ c.if-is_timed-3.false)
    false (sym (c.is_timed-4.ensures r h stands) ∙ c.if-is_timed-4.false)
