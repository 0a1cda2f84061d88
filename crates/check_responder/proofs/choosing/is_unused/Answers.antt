use Rattle.std.proofs.Common.{◌≡◌, ◌∙◌, ◌==◌, ◌||◌, ap, sym, Bool, true, false}
use Rattle.std.proofs.lemmas.Bool.{eq-eqb, ne_eqb}
use Rattle.std.specs.Prelude.{not}
use Rattle.responder_machine.specs.Place.{held_of, is_held}
use Rattle.responder_machine.specs.Session.{session_of}
use Rattle.check_responder.proofs.choosing.is_unused.Goals as goal

pub returns-then-held-eq-MAX_SESSIONS : goal.returns-then-held-eq-MAX_SESSIONS
returns-then-held-eq-MAX_SESSIONS c = λ r h stands few.
    let all : (held_of h == 4) ≡ true = eq-eqb (held_of h) 4 (sym (c.held.ensures r h stands) ∙ c.if-held-eq-MAX_SESSIONS.true) in
    eq-eqb c.held.result 4 c.if-held-eq-MAX_SESSIONS.true ∙ sym (ap (λ (b : Bool). b || not (is_held h c.args.id)) all)

pub returns-else-held-eq-MAX_SESSIONS : goal.returns-else-held-eq-MAX_SESSIONS
returns-else-held-eq-MAX_SESSIONS c = λ r h stands few.
    let some : (held_of h == 4) ≡ false = ne_eqb (held_of h) 4 (λ e. c.if-held-eq-MAX_SESSIONS.false (c.held.ensures r h stands ∙ e)) in
    ap not (c.is_held.ensures (session_of c.args.id h) (c.view.ensures r h stands few)) ∙ sym (ap (λ (b : Bool). b || not (is_held h c.args.id)) some)
