use Rattle.std.proofs.Common.{sym, subst, List, ℕ}
use Rattle.responder_core.proofs.clear.clear_state.ClearState.answer.Goals as goal
use Rattle.responder_core.specs.ClearState.{place_at}
use Rattle.responder_core.specs.Taking.{IsTaking}
use Rattle.responder_rules.specs.Place.{where_of}
use Rattle.spdm_grammar.specs.Message.{request_message}

pub returns-clause-stands : goal.returns-clause-stands
returns-clause-stands c = λ r turns held f t setup handle stands place taking.
    let now = subst (λ (a : List ℕ). IsTaking r (place_at (where_of c.args.place.now.at) turns held) c.args.message.now f (request_message c.args.request.now) a t) (sym c.as_slice.ensures.value) taking in
    c.take.ensures r turns held f t setup handle stands place now
