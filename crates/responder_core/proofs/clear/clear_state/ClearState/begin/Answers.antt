use Rattle.std.proofs.Common.{◌∙◌, subst, ap}
use Rattle.responder_core.proofs.clear.clear_state.ClearState.begin.Goals as goal
use Rattle.responder_core.specs.ClearState.{place_at}
use Rattle.responder_core.specs.Taking.{IsTaking}
use Rattle.responder_rules.specs.Place.{IsPlace, where_of}
use Rattle.responder_machine.specs.Handling.{sent_for}
use Rattle.responder_machine.specs.Place.{Where}
use Rattle.spdm_grammar.specs.Message.RequestMessage.{PskExchange}

pub returns-clause-stands : goal.returns-clause-stands
returns-clause-stands c = λ r turns held m f exchange t handle stands taking.
    let place = c.place-place.ensures turns held stands in
    let here = subst (λ (a : Where). IsPlace c.place-place.result (place_at a turns held)) place.at place in
    c.take_exchange.ensures r turns held m f exchange t handle stands here (subst (λ (a : Where). IsTaking r (place_at a turns held) m f (PskExchange exchange) c.args.answer.now t) place.at taking)

pub returns-clause-sent : goal.returns-clause-sent
returns-clause-sent c = λ turns held f handle stands.
    c.send.ensures (place_at (where_of c.args.at) turns held) f (c.place-place.ensures turns held stands) handle ∙ ap (sent_for (place_at (where_of c.args.at) turns held) f) c.replace.ensures
