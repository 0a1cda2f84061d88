use Rattle.std.proofs.Common.{subst, sym, List, ℕ}
use Rattle.responder_core.proofs.Exchanged.{Starts, exchange_shown, started_at}
use Rattle.responder_core.proofs.clear.clear_part.ClearPart.start.Goals as goal
use Rattle.responder_machine.specs.History.{clear_turns}
use Rattle.responder_machine.specs.Place.{clear_place, held_of}
use Rattle.responder_core.specs.ClearState as standing

pub returns : goal.returns
returns c = λ r h tag f setup free allowed beginning.
    let seen = c.args.self.now.requests in
    let shown = exchange_shown r (clear_place h) c.args.message.now f c.args.begun seen tt beginning.begins in
    let stands = subst (λ (s : standing.Seen). standing.StandsFor s (clear_turns h)) (sym c.standing.ensures.value) shown.standing in
    started_at r h c.args.message.now f c.args.begun seen c.start.result c.start.new.out beginning.begins
    (subst (λ (bytes : List ℕ). Starts r h bytes f c.start.result c.start.new.out) c.exchange-exchange.ensures
    (λ at asked is fits. c.start.ensures r at (clear_turns h) (held_of h) f asked setup free stands is fits))
