use Rattle.std.proofs.Common.{◌∙◌, ℕ, List, sym, subst}
use Rattle.check_fetched_ends.proofs.LastExchange.{exchange_held}
use Rattle.check_fetched_ends.specs.AskedInClear.{IsExchangeBy, chunk_at}
use Rattle.responder_machine.specs.History.{clear_turns}
use Rattle.check_fetched_ends.proofs.clear_fetch.held_last.holds_exchange.Goals as goal

pub returns : goal.returns
returns c = λ r h keys b.
    let m = c.as_slice.ensures.value ∙ sym b.request in
    exchange_held c.args.answerer.now keys c.args.held.now r h b c.asks_exchange.result
    (subst (λ (l : List ℕ). IsExchangeBy r (clear_turns b.left) l (chunk_at (clear_turns b.left) l) c.asks_exchange.result) m (c.asks_exchange.ensures r b.left b.stands))
