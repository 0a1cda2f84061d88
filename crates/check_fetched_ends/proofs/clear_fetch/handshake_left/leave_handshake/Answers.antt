use Rattle.std.proofs.Common.{Bool, sym, subst}
use Rattle.check_fetched_ends.specs.AskedInClear.{IsLeftIf}
use Rattle.check_fetched_ends.proofs.clear_fetch.handshake_left.leave_handshake.Goals as goal

pub returns-then-exchange : goal.returns-then-exchange
returns-then-exchange c = λ r h stands few.
    let left = c.end_handshake.ensures r h stands few in
    (left.0, subst (λ (b : Bool). IsLeftIf b h left.0) (sym c.if-exchange.true) left.1, left.2)
