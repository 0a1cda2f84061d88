use Rattle.std.proofs.Common.{ℕ, Some, Bool, sym, subst}
use Rattle.check_laws.specs.DropsShown.{dropped_for}
use Rattle.responder_core.specs.Connected as connected
use Rattle.check_fetched_ends.specs.LastHeld.{drops_if}
use Rattle.responder_machine.specs.May.{with_dropped}
use Rattle.check_fetched_ends.proofs.clear_fetch.held_whole.drop_shown.Goals as goal

pub returns-then-exchange : goal.returns-then-exchange
returns-then-exchange c = λ r h stands.
    subst (λ (b : Bool). connected.StandsFor c.drop_timed.new.connection r (with_dropped h (drops_if b h c.args.whole.now))) (sym c.if-exchange.true)
    (subst (λ (n : ℕ). connected.StandsFor c.drop_timed.new.connection r (with_dropped h (dropped_for h (Some n)))) c.rsp_id_in.ensures (c.drop_timed.ensures r h stands))
