use Rattle.std.proofs.Common.{subst, sym}
use Rattle.responder_core.proofs.connected.Connection.under_way.Goals as goal
use Rattle.responder_core.specs.Coming.{Seen, StandsFor}
use Rattle.responder_machine.specs.History.{clear_turns}

pub returns : goal.returns
returns c = λ r h stands. c.under_way.ensures r (clear_turns h) (subst (λ (s : Seen). StandsFor s r (clear_turns h)) (sym c.requests.ensures) stands.clear.requests)
