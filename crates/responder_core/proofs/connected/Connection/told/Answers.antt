use Rattle.std.proofs.Common.{sym, subst}
use Rattle.responder_core.proofs.connected.Connection.told.Goals as goal
use Rattle.responder_core.specs.Coming.{Seen, StandsFor}
use Rattle.responder_machine.specs.History.{clear_turns}

pub returns-clause-value : goal.returns-clause-value
returns-clause-value c = λ r h stands. c.told.ensures.value r (clear_turns h) (subst (λ (x : Seen). StandsFor x r (clear_turns h)) (sym c.requests.ensures) stands.clear.requests)
