use Rattle.responder_core.proofs.connected.Connection.is_pending.Goals as goal
use Rattle.responder_machine.specs.History.{clear_turns}
use Rattle.responder_machine.specs.Place.{held_of}
use Rattle.responder_machine.specs.Place.Where.{InClear}

pub returns : goal.returns
returns c = λ r h stands. c.is_pending.ensures InClear (clear_turns h) (held_of h) (c.standing.ensures.stands r h stands.clear)
