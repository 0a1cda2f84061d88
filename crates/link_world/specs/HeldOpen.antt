-- The sessions that are held open, as they are counted: by what the ends show of them. This project's own.
use Rattle.std.specs.Prelude.{◌+◌, ℕ, List, Bool, Option, Some, None}
use Rattle.requester_machine.specs.Requesting.{Requesting}
use Rattle.responder_machine.specs.Place.{held_of}
use Rattle.responder_machine.specs.Responding.{Connection, connection_of}
use Rattle.spdm_grammar.specs.declared.told.session_view.SessionView.{SessionView}
use Rattle.spdm_machine.specs.Sessions.{is_past_handshake}
use Rattle.world_machine.specs.Totals.{asked_live}

-- A session that is shown is held open where it is established.
abbrev pub is_open : SessionView → Bool
is_open view = is_past_handshake view.stage

-- A count of a connection; where there is none, nothing is counted.
abbrev pub count_at : (Connection → ℕ) → Option Connection → ℕ
count_at count None = 0
count_at count (Some c) = count c

-- How many sessions a requester holds open, and the responder with it.
abbrev pub live_with : Requesting → List Connection → ℕ
live_with a connections = asked_live a + count_at (λ c. held_of c.history) (connection_of a.setup.eid connections)
