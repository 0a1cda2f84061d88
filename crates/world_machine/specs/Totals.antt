-- What is counted of a whole world: packets, application messages, and sessions that are held open. This project's own.
use Rattle.std.specs.Prelude.{◌+◌, ℕ, List, [], ◌∷◌, length}
use Rattle.requester_machine.specs.Requesting.{Requesting}
use Rattle.requester_machine.specs.Shown as asked
use Rattle.responder_machine.specs.History.{all_taken}
use Rattle.responder_machine.specs.Place.{held_of}
use Rattle.responder_machine.specs.Responding.{Connection}
use Rattle.spdm_machine.specs.Sessions.{one_if}
use Rattle.world_machine.specs.Agreement.{holds}
use Rattle.world_machine.specs.World.{World}

-- How many packets were sent, how many application messages were ever taken at both ends, and how many sessions are
-- held open: one that both ends hold counts twice.
pub record Totals : Type 0 where
  pub packets : ℕ
  pub taken : ℕ
  pub live : ℕ

-- The sessions that a requester holds open. They have the ids from 1 to 4.
abbrev pub asked_live : Requesting → ℕ
asked_live a = one_if (holds a.history 1) + one_if (holds a.history 2) + one_if (holds a.history 3) + one_if (holds a.history 4)

-- A count over all requesters, and over all connections.
abbrev pub over_requesters : (Requesting → ℕ) → List Requesting → ℕ
over_requesters count [] = 0
over_requesters count (a ∷ others) = count a + over_requesters count others

abbrev pub over_connections : (Connection → ℕ) → List Connection → ℕ
over_connections count [] = 0
over_connections count (c ∷ others) = count c + over_connections count others

-- The totals of a world.
abbrev pub totals_of : World → Totals
totals_of world = record {
  packets = length world.sent;
  taken = over_requesters (λ a. asked.all_taken a.history) world.requesters + over_connections (λ c. all_taken c.history) world.responder.connections;
  live = over_requesters asked_live world.requesters + over_connections (λ c. held_of c.history) world.responder.connections;
}
