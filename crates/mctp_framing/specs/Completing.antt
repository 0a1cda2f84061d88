-- The body that the next packet would complete. This project's own.
use Rattle.std.specs.Prelude.{◌≡◌, ◌++◌, ℕ, List, Option, Some, None}
use Rattle.std.specs.Option.{option_map}
use Rattle.mctp_framing.specs.Cutting.{RouteFields, route_of}
use Rattle.mctp_framing.specs.Gathering.{Gathered, route_of_packet}
use Rattle.mctp_framing.specs.Gathering.Gathered.{Whole, More, Dropped}
use Rattle.mctp_framing.specs.Packet.{PacketFields}
use Rattle.mctp_framing.specs.declared.completing.Completing.{Completing}

-- A whole body, with its route.
pub record WholeBody : Type 0 where
  pub route : RouteFields
  pub body : List ℕ

-- The body that a packet completes; none where it completes none.
abbrev pub completed : Gathered → Option WholeBody
completed (Whole route body) = Some (record { route = route; body = body })
completed More = None
completed (Dropped cause) = None

-- The packet completes a body, of which these bytes came before it.
abbrev pub IsCompleted : (before : List ℕ) → PacketFields → Gathered → Type 0
IsCompleted before p g = g ≡ Whole (route_of_packet p) (before ++ p.payload)

-- What came before a packet, with the payload of the packet behind it.
abbrev pub completed_by : Option Completing → (payload : List ℕ) → Option WholeBody
completed_by o payload = option_map (λ (c : Completing). record { route = route_of c.route; body = c.before.now ++ payload }) o
