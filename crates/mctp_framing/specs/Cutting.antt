-- A message body as packets (DSP0236, "Message assembly", "Packet sequence number").
use Rattle.std.specs.Prelude.{zero, suc, [], ◌∷◌, ◌==◌, ◌+◌, ◌*◌, ◌%◌, ℕ, Bool, true, List, map, length, slice_range}
use Rattle.std.specs.Int.{div_ceil}
use Rattle.std.specs.List.{range_with_len}
use Rattle.mctp_framing.specs.Packet.{PacketFields, spelled_packet}
use Rattle.mctp_framing.specs.declared.route.Route.{Route}

-- What the packets of one body share: destination, source, tag owner bit and message tag.
pub record RouteFields : Type 0 where
  pub to : ℕ
  pub from : ℕ
  pub owner : Bool
  pub tag : ℕ

-- A route as its fields.
abbrev pub route_of : Route → RouteFields
route_of route = record { to = route.to.number; from = route.from.number; owner = route.owner; tag = route.tag }

-- A body of n bytes at a unit u has n / u packets, rounded up.
abbrev pub packet_count : (unit : ℕ) → (body : List ℕ) → ℕ
packet_count unit body = div_ceil (length body) unit

-- Packet number k of a body, counted from 0. Its payload is the u bytes of the body from k * u on, or those that are
-- left. Packet 0 has SOM, the last packet has EOM, and its sequence number is k modulo 4.
abbrev pub nth_packet : RouteFields → (unit : ℕ) → (body : List ℕ) → ℕ → PacketFields
nth_packet route unit body k =
    record {
      to = route.to;
      from = route.from;
      start = k == 0;
      end = k + 1 == packet_count unit body;
      sequence = k % 4;
      owner = route.owner;
      tag = route.tag;
      payload = slice_range body (k * unit) (k * unit + unit);
    }

-- The packets of a body at a unit, in order, as they are written.
abbrev pub packets_of : RouteFields → (unit : ℕ) → (body : List ℕ) → List (List ℕ)
packets_of route unit body = map (λ k. spelled_packet (nth_packet route unit body k)) (range_with_len 0 (packet_count unit body))

-- The only packet of a short body: it has SOM and EOM, and sequence number 0.
abbrev pub only_packet : RouteFields → (body : List ℕ) → PacketFields
only_packet route body =
    record {
      to = route.to;
      from = route.from;
      start = true;
      end = true;
      sequence = 0;
      owner = route.owner;
      tag = route.tag;
      payload = body;
    }

-- The packets of numbers below k, the newest first.
abbrev pub packets_before : RouteFields → (unit : ℕ) → (body : List ℕ) → ℕ → List PacketFields
packets_before route unit body zero = []
packets_before route unit body (suc k) = nth_packet route unit body k ∷ packets_before route unit body k
