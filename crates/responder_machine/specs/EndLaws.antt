-- What is said of a responder with all its connections: they do not touch one another. This project's own.
use Rattle.std.specs.Prelude.{◌≡◌, ◌≢◌, ℕ, List, filter, slice_index}
use Rattle.mctp_framing.specs.Gathering.{Receiver, is_ours}
use Rattle.responder_machine.specs.Responding.{Responding, RspStep, connection_of, responder_hears, is_worn, next_draw}
use Rattle.spdm_machine.specs.Packets.{body_limit, fields_in}

-- The source of a packet.
abbrev pub source_of : List ℕ → ℕ
source_of packet = slice_index packet 2

-- The endpoint that hears another.
abbrev pub receiver_of : (own peer : ℕ) → Receiver
receiver_of own peer = record { own = own; peer = peer; limit = body_limit }

-- Two responders are alike towards an endpoint: they are set up alike, have the same connection with it and were given
-- the same packets by it, in the same order.
pub record AreAlike (eid : ℕ) (r s : Responding) : Type 0 where
  pub part : r.part ≡ s.part
  pub connection : connection_of eid r.connections ≡ connection_of eid s.connections
  pub packets : (own : ℕ) → filter (is_ours (receiver_of own eid)) (fields_in r.given) ≡ filter (is_ours (receiver_of own eid)) (fields_in s.given)

-- A packet from another endpoint changes nothing of what the responder is towards this one.
abbrev pub OthersStand : Type 0
OthersStand = (r : Responding) (packet : List ℕ) (eid : ℕ)
    → source_of packet ≢ eid → AreAlike eid (responder_hears r packet).after r

-- What a packet from an endpoint leads to.
pub record LeadAlike (eid : ℕ) (x y : RspStep) : Type 0 where
  pub heard : x.heard ≡ y.heard
  pub sent : x.sent ≡ y.sent
  pub taken : x.taken ≡ y.taken
  pub after : AreAlike eid x.after y.after

-- What the responder sends to an endpoint is decided by what came from it, by the next unused draw, and by whether the
-- responder is worn: two responders that are alike towards it do alike with a packet from it.
abbrev pub OwnDecide : Type 0
OwnDecide = (r s : Responding) (packet : List ℕ)
    → AreAlike (source_of packet) r s → next_draw r ≡ next_draw s → is_worn r ≡ is_worn s
    → LeadAlike (source_of packet) (responder_hears r packet) (responder_hears s packet)
