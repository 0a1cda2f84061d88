-- A requester is gone: its connection and sessions are given up. Histories have no entry of their own for this, so it is
-- what GET_VERSION of that endpoint does (DSP0274, "GET_VERSION": it resets the connection).
use Rattle.std.specs.Prelude.{ℕ, List, true, if◌then◌else◌, Option, Some, None}
use Rattle.mctp_framing.specs.Cutting.{RouteFields, only_packet}
use Rattle.mctp_framing.specs.Packet.{spelled_packet}
use Rattle.responder.specs.declared.resetting.ResetFault.{ResetFault}
use Rattle.responder.specs.declared.resetting.ResetFault.TheVariants.{Worn, UnknownPeer}
use Rattle.responder_machine.specs.Responding.{Connection, Responding, connection_of, is_worn, responder_hears}
use Rattle.spdm_grammar.specs.Message.RequestMessage.{GetVersion}
use Rattle.spdm_grammar.specs.Requests.{canonical_request}
use Rattle.spdm_machine.specs.Bodies.{clear_body}

-- The route of a request with message tag 0.
abbrev pub request_route : (to from : ℕ) → RouteFields
request_route to from = record { to = to; from = from; owner = true; tag = 0 }

-- GET_VERSION as the one packet that it goes in.
abbrev pub version_packet : (to from : ℕ) → List ℕ
version_packet to from = spelled_packet (only_packet (request_route to from) (clear_body (canonical_request GetVersion)))

-- Why nothing is given up: no requester has the endpoint.
abbrev pub unknown_fault : Option Connection → Option ResetFault
unknown_fault None = Some UnknownPeer
unknown_fault (Some c) = None

-- The same, or before that: the responder is worn.
abbrev pub reset_fault : (eid : ℕ) → Responding → Option ResetFault
reset_fault eid r = if is_worn r then Some Worn else unknown_fault (connection_of eid r.connections)

-- With a fault nothing changes; without one the responder is the one after GET_VERSION of the endpoint.
abbrev pub resets : Option ResetFault → Responding → (eid : ℕ) → Responding
resets (Some fault) r eid = r
resets None r eid = (responder_hears r (version_packet r.part.eid eid)).after

abbrev pub after_reset : (eid : ℕ) → Responding → Responding
after_reset eid r = resets (reset_fault eid r) r eid
