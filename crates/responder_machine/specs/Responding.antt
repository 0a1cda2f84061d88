-- The responder as a whole end: all its connections, and what a packet, queued data and time lead to. This project's
-- own.
use Rattle.std.specs.Prelude.{◌+◌, ◌==◌, ◌||◌, not, nat_le, nat_lt, ℕ, List, [], ◌∷◌, map, find, length, if◌then◌else◌, Bool, false, Option, Some, None, Result, Ok, Err}
use Rattle.mctp_framing.specs.Gathering.{Gathered}
use Rattle.mctp_framing.specs.Gathering.Gathered.{Whole, More, Dropped}
use Rattle.mctp_framing.specs.Cutting.{RouteFields}
use Rattle.mctp_framing.specs.Packet.{PacketFields, parsed}
use Rattle.spdm_basis.specs.declared.DropCause.TheVariants.{NotOurs}
use Rattle.spdm_basis.specs.declared.PacketFault.{PacketFault}
use Rattle.spdm_basis.specs.declared.values.session_id.SessionId.{SessionId}
use Rattle.spdm_grammar.specs.declared.told.heard.Heard.{Heard}
use Rattle.spdm_grammar.specs.declared.told.heard.Heard.TheVariants as heard
use Rattle.spdm_grammar.specs.declared.told.heard.ReplyFault.{ReplyFault}
use Rattle.spdm_grammar.specs.declared.told.heard.ReplyFault.TheVariants as reply_fault
use Rattle.spdm_grammar.specs.declared.told.heard.RspIgnored.TheVariants as ignored
use Rattle.responder_machine.specs.Does.{responder_does}
use Rattle.responder_machine.specs.Heard.{heard_of, record_id}
use Rattle.responder_machine.specs.History.{History, draws_of, queue_of}
use Rattle.responder_machine.specs.History.Entry.{Sealed, Queued, Ticked, Dropped}
use Rattle.spdm_machine.specs.Keys.{Draw, draw_of}
use Rattle.responder_machine.specs.Responder.{Outcome, after, body_of}
use Rattle.responder_machine.specs.Responder.Outcome.{Adds}
use Rattle.responder_machine.specs.ResponderLog.{acts_of}
use Rattle.responder_machine.specs.Setup.{RspSetup, RspPart, Known, RspEnd, towards}
use Rattle.spdm_machine.specs.TagLog.{Act}
use Rattle.responder_machine.specs.Turn.Effect.{NoEffect, Took, TookData}
use Rattle.responder_machine.specs.Turn.{Effect}
use Rattle.spdm_machine.specs.Packets.{gathered_from, packets_to, body_type, wear_limit}
use Rattle.spdm_grammar.specs.declared.names.TheConstants.{MAX_APP_DATA_LEN}
use Rattle.spdm_grammar.specs.declared.names.message_type.TheConstants.{SECURED, SPDM}

-- One connection: how it is set up, and what was taken from its requester.
pub record Connection : Type 0 where
  pub setup : RspSetup
  pub history : History

-- A responder: how it is set up, the seed of its draws and the number of the first one, all packets that it was given
-- and all application data that it took, the newest first, and its connections in the order of the requesters.
pub record Responding : Type 0 where
  pub part : RspPart
  pub seed : List ℕ
  pub first : ℕ
  pub given : List (List ℕ)
  pub taken : List (List ℕ)
  pub connections : List Connection

-- A connection with a requester from which nothing was taken yet.
abbrev pub new_connection : RspPart → Known → Connection
new_connection part q = record { setup = towards part q; history = [] }

-- The responder in its initial state, with a connection for each requester that it knows.
abbrev pub new_responding : RspEnd → Responding
new_responding e = record { part = e.part; seed = e.seed; first = e.first; given = []; taken = []; connections = map (new_connection e.part) e.known }

-- ---- Which connection. The end points of the requesters differ.

-- The connection with this endpoint, if there is one.
abbrev pub connection_of : ℕ → List Connection → Option Connection
connection_of eid connections = find (λ c. c.setup.peer == eid) connections

-- A connection with another history.
abbrev pub changed : (History → History) → Connection → Connection
changed change c = record c { history = change c.history }

-- The same, where it is that with the endpoint.
abbrev pub changed_if : ℕ → (History → History) → Connection → Connection
changed_if eid change c = if c.setup.peer == eid then changed change c else c

-- The connections, of which that with the endpoint has another history.
abbrev pub with_history : ℕ → (History → History) → List Connection → List Connection
with_history eid change connections = map (changed_if eid change) connections

-- ---- Draws go round all connections.

-- A count over the histories of all connections.
abbrev pub over_all : (History → ℕ) → List Connection → ℕ
over_all count [] = 0
over_all count (c ∷ others) = count c.history + over_all count others

-- How many draws all connections took.
abbrev pub all_draws : List Connection → ℕ
all_draws = over_all draws_of

-- The next unused draw.
unfoldable pub next_draw : Responding → Draw
next_draw r = draw_of r.seed (r.first + all_draws r.connections)

-- ---- A packet.

-- What a packet leads to: what is told, the packets sent, the application data just taken with its session,
-- the tags computed and compared (the newest first), and the responder after it.
pub record RspStep : Type 0 where
  pub heard : Heard
  pub sent : List (List ℕ)
  pub taken : Option (SessionId × List ℕ)
  pub acts : List Act
  pub after : Responding

-- Nothing but the count of packets and an unfinished body changes.
abbrev pub ignores : Responding → List ℕ → Heard → RspStep
ignores r packet told = record { heard = told; sent = []; taken = None; acts = []; after = record r { given = packet ∷ r.given } }

-- The application data of an outcome.
abbrev pub data_in : List ℕ → Effect → Option (SessionId × List ℕ)
data_in sealed NoEffect = None
data_in sealed (Took asked request answer large) = None
data_in sealed (TookData bytes answer) = Some (record_id sealed, bytes)

-- The application data that a record just brought, with its session; none by any other outcome.
abbrev pub data_of : Outcome → Option (SessionId × List ℕ)
data_of (Adds (Sealed tag sealed t reply d)) = data_in sealed t.effect
data_of _ = None

-- Application data that were just taken, before the others.
abbrev pub with_taken : Option (SessionId × List ℕ) → List (List ℕ) → List (List ℕ)
with_taken None others = others
with_taken (Some new) others = new.1 ∷ others

-- The data of the last application message that was taken, over all connections; empty before the first.
abbrev pub last_data : Responding → List ℕ
last_data r = first_or_none r.taken
  where
    first_or_none : List (List ℕ) → List ℕ
    first_or_none [] = []
    first_or_none (bytes ∷ others) = bytes

-- A whole request of type 5 or 6 has this outcome, and its answer goes back by the route reversed.
abbrev pub answers : Responding → Connection → List ℕ → RouteFields → List ℕ → Outcome → RspStep
answers r c packet route body outcome = record {
  heard = heard_of outcome;
  sent = packets_to c.setup.peer c.setup.eid false route.tag c.setup.unit (body_of outcome);
  taken = data_of outcome;
  acts = acts_of c.setup c.history body outcome;
  after = record r { given = packet ∷ r.given; taken = with_taken (data_of outcome) r.taken; connections = with_history c.setup.peer (λ h. after h outcome) r.connections };
}

-- A body that is whole, with this draw next: it has to be a request, of a known type.
abbrev pub hears_whole : Responding → Draw → Connection → List ℕ → RouteFields → List ℕ → RspStep
hears_whole r d c packet route body =
    if not route.owner then ignores r packet (heard.Ignored ignored.NotRequest)
    else (if not (body_type body == SPDM || body_type body == SECURED) then ignores r packet (heard.Ignored ignored.OtherType)
    else answers r c packet route body (responder_does c.setup c.history route.tag body d))

-- A packet that completes a body is heard; one that awaits more, or is dropped, changes nothing else.
abbrev pub hears_gathered : Responding → Draw → Connection → List ℕ → Gathered → RspStep
hears_gathered r d c packet (Whole route body) = hears_whole r d c packet route body
hears_gathered r d c packet More = ignores r packet heard.More
hears_gathered r d c packet (Dropped cause) = ignores r packet (heard.Ignored (ignored.Dropped cause))

-- A packet from an endpoint without a connection is ignored.
abbrev pub hears_from : Responding → Draw → List ℕ → PacketFields → Option Connection → RspStep
hears_from r d packet fields None = ignores r packet (heard.Ignored ignored.UnknownPeer)
hears_from r d packet fields (Some c) = hears_gathered r d c packet (gathered_from c.setup.eid c.setup.peer r.given fields)

-- A packet has to be for the responder, and from a requester.
abbrev pub hears_packet : Responding → Draw → List ℕ → Result PacketFields PacketFault → RspStep
hears_packet r d packet (Err fault) = ignores r packet (heard.Ignored (ignored.Packet fault))
hears_packet r d packet (Ok fields) =
    if not (fields.to == r.part.eid) then ignores r packet (heard.Ignored (ignored.Dropped NotOurs))
    else hears_from r d packet fields (connection_of fields.from r.connections)

-- A worn responder takes no packet.
abbrev pub is_worn : Responding → Bool
is_worn r = nat_le wear_limit (length r.given)

-- A worn responder ignores a packet, and nothing changes.
abbrev pub worn_step : Responding → RspStep
worn_step r = record { heard = heard.Ignored ignored.Worn; sent = []; taken = None; acts = []; after = r }

-- A packet is given to the responder.
unfoldable pub responder_hears : Responding → List ℕ → RspStep
responder_hears r packet = if is_worn r then worn_step r else hears_packet r (next_draw r) packet (parsed packet)

-- ---- Queued data and time.

-- Why application data is not queued: no requester has the endpoint, it has more than 1,024 bytes, or 16 messages wait.
abbrev pub reply_fault_of : Option Connection → List ℕ → Option ReplyFault
reply_fault_of None bytes = Some reply_fault.UnknownPeer
reply_fault_of (Some c) bytes =
    if nat_lt MAX_APP_DATA_LEN (length bytes) then Some reply_fault.TooLong
    else (if nat_le 16 (length (queue_of c.history)) then Some reply_fault.Full
    else None)

-- Application data is queued for an endpoint, unless it has a fault.
abbrev pub queues : Option ReplyFault → Responding → ℕ → List ℕ → Responding
queues (Some fault) r eid bytes = r
queues None r eid bytes = record r { connections = with_history eid (λ h. Queued bytes ∷ h) r.connections }

-- Seconds pass for each connection.
abbrev pub ticks : Responding → ℕ → Responding
ticks r seconds = record r { connections = map (changed (λ h. Ticked seconds ∷ h)) r.connections }
