-- The requester as a whole end, with all that it was given: what a command and a packet lead to. This project's own.
use Rattle.std.specs.Prelude.{◌+◌, nat_le, ℕ, List, [], ◌∷◌, length, if◌then◌else◌, Bool, true, false, Option, Some, None, unwrap_or, Result, Ok, Err}
use Rattle.mctp_framing.specs.Gathering.{Gathered}
use Rattle.mctp_framing.specs.Gathering.Gathered.{Whole, More, Dropped}
use Rattle.mctp_framing.specs.Packet.{PacketFields, parsed}
use Rattle.requester_machine.specs.Asking.{Outcome}
use Rattle.requester_machine.specs.Does.{requester_asks, requester_hears}
use Rattle.requester_machine.specs.History.{History, draws_of}
use Rattle.requester_machine.specs.Message.{Command, Sent, body_of}
use Rattle.requester_machine.specs.RequesterLog.{acts_of}
use Rattle.requester_machine.specs.Shown.{after, sent_by, event_of, fault_of, data_of, record_of}
use Rattle.spdm_basis.specs.declared.PacketFault.{PacketFault}
use Rattle.spdm_grammar.specs.declared.told.command_fault.CommandFault.{CommandFault}
use Rattle.spdm_grammar.specs.declared.told.event.Event.{Event}
use Rattle.spdm_grammar.specs.declared.told.event.Event.TheVariants as event
use Rattle.spdm_grammar.specs.declared.told.event.ReqIgnored.TheVariants as ignored
use Rattle.spdm_machine.specs.Keys.{Draw, draw_of}
use Rattle.requester_machine.specs.Setup.{ReqSetup, ReqEnd}
use Rattle.spdm_machine.specs.TagLog.{Act}
use Rattle.spdm_machine.specs.Packets.{gathered_from, packets_to, wear_limit}

-- A requester: how it is set up, the seed of its draws and the number of the first one, all packets that it was given,
-- the newest first, how many commands it was told, those with a fault among them, and what it was told and took.
pub record Requesting : Type 0 where
  pub setup : ReqSetup
  pub seed : List ℕ
  pub first : ℕ
  pub given : List (List ℕ)
  pub commands : ℕ
  pub history : History

-- A requester in its initial state.
abbrev pub new_requesting : ReqEnd → Requesting
new_requesting e = record { setup = e.setup; seed = e.seed; first = e.first; given = []; commands = 0; history = [] }

-- The next unused draw.
unfoldable pub next_draw : Requesting → Draw
next_draw a = draw_of a.seed (a.first + draws_of a.setup a.history)

-- A worn requester takes no packet and no command.
abbrev pub is_worn : Requesting → Bool
is_worn a = nat_le wear_limit (length a.given + a.commands)

-- The packets of the message that goes out.
abbrev pub packets_of_sent : ReqSetup → Option Sent → List (List ℕ)
packets_of_sent q None = []
packets_of_sent q (Some sent) = packets_to q.responder q.eid true sent.tag q.unit (body_of sent.content)

-- ---- A command.

-- What a command leads to: its fault, the packets sent, the tags computed (the newest first), and the requester after
-- it.
pub record CommandStep : Type 0 where
  pub fault : Option CommandFault
  pub sent : List (List ℕ)
  pub acts : List Act
  pub after : Requesting

-- A fault changes the count of commands alone.
abbrev pub commanded_by : Requesting → Outcome → CommandStep
commanded_by a outcome = record {
  fault = fault_of outcome;
  sent = packets_of_sent a.setup (sent_by outcome);
  acts = acts_of a.setup a.history [] outcome;
  after = record a { commands = a.commands + 1; history = after a.history outcome };
}

-- A worn requester tells the fault of a command, and nothing changes.
abbrev pub worn_command : Requesting → Outcome → CommandStep
worn_command a outcome = record { fault = fault_of outcome; sent = []; acts = []; after = a }

-- A requester is told a command.
unfoldable pub requester_told : Requesting → Command → CommandStep
requester_told a command =
    if is_worn a then worn_command a (requester_asks true a.setup a.history command (next_draw a))
    else commanded_by a (requester_asks false a.setup a.history command (next_draw a))

-- ---- A packet.

-- What a packet leads to: what is told, the packets sent, the application data and the measurement record just taken,
-- the tags computed and compared (the newest first), and the requester after it.
pub record PacketStep : Type 0 where
  pub event : Event
  pub sent : List (List ℕ)
  pub taken : Option (List ℕ)
  pub measured : Option (List ℕ)
  pub acts : List Act
  pub after : Requesting

-- Nothing but the count of packets and an unfinished body changes.
abbrev pub ignores : Requesting → List ℕ → Event → PacketStep
ignores a packet told = record { event = told; sent = []; taken = None; measured = None; acts = []; after = record a { given = packet ∷ a.given } }

-- A whole body has this outcome.
abbrev pub heard_by : Requesting → List ℕ → List ℕ → Outcome → PacketStep
heard_by a packet body outcome = record {
  event = unwrap_or (event_of outcome) event.More;
  sent = packets_of_sent a.setup (sent_by outcome);
  taken = data_of outcome;
  measured = record_of outcome;
  acts = acts_of a.setup a.history body outcome;
  after = record a { given = packet ∷ a.given; history = after a.history outcome };
}

-- A packet that completes a body is heard; one that awaits more, or is dropped, changes nothing else.
abbrev pub hears_gathered : Requesting → List ℕ → Gathered → PacketStep
hears_gathered a packet (Whole route body) = heard_by a packet body (requester_hears a.setup a.history route.owner route.tag body (next_draw a))
hears_gathered a packet More = ignores a packet event.More
hears_gathered a packet (Dropped cause) = ignores a packet (event.Ignored (ignored.Dropped cause))

-- A packet is heard from the responder alone.
abbrev pub hears_packet : Requesting → List ℕ → Result PacketFields PacketFault → PacketStep
hears_packet a packet (Err fault) = ignores a packet (event.Ignored (ignored.Packet fault))
hears_packet a packet (Ok fields) = hears_gathered a packet (gathered_from a.setup.eid a.setup.responder a.given fields)

-- A worn requester ignores a packet, and nothing changes.
abbrev pub worn_step : Requesting → PacketStep
worn_step a = record { event = event.Ignored ignored.Worn; sent = []; taken = None; measured = None; acts = []; after = a }

-- A packet is given to a requester.
unfoldable pub requester_given : Requesting → List ℕ → PacketStep
requester_given a packet = if is_worn a then worn_step a else hears_packet a packet (parsed packet)
