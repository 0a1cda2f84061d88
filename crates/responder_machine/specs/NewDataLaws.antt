-- What a responder does with a packet that brings a new application message. Each law is the contract of a function of
-- this crate. This project's own.
use Rattle.std.specs.Prelude.{◌≡◌, ◌∷◌, ℕ, List, [], false, Some, None}
use Rattle.mctp_framing.specs.Packet.{fields_of}
use Rattle.spdm_grammar.specs.declared.told.heard.Heard.TheVariants as heard
use Rattle.spdm_machine.specs.Bodies.{record_body}
use Rattle.spdm_machine.specs.Keys.{sealed_of}
use Rattle.spdm_machine.specs.Packets.{packets_to}
use Rattle.responder_machine.specs.Does.{first_queued}
use Rattle.responder_machine.specs.EndLaws.{source_of}
use Rattle.responder_machine.specs.History.{queue_of}
use Rattle.responder_machine.specs.Independence.{after_reply}
use Rattle.responder_machine.specs.NewData.{Message, brings}
use Rattle.responder_machine.specs.Records.{response_purpose}
use Rattle.responder_machine.specs.Responding.{Connection, Responding, RspStep, connection_of, reply_fault_of, responder_hears}
use Rattle.responder_machine.specs.Session.{Events, id_bytes, response_next, session_of, session_terms}

-- The message that a packet would bring is the one that the responder takes, where it takes any.
abbrev pub BroughtIsTaken : Type 0
BroughtIsTaken = (r : Responding) (packet : List ℕ) → (responder_hears r packet).taken ≡ brings r packet

-- The record of application data that a session sends: under its present response key, with its next number and no
-- padding.
abbrev pub data_record : (psk : List ℕ) → Events → (bytes : List ℕ) → List ℕ
data_record psk s bytes = sealed_of (session_terms s).choice (response_purpose psk s) (response_next s) (id_bytes s) (1 ∷ bytes) []

-- A packet is taken: it is told of its session, it brings this message, and application data goes back to the source,
-- with the tag of the packet.
pub record IsAnsweredWith (step : RspStep) (packet : List ℕ) (m : Message) (c : Connection) (reply : List ℕ) : Type 0 where
  pub told : step.heard ≡ heard.Taken m.0
  pub taken : step.taken ≡ Some m
  pub sent : step.sent ≡ packets_to c.setup.peer c.setup.eid false (fields_of packet).tag c.setup.unit (record_body (data_record c.setup.psk (session_of m.0.rsp c.history) reply))

-- What a packet brings is answered with the application data that waits first, and an empty one where none waits.
abbrev pub BroughtIsAnswered : Type 0
BroughtIsAnswered = (r : Responding) (packet : List ℕ) (m : Message) → brings r packet ≡ Some m
    → (c : Connection) × (connection_of (source_of packet) r.connections ≡ Some c) × IsAnsweredWith (responder_hears r packet) packet m c (first_queued (queue_of c.history))

-- Application data that is queued changes nothing of what a packet brings.
abbrev pub QueuedBringsAlike : Type 0
QueuedBringsAlike = (r : Responding) (eid : ℕ) (reply packet : List ℕ) → brings (after_reply eid reply r) packet ≡ brings r packet

-- Where a packet brings a message from an endpoint for which nothing waits, and a reply is queued for it that has no
-- fault, the packet is taken, and answered with that reply.
abbrev pub QueuedIsSent : Type 0
QueuedIsSent = (r : Responding) (packet reply : List ℕ) (m : Message) (c : Connection)
    → brings r packet ≡ Some m → connection_of (source_of packet) r.connections ≡ Some c → queue_of c.history ≡ []
    → reply_fault_of (Some c) reply ≡ None
    → IsAnsweredWith (responder_hears (after_reply (source_of packet) reply r) packet) packet m c reply
