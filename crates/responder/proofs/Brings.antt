-- What a packet brings, by the body that it completes.
use Rattle.std.proofs.Common.{refl, ◌≡◌, ◌∙◌, ℕ, List, ◌∷◌, Bool, true, false, Option, Some, None, Result, Ok, Err, ap, sym, subst, cond, drop}
use Rattle.std.specs.Option.{option_map}
use Rattle.std.specs.Prelude.{◌==◌, ◌&&◌}
use Rattle.mctp_framing.specs.Completing.{WholeBody, completed}
use Rattle.mctp_framing.specs.Cutting.{RouteFields}
use Rattle.mctp_framing.specs.Gathering.{Gathered, gathered}
use Rattle.mctp_framing.specs.Gathering.Gathered.{Dropped, More, Whole}
use Rattle.mctp_framing.specs.Packet.{PacketFields, fault_or, fields_of, packet_fault, parsed}
use Rattle.spdm_basis.specs.declared.PacketFault.{PacketFault}
use Rattle.responder.proofs.Steps.{gathers}
use Rattle.responder.proofs.Taking.{gathered_is}
use Rattle.responder.specs.Peeking.{IsBrought}
use Rattle.responder.specs.Peers.{StandsFor, gathered_at}
use Rattle.responder.specs.declared.peeking.Peeked.{Peeked}
use Rattle.responder.specs.declared.peer.Peer.{Peer}
use Rattle.responder_machine.proofs.Brought.{brought_taken}
use Rattle.responder_machine.specs.EndLaws.{source_of}
use Rattle.responder_machine.specs.Heard.{record_id}
use Rattle.responder_machine.specs.NewData.{Message, body_brings, brings, brings_from, brings_packet, gathered_brings, new_data_in}
use Rattle.responder_machine.specs.Responding.{Connection, Responding, connection_of, is_worn, responder_hears}
use Rattle.responder_machine.specs.Setup.{RspPart}
use Rattle.spdm_machine.specs.Packets.{body_type, fields_in}

-- A body that is completed brings what it brings, and nothing else brings a message.
abbrev pub brings_whole : Connection → Option WholeBody → Option Message
brings_whole c None = None
brings_whole c (Some whole) = body_brings c whole.route whole.body

brings_is : (c : Connection) (g : Gathered) → brings_whole c (completed g) ≡ gathered_brings c g
brings_is c (Whole route body) = refl
brings_is c More = refl
brings_is c (Dropped cause) = refl

-- What the assembler tells of a packet is what it brings.
pub told_brings : (x : Peer) (p : RspPart) (given : List PacketFields) (c : Connection) (packet : PacketFields) (o : Option WholeBody) → StandsFor x p given c → o ≡ completed (gathered x.assembler.receiver given packet)
    → brings_whole c o ≡ gathered_brings c (gathered_at p given c packet)
told_brings x p given c packet o stands is =
    ap (brings_whole c) (is ∙ ap completed (gathered_is x p given c packet (gathered x.assembler.receiver given packet) stands refl))
    ∙ brings_is c (gathered_at p given c packet)

-- ---- A whole body.

pub unowned : (c : Connection) (route : RouteFields) (body : List ℕ) → route.owner ≡ false → body_brings c route body ≡ None
unowned c route body e =
    ap (λ (b : Bool). cond (b && body_type body == 6) (option_map (λ (bytes : List ℕ). (record_id (drop 1 body), bytes)) (new_data_in c.setup.psk c.history (drop 1 body))) None) e

pub not_secured : (c : Connection) (route : RouteFields) (body : List ℕ) → (body_type body == 6) ≡ false → body_brings c route body ≡ None
not_secured c route body e =
    ap (λ (b : Bool). cond b (option_map (λ (bytes : List ℕ). (record_id (drop 1 body), bytes)) (new_data_in c.setup.psk c.history (drop 1 body))) None)
    (ap (λ (b : Bool). route.owner && b) e ∙ go route.owner)
  where
    go : (b : Bool) → b && false ≡ false
    go true = refl
    go false = refl

pub secured : (c : Connection) (route : RouteFields) (sealed : List ℕ) → route.owner ≡ true → body_brings c route (6 ∷ sealed) ≡ option_map (λ (bytes : List ℕ). (record_id sealed, bytes)) (new_data_in c.setup.psk c.history sealed)
secured c route sealed e =
    ap (λ (b : Bool). cond (b && true) (option_map (λ (bytes : List ℕ). (record_id sealed, bytes)) (new_data_in c.setup.psk c.history sealed)) None) e

-- ---- At a responder.

-- A packet for another endpoint brings nothing.
pub brings_apart : (r : Responding) (fields : PacketFields) → (fields.to == r.part.eid) ≡ false → brings_packet r (Ok fields) ≡ None
brings_apart r fields e = ap (λ (b : Bool). cond b (brings_from r fields (connection_of fields.from r.connections)) None) e

-- One from no requester brings nothing.
pub brings_unknown : (r : Responding) (fields : PacketFields) → (fields.to == r.part.eid) ≡ true → connection_of fields.from r.connections ≡ None → brings_packet r (Ok fields) ≡ None
brings_unknown r fields own none =
    ap (λ (b : Bool). cond b (brings_from r fields (connection_of fields.from r.connections)) None) own ∙ ap (brings_from r fields) none

-- One from a requester brings what it brings at its connection.
pub brings_at : (r : Responding) (fields : PacketFields) (c : Connection) → (fields.to == r.part.eid) ≡ true → connection_of fields.from r.connections ≡ Some c → c.setup.eid ≡ r.part.eid
    → brings_packet r (Ok fields) ≡ gathered_brings c (gathered_at r.part (fields_in r.given) c fields)
brings_at r fields c own found same =
    ap (λ (b : Bool). cond b (brings_from r fields (connection_of fields.from r.connections)) None) own ∙ ap (brings_from r fields) found
    ∙ ap (gathered_brings c) (gathers r c fields same)

-- Below the limit of packets, and at it.
pub brings_fresh : (r : Responding) (packet : List ℕ) → is_worn r ≡ false → brings r packet ≡ brings_packet r (parsed packet)
unfolding brings
brings_fresh r packet fresh = ap (λ (b : Bool). cond b None (brings_packet r (parsed packet))) fresh

pub brings_worn : (r : Responding) (packet : List ℕ) → is_worn r ≡ true → brings r packet ≡ None
unfolding brings
brings_worn r packet worn = ap (λ (b : Bool). cond b None (brings_packet r (parsed packet))) worn

-- What is brought is what is taken.
pub taken_too : (r : Responding) (packet : List ℕ) (o : Option Peeked) → IsBrought o (source_of packet) (brings r packet) → IsBrought o (source_of packet) (responder_hears r packet).taken
taken_too r packet o is = subst (IsBrought o (source_of packet)) (sym (brought_taken r packet)) is

-- Nothing is told where nothing is brought.
pub none_brought : (o : Option Peeked) (eid : ℕ) (m : Option Message) → o ≡ None → m ≡ None → IsBrought o eid m
none_brought o eid m is none = subst (λ (x : Option Peeked). IsBrought x eid m) (sym is) none

-- The source of a packet that parses.
from_by : (o : Option PacketFault) (read fields : PacketFields) → Ok fields ≡ fault_or o read → fields.from ≡ read.from
from_by (Some fault) read fields is = absurd (ok_err is)
  where
    ok_err : Ok fields ≡ Err fault → ⊥
    ok_err e = cc
from_by None read fields is = ap from_in is
  where
    from_in : Result PacketFields PacketFault → ℕ
    from_in (Ok p) = p.from
    from_in (Err e) = 0

pub source_is : (packet : List ℕ) (fields : PacketFields) → Ok fields ≡ parsed packet → fields.from ≡ source_of packet
source_is packet fields is = from_by (packet_fault packet) (fields_of packet) fields is

-- What a packet that parses brings is told of its source.
pub parsed_brought : (r : Responding) (packet : List ℕ) (fields : PacketFields) (o : Option Peeked) → is_worn r ≡ false → Ok fields ≡ parsed packet → IsBrought o fields.from (brings_packet r (Ok fields)) → IsBrought o (source_of packet) (brings r packet)
parsed_brought r packet fields o fresh is brought =
    subst (λ (m : Option Message). IsBrought o (source_of packet) m) (ap (brings_packet r) is ∙ sym (brings_fresh r packet fresh))
    (subst (λ (n : ℕ). IsBrought o n (brings_packet r (Ok fields))) (source_is packet fields is) brought)
