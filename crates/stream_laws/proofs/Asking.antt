-- A requester keeps its endpoint, and names it in each packet that it sends, whatever it is told or given.
use Rattle.std.proofs.Common.{ℕ, List, Bool, true, false, cond, Result, Ok, Err}
use Rattle.mctp_framing.specs.Gathering.{Gathered}
use Rattle.mctp_framing.specs.Gathering.Gathered.{Dropped, More, Whole}
use Rattle.mctp_framing.specs.Packet.{PacketFields, parsed}
use Rattle.requester_machine.specs.Does.{requester_asks, requester_hears}
use Rattle.requester_machine.specs.Message.{Command}
use Rattle.requester_machine.specs.Requesting as requesting
use Rattle.requester_machine.specs.Requesting.{Requesting, requester_given, requester_told}
use Rattle.requester_machine.specs.Shown.{sent_by}
use Rattle.spdm_basis.specs.declared.PacketFault.{PacketFault}
use Rattle.spdm_machine.specs.Packets.{gathered_from}
use Rattle.stream_laws.proofs.Bytes.{AreSent, message_is_sent}

module _ (P : ℕ → Type 0) (a : Requesting) (is : P a.setup.eid) where
  told_by : (command : Command) (b : Bool) → AreSent P (cond b (requesting.worn_command a (requester_asks true a.setup a.history command (requesting.next_draw a))) (requesting.commanded_by a (requester_asks false a.setup a.history command (requesting.next_draw a)))).sent
  told_by command true = tt
  told_by command false = message_is_sent P a.setup (sent_by (requester_asks false a.setup a.history command (requesting.next_draw a))) is

  pub told_sends : (command : Command) → AreSent P (requester_told a command).sent
  unfolding requester_told
  told_sends command = told_by command (requesting.is_worn a)

  gathered_sends : (packet : List ℕ) (g : Gathered) → AreSent P (requesting.hears_gathered a packet g).sent
  gathered_sends packet (Whole route body) = message_is_sent P a.setup (sent_by (requester_hears a.setup a.history route.owner route.tag body (requesting.next_draw a))) is
  gathered_sends packet More = tt
  gathered_sends packet (Dropped cause) = tt

  packet_sends : (packet : List ℕ) (r : Result PacketFields PacketFault) → AreSent P (requesting.hears_packet a packet r).sent
  packet_sends packet (Err fault) = tt
  packet_sends packet (Ok fields) = gathered_sends packet (gathered_from a.setup.eid a.setup.responder a.given fields)

  given_by : (packet : List ℕ) (b : Bool) → AreSent P (cond b (requesting.worn_step a) (requesting.hears_packet a packet (parsed packet))).sent
  given_by packet true = tt
  given_by packet false = packet_sends packet (parsed packet)

  pub given_sends : (packet : List ℕ) → AreSent P (requester_given a packet).sent
  unfolding requester_given
  given_sends packet = given_by packet (requesting.is_worn a)
