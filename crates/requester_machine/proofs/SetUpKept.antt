-- A requester keeps its set-up, whatever it is told or given.
use Rattle.std.proofs.Common.{refl, ◌≡◌, ℕ, List, Bool, true, false, cond}
use Rattle.std.specs.Prelude.{Result, Ok, Err}
use Rattle.mctp_framing.specs.Gathering.{Gathered}
use Rattle.mctp_framing.specs.Gathering.Gathered.{Dropped, More, Whole}
use Rattle.mctp_framing.specs.Packet.{PacketFields, parsed}
use Rattle.requester_machine.specs.Message.{Command}
use Rattle.requester_machine.specs.Requesting as requesting
use Rattle.requester_machine.specs.Requesting.{CommandStep, PacketStep, Requesting, requester_given, requester_told}
use Rattle.spdm_basis.specs.declared.PacketFault.{PacketFault}
use Rattle.spdm_machine.specs.Packets.{gathered_from}

either_told : (b : Bool) (s t : CommandStep) (a : Requesting) → s.after.setup ≡ a.setup → t.after.setup ≡ a.setup → (cond b s t).after.setup ≡ a.setup
either_told true s t a e f = e
either_told false s t a e f = f

pub told_setup : (a : Requesting) (command : Command) → (requester_told a command).after.setup ≡ a.setup
unfolding requester_told
told_setup a command = either_told (requesting.is_worn a) _ _ a refl refl

either_given : (b : Bool) (s t : PacketStep) (a : Requesting) → s.after.setup ≡ a.setup → t.after.setup ≡ a.setup → (cond b s t).after.setup ≡ a.setup
either_given true s t a e f = e
either_given false s t a e f = f

gathered_setup : (a : Requesting) (packet : List ℕ) (g : Gathered) → (requesting.hears_gathered a packet g).after.setup ≡ a.setup
gathered_setup a packet (Whole route body) = refl
gathered_setup a packet More = refl
gathered_setup a packet (Dropped cause) = refl

packet_setup : (a : Requesting) (packet : List ℕ) (r : Result PacketFields PacketFault) → (requesting.hears_packet a packet r).after.setup ≡ a.setup
packet_setup a packet (Err fault) = refl
packet_setup a packet (Ok fields) = gathered_setup a packet (gathered_from a.setup.eid a.setup.responder a.given fields)

pub given_setup : (a : Requesting) (packet : List ℕ) → (requester_given a packet).after.setup ≡ a.setup
unfolding requester_given
given_setup a packet = either_given (requesting.is_worn a) _ _ a refl (packet_setup a packet (parsed packet))
