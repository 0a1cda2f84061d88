-- Each packet that a requester sends fits into a frame.
use Rattle.std.proofs.Common.{◌≤◌, ℕ, List, Bool, true, false, Option, Some, None, Result, Ok, Err, arith}
use Rattle.std.specs.Prelude.{if◌then◌else◌}
use Rattle.frame_stream.proofs.Framed.{cut_short}
use Rattle.frame_stream.specs.Packets.{AreShort}
use Rattle.mctp_framing.specs.Gathering.{Gathered}
use Rattle.mctp_framing.specs.Gathering.Gathered.{Whole, More, Dropped}
use Rattle.mctp_framing.specs.Packet.{PacketFields, parsed}
use Rattle.requester.specs.Standing.{StandsFor}
use Rattle.requester.specs.declared.whole.Requester.{Requester}
use Rattle.requester_machine.specs.Does.{requester_asks, requester_hears}
use Rattle.requester_machine.specs.Message.{Command, Sent, body_of}
use Rattle.requester_machine.specs.Requesting.{CommandStep, PacketStep, Requesting, hears_gathered, hears_packet, is_worn, next_draw, packets_of_sent, requester_given, requester_told}
use Rattle.requester_machine.specs.Setup.{ReqSetup}
use Rattle.requester_machine.specs.Shown.{sent_by}
use Rattle.spdm_basis.specs.declared.PacketFault.{PacketFault}
use Rattle.spdm_machine.specs.Packets.{gathered_from}

short_of : (q : ReqSetup) (sent : Option Sent) → q.unit ≤ 1024 → AreShort (packets_of_sent q sent)
short_of q None few = tt
short_of q (Some sent) few = cut_short (record { to = q.responder; from = q.eid; owner = true; tag = sent.tag }) q.unit (body_of sent.content) few

unit_few : (seen : Requester) (a : Requesting) → StandsFor seen a → a.setup.unit ≤ 1024
unit_few seen a stands =
    let low : seen.part.unit ≤ 1024 = seen.part.unit_high in
    omega (arith, stands.part.unit, low)

told_if : (b : Bool) (x y : CommandStep) → AreShort x.sent → AreShort y.sent → AreShort (if b then x else y).sent
told_if true x y first second = first
told_if false x y first second = second

pub short_told : (seen : Requester) (a : Requesting) (command : Command) → StandsFor seen a → AreShort (requester_told a command).sent
unfolding requester_told
short_told seen a command stands = told_if (is_worn a) _ _ tt (short_of a.setup (sent_by (requester_asks false a.setup a.history command (next_draw a))) (unit_few seen a stands))

given_if : (b : Bool) (x y : PacketStep) → AreShort x.sent → AreShort y.sent → AreShort (if b then x else y).sent
given_if true x y first second = first
given_if false x y first second = second

short_gathered : (a : Requesting) (packet : List ℕ) (g : Gathered) → a.setup.unit ≤ 1024 → AreShort (hears_gathered a packet g).sent
short_gathered a packet (Whole route body) few = short_of a.setup (sent_by (requester_hears a.setup a.history route.owner route.tag body (next_draw a))) few
short_gathered a packet More few = tt
short_gathered a packet (Dropped cause) few = tt

short_packet : (a : Requesting) (packet : List ℕ) (parts : Result PacketFields PacketFault) → a.setup.unit ≤ 1024 → AreShort (hears_packet a packet parts).sent
short_packet a packet (Err fault) few = tt
short_packet a packet (Ok fields) few = short_gathered a packet (gathered_from a.setup.eid a.setup.responder a.given fields) few

pub short_given : (seen : Requester) (a : Requesting) (packet : List ℕ) → StandsFor seen a → AreShort (requester_given a packet).sent
unfolding requester_given
short_given seen a packet stands = given_if (is_worn a) _ _ tt (short_packet a packet (parsed packet) (unit_few seen a stands))
