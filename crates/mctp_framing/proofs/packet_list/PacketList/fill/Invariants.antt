use Rattle.std.proofs.Common.{◌≡◌, ◌++◌}
use Rattle.mctp_framing.specs.Cutting.{packets_of, route_of}
use Rattle.mctp_framing.proofs.packet_list.PacketList.fill.Given as goal

abbrev pub invariant-loop-packet : goal.invariant-loop-packet
invariant-loop-packet l = record {
  taken : l.self ≡ l.yielded;
  left : l.yielded ++ l.packet-iterator ≡ packets_of (route_of l.fn.route) l.unit l.body;
}
