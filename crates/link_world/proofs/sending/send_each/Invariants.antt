use Rattle.std.proofs.Common.{◌≤◌, length, drop}
use Rattle.link_world.proofs.Packets.{IsUnderWay}
use Rattle.link_world.proofs.sending.send_each.Given as goal
use Rattle.world_machine.specs.Trace.{packets_max}

abbrev pub invariant-loop-index : goal.invariant-loop-index
invariant-loop-index l = record {
  way : length l.fn.sent ≤ packets_max → IsUnderWay l.fn.sent l.packets l.fn.text l.sent (drop l.index l.packets) l.text;
}
