use Rattle.std.proofs.Common.{◌≡◌, ◌<◌, ◌-◌, ◌^◌, length, reverse, take}
use Rattle.script_ends.specs.Configured.{configuration_in}
use Rattle.trace_check.proofs.checking.check.Given as goal
use Rattle.trace_check.specs.Checker.{IsChecker}
use Rattle.trace_check.specs.Limits.{AreSound}

-- it is kept of the packets so far, of which the last one has this number
abbrev pub invariant-loop-packet : goal.invariant-loop-packet
invariant-loop-packet l = record {
  kept : AreSound (configuration_in l.capture.config) → length l.capture.packets < 2 ^ 32 - 1
      → IsChecker l.checker (configuration_in l.capture.config) (reverse (take l.packet-index l.capture.packets));
  counted : l.packet-index < 2 ^ 32 - 1 → l.number ≡ l.packet-index;
}
