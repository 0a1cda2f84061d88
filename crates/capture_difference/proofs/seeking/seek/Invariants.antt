use Rattle.std.proofs.Common.{◌<◌, ◌+◌, ◌-◌, ◌^◌, length}
use Rattle.capture_difference.specs.Difference.{NoneMends}
use Rattle.capture_difference.proofs.seeking.seek.Given as goal
use Rattle.script_ends.specs.Configured.{configuration_in}
use Rattle.trace_check.specs.Limits.{AreSound}

-- With none of the changes so far the packets conform.
abbrev pub invariant-loop-number : goal.invariant-loop-number
invariant-loop-number l =
    AreSound (configuration_in l.config) → length l.before + length l.behind < 2 ^ 32 - 1
    → NoneMends (configuration_in l.config) l.before l.packet l.behind l.number
