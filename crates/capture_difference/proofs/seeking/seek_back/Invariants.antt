use Rattle.std.proofs.Common.{◌<◌, ◌≤◌, ◌+◌, ◌-◌, ◌^◌, ℕ, None, length}
use Rattle.capture_difference.specs.Difference.{IsFoundAt}
use Rattle.capture_difference.proofs.seeking.seek_back.Given as goal
use Rattle.script_ends.specs.Configured.{configuration_in}
use Rattle.trace_check.specs.Limits.{AreSound}

-- None was found in so many packets, from the last one on.
abbrev pub invariant-loop-passed : goal.invariant-loop-passed
invariant-loop-passed l =
    AreSound (configuration_in l.config) → length l.packets < 2 ^ 32 - 1
    → (j : ℕ) → length l.packets ≤ j + l.passed → j < length l.packets → IsFoundAt (configuration_in l.config) l.packets j None
