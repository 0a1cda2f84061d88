use Rattle.std.proofs.Common.{◌<◌, ◌+◌, ◌-◌, ◌^◌, ◌++◌, ℕ, List, length, reverse, take}
use Rattle.capture_difference.proofs.seeking.follow.Given as goal
use Rattle.trace_check.specs.Checker.{IsChecker}
use Rattle.trace_check.specs.Limits.{AreSound}
use Rattle.world_machine.specs.Setup.{Configuration}

-- It is kept of the packets so far behind those before them.
abbrev pub invariant-loop-packet : goal.invariant-loop-packet
invariant-loop-packet l =
    (w : Configuration) (before : List (List ℕ)) → AreSound w → IsChecker l.fn.checker w (reverse before)
    → length before + length l.packets < 2 ^ 64 - 2
    → IsChecker l.checker w (reverse (before ++ take l.packet-index l.packets))
