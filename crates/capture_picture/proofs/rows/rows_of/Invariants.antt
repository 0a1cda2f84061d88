use Rattle.std.proofs.Common.{◌≡◌, take}
use Rattle.capture_picture.specs.Arrows.{rows_from}
use Rattle.capture_picture.proofs.rows.rows_of.Given as goal

-- The rows of the packets so far.
abbrev pub invariant-loop-index : goal.invariant-loop-index
invariant-loop-index l = l.rows ≡ rows_from l.config 1 (take l.index l.packets)
