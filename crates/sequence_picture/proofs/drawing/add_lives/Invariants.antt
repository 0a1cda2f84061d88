use Rattle.std.proofs.Common.{◌≡◌}
use Rattle.sequence_picture.specs.Drawing.{with_lives}
use Rattle.sequence_picture.proofs.drawing.add_lives.Given as goal

-- The lifelines so far were written.
abbrev pub invariant-loop-end : goal.invariant-loop-end
invariant-loop-end l = l.text ≡ with_lives l.fn.text l.requesters l.rows l.end
