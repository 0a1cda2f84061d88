use Rattle.std.proofs.Common.{◌≡◌}
use Rattle.sequence_picture.specs.Diagram.{with_names}
use Rattle.sequence_picture.proofs.diagram.add_names.Given as goal

-- The names so far were written.
abbrev pub invariant-loop-end : goal.invariant-loop-end
invariant-loop-end l = l.text ≡ with_names l.fn.text l.requesters l.end
