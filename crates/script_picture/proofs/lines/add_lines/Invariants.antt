use Rattle.std.proofs.Common.{◌≡◌, ◌++◌, length}
use Rattle.script_picture.specs.Rows.{rows_of_lines}
use Rattle.script_text.specs.Lines.{lines_of}
use Rattle.script_picture.proofs.lines.add_lines.Given as goal

-- The rows so far, and those of the lines that are left, are those of all lines behind the rows that there were.
abbrev pub invariant-loop-line : goal.invariant-loop-line
invariant-loop-line l =
    l.rows ++ rows_of_lines l.config l.events l.count l.sent (lines_of l.rest) ≡ l.fn.rows ++ rows_of_lines l.config l.events l.before l.sent (lines_of l.text)

abbrev pub decreases-loop-line : goal.decreases-loop-line
decreases-loop-line l = length l.rest
