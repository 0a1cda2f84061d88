use Rattle.std.proofs.Common.{◌≡◌, ◌≤◌, ◌+◌, length}
use Rattle.script_text.specs.Lines.{lines_of}
use Rattle.script_text.specs.Reading.{read_lines}
use Rattle.script_text.proofs.texts.reader.read_text.Given as goal

-- what all lines say is what those that are left say after those that were taken
abbrev pub invariant-loop-line : goal.invariant-loop-line
invariant-loop-line g l = record {
  same : read_lines g.R.LineReader.fault g.R.LineReader.after g.R.LineReader.whole l.first l.initial.reader (lines_of l.text)
      ≡ read_lines g.R.LineReader.fault g.R.LineReader.after g.R.LineReader.whole l.number l.reader (lines_of l.rest);
  few : l.number + length l.rest ≤ l.first + length l.text;
}

abbrev pub decreases-loop-line : goal.decreases-loop-line
decreases-loop-line g l = length l.rest
