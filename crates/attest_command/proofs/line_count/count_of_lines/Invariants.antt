use Rattle.std.proofs.Common.{◌≡◌, ◌≤◌, ◌+◌, drop, length}
use Rattle.script_text.specs.Lines.{lines_of}
use Rattle.attest_command.proofs.LineCounts.{begun_in}
use Rattle.attest_command.proofs.line_count.count_of_lines.Given as goal

abbrev pub invariant-loop-byte : goal.invariant-loop-byte
invariant-loop-byte l = record {
  counted : l.count + begun_in l.begins (drop l.byte-index l.text) ≡ length (lines_of l.text);
  few : l.count ≤ l.byte-index;
}
