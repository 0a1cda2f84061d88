use Rattle.std.proofs.Common.{◌≡◌, ◌≤◌, ◌+◌, [], length}
use Rattle.script_text.specs.Lines.{lines_of}
use Rattle.script_text.specs.PolicyText.{policy_lines}
use Rattle.script_text.proofs.texts.policy_text.parse_policy.Given as goal

-- what all lines say is what those that are left say after those that were taken
abbrev pub invariant-loop-line : goal.invariant-loop-line
invariant-loop-line l = record {
  same : policy_lines l.first [] (lines_of l.text) ≡ policy_lines l.number l.rules (lines_of l.rest);
  few : l.number + length l.rest ≤ l.first + length l.text;
}

abbrev pub decreases-loop-line : goal.decreases-loop-line
decreases-loop-line l = length l.rest
