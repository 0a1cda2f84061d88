use Rattle.std.proofs.Common.{◌≡◌, ◌≤◌, ◌++◌, ◌-◌, take}
use Rattle.script_capture.specs.Carried.{sent_behind}
use Rattle.script_capture.proofs.carrying.add_sent.Given as goal

-- The packets so far were added.
abbrev pub invariant-loop-index : goal.invariant-loop-index
invariant-loop-index l = record {
  from : l.before ≤ l.index;
  are : l.packets ≡ l.fn.packets ++ take (l.index - l.before) (sent_behind l.before l.sent);
}
