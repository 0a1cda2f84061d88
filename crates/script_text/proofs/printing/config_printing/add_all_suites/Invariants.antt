use Rattle.std.proofs.Common.{◌≡◌, ◌+◌, drop}
use Rattle.script_text.specs.Printing.{with_requester_suites}
use Rattle.script_text.proofs.printing.config_printing.add_all_suites.Given as goal

-- the whole text is that so far with the lines that are left
abbrev pub invariant-loop-requester : goal.invariant-loop-requester
invariant-loop-requester l = record {
  same : with_requester_suites l.fn.text 1 l.requesters ≡ with_requester_suites l.text l.q (drop l.requester-index l.requesters);
  number : l.q ≡ 1 + l.requester-index;
}
