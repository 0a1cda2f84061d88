use Rattle.std.proofs.Common.{◌≡◌, drop, fold}
use Rattle.script_text.specs.Printing.{with_requester}
use Rattle.script_text.proofs.printing.config_printing.add_requesters.Given as goal

-- the whole text is that so far with the lines that are left
abbrev pub invariant-loop-requester : goal.invariant-loop-requester
invariant-loop-requester l = fold with_requester l.fn.text l.requesters ≡ fold with_requester l.text (drop l.requester-index l.requesters)
