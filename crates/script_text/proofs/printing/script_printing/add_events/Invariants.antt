use Rattle.std.proofs.Common.{◌≡◌, drop, fold}
use Rattle.script_text.specs.Printing.{with_entry}
use Rattle.script_text.proofs.printing.script_printing.add_events.Given as goal

-- the whole text is that so far with the lines that are left
abbrev pub invariant-loop-entry : goal.invariant-loop-entry
invariant-loop-entry l = fold with_entry l.fn.text l.entries ≡ fold with_entry l.text (drop l.entry-index l.entries)
