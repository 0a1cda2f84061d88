use Rattle.std.proofs.Common.{◌≡◌, take, nat_eq}
use Rattle.std.specs.List.{list_any}
use Rattle.script_text.proofs.reading.places.has.Given as goal

abbrev pub invariant-loop-b : goal.invariant-loop-b
invariant-loop-b l = l.found ≡ list_any (λ b. nat_eq b l.sought) (take l.b-index l.piece)
