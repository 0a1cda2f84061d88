use Rattle.std.proofs.Common.{◌≡◌, take}
use Rattle.std.specs.Prelude.{map}
use Rattle.capture_records.specs.Hearing.{fresh}
use Rattle.capture_records.proofs.hearing.all_fresh.Given as goal

-- The requesters so far.
abbrev pub invariant-loop-q : goal.invariant-loop-q
invariant-loop-q l = l.all.items ≡ map fresh (take l.q-index l.requesters)
