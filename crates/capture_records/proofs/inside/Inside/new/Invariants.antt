use Rattle.std.proofs.Common.{◌≡◌, [], take}
use Rattle.std.specs.List.{AllByRecursion}
use Rattle.std.specs.Prelude.{length}
use Rattle.chunking.specs.Keeping.{StandsFor}
use Rattle.capture_records.proofs.inside.Inside.new.Given as goal

-- The requesters so far, to which no chunk came yet.
abbrev pub invariant-loop : goal.invariant-loop
invariant-loop l = record {
  count : length l.all.items ≡ length (take l.index l.requesters);
  fresh : AllByRecursion (λ chunks. StandsFor chunks.collector []) l.all.items;
}
