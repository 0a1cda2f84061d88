use Rattle.std.proofs.Common.{◌≡◌, [], take}
use Rattle.std.specs.List.{AllByRecursion}
use Rattle.std.specs.Prelude.{map}
use Rattle.capture_bodies.specs.Keeping.{Stand, eid_of, number_of}
use Rattle.capture_bodies.proofs.gathering.fresh_pairs.Given as goal

-- The requesters so far, of which no packet came yet.
abbrev pub invariant-loop-eid : goal.invariant-loop-eid
invariant-loop-eid l = record {
  eids : map eid_of l.pairs.items ≡ map number_of (take l.eid-index l.eids);
  stand : AllByRecursion (λ pair. Stand pair l.own.number (eid_of pair) []) l.pairs.items;
}
