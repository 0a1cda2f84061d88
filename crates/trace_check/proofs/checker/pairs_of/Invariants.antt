use Rattle.std.proofs.Common.{◌≡◌, ◌<◌, [], map, take}
use Rattle.script_ends.specs.Configured.{requester_in}
use Rattle.trace_check.proofs.checker.pairs_of.Given as goal
use Rattle.trace_check.specs.Checker.{AreKept}
use Rattle.trace_check.specs.Limits.{AreSound, IsAnswering}
use Rattle.world_machine.specs.Setup.{Configuration}

-- those of the requesters so far, of which the last one has this number
abbrev pub invariant-loop-q : goal.invariant-loop-q
invariant-loop-q l = record {
  kept : (w : Configuration) → AreSound w → w.responder.eid ≡ l.own.number → w.requesters ≡ map (requester_in l.own.number) l.fn.requesters
      → IsAnswering l.answering w.responder → AreKept l.pairs.items w [] [] (take l.q-index w.requesters);
  counted : l.q-index < 256 → l.number ≡ l.q-index;
}
