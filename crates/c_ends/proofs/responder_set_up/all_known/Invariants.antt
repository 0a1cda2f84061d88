use Rattle.std.proofs.Common.{◌≡◌, map, take}
use Rattle.c_ends.specs.Setting.{known_in}
use Rattle.c_ends.proofs.responder_set_up.all_known.Given as goal
use Rattle.responder.specs.SetUp.{known_of}

abbrev pub invariant-loop-one : goal.invariant-loop-one
invariant-loop-one l = record {
  same : map known_of l.made.items ≡ map known_in (take l.one-index l.known);
}
