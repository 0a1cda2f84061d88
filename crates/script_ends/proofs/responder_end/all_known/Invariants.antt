use Rattle.std.proofs.Common.{◌≡◌, ℕ, map, take}
use Rattle.script_ends.proofs.responder_end.all_known.Given as goal
use Rattle.script_ends.specs.Configured.{known_in}
use Rattle.responder.specs.SetUp as answering

abbrev pub invariant-loop-q : goal.invariant-loop-q
invariant-loop-q l = record {
  all : (responder : ℕ) → map answering.known_of l.known.items ≡ known_in responder (take l.q-index l.requesters);
}
