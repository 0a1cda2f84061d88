use Rattle.std.proofs.Common.{◌≡◌, ◌++◌, ◌*◌, length, drop}
use Rattle.negotiate.specs.Reply.{answer_tables}
use Rattle.negotiate.proofs.reply.answer_tables.Given as goal

abbrev pub invariant-loop-kind : goal.invariant-loop-kind
invariant-loop-kind l = record {
  made : l.tables ++ answer_tables l.choice (drop l.kind-index l.kinds) ≡ answer_tables l.choice l.kinds;
  long : length l.tables ≡ 4 * l.kind-index;
}
