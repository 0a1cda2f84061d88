use Rattle.std.proofs.Common.{◌≡◌}
use Rattle.spdm_bench.specs.Repeat.{sealed, last_tag}
use Rattle.spdm_bench.proofs.repeat.seal_all.Given as goal

abbrev pub invariant-loop-number : goal.invariant-loop-number
invariant-loop-number l = record {
  text : l.text ≡ sealed l.fn.text l.number;
  tag : l.tag ≡ last_tag l.fn.text l.number;
}
