use Rattle.std.proofs.Common.{◌≡◌, length}
use Rattle.spdm_bench.specs.Repeat.{last_code}
use Rattle.spdm_bench.proofs.repeat.authenticate_all.Given as goal

abbrev pub invariant-loop-number : goal.invariant-loop-number
invariant-loop-number l = record {
  code : l.code ≡ last_code (length l.fn.text) l.number;
}
