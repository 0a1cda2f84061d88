use Rattle.std.proofs.Common.{arith}
use Rattle.std.proofs.lemmas.Grind.{common_steps}
use Rattle.std.proofs.lemmas.List.Edits.{fill_by_more}
use Rattle.std.proofs.lemmas.List.FromFn.{fill_by_all}
use Rattle.aes.specs.Cipher.{mixed}
use Rattle.aes.proofs.state.mix_columns.Goals as goal

pub loop-i-preserved : goal.loop-i-preserved
loop-i-preserved c = record {
  long = grind (arith, common_steps);
  filled = rw (c.double.ensures, c.triple.ensures) (fill_by_more (mixed c.args.s.now) c.loop-i.out c.loop-i.i 0 (omega (arith, c.loop-i.invariant.long)) c.loop-i.invariant.filled);
}

pub returns : goal.returns
returns c =
    fill_by_all (mixed c.args.s.now) c.loop-i.out 16 0 c.loop-i.invariant.long (λ k h. c.loop-i.invariant.filled k (omega arith))
