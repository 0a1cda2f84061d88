use Rattle.std.proofs.Common.{arith, ℕ, get_or, ◌+◌, ◌*◌, ◌%◌}
use Rattle.std.proofs.lemmas.Grind.{common_steps}
use Rattle.std.proofs.lemmas.List.Edits.{fill_by_more}
use Rattle.std.proofs.lemmas.List.FromFn.{fill_by_all}
use Rattle.aes.proofs.sliced_keys.shifted_back.Goals as goal

pub loop-i-preserved : goal.loop-i-preserved
loop-i-preserved c =
    let f = λ (j : ℕ). get_or c.args.block.now ((j + 12 * c.args.k * (j % 4)) % 16) 0 in
    record {
      long = grind (arith, common_steps);
      filled = fill_by_more f c.loop-i.out c.loop-i.i 0 (omega (arith, c.loop-i.invariant.long)) c.loop-i.invariant.filled;
    }

pub returns : goal.returns
returns c =
    let f = λ (j : ℕ). get_or c.args.block.now ((j + 12 * c.args.k * (j % 4)) % 16) 0 in
    fill_by_all f c.loop-i.out 16 0 c.loop-i.invariant.long (λ k h. c.loop-i.invariant.filled k (omega arith))
