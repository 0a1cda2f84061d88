use Rattle.std.proofs.Common.{arith, ℕ}
use Rattle.std.specs.Prelude.{bit_xor, slice_index}
use Rattle.std.proofs.lemmas.Grind.{common_steps}
use Rattle.std.proofs.lemmas.List.Edits.{fill_by_more}
use Rattle.std.proofs.lemmas.List.FromFn.{fill_by_all}
use Rattle.aes.proofs.state.add_round_key.Goals as goal

pub loop-i-preserved : goal.loop-i-preserved
loop-i-preserved c =
    let f = λ (k : ℕ). bit_xor (slice_index c.args.s.now k) (slice_index c.args.key.now k) in
    record {
      long = grind (arith, common_steps);
      filled = fill_by_more f c.loop-i.out c.loop-i.i 0 (omega (arith, c.loop-i.invariant.long)) c.loop-i.invariant.filled;
    }

pub returns : goal.returns
returns c =
    let f = λ (k : ℕ). bit_xor (slice_index c.args.s.now k) (slice_index c.args.key.now k) in
    fill_by_all f c.loop-i.out 16 0 c.loop-i.invariant.long (λ k h. c.loop-i.invariant.filled k (omega arith))
