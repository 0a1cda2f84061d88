use Rattle.std.proofs.Common.{arith}
use Rattle.std.specs.Prelude.{bit_xor, slice_index_or}
use Rattle.std.proofs.lemmas.Grind.{common_steps}
use Rattle.std.proofs.lemmas.List.Edits.{map_over_more}
use Rattle.hmac_hkdf.proofs.mac.mask.Goals as goal

pub loop-x-preserved : goal.loop-x-preserved
loop-x-preserved c =
    let x = slice_index_or c.loop-x.bytes c.loop-x.x-index 0 in
    map_over_more (λ y. bit_xor y c.args.pad) c.args.bytes.now c.loop-x.bytes c.loop-x.x-index x
    c.loop-x-test.true c.loop-x.invariant (grind (arith, common_steps))
