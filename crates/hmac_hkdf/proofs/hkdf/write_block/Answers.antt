use Rattle.hmac_hkdf.proofs.Blocks.{written}
use Rattle.std.proofs.Common.{arith, ◌≡◌, ◌+◌, ◌-◌}
use Rattle.hmac_hkdf.proofs.hkdf.write_block.Goals as goal

pub returns : goal.returns
returns c =
    let count : c.args.at + c.min-count.result - c.args.at ≡ c.min-count.result = omega arith in
    rw (count, c.copy_from_slice.ensures.after) (written c.args.out.now c.args.block.now c.args.at c.min-count.result c.requires c.min-count.ensures)
