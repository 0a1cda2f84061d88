use Rattle.std.proofs.Common.{arith, ap, suc, ◌*◌, ◌≤◌, length, ◌≡◌}
use Rattle.std.proofs.lemmas.Grind.{common_steps}
use Rattle.running_hash.specs.Hash.{hash_of}
use Rattle.spdm_basis.specs.Sizes.{hash_size}
use Rattle.hmac_hkdf.specs.Hkdf.{block_of, blocks_of}
use Rattle.hmac_hkdf.proofs.Blocks.{next_written}
use Rattle.hmac_hkdf.proofs.hkdf.expand_by.Goals as goal

pub loop-i-preserved : goal.loop-i-preserved
unfolding block_of blocks_of
loop-i-preserved c =
    let at = c.loop-i.i * c.size-size.result in
    let within : c.loop-i.i * hash_size c.args.hash ≤ length c.args.out.now = grind (arith, common_steps) in
    let next : c.next_block-block.result ≡ block_of (hash_of c.args.hash) c.args.prk.now c.args.info.now (suc c.loop-i.i) = grind (arith, common_steps) in
    let long : length c.loop-i.out ≡ length c.args.out.now = c.loop-i.auto.out in
    let place : at ≡ c.loop-i.i * hash_size c.args.hash = ap (λ k. c.loop-i.i * k) c.size-size.ensures in
    record {
      done = next_written (hash_of c.args.hash) c.args.prk.now c.args.info.now c.args.out.now c.loop-i.out c.write_block.new.out c.next_block-block.result c.loop-i.i at place c.next_block-block.ensures.size within long c.loop-i.invariant.full c.loop-i.invariant.done next (rw c.as_slice-in-loop-i-2.ensures.value at c.write_block.ensures);
      last = grind (arith, common_steps);
      full = grind (arith, common_steps);
    }
