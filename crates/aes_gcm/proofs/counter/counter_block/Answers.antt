use Rattle.std.proofs.Common.{◌∙◌, ◌+◌, ◌*◌, ◌^◌, ap, take, ℕ}
use Rattle.byteorder.specs.Endian.{big_number}
use Rattle.aes.specs.Words.{block_bytes}
use Rattle.aes_gcm.proofs.Blocks.{counter_bytes}
use Rattle.aes_gcm.proofs.counter.counter_block.Goals as goal

pub returns : goal.returns
returns c =
    let iv = c.args.iv.now in
    ap (λ (t : ℕ). block_bytes (t * 2 ^ 64 + c.read_u32.result * 2 ^ 32 + c.args.counter)) (c.read_u64.ensures ∙ ap (big_number 8) c.split_at.ensures.front)
    ∙ ap (λ (t : ℕ). block_bytes (big_number 8 (take 8 iv) * 2 ^ 64 + t * 2 ^ 32 + c.args.counter)) (c.read_u32.ensures ∙ ap (big_number 4) c.split_at.ensures.back)
    ∙ counter_bytes iv c.args.counter c.told-iv c.fits-iv c.ranges.counter.fits
