use Rattle.std.proofs.Common.{◌∙◌, ap, get_or, ℕ}
use Rattle.std.specs.Prelude.{bit_xor}
use Rattle.byteorder.specs.Endian.{big_bytes}
use Rattle.aes_gcm.proofs.Blocks.{masked_half}
use Rattle.aes_gcm.proofs.counter.masked.Goals as goal

pub returns : goal.returns
returns c = λ k lt.
    ap (λ (t : ℕ). get_or (big_bytes 8 (bit_xor t c.args.stream)) k 0) c.read_u64.ensures
    ∙ masked_half c.args.bytes.now c.args.stream k (λ i. (c.type_inv.bytes i).fits) lt
