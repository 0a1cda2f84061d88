use Rattle.std.proofs.Common.{◌≡◌, ℕ, ◌+◌, ◌*◌, ◌^◌, ◌∙◌, ap, arith, drop, get_or}
use Rattle.byteorder.specs.Endian.{big_bytes}
use Rattle.aes.specs.Cipher.{sub_bytes}
use Rattle.aes.specs.Words.{block_bytes}
use Rattle.aes.specs.Tables.{column}
use Rattle.aes.proofs.ColumnSums.{big_bytes-column}
use Rattle.aes.proofs.StateBytes.{big_bytes-low}
use Rattle.aes.proofs.SlicedRounds.{substituted_blocks}
use Rattle.aes.proofs.sliced_word.substituted_word.Goals as goal

pub returns : goal.returns
unfolding block_bytes
returns c =
    let a = c.args in
    let word = a.a * 2 ^ 24 + a.b * 2 ^ 16 + a.c * 2 ^ 8 + a.d in
    let e : word ≡ column a.a a.b a.c a.d = omega arith in
    c.to_be_bytes.ensures
    ∙ big_bytes-low (get_or c.unpacked-blocks.result 0 0)
    ∙ ap (drop 12)
    (c.unpacked-blocks.ensures 0 (omega arith)
    ∙ substituted_blocks 0 c.substituted.result c.packed.result c.substituted.ensures 0 (omega arith)
    ∙ ap sub_bytes (c.packed.ensures 0 (omega arith)))
    ∙ ap (λ (t : ℕ). sub_bytes (big_bytes 4 t)) e
    ∙ ap sub_bytes (big_bytes-column a.a a.b a.c a.d c.ranges.a.fits c.ranges.b.fits c.ranges.c.fits c.ranges.d.fits)
