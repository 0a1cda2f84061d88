use Rattle.std.proofs.Common.{◌∙◌, ap}
use Rattle.aes.specs.Words.{block_bytes}
use Rattle.aes.proofs.StateBytes.{block_bytes-big_number}
use Rattle.aes.proofs.columns.Columns.of_bytes.Goals as goal

pub returns : goal.returns
returns c =
    c.of.ensures.bytes ∙ ap block_bytes c.read_u128.ensures ∙ block_bytes-big_number c.args.block.now c.requires (λ i. (c.type_inv.block i).fits)
