use Rattle.std.proofs.Common.{◌∙◌, ap}
use Rattle.aes.specs.Words.{block_bytes}
use Rattle.aes.proofs.StateBytes.{block_bytes-big_number}
use Rattle.aes.proofs.sliced_keys.number_of.Goals as goal

pub returns : goal.returns
returns c = ap block_bytes c.read_u128.ensures ∙ block_bytes-big_number c.args.block.now c.told-block c.fits-block
