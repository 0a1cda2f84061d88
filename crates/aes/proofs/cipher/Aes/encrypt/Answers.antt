use Rattle.std.proofs.Common.{◌∙◌, ap}
use Rattle.aes.specs.Cipher.{cipher}
use Rattle.aes.specs.Words.{block_bytes}
use Rattle.aes.proofs.StateBytes.{block_bytes-big_number}
use Rattle.aes.proofs.cipher.Aes.encrypt.Goals as goal

pub returns : goal.returns
unfolding block_bytes
returns c =
    c.write_u128.ensures
    ∙ c.encrypt_number.ensures
    ∙ ap (cipher c.args.self.now) (ap block_bytes c.read_u128.ensures ∙ block_bytes-big_number c.args.block.now c.told-block c.fits-block)
