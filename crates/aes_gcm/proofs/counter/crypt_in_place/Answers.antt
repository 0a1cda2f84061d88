use Rattle.std.proofs.Common.{◌∙◌}
use Rattle.aes_gcm.proofs.Pieces.{crypt_behind-none}
use Rattle.aes_gcm.proofs.counter.crypt_in_place.Goals as goal

pub returns : goal.returns
returns c = c.crypt_from.ensures ∙ crypt_behind-none c.args.aes.now c.args.iv.now c.args.text.now
