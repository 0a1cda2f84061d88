use Rattle.std.proofs.Common.{ap, ◌∙◌}
use Rattle.hmac_hkdf.specs.Hmac.{masked}
use Rattle.hmac_hkdf.proofs.Masks.{masked_again}
use Rattle.hmac_hkdf.proofs.mac.mask_again.Goals as goal

pub returns : goal.returns
returns c key e = c.mask.ensures ∙ ap (masked 0x6a) e ∙ masked_again key
