use Rattle.std.proofs.Common.{◌∙◌, ap}
use Rattle.std.specs.Prelude.{bit_xor}
use Rattle.aes.proofs.Bytes.{tripled-times}
use Rattle.aes.proofs.state.triple.Goals as goal

pub returns : goal.returns
returns c = ap (λ v. bit_xor v c.args.x) c.double.ensures ∙ tripled-times c.args.x c.ranges.x.fits
