use Rattle.aes.proofs.Bytes.{get_or-ROUND_CONSTANTS}
use Rattle.aes.proofs.expansion.round_constant.Goals as goal

pub returns : goal.returns
returns c = get_or-ROUND_CONSTANTS c.args.n c.requires
