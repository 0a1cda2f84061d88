use Rattle.std.proofs.Common.{ℕ}
use Rattle.std.proofs.lemmas.List.{take-replicate}
use Rattle.hmac_hkdf.proofs.mac.zeros.Goals as goal

pub returns : goal.returns
returns c = take-replicate {X = ℕ} c.args.count 128 0 c.requires
