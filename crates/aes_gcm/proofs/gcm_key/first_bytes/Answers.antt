use Rattle.std.proofs.Common.{arith}
use Rattle.std.proofs.lemmas.Grind.{common_steps}
use Rattle.std.proofs.lemmas.List.{take_min}
use Rattle.aes_gcm.proofs.gcm_key.first_bytes.Goals as goal

pub returns : goal.returns
returns c =
    let t = take_min 48 c.args.text.now in
    grind (arith, common_steps)
