use Rattle.spdm_agreement.proofs.Moves.Runs.{holds, one_sealed}
use Rattle.spdm_agreement.proofs.laws.one_record.Goals as goal

pub returns : goal.returns
returns c r s reached p n b d is own x y =
    let k = holds r s reached in
    one_sealed r _ _ _ k p n b d is (k.backed p _ x own) (k.backed p _ y own)
