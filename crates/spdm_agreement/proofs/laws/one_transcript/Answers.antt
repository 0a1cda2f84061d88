use Rattle.spdm_agreement.proofs.Moves.Runs.{holds, agrees}
use Rattle.spdm_agreement.proofs.laws.one_transcript.Goals as goal

pub returns : goal.returns
returns c r s reached = agrees r _ _ _ (holds r s reached)
