use Rattle.spdm_lives.proofs.LivesHold.{text_transcripts_apart}
use Rattle.spdm_lives.proofs.laws.text_transcripts_apart.Goals as goal

pub returns : goal.returns
returns c = text_transcripts_apart
