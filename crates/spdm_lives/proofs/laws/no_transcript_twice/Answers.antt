use Rattle.spdm_lives.proofs.TranscriptsApart.{no_transcript_twice}
use Rattle.spdm_lives.proofs.laws.no_transcript_twice.Goals as goal

pub returns : goal.returns
returns c = no_transcript_twice
