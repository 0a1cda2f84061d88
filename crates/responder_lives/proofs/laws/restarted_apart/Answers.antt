use Rattle.responder_lives.proofs.TranscriptsApart.{restarted_apart}
use Rattle.responder_lives.proofs.laws.restarted_apart.Goals as goal

pub returns : goal.returns
returns c = restarted_apart
