use Rattle.example_world.proofs.Opens.{session_opens}
use Rattle.example_world.proofs.session_opens.Goals as goal

pub returns : goal.returns
returns c = session_opens
