use Rattle.lives_laws.proofs.TextLives.{lives_hold}
use Rattle.lives_laws.proofs.laws.lives_hold.Goals as goal

pub returns : goal.returns
returns c = lives_hold
