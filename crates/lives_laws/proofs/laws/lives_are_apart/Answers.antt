use Rattle.lives_laws.proofs.TextLives.{lives_are_apart}
use Rattle.lives_laws.proofs.laws.lives_are_apart.Goals as goal

pub returns : goal.returns
returns c = lives_are_apart
