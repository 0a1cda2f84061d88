use Rattle.lives_laws.proofs.TextLives.{newest_is_run}
use Rattle.lives_laws.proofs.laws.newest_life_is_run.Goals as goal

pub returns : goal.returns
returns c = newest_is_run
