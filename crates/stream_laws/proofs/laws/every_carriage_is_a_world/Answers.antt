use Rattle.stream_laws.proofs.Carrying.{every_carriage}
use Rattle.stream_laws.proofs.laws.every_carriage_is_a_world.Goals as goal

pub returns : goal.returns
returns c = every_carriage
