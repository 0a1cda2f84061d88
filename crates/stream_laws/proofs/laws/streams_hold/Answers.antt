use Rattle.stream_laws.proofs.Configurations.{hold}
use Rattle.stream_laws.proofs.laws.streams_hold.Goals as goal

pub returns : goal.returns
returns c = hold
