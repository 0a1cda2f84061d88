use Rattle.stream_laws.proofs.ReadText.{keeps_limits}
use Rattle.stream_laws.proofs.laws.read_configuration_keeps_limits.Goals as goal

pub returns : goal.returns
returns c = keeps_limits
