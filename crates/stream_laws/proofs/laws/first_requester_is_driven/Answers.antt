use Rattle.stream_laws.proofs.Driving.{first_is_driven}
use Rattle.stream_laws.proofs.laws.first_requester_is_driven.Goals as goal

pub returns : goal.returns
returns c = first_is_driven
