use Rattle.stream_laws.proofs.Driving.{responder_is_served as proved}
use Rattle.stream_laws.proofs.laws.responder_is_served.Goals as goal

pub returns : goal.returns
returns c = proved
