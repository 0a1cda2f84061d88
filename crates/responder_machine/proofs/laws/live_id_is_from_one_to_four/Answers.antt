use Rattle.responder_machine.proofs.Live.{live_ids}
use Rattle.responder_machine.proofs.laws.live_id_is_from_one_to_four.Goals as goal

pub returns : goal.returns
returns c = live_ids
