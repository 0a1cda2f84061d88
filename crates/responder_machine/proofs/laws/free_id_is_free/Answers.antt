use Rattle.responder_machine.proofs.Ids.{free_id-free}
use Rattle.responder_machine.proofs.laws.free_id_is_free.Goals as goal

pub returns : goal.returns
returns c = free_id-free
