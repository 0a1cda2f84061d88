use Rattle.responder_core.proofs.Sizes.{no_sizes_yet}
use Rattle.responder_core.proofs.connected.Connection.new.Goals as goal

pub returns : goal.returns
returns c = λ r setup. record { clear = c.in_ok-clear.ensures r setup; sessions = c.in_ok-sessions.ensures r; queue = c.in_ok-queue.ensures; sizes = no_sizes_yet r }
