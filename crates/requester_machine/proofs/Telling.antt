-- What a requester does that is told a command, as long as it is not worn.
use Rattle.std.proofs.Common.{◌≡◌, cond, true, false, Bool, Option, Some, None, ap}
use Rattle.requester_machine.specs.Asking.{Outcome, resent}
use Rattle.requester_machine.specs.Asking.Outcome.{Resends}
use Rattle.requester_machine.specs.Does.{requester_asks}
use Rattle.requester_machine.specs.Message.{Command, Sent}
use Rattle.requester_machine.specs.Requesting.{Requesting, commanded_by, is_worn, next_draw, requester_told, worn_command}

pub fresh_told : (a : Requesting) (command : Command) → is_worn a ≡ false → requester_told a command ≡ commanded_by a (requester_asks false a.setup a.history command (next_draw a))
unfolding requester_told
fresh_told a command fresh = ap (λ (b : Bool). cond b (worn_command a (requester_asks true a.setup a.history command (next_draw a))) (commanded_by a (requester_asks false a.setup a.history command (next_draw a)))) fresh

-- What is sent again is what waits.
pub resent_is : (sent : Sent) (o : Option Sent) → resent o ≡ Resends sent → o ≡ Some sent
resent_is sent None other = absurd (cc other)
resent_is sent (Some out) same = (let it : out ≡ sent = cc same in ap Some it)
