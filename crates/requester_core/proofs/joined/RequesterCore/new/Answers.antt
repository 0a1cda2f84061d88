use Rattle.std.proofs.Common.{◌∙◌, sym}
use Rattle.requester_core.proofs.joined.RequesterCore.new.Goals as goal

pub returns : goal.returns
returns c = λ q is. record {
  clear_state = c.new-2.ensures q;
  sessions = c.in_ok-sessions.ensures q;
  gathers = record { max = c.new-3.ensures.max ∙ sym is; chunks = tt };
}
