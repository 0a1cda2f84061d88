-- The clear part of a requester, as the program represents it. What is gathered of a large response stands beside it.
use Rattle.std.specs.Prelude.{◌≡◌, ℕ, List}
use Rattle.requester_core.specs.Negotiating as negotiating
use Rattle.requester_core.specs.Negotiating.{IsUpToSent}
use Rattle.requester_core.specs.Outgoing as outgoing
use Rattle.requester_machine.specs.Holds.{Holds}
use Rattle.requester_machine.specs.History.{History, negotiation_of, next_handle, next_tag, outstanding, phase_of}
use Rattle.requester_machine.specs.Setup.{ReqSetup}
use Rattle.requester_machine.specs.Shown.{last_data}

-- The state in contracts: the negotiation, what is sent, and the last data.
pub record Seen : Type 0 where
  pub negotiating : negotiating.Seen
  pub outgoing : outgoing.Seen
  pub brought : List ℕ

-- It is kept of this history, whatever is outstanding in it.
pub record Shows (seen : Seen) (h : History) : Type 0 where
  pub negotiating : negotiating.StandsFor seen.negotiating (phase_of h) (negotiation_of h)
  pub outgoing : outgoing.StandsFor seen.outgoing (next_tag h) (next_handle h) (outstanding h)
  pub up_to : IsUpToSent (outstanding h) (negotiation_of h)
  pub brought : seen.brought ≡ last_data h

-- It is kept of this history, which a requester with this set-up made under some free values.
pub record StandsFor (seen : Seen) (q : ReqSetup) (h : History) : Type 0 where
  pub holds : Holds q h
  pub shows : Shows seen h

-- What of it counts where all starts over: the next tag and handle, and the last data.
pub record Counts (seen : Seen) (h : History) : Type 0 where
  pub tag : seen.outgoing.tag ≡ next_tag h
  pub handle : seen.outgoing.handle ≡ next_handle h
  pub brought : seen.brought ≡ last_data h
