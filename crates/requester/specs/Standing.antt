-- The whole requester, as the program represents it.
use Rattle.std.specs.Prelude.{◌≡◌, ◌≤◌, ◌+◌, ◌-◌, ◌*◌, ◌^◌, ℕ, List, false, Option, Some, None, Result, Ok, Err, length}
use Rattle.requester_core.specs.Joined as joined
use Rattle.mctp_framing.specs.Assembling as assembling
use Rattle.requester.specs.SetUp.{IsPart}
use Rattle.requester.specs.declared.whole.Requester.{Requester}
use Rattle.requester_core.specs.declared.joined.RequesterCore.{RequesterCore}
use Rattle.requester_machine.specs.Asking.{Outcome}
use Rattle.requester_machine.specs.Does.{IsMade}
use Rattle.requester_machine.specs.History.{History, draws_of}
use Rattle.requester_machine.specs.Requesting.{CommandStep, PacketStep, Requesting, is_worn, packets_of_sent}
use Rattle.requester_machine.specs.Setup.{ReqSetup}
use Rattle.requester_machine.specs.Shown.{after, event_of, sent_by}
use Rattle.spdm_grammar.specs.declared.told.command_fault.CommandFault.{CommandFault}
use Rattle.spdm_grammar.specs.declared.told.event.Event.{Event}
use Rattle.spdm_machine.specs.Packets.{body_limit, fields_in, wear_limit}

-- The greatest number of a first draw: that of the last boot. This project's own limit.
abbrev pub last_first : ℕ
last_first = (2 ^ 24 - 2) * 2 ^ 40

-- The program's requester stands for this one of the definitions.
pub record StandsFor (seen : Requester) (a : Requesting) : Type 0 where
  pub part : IsPart seen.part a.setup
  pub seed : seen.draws.seed ≡ a.seed
  pub number : seen.draws.number ≡ a.first + draws_of a.setup a.history
  pub count : seen.taken ≡ length a.given + a.commands
  pub receiver : seen.assembler.receiver ≡ record { own = a.setup.eid; peer = a.setup.responder; limit = body_limit }
  pub assembler : assembling.StandsFor seen.assembler (fields_in a.given)
  pub asking : joined.StandsFor seen.asking a.setup a.history
  pub made : IsMade a.setup a.history
  pub entries : length a.history ≤ length a.given + a.commands
  pub limit : length a.given + a.commands ≤ wear_limit
  pub first : a.first ≤ last_first

-- The fault of a command, if it has one.
abbrev pub fault_in : Result Unit CommandFault → Option CommandFault
fault_in (Ok done) = None
fault_in (Err fault) = Some fault

-- A command is this step: its fault is reported, its packets are sent, and the program's requester stands for the one
-- after it.
pub record IsTold (step : CommandStep) (told : Result Unit CommandFault) (sends : List (List ℕ)) (new : Requester) : Type 0 where
  pub fault : fault_in told ≡ step.fault
  pub sent : sends ≡ step.sent
  pub stands : StandsFor new step.after

-- A packet is this step.
pub record IsGiven (step : PacketStep) (told : Event) (sends : List (List ℕ)) (new : Requester) : Type 0 where
  pub event : told ≡ step.event
  pub sent : sends ≡ step.sent
  pub stands : StandsFor new step.after

-- The same of a requester that counted one more packet.
pub record IsCounted (seen : Requester) (a : Requesting) : Type 0 where
  pub fresh : is_worn a ≡ false
  pub count : seen.taken ≡ length a.given + a.commands + 1
  pub stands : StandsFor (record seen { taken = length a.given + a.commands }) a

-- A complete body has this outcome: what is reported and sent is the outcome's, and the program's state stands for the
-- history after it.
pub record IsHeard (q : ReqSetup) (h : History) (outcome : Outcome) (told : Event) (sends : List (List ℕ)) (new : RequesterCore) : Type 0 where
  pub event : event_of outcome ≡ Some told
  pub sent : sends ≡ packets_of_sent q (sent_by outcome)
  pub stands : joined.StandsFor new q (after h outcome)
