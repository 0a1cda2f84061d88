-- Whole runs of a requester: what it was told and given bounds all that is counted in it. This project's own.
use Rattle.std.specs.Prelude.{◌≡◌, ◌≤◌, ◌+◌, ℕ, List, [], ◌∷◌, length}
use Rattle.requester_machine.specs.Does.{IsMade}
use Rattle.requester_machine.specs.Message.{Command}
use Rattle.requester_machine.specs.Requesting.{Requesting, new_requesting, requester_told, requester_given}
use Rattle.requester_machine.specs.Setup.{ReqEnd}
use Rattle.spdm_machine.specs.Packets.{wear_limit}

-- What a requester is told and given: a command, a packet.
pub data Given : Type 0 where
  Told : (command : Command) → Given
  Packet : (bytes : List ℕ) → Given

-- The requester after it was told or given something.
abbrev pub after_given : Given → Requesting → Requesting
after_given (Told command) a = (requester_told a command).after
after_given (Packet bytes) a = (requester_given a bytes).after

-- The requester after all that it was told and given, the newest first.
abbrev pub run_of : ReqEnd → List Given → Requesting
run_of e [] = new_requesting e
run_of e (g ∷ older) = after_given g (run_of e older)

-- Its history is one that it made, with at most as many entries as it took packets and commands, and of those it takes
-- no more than its limit; its set-up stays.
pub record IsRun (e : ReqEnd) (a : Requesting) : Type 0 where
  pub setup : a.setup ≡ e.setup
  pub seed : a.seed ≡ e.seed
  pub first : a.first ≡ e.first
  pub made : IsMade a.setup a.history
  pub entries : length a.history ≤ length a.given + a.commands
  pub limit : length a.given + a.commands ≤ wear_limit

-- So it is after every run.
abbrev pub RunsAreBounded : Type 0
RunsAreBounded = (e : ReqEnd) (given : List Given) → IsRun e (run_of e given)
