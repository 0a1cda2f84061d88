-- A requester that connects, opens a session, measures all in it and ends it: what each call leads to, and what is decided
-- at it. This project's own.
use Rattle.std.specs.Prelude.{ℕ, List, [], Bool, true, false, if◌then◌else◌, Option, Some, None, is_some}
use Rattle.requester_machine.specs.History.{outstanding}
use Rattle.requester_machine.specs.Message.{Command}
use Rattle.requester_machine.specs.Message.Command.{Connect, End, Measure, Open, Retry}
use Rattle.requester_machine.specs.Requesting.{CommandStep, PacketStep, Requesting, requester_given, requester_told}
use Rattle.requester_machine.specs.Shown.{last_data}
use Rattle.script_text.specs.declared.texts.rule.Rule.{Rule}
use Rattle.spdm_grammar.specs.declared.names.TheConstants.{ALL_BLOCKS}
use Rattle.spdm_grammar.specs.declared.told.command_fault.CommandFault.{CommandFault}
use Rattle.spdm_grammar.specs.declared.told.event.Event.{Event}
use Rattle.spdm_grammar.specs.declared.told.event.Event.TheVariants as event
use Rattle.spdm_grammar.specs.declared.told.event.Finished.TheVariants as finished

-- What is decided: nothing yet; that this record of the responder's measurements is appraised, the first that came; or
-- that there is none to appraise.
pub data Decision : Type 0 where
  Undecided : Decision
  Measured : (blocks : List ℕ) → Decision
  Failed : Decision

abbrev pub is_decided : Decision → Bool
is_decided Undecided = false
is_decided (Measured blocks) = true
is_decided Failed = true

abbrev pub has_failed : Decision → Bool
has_failed Undecided = false
has_failed (Measured blocks) = false
has_failed Failed = true

-- The rules under which the record will be appraised, the requester, and what was decided so far.
pub record Attesting : Type 0 where
  pub rules : List Rule
  pub requester : Requesting
  pub decision : Decision

-- Over a requester, with nothing decided.
abbrev pub attesting_over : Requesting → List Rule → Attesting
attesting_over requester rules = record { rules = rules; requester = requester; decision = Undecided }

-- What a call leads to: what is decided at it, the packets that are sent, and what stands after it.
pub record AttestStep : Type 0 where
  pub decides : Decision
  pub sent : List (List ℕ)
  pub after : Attesting

-- With the requester after a packet or a command.
abbrev pub with_requester : Attesting → Requesting → Attesting
with_requester a requester = record a { requester = requester }

-- Nothing is decided.
abbrev pub goes : Attesting → List (List ℕ) → AttestStep
goes a sent = record { decides = Undecided; sent = sent; after = a }

-- This is decided, and stands from now on.
abbrev pub decides : Decision → Attesting → List (List ℕ) → AttestStep
decides decision a sent = record { decides = decision; sent = sent; after = record a { decision = decision } }

-- ---- The beginning.

-- A command is told, and nothing is decided by it.
abbrev pub tells : Attesting → CommandStep → AttestStep
tells a step = goes (with_requester a step.after) step.sent

-- Where nothing is decided yet, a connection is negotiated.
abbrev pub started_by : Attesting → Decision → AttestStep
started_by a Undecided = tells a (requester_told a.requester Connect)
started_by a decision = goes a []

unfoldable pub attesting_started : Attesting → AttestStep
attesting_started a = started_by a a.decision

-- ---- A packet.

-- The session that is opened has the least ReqSessionID, since no other is.
abbrev pub own_session : ℕ
own_session = 1

-- The next command is told. Where it has a fault, nothing is sent, and there will be no record.
abbrev pub goes_on_by : Attesting → CommandStep → Option CommandFault → AttestStep
goes_on_by a step None = tells a step
goes_on_by a step (Some fault) = decides Failed (with_requester a step.after) step.sent

abbrev pub goes_on : Attesting → Command → AttestStep
goes_on a command = goes_on_by a (requester_told a.requester command) (requester_told a.requester command).fault

-- The record that came is to be appraised, and the session is ended. A fault of this command is no failure.
abbrev pub ends : Attesting → CommandStep → AttestStep
ends a step = decides (Measured (last_data a.requester.history)) (with_requester a step.after) step.sent

-- What follows at the requester after a packet that sent this, by what was told of it, where nothing was decided before.
-- A command follows only where the packet sent nothing.
abbrev pub follows : Attesting → (sent : List (List ℕ)) → Event → AttestStep
follows a sent (event.Done finished.Connected) = goes_on a (Open 0)
follows a sent (event.Done (finished.Opened id)) = goes_on a (Measure (Some own_session) ALL_BLOCKS)
follows a sent (event.Done (finished.Measured number)) = ends a (requester_told a.requester (End own_session))
follows a sent (event.Refused code) = decides Failed a sent
follows a sent (event.Stopped why) = decides Failed a sent
follows a sent (event.Lost id reply) = decides Failed a sent
follows a sent _ = goes a sent

-- After the decision packets are given to the requester, and nothing more follows.
abbrev pub given_by : Attesting → PacketStep → Decision → AttestStep
given_by a step Undecided = follows (with_requester a step.after) step.sent step.event
given_by a step decision = goes (with_requester a step.after) step.sent

unfoldable pub attesting_given : Attesting → List ℕ → AttestStep
attesting_given a packet = given_by a (requester_given a.requester packet) a.decision

-- ---- Time.

-- The outstanding request is sent again, if there is one. After the failure there is none.
unfoldable pub attesting_timed : Attesting → AttestStep
attesting_timed a =
    if is_some (outstanding a.requester.history) then tells a (requester_told a.requester Retry)
    else goes a []
