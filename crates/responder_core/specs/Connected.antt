-- A responder's connection with one requester, as the program represents it.
use Rattle.std.specs.Prelude.{◌≡◌, ◌==◌, ℕ, List, drop, Bool, true, false}
use Rattle.responder_core.specs.ClearPart as clear_parts
use Rattle.responder_core.specs.Sessions as sessions
use Rattle.responder_core.specs.ClearState.{chosen_len}
use Rattle.responder_core.specs.declared.connected.Connection.{Connection}
use Rattle.responder_machine.specs.Heard.{heard_of}
use Rattle.responder_machine.specs.History.{History, clear_turns, negotiation_of, phase_of, queue_of}
use Rattle.responder_machine.specs.Refusal.{sizes_are_known}
use Rattle.responder_machine.specs.Responder.{Outcome, after, body_of}
use Rattle.responder_machine.specs.Setup.{RspSetup}
use Rattle.responder_machine.specs.SizeLaws.{HasSizes}
use Rattle.responder_machine.specs.Turn.{Turn}
use Rattle.spdm_grammar.specs.declared.told.heard.Heard.{Heard}
use Rattle.spdm_grammar.specs.declared.told.heard.Heard.TheVariants as heard
use Rattle.spdm_grammar.specs.declared.names.request_code.TheConstants.{GET_MEASUREMENTS}
use Rattle.spdm_machine.specs.Terms.{terms_of}

-- From phase Capable on, the sizes of messages are those that were settled at a responder with its own.
abbrev pub HasSizesAt : RspSetup → List Turn → Type 0
HasSizesAt r turns = sizes_are_known (phase_of turns) ≡ true → HasSizes r (terms_of (negotiation_of turns)).common

-- It is kept of this history: the clear part, the sessions, and the application data that waits.
pub record StandsFor (seen : Connection) (r : RspSetup) (h : History) : Type 0 where
  pub clear : clear_parts.StandsFor seen.clear r h
  pub sessions : sessions.StandsFor seen.sessions r h
  pub queue : seen.queue ≡ queue_of h
  pub sizes : HasSizesAt r (clear_turns h)

-- The length of the hash that was chosen: the least length of a context.
abbrev pub context_len : Connection → ℕ
context_len seen = chosen_len seen.clear.requests.standing

-- The same of all beside the clear part.
pub record StandsBeside (seen : Connection) (r : RspSetup) (h : History) : Type 0 where
  pub sessions : sessions.StandsFor seen.sessions r h
  pub queue : seen.queue ≡ queue_of h
  pub sizes : HasSizesAt r (clear_turns h)

-- A body came that leads to this outcome: it is told, its body is sent, and what is kept is that of the history after
-- it.
pub record IsDone (r : RspSetup) (h : History) (o : Outcome) (hears : Heard) (sent : List ℕ) (new : Connection) : Type 0 where
  pub told : hears ≡ heard_of o
  pub body : sent ≡ body_of o
  pub stands : StandsFor new r (after h o)

-- What waits after application data was taken, or was not.
abbrev pub queue_left : Heard → List (List ℕ) → List (List ℕ)
queue_left (heard.Taken id) waiting = drop 1 waiting
queue_left _ waiting = waiting

-- What is reported of a record whose request takes a draw.
abbrev pub tells_measured : Heard → Bool
tells_measured (heard.Answered code) = code == GET_MEASUREMENTS
tells_measured _ = false
