-- The lines of a trace, as words and numbers. How a line is written is the printer's subject. This project's own.
use Rattle.std.specs.Prelude.{ℕ, List, Option}
use Rattle.spdm_basis.specs.declared.values.session_id.SessionId.{SessionId}
use Rattle.spdm_grammar.specs.declared.told.command_fault.CommandFault.{CommandFault}
use Rattle.spdm_grammar.specs.declared.told.event.Event.{Event}
use Rattle.spdm_grammar.specs.declared.told.heard.Heard.{Heard}
use Rattle.spdm_grammar.specs.declared.told.heard.ReplyFault.{ReplyFault}
use Rattle.spdm_grammar.specs.declared.told.phase.Phase.{Phase}
use Rattle.spdm_grammar.specs.declared.told.session_view.SessionView.{SessionView}

-- Whose line it is: that of requester n, or that of the responder towards requester n, counted from 1.
pub data Whose : Type 0 where
  Requester : (n : ℕ) → Whose
  Responder : (n : ℕ) → Whose

-- The lines of a trace, each kind with what it tells.
pub data Line : Type 0 where
  -- The phase of an end, and a session of it.
  State : (whose : Whose) → (phase : Phase) → Line
  Session : (whose : Whose) → (view : SessionView) → Line
  -- The event of this line of the script follows.
  At : (number : ℕ) → Line
  -- A command was done, or not.
  Command : (n : ℕ) → (fault : Option CommandFault) → Line
  -- Application data was queued, or not.
  Reply : (fault : Option ReplyFault) → Line
  -- A packet was given to the responder, to requester n, or to nobody.
  ToResponder : (heard : Heard) → Line
  ToRequester : (n : ℕ) → (event : Event) → Line
  ToNobody : Line
  -- Application data was taken, or a measurement record.
  Data : (whose : Whose) → (id : SessionId) → (bytes : List ℕ) → Line
  Record : (n : ℕ) → (bytes : List ℕ) → Line
  -- A packet was sent, with its number; or there is none of that number.
  Packet : (number : ℕ) → (bytes : List ℕ) → Line
  NoPacket : (number : ℕ) → Line
