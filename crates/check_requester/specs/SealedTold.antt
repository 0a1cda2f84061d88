-- What the program tells of a body that one command may have sent, and of the command of a record. This project's own.
use Rattle.std.specs.Prelude.{◌≡◌, ◌==◌, ℕ, List, drop, if◌then◌else◌, Bool, true, false, Option, Some, None, slice_index}
use Rattle.requester_core.specs.Joined.{StandsFor, command_of}
use Rattle.requester_core.specs.declared.command.Command as declared
use Rattle.requester_core.specs.declared.joined.RequesterCore.{RequesterCore}
use Rattle.requester_machine.specs.History.{History}
use Rattle.requester_machine.specs.Message.{Command}
use Rattle.requester_machine.specs.Message.Command.{Beat, End, Measure, Send, Update}
use Rattle.requester_machine.specs.Setup.{ReqSetup}
use Rattle.spdm_grammar.specs.declared.names.request_code.TheConstants.{END_SESSION, GET_MEASUREMENTS, HEARTBEAT, KEY_UPDATE}
use Rattle.capture_machine.specs.CapturedRequests.{Tells}
use Rattle.spdm_grammar.specs.declared.names.message_type.TheConstants.{SPDM}

-- Whether this command sends a body: then what is kept is that of the history after it.
abbrev pub IsSentBy : ReqSetup → History → Command → (body : List ℕ) → Bool → (new : RequesterCore) → Type 0
IsSentBy q h command body true new = (after : History) × Tells q h command body after × StandsFor new q after
IsSentBy q h command body false new = (after : History) → Tells q h command body after → ⊥

-- ---- The command of a record.

-- The command of a session that asks a request with this code, these two bytes after it.
abbrev pub request_told : (id code first second : ℕ) → Option Command
request_told id code first second =
    if code == HEARTBEAT then Some (Beat id)
    else (if code == KEY_UPDATE then Some (Update id (first == 2))
    else (if code == GET_MEASUREMENTS then Some (Measure (Some id) second)
    else (if code == END_SESSION then Some (End id)
    else None)))

-- The command of a session by which an inner message is sent, if one is: what is after its type and its code is not
-- judged.
abbrev pub command_told : (id : ℕ) → (inner : List ℕ) → Option Command
command_told id inner =
    if slice_index inner 0 == 1 then Some (Send id (drop 1 inner))
    else (if slice_index inner 0 == SPDM then request_told id (slice_index inner 2) (slice_index inner 3) (slice_index inner 4)
    else None)

-- The program tells that.
abbrev pub TellsCommand : Option declared.Command → Option Command → Type 0
TellsCommand None expected = expected ≡ None
TellsCommand (Some command) expected = expected ≡ Some (command_of command)
