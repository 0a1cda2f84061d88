-- What a requester asks of an open session. Which asks have a fault, and what is sent, is that of the commands of the
-- definitions.
use Rattle.std.specs.Prelude.{ℕ, List, [], ◌∷◌, length, nat_lt, Bool, true, false, Option, None}
use Rattle.spdm_basis.specs.Tests.{first_of_tests}
use Rattle.requester_machine.specs.Commands.{lacks, is_spent}
use Rattle.requester_machine.specs.Message as message
use Rattle.requester_machine.specs.Message.{Command}
use Rattle.requester_machine.specs.Message.Ask.{AskData, AskBeat, AskUpdate, AskMeasure, AskEnd}
use Rattle.requester_machine.specs.Message.Command.{Send, Beat, Update, Measure, End}
use Rattle.requester_machine.specs.Sending.{inner_data, inner_request, key_update, operation_of}
use Rattle.requester_machine.specs.Session.{Steps, session_terms}
use Rattle.spdm_grammar.specs.Message.RequestMessage.{Heartbeat, GetMeasurements, EndSession}
use Rattle.psk_session.specs.Course.{with_asked}
use Rattle.psk_session.specs.declared.session_request.SessionRequest.{SessionRequest}
use Rattle.psk_session.specs.declared.session_request.SessionRequest.TheVariants as ask
use Rattle.psk_session.specs.declared.ask_fault.AskFault.{AskFault}
use Rattle.psk_session.specs.declared.ask_fault.AskFault.TheVariants.{NotNegotiated, KeySpent, TooLong}
use Rattle.spdm_grammar.specs.declared.names.TheConstants.{MAX_APP_DATA_LEN}

-- What it asks, as a step of the session.
abbrev pub asked_of : SessionRequest → message.Ask
asked_of (ask.Data bytes) = AskData
asked_of ask.Beat = AskBeat
asked_of ask.UpdateKey = AskUpdate false
asked_of ask.UpdateAll = AskUpdate true
asked_of (ask.Measure op) = AskMeasure op
asked_of ask.End = AskEnd

-- The command that asks it of a session, whose id does not matter here.
abbrev pub command_of : SessionRequest → Command
command_of (ask.Data bytes) = Send 0 bytes.now
command_of ask.Beat = Beat 0
command_of ask.UpdateKey = Update 0 false
command_of ask.UpdateAll = Update 0 true
command_of (ask.Measure op) = Measure None op
command_of ask.End = End 0

-- It is application data of more than 1,024 bytes.
abbrev pub is_long : SessionRequest → Bool
is_long (ask.Data bytes) = nat_lt MAX_APP_DATA_LEN (length bytes.now)
is_long _ = false

-- Its fault, the first that holds: it was not negotiated, a key sealed too many records for it, or it is too long.
unfoldable pub ask_fault : Steps → SessionRequest → Option AskFault
ask_fault s a = first_of_tests (
    (lacks (session_terms s) (command_of a), NotNegotiated)
    ∷ (is_spent s (command_of a), KeySpent)
    ∷ (is_long a, TooLong)
    ∷ [])

-- The inner message that asks it.
abbrev pub inner_for : Steps → SessionRequest → List ℕ
inner_for s (ask.Data bytes) = inner_data bytes.now
inner_for s ask.Beat = inner_request Heartbeat
inner_for s ask.UpdateKey = inner_request (key_update s (operation_of false))
inner_for s ask.UpdateAll = inner_request (key_update s (operation_of true))
inner_for s (ask.Measure op) = inner_request (GetMeasurements op)
inner_for s ask.End = inner_request EndSession

-- The session with the record that asks it.
abbrev pub asked : (psk : List ℕ) → Steps → SessionRequest → (pad : List ℕ) → Steps
asked psk s a pad = with_asked psk s (asked_of a) (inner_for s a) pad
