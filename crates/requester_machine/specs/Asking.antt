-- What a requester does with a command. This project's own.
use Rattle.std.specs.Prelude.{ℕ, List, Bool, Option, Some, None}
use Rattle.spdm_grammar.specs.Message.RequestMessage.{GetVersion, GetMeasurements, Heartbeat, EndSession}
use Rattle.spdm_grammar.specs.declared.told.command_fault.CommandFault.{CommandFault}
use Rattle.spdm_grammar.specs.declared.told.command_fault.CommandFault.TheVariants as fault
use Rattle.spdm_grammar.specs.declared.told.event.ReqIgnored.{ReqIgnored}
use Rattle.spdm_machine.specs.Keys.{Draw}
use Rattle.requester_machine.specs.Setup.{ReqSetup}
use Rattle.requester_machine.specs.Commands.{Free, command_fault, exchange_for}
use Rattle.requester_machine.specs.History.{History, Entry, outstanding, connection_terms}
use Rattle.requester_machine.specs.History.Entry.{Told}
use Rattle.requester_machine.specs.Message.{Command, Ask, Sent}
use Rattle.requester_machine.specs.Message.Ask.{AskData, AskBeat, AskUpdate, AskMeasure, AskEnd}
use Rattle.requester_machine.specs.Message.Command.{Connect, Open, Send, Beat, Update, Measure, End, Retry}
use Rattle.requester_machine.specs.Sending.{plain_sent, request_sent, record_sent, inner_request, inner_data, key_update, operation_of}
use Rattle.requester_machine.specs.Session.{session_of}

-- A command has a fault; a message is ignored; a clear ERROR of this code came to a request of a session; the
-- outstanding message is sent again; all else adds an entry to the history.
pub data Outcome : Type 0 where
  Fails : (fault : CommandFault) → Outcome
  Ignores : (cause : ReqIgnored) → Outcome
  Warns : (code : ℕ) → Outcome
  Resends : (sent : Sent) → Outcome
  Adds : (entry : Entry) → Outcome

-- A record of a session that asks something.
abbrev pub asked_sent : ReqSetup → History → Free → ℕ → Ask → List ℕ → Sent
asked_sent q h f id ask inner = record_sent q h id (session_of id h) ask inner f.pad

-- Retry sends the outstanding message again, and nothing changes.
abbrev pub resent : Option Sent → Outcome
resent None = Fails fault.NothingToRetry
resent (Some sent) = Resends sent

-- What a command without a fault sends.
abbrev pub done : ReqSetup → History → Command → Free → Draw → Outcome
done q h Connect f d = Adds (Told Connect (plain_sent h GetVersion) d)
done q h (Open summary) f d = Adds (Told (Open summary) (request_sent (connection_terms h).common h (exchange_for q f summary)) d)
done q h (Send id bytes) f d = Adds (Told (Send id bytes) (asked_sent q h f id AskData (inner_data bytes)) d)
done q h (Beat id) f d = Adds (Told (Beat id) (asked_sent q h f id AskBeat (inner_request Heartbeat)) d)
done q h (Update id all) f d = Adds (Told (Update id all) (asked_sent q h f id (AskUpdate all) (inner_request (key_update (session_of id h) (operation_of all)))) d)
done q h (Measure None op) f d = Adds (Told (Measure None op) (request_sent (connection_terms h).common h (GetMeasurements op)) d)
done q h (Measure (Some id) op) f d = Adds (Told (Measure (Some id) op) (asked_sent q h f id (AskMeasure op) (inner_request (GetMeasurements op))) d)
done q h (End id) f d = Adds (Told (End id) (asked_sent q h f id AskEnd (inner_request EndSession)) d)
done q h Retry f d = resent (outstanding h)

-- A command with a fault fails; one without a fault is done.
abbrev pub asks_by : ReqSetup → History → Command → Free → Draw → Option CommandFault → Outcome
asks_by q h command f d (Some fault) = Fails fault
asks_by q h command f d None = done q h command f d

-- A command came, with this draw next.
unfoldable pub asks : (worn : Bool) → ReqSetup → History → Command → Free → Draw → Outcome
asks worn q h command f d = asks_by q h command f d (command_fault worn q h command f)
