-- What comes of an outcome: the history after it, the message that is sent, what is told; and what is shown of a
-- requester. This project's own.
use Rattle.std.specs.Prelude.{◌+◌, ℕ, List, [], ◌∷◌, ◌++◌, if◌then◌else◌, Option, Some, None, is_some, unwrap_or}
use Rattle.std.specs.Option.{option_or}
use Rattle.spdm_grammar.specs.Message.{ResponseMessage}
use Rattle.spdm_grammar.specs.Message.RequestMessage.{GetMeasurements}
use Rattle.spdm_grammar.specs.Message.ResponseMessage.{Measurements}
use Rattle.spdm_grammar.specs.declared.told.command_fault.CommandFault.{CommandFault}
use Rattle.spdm_grammar.specs.declared.told.event.Event.{Event}
use Rattle.spdm_grammar.specs.declared.told.event.Event.TheVariants as event
use Rattle.spdm_grammar.specs.declared.told.session_view.SessionView.{SessionView}
use Rattle.spdm_machine.specs.Sessions.{transcript_in}
use Rattle.spdm_machine.specs.Terms.{response_value}
use Rattle.requester_machine.specs.Asking.{Outcome}
use Rattle.requester_machine.specs.Asking.Outcome.{Fails, Ignores, Warns, Resends, Adds}
use Rattle.requester_machine.specs.History.{History, Entry, Effect, sent_in}
use Rattle.requester_machine.specs.History.Effect.{Answers, Grants}
use Rattle.requester_machine.specs.History.Entry.{Told, TookClear, TookRecord}
use Rattle.requester_machine.specs.Message.{Sent}
use Rattle.requester_machine.specs.Message.Ask.{AskData, AskMeasure}
use Rattle.requester_machine.specs.Session.{Steps, session_of, is_accepted, session_id, stage_of, request_epoch, response_epoch, request_next, response_next, taken_of, session_hash, session_terms, t1_of, t2_of}

-- ---- Of an outcome.

-- The history after an outcome: an entry that is added stands in front, and nothing else changes it.
abbrev pub after : History → Outcome → History
after h (Fails fault) = h
after h (Ignores cause) = h
after h (Warns code) = h
after h (Resends sent) = h
after h (Adds entry) = entry ∷ h

-- The message that goes out.
abbrev pub sent_by : Outcome → Option Sent
sent_by (Fails fault) = None
sent_by (Ignores cause) = None
sent_by (Warns code) = None
sent_by (Resends sent) = Some sent
sent_by (Adds entry) = sent_in entry

-- The fault of a command.
abbrev pub fault_of : Outcome → Option CommandFault
fault_of (Fails fault) = Some fault
fault_of _ = None

-- What is reported of a body: nothing of a command.
abbrev pub event_in : Entry → Option Event
event_in (Told command sent d) = None
event_in (TookClear tag m led d) = Some led.event
event_in (TookRecord tag id sealed inner led d) = Some led.event

-- What is reported of a body by its outcome: it is ignored, warned of, or taken. Nothing is told of a command.
abbrev pub event_of : Outcome → Option Event
event_of (Fails fault) = None
event_of (Ignores cause) = Some (event.Ignored cause)
event_of (Warns code) = Some (event.Warned code)
event_of (Resends sent) = None
event_of (Adds entry) = event_in entry

-- ---- Application data and measurements.

-- The measurement record of MEASUREMENTS, whose fields depend on no hash.
abbrev pub blocks_of : Option ResponseMessage → Option (List ℕ)
blocks_of (Some (Measurements measured)) = Some measured.block_bytes
blocks_of _ = None

-- The measurement record that answered GET_MEASUREMENTS, in the clear or in a session.
abbrev pub blocks_in : Effect → Option (List ℕ)
blocks_in (Answers (GetMeasurements op) answer) = blocks_of (response_value answer)
blocks_in (Grants (AskMeasure op) answer) = blocks_of (response_value answer)
blocks_in _ = None

-- The application data that answered application data.
abbrev pub bytes_in : Effect → Option (List ℕ)
bytes_in (Grants AskData answer) = Some answer
bytes_in _ = None

-- What an entry brought about; a command by itself brings nothing about.
abbrev pub effect_in : Entry → Effect
effect_in (Told command sent d) = Effect.Nothing
effect_in (TookClear tag m led d) = led.effect
effect_in (TookRecord tag id sealed inner led d) = led.effect

-- The measurement record that just came.
abbrev pub record_of : Outcome → Option (List ℕ)
record_of (Adds entry) = blocks_in (effect_in entry)
record_of _ = None

-- The application data that just came.
abbrev pub data_of : Outcome → Option (List ℕ)
data_of (Adds entry) = bytes_in (effect_in entry)
data_of _ = None

-- The last application data or measurement record that came, whichever came later; empty before the first.
abbrev pub last_data : History → List ℕ
last_data [] = []
last_data (entry ∷ older) = unwrap_or (option_or (bytes_in (effect_in entry)) (blocks_in (effect_in entry))) (last_data older)

-- How many application messages were ever taken.
abbrev pub all_taken : History → ℕ
all_taken [] = 0
all_taken (entry ∷ older) = if is_some (bytes_in (effect_in entry)) then all_taken older + 1 else all_taken older

-- ---- Sessions as they are shown.

-- A view of a session, read off its own history.
unfoldable pub view_of : Steps → SessionView
view_of s = record {
  id = session_id s;
  stage = stage_of s;
  request_epoch = request_epoch s;
  response_epoch = response_epoch s;
  request_next = request_next s;
  response_next = response_next s;
  taken = taken_of s;
  hash = (session_hash s).digest (transcript_in (stage_of s) (t1_of s) (t2_of s));
  choice = (session_terms s).choice;
}

-- A session is shown from its PSK_EXCHANGE_RSP on.
abbrev pub view_if_accepted : Steps → List SessionView
view_if_accepted s = if is_accepted s then view_of s ∷ [] else []

-- The live sessions that are shown, by rising ReqSessionID.
abbrev pub views_of : History → List SessionView
views_of h = view_if_accepted (session_of 1 h) ++ view_if_accepted (session_of 2 h) ++ view_if_accepted (session_of 3 h) ++ view_if_accepted (session_of 4 h)
