-- What comes of a command and of a record at the sessions of a requester.
use Rattle.std.specs.Prelude.{◌≡◌, ◌∷◌, ℕ, List, Bool, true, false, Some, None, drop, is_some, Result, Ok, Err}
use Rattle.requester_core.specs.Hearing.{KeepsSessions}
use Rattle.requester_core.specs.Sessions.{StandsFor}
use Rattle.requester_core.specs.declared.in_sessions.record_outcome.RecordOutcome.{RecordOutcome}
use Rattle.requester_core.specs.declared.in_sessions.record_outcome.RecordOutcome.TheVariants as seen
use Rattle.requester_core.specs.declared.in_sessions.sessions.Sessions.{Sessions}
use Rattle.requester_machine.specs.Asking.{Outcome, asks}
use Rattle.requester_machine.specs.Asking.Outcome.{Adds, Fails, Ignores}
use Rattle.requester_machine.specs.ClearAnswers.{carried_by, clear_led, reading_of}
use Rattle.requester_machine.specs.ClearAnswers.Carried.{Whole}
use Rattle.requester_machine.specs.Commands.{Free}
use Rattle.requester_machine.specs.Hearing.{hears}
use Rattle.requester_machine.specs.History.{Entry, History, Led, outstanding, sent_in}
use Rattle.requester_machine.specs.History.Effect.{Answers}
use Rattle.requester_machine.specs.History.Entry.{Told, TookClear}
use Rattle.requester_machine.specs.Message.{Command, Content, Sent, asked_in}
use Rattle.requester_machine.specs.Message.Command.{Measure}
use Rattle.requester_machine.specs.Message.Content.{Sealed}
use Rattle.requester_machine.specs.Setup.{ReqSetup}
use Rattle.requester_machine.specs.Shown.{event_in}
use Rattle.spdm_grammar.specs.Message.{ExchangeMessage, ExchangeRspMessage}
use Rattle.spdm_grammar.specs.Message.RequestMessage.{PskExchange}
use Rattle.spdm_grammar.specs.Message.ResponseMessage.{PskExchangeRsp}
use Rattle.spdm_grammar.specs.declared.told.command_fault.CommandFault.{CommandFault}
use Rattle.spdm_grammar.specs.declared.told.event.Event.{Event}
use Rattle.spdm_grammar.specs.declared.told.event.Event.TheVariants as event
use Rattle.spdm_grammar.specs.declared.told.event.ReqIgnored.{ReqIgnored}
use Rattle.spdm_grammar.specs.declared.told.event.ReqIgnored.TheVariants as ignored
use Rattle.spdm_machine.specs.Keys.{Draw}

-- ---- A command that asks something of a session.

-- It is done, and the sessions are those of the history with it; or it fails, and they are the same.
abbrev pub IsToldTo : ReqSetup → History → Command → Free → Draw → Result Unit CommandFault
    → (new : Sessions) → Type 0
IsToldTo q h command f d (Ok u) new =
    (sent : Sent) × (asks false q h command f d ≡ Adds (Told command sent d))
    × StandsFor new q (Told command sent d ∷ h)
IsToldTo q h command f d (Err fault) new =
    (asks false q h command f d ≡ Fails fault) × StandsFor new q h

-- ---- A record that comes.

-- What is reported.
abbrev pub event_by : RecordOutcome → Event
event_by (seen.Ignored fault) = event.Ignored (ignored.Record fault)
event_by (seen.Rests told) = told
event_by (seen.Ends told) = told
event_by seen.Sends = event.Progress

-- A further record is sent.
abbrev pub is_sent : RecordOutcome → Bool
is_sent seen.Sends = true
is_sent _ = false

-- The outcome adds an entry of which this is told, and the sessions are those of the history with it.
pub record IsAdded (q : ReqSetup) (h : History) (outcome : Outcome) (led : RecordOutcome)
    (new : Sessions) : Type 0 where
  pub entry : Entry
  pub adds : outcome ≡ Adds entry
  pub event : event_in entry ≡ Some (event_by led)
  pub next : is_some (sent_in entry) ≡ is_sent led
  pub stands : StandsFor new q (entry ∷ h)

-- A record that does not open is ignored, and the sessions are the same; any other is added.
abbrev pub IsRecorded : ReqSetup → History → Outcome → RecordOutcome → (new : Sessions) → Type 0
IsRecorded q h outcome (seen.Ignored fault) new =
    (outcome ≡ Ignores (ignored.Record fault)) × StandsFor new q h
IsRecorded q h outcome led new = IsAdded q h outcome led new

-- The record of a message.
abbrev pub IsRecordOf : (bytes : List ℕ) → Content → Type 0
IsRecordOf bytes content = (inner : List ℕ) × (pad : List ℕ) × (content ≡ Sealed bytes inner pad)

-- ---- The answer to PSK_EXCHANGE.

-- A message in the clear brings the PSK_EXCHANGE_RSP that is awaited, whole.
pub record BringsExchange (q : ReqSetup) (h : History) (sent : Sent) (m answer : List ℕ)
    (exchange : ExchangeMessage) : Type 0 where
  pub rsp : ExchangeRspMessage
  pub place : ℕ
  pub waits : outstanding h ≡ Some sent
  pub asks : asked_in sent.aim ≡ Some (PskExchange exchange)
  pub whole : carried_by q h m sent.aim ≡ Whole answer place
  pub reads : reading_of h (PskExchange exchange) answer ≡ Ok (PskExchangeRsp rsp)

-- Its verify data are right, and the sessions are those of the history with it and with PSK_FINISH after it; or it is
-- ignored, and they are the same.
abbrev pub IsBegunBy : ReqSetup → History → Free → (tag : ℕ) → Draw → Sent → (m answer : List ℕ)
    → ExchangeMessage → Result Unit ReqIgnored → (new : Sessions) → Type 0
IsBegunBy q h f tag d sent m answer exchange (Ok u) new =
    (led : Led) × (clear_led q h f sent.aim (PskExchange exchange) m ≡ Ok led)
    × (led.effect ≡ Answers (PskExchange exchange) answer)
    × StandsFor new q (TookClear tag m led d ∷ h)
IsBegunBy q h f tag d sent m answer exchange (Err cause) new =
    (clear_led q h f sent.aim (PskExchange exchange) m ≡ Err cause) × (cause ≡ ignored.BadVerify)
    × StandsFor new q h

-- ---- Messages in the clear that touch no session.

-- The sessions are the same after a message in the clear that was taken and changes none,
abbrev pub ClearPasses : Type 0
ClearPasses = (x : Sessions) (q : ReqSetup) (h : History) (f : Free) (owner : Bool) (tag : ℕ)
    (body : List ℕ) (d : Draw) (led : Led)
    → hears q h owner tag body f d ≡ Adds (TookClear tag (drop 1 body) led d)
    → KeepsSessions h (TookClear tag (drop 1 body) led d) → StandsFor x q h
    → StandsFor x q (TookClear tag (drop 1 body) led d ∷ h)

-- and after GET_MEASUREMENTS that is sent in the clear.
abbrev pub MeasurePasses : Type 0
MeasurePasses = (x : Sessions) (q : ReqSetup) (h : History) (f : Free) (d : Draw) (op : ℕ)
    (sent : Sent) → asks false q h (Measure None op) f d ≡ Adds (Told (Measure None op) sent d)
    → StandsFor x q h → StandsFor x q (Told (Measure None op) sent d ∷ h)
