-- What comes of an answer in a session is what the definitions of a requester do with it, at each requester whose
-- session it is.
use Rattle.std.specs.Prelude.{⊤, ◌≡◌, ℕ, List, [], ◌∷◌, true, false, Option, Some, None, is_some, Result, Ok, Err}
use Rattle.std.specs.Option.{option_or}
use Rattle.requester_machine.specs.Answers.{goes_on}
use Rattle.requester_machine.specs.Asking.Outcome.{Ignores, Adds}
use Rattle.requester_machine.specs.ClearAnswers.{clear_led, reading_of}
use Rattle.requester_machine.specs.Commands.{Free}
use Rattle.requester_machine.specs.Hearing.{on_record, came_to}
use Rattle.requester_machine.specs.History.{History, Led, connection_terms}
use Rattle.requester_machine.specs.History.Effect.{Answers}
use Rattle.requester_machine.specs.History.Entry.{TookClear, TookRecord}
use Rattle.requester_machine.specs.InnerMessages.{or_lost}
use Rattle.requester_machine.specs.Message.{Ask}
use Rattle.requester_machine.specs.Message.Aim.{Plain}
use Rattle.requester_machine.specs.Message.Ask.{AskFinish}
use Rattle.requester_machine.specs.Records.{answer_fault, answer_inner}
use Rattle.requester_machine.specs.Sending.{finish_sent}
use Rattle.requester_machine.specs.Session.{Steps, ends, is_live, session_of, session_terms}
use Rattle.requester_machine.specs.Setup.{ReqSetup}
use Rattle.requester_machine.specs.Shown.{bytes_in, blocks_in, last_data}
use Rattle.spdm_basis.specs.declared.causes.record_fault.RecordFault.{RecordFault}
use Rattle.spdm_grammar.specs.Message.{ResponseMessage, ExchangeMessage}
use Rattle.spdm_grammar.specs.Message.RequestMessage.{PskExchange}
use Rattle.spdm_grammar.specs.Message.ResponseMessage.{Error}
use Rattle.spdm_grammar.specs.Requests.{canonical_request}
use Rattle.spdm_grammar.specs.declared.told.event.BadReply.{BadReply}
use Rattle.spdm_grammar.specs.declared.told.event.ReqIgnored.TheVariants as ignored
use Rattle.spdm_grammar.specs.declared.messages.malformed.Malformed.{Malformed}
use Rattle.spdm_machine.specs.Keys.{Draw}
use Rattle.spdm_machine.specs.Terms.{terms_of}
use Rattle.transcript.specs.Transcripts.{Negotiation}
use Rattle.psk_session.specs.Course.{Course, TakesCourse, led_of, with_taken, with_asked}
use Rattle.psk_session.specs.Course.Course.{Lost, Ended, Answered, GoesOn}
use Rattle.psk_session.specs.Data.{data_of}
use Rattle.psk_session.specs.Finished.{IsJudged, finish_led, finished_by}
use Rattle.psk_session.specs.Opening.{accepted, finishing, open_fault, started}
use Rattle.psk_session.specs.declared.open_fault.OpenFault.{OpenFault}
use Rattle.psk_session.specs.declared.open_fault.OpenFault.TheVariants.{Malformed as MalformedAt, BadVerify}

-- ---- Records.

-- A record that does not open is ignored, with its fault.
abbrev pub UnopenedIsIgnored : Type 0
UnopenedIsIgnored =
    (q : ReqSetup) (h : History) (f : Free) (tag id : ℕ) (a : Ask) (sealed : List ℕ) (d : Draw)
    (fault : RecordFault)
    → answer_fault q.psk (session_of id h) a sealed ≡ Some fault
    → on_record q h f tag id a sealed d ≡ Ignores (ignored.Record fault)

-- The session outlives what a course brings about.
abbrev pub Outlives : Course → Type 0
Outlives (Lost fault) = ⊤
Outlives Ended = ⊤
Outlives (Answered reply effect) = ends effect ≡ false
Outlives (GoesOn effect ask inner) = ends effect ≡ false

-- What a course leaves of a session, with this padding for a further record.
abbrev pub steps_by : (psk : List ℕ) → Steps → Ask → (sealed pad : List ℕ) → Course → Steps
steps_by psk s a sealed pad (Lost fault) = []
steps_by psk s a sealed pad Ended = []
steps_by psk s a sealed pad (Answered reply effect) = with_taken psk s a sealed effect
steps_by psk s a sealed pad (GoesOn effect ask inner) =
    with_asked psk (with_taken psk s a sealed effect) ask inner pad

-- The record is an entry of the history with what this leads to, and this is the session with it.
abbrev pub IsEntry : ReqSetup → History → Free → (tag id : ℕ) → Ask → (sealed : List ℕ) → Draw
    → Result Led BadReply → Steps → Type 0
IsEntry q h f tag id a sealed d led s =
    (on_record q h f tag id a sealed d
    ≡ Adds
    (TookRecord tag id sealed (answer_inner q.psk (session_of id h) a sealed)
    (or_lost (came_to q h id a sealed) led) d))
    × (session_of id
    (TookRecord tag id sealed (answer_inner q.psk (session_of id h) a sealed)
    (or_lost (came_to q h id a sealed) led) d ∷ h) ≡ s)

-- So it is for each live session, where the sizes of the requester are those of its terms.
abbrev pub CourseIsEntry : Type 0
CourseIsEntry =
    (q : ReqSetup) (h : History) (f : Free) (tag id : ℕ) (a : Ask) (sealed : List ℕ) (d : Draw)
    (course : Course)
    → is_live (session_of id h) ≡ true
    → q.transfer ≡ (session_terms (session_of id h)).common.to_requester.transfer
    → q.max ≡ (session_terms (session_of id h)).common.to_requester.max
    → TakesCourse q.psk (session_of id h) a sealed course → Outlives course
    → IsEntry q h f tag id a sealed d (led_of q h f (came_to q h id a sealed) course)
    (steps_by q.psk (session_of id h) a sealed f.pad course)

-- What a verdict on PSK_FINISH_RSP leaves of a session.
abbrev pub finished_steps : (psk : List ℕ) → Steps → (sealed : List ℕ) → Option BadReply → Steps
finished_steps psk s sealed (Some fault) = []
finished_steps psk s sealed None = finished_by psk s sealed

abbrev pub FinishIsEntry : Type 0
FinishIsEntry =
    (q : ReqSetup) (h : History) (f : Free) (tag id : ℕ) (sealed : List ℕ) (d : Draw)
    (verdict : Option BadReply)
    → is_live (session_of id h) ≡ true
    → q.transfer ≡ (session_terms (session_of id h)).common.to_requester.transfer
    → IsJudged q.psk (session_of id h) sealed verdict
    → IsEntry q h f tag id AskFinish sealed d (finish_led (came_to q h id AskFinish sealed) verdict)
    (finished_steps q.psk (session_of id h) sealed verdict)

-- ---- Data.

-- Where a record brought data, they are the last data of the requester.
abbrev pub DataAreLast : Type 0
DataAreLast =
    (psk : List ℕ) (s : Steps) (h : History) (tag id : ℕ) (a : Ask) (sealed inner : List ℕ)
    (led : Led) (d : Draw)
    → is_some (option_or (bytes_in led.effect) (blocks_in led.effect)) ≡ true
    → last_data (TookRecord tag id sealed inner led d ∷ h)
    ≡ data_of (with_taken psk s a sealed led.effect)

-- ---- The answer to PSK_EXCHANGE.

-- A message reads as no ERROR. An ERROR refuses the request, or calls for a large response, before its session sees it.
abbrev pub IsNoError : Result ResponseMessage Malformed → Type 0
IsNoError (Ok (Error version code detail extended)) = ⊥
IsNoError _ = ⊤

-- A message with a fault is ignored, with that fault; one without brings PSK_FINISH about, and is a step of the
-- session, with PSK_FINISH after it.
abbrev pub AnswersExchange : ReqSetup → History → Free → (tag : ℕ) → Draw → Negotiation
    → ExchangeMessage → (answer : List ℕ) → Option OpenFault → Type 0
AnswersExchange q h f tag d n exchange answer (Some (MalformedAt at)) =
    clear_led q h f (Plain (PskExchange exchange)) (PskExchange exchange) answer
    ≡ Err (ignored.Malformed at)
AnswersExchange q h f tag d n exchange answer (Some BadVerify) =
    clear_led q h f (Plain (PskExchange exchange)) (PskExchange exchange) answer
    ≡ Err ignored.BadVerify
AnswersExchange q h f tag d n exchange answer None =
    (led : Led)
    × (led
    ≡ goes_on (Answers (PskExchange exchange) answer)
    (finish_sent q h exchange.req_id
    (accepted n (canonical_request (PskExchange exchange)) answer) f.pad))
    × (clear_led q h f (Plain (PskExchange exchange)) (PskExchange exchange) answer ≡ Ok led)
    × (session_of exchange.req_id (TookClear tag answer led d ∷ h)
    ≡ finishing q.psk n (canonical_request (PskExchange exchange)) answer f.pad)

-- So it is at each requester whose PSK_EXCHANGE began the session under the negotiation as it stands.
abbrev pub OpeningIsAnswer : Type 0
OpeningIsAnswer =
    (q : ReqSetup) (h : History) (f : Free) (tag : ℕ) (d : Draw) (n : Negotiation)
    (exchange : ExchangeMessage) (answer : List ℕ)
    → session_of exchange.req_id h ≡ started n (canonical_request (PskExchange exchange))
    → connection_terms h ≡ terms_of n
    → IsNoError (reading_of h (PskExchange exchange) answer)
    → AnswersExchange q h f tag d n exchange answer
    (open_fault q.psk n (canonical_request (PskExchange exchange)) answer)
