-- What comes of an answer in a session is an entry of the history of its requester.
use Rattle.std.proofs.Common.{◌≡◌, ◌∙◌, ap, subst, refl, ℕ, List, [], ◌∷◌, Bool, true, false, drop, eq-eqb, zero-add}
use Rattle.std.specs.Prelude.{◌==◌, if◌then◌else◌, Option, Some, None, is_some, unwrap_or, Result, Ok, Err, bytes_eq}
use Rattle.std.specs.Option.{option_or}
use Rattle.std.proofs.lemmas.Bool.{false≢true}
use Rattle.requester_machine.proofs.Few.{live_first}
use Rattle.requester_machine.specs.Answers.{answer_verify, goes_on}
use Rattle.requester_machine.specs.Asking.Outcome.{Adds}
use Rattle.requester_machine.specs.ClearAnswers.{clear_led, carried_by, read_led, reading_of}
use Rattle.requester_machine.specs.Commands.{Free}
use Rattle.requester_machine.specs.Hearing.{on_record, record_outcome, came_to}
use Rattle.requester_machine.specs.History.{History, Led, Effect}
use Rattle.requester_machine.specs.History.Effect.{Answers, Grants}
use Rattle.requester_machine.specs.History.Entry.{TookClear, TookRecord}
use Rattle.requester_machine.specs.InnerMessages.{inner_led, or_lost}
use Rattle.requester_machine.specs.Message.{Ask}
use Rattle.requester_machine.specs.Message.Ask.{AskFinish}
use Rattle.requester_machine.specs.Records.{answer_fault, answer_inner, sealed_next}
use Rattle.requester_machine.specs.Sending.{finish_sent}
use Rattle.requester_machine.specs.Session.{Steps, Step, after_record, ends, is_live, session_of, when_live, with_sent}
use Rattle.requester_machine.specs.Session.Step.{Accepted, Asked, Took}
use Rattle.requester_machine.specs.Setup.{ReqSetup}
use Rattle.requester_machine.specs.Message.Aim.{Plain}
use Rattle.requester_machine.specs.Shown.{bytes_in, blocks_in, last_data}
use Rattle.spdm_grammar.specs.Message.{ResponseMessage, ExchangeMessage}
use Rattle.spdm_grammar.specs.Message.RequestMessage.{PskExchange}
use Rattle.spdm_grammar.specs.Message.ResponseMessage.{PskExchangeRsp, Error}
use Rattle.spdm_grammar.specs.Requests.{canonical_request}
use Rattle.spdm_grammar.specs.Responses.{response_reading}
use Rattle.spdm_grammar.specs.declared.told.event.BadReply.{BadReply}
use Rattle.spdm_grammar.specs.declared.told.event.ReqIgnored.TheVariants as ignored
use Rattle.spdm_grammar.specs.declared.messages.malformed.Malformed.{Malformed}
use Rattle.spdm_machine.specs.Keys.{Draw}
use Rattle.spdm_machine.specs.Terms.{Terms, hash_len}
use Rattle.transcript.specs.Transcripts.{Negotiation}
use Rattle.psk_session.specs.Course.{Course, led_of}
use Rattle.psk_session.specs.Course.Course.{Lost, Ended, Answered, GoesOn}
use Rattle.psk_session.specs.Finished.{finish_led}
use Rattle.psk_session.specs.Opening.{accepted, fault_by, finishing, started}
use Rattle.session_keys.specs.Terms.{asks_summary}
use Rattle.psk_session.specs.declared.open_fault.OpenFault.TheVariants.{BadVerify}
use Rattle.psk_session.specs.TookLaws.{UnopenedIsIgnored, CourseIsEntry, FinishIsEntry, DataAreLast, OpeningIsAnswer, Outlives, IsNoError, AnswersExchange, steps_by, finished_steps}

pub unopened_is_ignored : UnopenedIsIgnored
unfolding on_record
unopened_is_ignored q h f tag id a sealed d fault is = ap (record_outcome q h f tag a (came_to q h id a sealed) d) is

-- ---- Records that opened.

added : (q : ReqSetup) (h : History) (f : Free) (tag id : ℕ) (a : Ask) (sealed : List ℕ) (d : Draw) (r : Result Led BadReply)
    → answer_fault q.psk (session_of id h) a sealed ≡ None → inner_led q h f (came_to q h id a sealed) a ≡ r
    → on_record q h f tag id a sealed d ≡ Adds (TookRecord tag id sealed (answer_inner q.psk (session_of id h) a sealed) (or_lost (came_to q h id a sealed) r) d)
unfolding on_record
added q h f tag id a sealed d r sound leads =
    ap (record_outcome q h f tag a (came_to q h id a sealed) d) sound
    ∙ ap (λ (x : Result Led BadReply). Adds (TookRecord tag id sealed (answer_inner q.psk (session_of id h) a sealed) (or_lost (came_to q h id a sealed) x) d)) leads

-- The session with a record of its own.
session_after : (h : History) (tag id : ℕ) (sealed inner : List ℕ) (led : Led) (d : Draw)
    → session_of id (TookRecord tag id sealed inner led d ∷ h) ≡ with_sent id led.next (after_record sealed inner led.effect (session_of id h))
unfolding session_of
session_after h tag id sealed inner led d = rw (eq-eqb id id refl) refl

outlived : (s : Steps) (sealed inner : List ℕ) (effect : Effect) → is_live s ≡ true → ends effect ≡ false → after_record sealed inner effect s ≡ Took sealed inner effect ∷ s
outlived s sealed inner effect live stays = ap (λ (b : Bool). if b then [] else when_live s (Took sealed inner effect)) stays ∙ live_first s (Took sealed inner effect) live

own_asked : (id : ℕ) (x : Step) (s : Steps) (step : Step) → (if id == id then when_live (x ∷ s) step else x ∷ s) ≡ step ∷ x ∷ s
own_asked id x s step = rw (eq-eqb id id refl) refl

course_steps : (q : ReqSetup) (h : History) (f : Free) (tag id : ℕ) (a : Ask) (sealed : List ℕ) (d : Draw) (course : Course) → is_live (session_of id h) ≡ true → Outlives course
    → session_of id (TookRecord tag id sealed (answer_inner q.psk (session_of id h) a sealed) (or_lost (came_to q h id a sealed) (led_of q h f (came_to q h id a sealed) course)) d ∷ h)
    ≡ steps_by q.psk (session_of id h) a sealed f.pad course
course_steps q h f tag id a sealed d (Lost fault) live stays = session_after h tag id sealed (answer_inner q.psk (session_of id h) a sealed) (or_lost (came_to q h id a sealed) (Err fault)) d
course_steps q h f tag id a sealed d Ended live stays =
    session_after h tag id sealed (answer_inner q.psk (session_of id h) a sealed) (or_lost (came_to q h id a sealed) (led_of q h f (came_to q h id a sealed) Ended)) d
course_steps q h f tag id a sealed d (Answered reply effect) live stays =
    session_after h tag id sealed (answer_inner q.psk (session_of id h) a sealed) (or_lost (came_to q h id a sealed) (led_of q h f (came_to q h id a sealed) (Answered reply effect))) d
    ∙ outlived (session_of id h) sealed (answer_inner q.psk (session_of id h) a sealed) effect live stays
course_steps q h f tag id a sealed d (GoesOn effect ask inner) live stays =
    let came = came_to q h id a sealed in
    let led = led_of q h f came (GoesOn effect ask inner) in
    session_after h tag id sealed came.inner (or_lost came led) d
    ∙ ap (with_sent id (or_lost came led).next) (outlived (session_of id h) sealed came.inner effect live stays)
    ∙ own_asked id (Took sealed came.inner effect) (session_of id h) _
    ∙ ap (λ (x : Steps). Asked ask inner (sealed_next q.psk x inner f.pad) ∷ Took sealed came.inner effect ∷ session_of id h) (live_first (session_of id h) (Took sealed came.inner effect) live)

pub course_is_entry : CourseIsEntry
course_is_entry q h f tag id a sealed d course live transfer max takes stays = (
  added q h f tag id a sealed d (led_of q h f (came_to q h id a sealed) course) takes.0 (takes.1 q h f id transfer max),
  course_steps q h f tag id a sealed d course live stays,
)

finish_steps : (q : ReqSetup) (h : History) (tag id : ℕ) (sealed : List ℕ) (d : Draw) (verdict : Option BadReply) → is_live (session_of id h) ≡ true
    → session_of id (TookRecord tag id sealed (answer_inner q.psk (session_of id h) AskFinish sealed) (or_lost (came_to q h id AskFinish sealed) (finish_led (came_to q h id AskFinish sealed) verdict)) d ∷ h)
    ≡ finished_steps q.psk (session_of id h) sealed verdict
finish_steps q h tag id sealed d (Some fault) live =
    session_after h tag id sealed (answer_inner q.psk (session_of id h) AskFinish sealed) (or_lost (came_to q h id AskFinish sealed) (Err fault)) d
finish_steps q h tag id sealed d None live =
    let came = came_to q h id AskFinish sealed in
    session_after h tag id sealed came.inner (or_lost came (finish_led came None)) d ∙ outlived (session_of id h) sealed came.inner (Grants AskFinish (drop 1 came.inner)) live refl

pub finish_is_entry : FinishIsEntry
finish_is_entry q h f tag id sealed d verdict live transfer judged = (
  added q h f tag id AskFinish sealed d (finish_led (came_to q h id AskFinish sealed) verdict) judged.0 (judged.1 q h f id transfer),
  finish_steps q h tag id sealed d verdict live,
)

-- ---- Data.

whatever_before : (o : Option (List ℕ)) (x y : List ℕ) → is_some o ≡ true → unwrap_or o x ≡ unwrap_or o y
whatever_before (Some bytes) x y is = refl
whatever_before None x y is = absurd (false≢true is)

pub data_are_last : DataAreLast
data_are_last psk s h tag id a sealed inner led d is = whatever_before (option_or (bytes_in led.effect) (blocks_in led.effect)) (last_data h) [] is

-- ---- The answer to PSK_EXCHANGE.

clear_is : (q : ReqSetup) (h : History) (f : Free) (exchange : ExchangeMessage) (answer : List ℕ)
    → clear_led q h f (Plain (PskExchange exchange)) (PskExchange exchange) answer ≡ read_led q h f 0 (PskExchange exchange) answer (reading_of h (PskExchange exchange) answer)
unfolding clear_led carried_by
clear_is q h f exchange answer = refl

exchange_steps : (q : ReqSetup) (h : History) (f : Free) (tag : ℕ) (d : Draw) (n : Negotiation) (exchange : ExchangeMessage) (answer : List ℕ)
    → session_of exchange.req_id h ≡ started n (canonical_request (PskExchange exchange))
    → session_of exchange.req_id (TookClear tag answer (goes_on (Answers (PskExchange exchange) answer) (finish_sent q h exchange.req_id (accepted n (canonical_request (PskExchange exchange)) answer) f.pad)) d ∷ h)
    ≡ finishing q.psk n (canonical_request (PskExchange exchange)) answer f.pad
unfolding session_of
exchange_steps q h f tag d n exchange answer begun =
    let id = exchange.req_id in
    let s = accepted n (canonical_request (PskExchange exchange)) answer in
    let sent = finish_sent q h id s f.pad in
    ap (λ (b : Bool). with_sent id (Some sent) (if b then when_live (session_of id h) (Accepted answer) else session_of id h)) (eq-eqb id id refl)
    ∙ ap (λ (x : Steps). with_sent id (Some sent) (when_live x (Accepted answer))) begun
    ∙ own_asked id (Accepted answer) (started n (canonical_request (PskExchange exchange))) _

verified : (q : ReqSetup) (h : History) (f : Free) (tag : ℕ) (d : Draw) (n : Negotiation) (exchange : ExchangeMessage) (answer : List ℕ) (b : Bool)
    → session_of exchange.req_id h ≡ started n (canonical_request (PskExchange exchange))
    → clear_led q h f (Plain (PskExchange exchange)) (PskExchange exchange) answer
    ≡ (if b then Ok (goes_on (Answers (PskExchange exchange) answer) (finish_sent q h exchange.req_id (accepted n (canonical_request (PskExchange exchange)) answer) f.pad)) else Err ignored.BadVerify)
    → AnswersExchange q h f tag d n exchange answer (if b then None else Some BadVerify)
verified q h f tag d n exchange answer true begun leads =
    (goes_on (Answers (PskExchange exchange) answer) (finish_sent q h exchange.req_id (accepted n (canonical_request (PskExchange exchange)) answer) f.pad), refl, leads, exchange_steps q h f tag d n exchange answer begun)
verified q h f tag d n exchange answer false begun leads = leads

by_reading : (q : ReqSetup) (h : History) (f : Free) (tag : ℕ) (d : Draw) (n : Negotiation) (exchange : ExchangeMessage) (answer : List ℕ) (r : Result ResponseMessage Malformed)
    → session_of exchange.req_id h ≡ started n (canonical_request (PskExchange exchange))
    → clear_led q h f (Plain (PskExchange exchange)) (PskExchange exchange) answer ≡ read_led q h f 0 (PskExchange exchange) answer r → IsNoError r
    → AnswersExchange q h f tag d n exchange answer (fault_by q.psk n (canonical_request (PskExchange exchange)) answer r)
by_reading q h f tag d n exchange answer (Err fault) begun leads sound = leads ∙ ap (λ (at : ℕ). Err (ignored.Malformed at)) (zero-add fault.at)
by_reading q h f tag d n exchange answer (Ok (Error version code detail extended)) begun leads sound = absurd sound
by_reading q h f tag d n exchange answer (Ok (PskExchangeRsp rsp)) begun leads sound =
    let s = accepted n (canonical_request (PskExchange exchange)) answer in
    verified q h f tag d n exchange answer (bytes_eq rsp.verify (answer_verify q.psk s)) begun
    (leads ∙ ap (λ (x : Steps). if bytes_eq rsp.verify (answer_verify q.psk x) then Ok (goes_on (Answers (PskExchange exchange) answer) (finish_sent q h exchange.req_id x f.pad)) else Err ignored.BadVerify)
    (ap (λ (x : Steps). when_live x (Accepted answer)) begun))
by_reading q h f tag d n exchange answer (Ok _) begun leads sound = leads

pub opening_is_answer : OpeningIsAnswer
opening_is_answer q h f tag d n exchange answer begun under sound =
    let exchanged = canonical_request (PskExchange exchange) in
    subst (λ (terms : Terms). AnswersExchange q h f tag d n exchange answer (fault_by q.psk n exchanged answer (response_reading (hash_len terms) (asks_summary exchanged) answer))) under
    (by_reading q h f tag d n exchange answer (reading_of h (PskExchange exchange) answer) begun (clear_is q h f exchange answer) sound)
