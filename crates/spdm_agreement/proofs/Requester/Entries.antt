-- What a requester did with each command, and with each body that came.
use Rattle.std.proofs.Common.{◌≡◌, ℕ, List, length, drop, Bool, true, false, Option, Some, None, is_some, refl, sym, ap, ◌∙◌, subst}
use Rattle.std.specs.Prelude.{Result, Ok, Err, ◌&&◌, not, nat_lt, ◌||◌, ◌==◌}
use Rattle.requester_machine.specs.Asking.{Outcome, asks, done, resent}
use Rattle.requester_machine.specs.Asking.Outcome.{Adds}
use Rattle.requester_machine.specs.Bodies.{body_fault, is_clear}
use Rattle.requester_machine.specs.ClearAnswers.{carried_by, clear_led}
use Rattle.requester_machine.specs.Commands.{Free, command_fault, exchange_for, needs_connection, session_in, is_nowhere, is_negotiated}
use Rattle.requester_machine.specs.Hearing.{hears, hears_by, hears_to, on_record, record_outcome, came_to, clear_outcome}
use Rattle.requester_machine.specs.History.{History, Led, outstanding, connection_terms, next_handle, phase_of}
use Rattle.requester_machine.specs.History.Entry.{Told, TookClear, TookRecord}
use Rattle.requester_machine.specs.Message.{Command, Ask, Aim, Sent, asked_in}
use Rattle.requester_machine.specs.Message.Aim.{Plain, ByChunks, ForChunk, InSession}
use Rattle.requester_machine.specs.Message.Ask.{AskData, AskBeat, AskUpdate, AskMeasure, AskEnd, AskVerify, AskChunk}
use Rattle.requester_machine.specs.Message.Command.{Connect, Open, Send, Beat, Update, Measure, End, Retry}
use Rattle.requester_machine.specs.Order.{stage_for}
use Rattle.requester_machine.specs.Records.{answer_fault, answer_inner, asks_all}
use Rattle.requester_machine.specs.Sending.{request_sent, piece_sent, plain_sent, record_sent, inner_request, inner_data, key_update, operation_of}
use Rattle.requester_machine.specs.Session.{Steps, session_of, is_live}
use Rattle.requester_machine.proofs.Entries.{asked, test_is_false}
use Rattle.secured_record.specs.Format.{plain_text}
use Rattle.spdm_basis.specs.declared.causes.record_fault.RecordFault.{RecordFault}
use Rattle.spdm_grammar.specs.Fields.{is_summary}
use Rattle.spdm_grammar.specs.Message.{RequestMessage, ChunkMessage}
use Rattle.spdm_grammar.specs.Message.RequestMessage.{GetCapabilities, NegotiateAlgorithms, GetMeasurements, Heartbeat, EndSession, ChunkGet}
use Rattle.spdm_grammar.specs.Requests.{canonical_request}
use Rattle.spdm_grammar.specs.declared.told.event.ReqIgnored.{ReqIgnored}
use Rattle.spdm_grammar.specs.declared.told.phase.Stage.TheVariants as stage
use Rattle.spdm_machine.specs.Keys.{Draw}
use Rattle.requester_machine.specs.Setup.{ReqSetup}
use Rattle.spdm_agreement.proofs.Requester.ClearLeads.{IsClear, IsClearAim, NoExchange, ClearLed, ClearResult, clear_shape, either}
use Rattle.spdm_agreement.proofs.Requester.RecordLeads.{RecordLed, record_shape}
use Rattle.spdm_agreement.proofs.Messages.Beginnings.{is_message, is_update_of, operation_in}
use Rattle.spdm_grammar.specs.declared.names.response_code.TheConstants.{KEY_UPDATE_ACK}
use Rattle.spdm_basis.proofs.Bools.{and_rest}
use Rattle.std.proofs.lemmas.Bool.{not-false}

-- ---- Texts of requests.

abbrev pub asks_update : Ask → Bool
asks_update (AskUpdate all) = true
asks_update _ = false

abbrev pub asks_verify : Ask → Bool
asks_verify AskVerify = true
asks_verify _ = false

-- The text of a request tells whether it asks for an update, or verifies one.
pub record RequestTells (ask : Ask) (b : List ℕ) : Type 0 where
  pub update : (reply : List ℕ) → is_update_of (operation_in b == 1 || operation_in b == 2) (b, reply) ≡ (asks_update ask && is_message KEY_UPDATE_ACK reply)
  pub all : (reply : List ℕ) → is_update_of (operation_in b == 2) (b, reply) ≡ (asks_all ask && is_message KEY_UPDATE_ACK reply)
  pub verify : (reply : List ℕ) → is_update_of (operation_in b == 3) (b, reply) ≡ (asks_verify ask && is_message KEY_UPDATE_ACK reply)

pub data_tells : (bytes pad : List ℕ) → RequestTells AskData (plain_text (inner_data bytes) pad)
data_tells bytes pad = record { update = λ reply. refl; all = λ reply. refl; verify = λ reply. refl }

pub beat_tells : (pad : List ℕ) → RequestTells AskBeat (plain_text (inner_request Heartbeat) pad)
beat_tells pad = record { update = λ reply. refl; all = λ reply. refl; verify = λ reply. refl }

pub update_tells : (s : Steps) (all : Bool) (pad : List ℕ) → RequestTells (AskUpdate all) (plain_text (inner_request (key_update s (operation_of all))) pad)
update_tells s true pad = record { update = λ reply. refl; all = λ reply. refl; verify = λ reply. refl }
update_tells s false pad = record { update = λ reply. refl; all = λ reply. refl; verify = λ reply. refl }

pub verify_tells : (s : Steps) (pad : List ℕ) → RequestTells AskVerify (plain_text (inner_request (key_update s 3)) pad)
verify_tells s pad = record { update = λ reply. refl; all = λ reply. refl; verify = λ reply. refl }

pub measure_tells : (op : ℕ) (pad : List ℕ) → RequestTells (AskMeasure op) (plain_text (inner_request (GetMeasurements op)) pad)
measure_tells op pad = record { update = λ reply. refl; all = λ reply. refl; verify = λ reply. refl }

pub chunk_tells : (op handle number : ℕ) (before : List ChunkMessage) (n : ℕ) (pad : List ℕ) → RequestTells (AskChunk op handle n before) (plain_text (inner_request (ChunkGet handle number)) pad)
chunk_tells op handle number before n pad = record { update = λ reply. refl; all = λ reply. refl; verify = λ reply. refl }

pub end_tells : (pad : List ℕ) → RequestTells AskEnd (plain_text (inner_request EndSession) pad)
end_tells pad = record { update = λ reply. refl; all = λ reply. refl; verify = λ reply. refl }

-- ---- Commands.

-- The command asks something of an open session, while nothing waits.
pub record IsAsked (q : ReqSetup) (h : History) (f : Free) (x : Sent) : Type 0 where
  pub id : ℕ
  pub ask : Ask
  pub inner : List ℕ
  pub is : x ≡ record_sent q h id (session_of id h) ask inner f.pad
  pub live : is_live (session_of id h) ≡ true
  pub stage : stage.Open ≡ stage_for ask
  pub tells : RequestTells ask (plain_text inner f.pad)
  pub free : is_some (outstanding h) ≡ false

pub record IsBegun (q : ReqSetup) (h : History) (f : Free) (summary : ℕ) (x : Sent) : Type 0 where
  pub content : IsClear x.content
  pub aim : IsClearAim x.aim
  pub asks : asked_in x.aim ≡ Some (exchange_for q f summary)
  pub free : is_some (outstanding h) ≡ false
  pub negotiated : is_negotiated (phase_of h) ≡ true
  pub kind : is_summary summary ≡ true

-- It is no request of the negotiation that follows GET_VERSION.
abbrev pub NoNegotiation : Option RequestMessage → Type 0
NoNegotiation (Some (GetCapabilities caps)) = ⊥
NoNegotiation (Some (NegotiateAlgorithms offer)) = ⊥
NoNegotiation _ = Unit {0}

pub record IsClearAsk (x : Sent) : Type 0 where
  pub content : IsClear x.content
  pub aim : IsClearAim x.aim
  pub other : NoExchange (asked_in x.aim)
  pub plain : NoNegotiation (asked_in x.aim)

abbrev pub CommandShape : ReqSetup → History → Free → Command → Sent → Type 0
CommandShape q h f Connect x = IsClearAsk x
CommandShape q h f (Open summary) x = IsBegun q h f summary x
CommandShape q h f (Measure None op) x = IsClearAsk x × (is_some (outstanding h) ≡ false)
CommandShape q h f Retry x = ⊥
CommandShape q h f command x = IsAsked q h f x

abbrev CommandOutcome : ReqSetup → History → Free → Outcome → Type 0
CommandOutcome q h f (Adds (Told command x d)) = CommandShape q h f command x
CommandOutcome q h f (Adds (TookClear tag m led d)) = ⊥
CommandOutcome q h f (Adds (TookRecord tag id sealed inner led d)) = ⊥
CommandOutcome q h f _ = Unit {0}

free : (worn : Bool) (q : ReqSetup) (h : History) (c : Command) (f : Free) → command_fault worn q h c f ≡ None → needs_connection c ≡ true → is_some (outstanding h) ≡ false
free worn q h c f none needs = and_rest (needs_connection c) (is_some (outstanding h)) (test_is_false worn q h c f none 1) needs

somewhere : (worn : Bool) (q : ReqSetup) (h : History) (c : Command) (f : Free) (id : ℕ) → command_fault worn q h c f ≡ None → session_in c ≡ Some id → is_live (session_of id h) ≡ true
somewhere worn q h c f id none named = not-false _ (sym (ap (is_nowhere h) named) ∙ test_is_false worn q h c f none 3)

connected : (worn : Bool) (q : ReqSetup) (h : History) (c : Command) (f : Free) → command_fault worn q h c f ≡ None → needs_connection c ≡ true → is_negotiated (phase_of h) ≡ true
connected worn q h c f none needs = not-false _ (and_rest (needs_connection c) (not (is_negotiated (phase_of h))) (test_is_false worn q h c f none 2) needs)

begun : (q : ReqSetup) (h : History) (f : Free) (summary : ℕ) → is_some (outstanding h) ≡ false → is_negotiated (phase_of h) ≡ true → is_summary summary ≡ true → IsBegun q h f summary (request_sent (connection_terms h).common h (exchange_for q f summary))
begun q h f summary quiet ready kind =
    either (IsBegun q h f summary) (nat_lt (connection_terms h).common.to_responder.transfer (length (canonical_request (exchange_for q f summary)))) (piece_sent (connection_terms h).common h (exchange_for q f summary) (next_handle h) 0) (plain_sent h (exchange_for q f summary))
    (record { content = tt; aim = tt; asks = refl; free = quiet; negotiated = ready; kind = kind }) (record { content = tt; aim = tt; asks = refl; free = quiet; negotiated = ready; kind = kind })

measured : (h : History) (op : ℕ) → IsClearAsk (request_sent (connection_terms h).common h (GetMeasurements op))
measured h op =
    either IsClearAsk (nat_lt (connection_terms h).common.to_responder.transfer (length (canonical_request (GetMeasurements op)))) (piece_sent (connection_terms h).common h (GetMeasurements op) (next_handle h) 0) (plain_sent h (GetMeasurements op))
    (record { content = tt; aim = tt; other = tt; plain = tt }) (record { content = tt; aim = tt; other = tt; plain = tt })

resent_shape : (q : ReqSetup) (h : History) (f : Free) (o : Option Sent) → CommandOutcome q h f (resent o)
resent_shape q h f None = tt
resent_shape q h f (Some x) = tt

done_shape : (worn : Bool) (q : ReqSetup) (h : History) (c : Command) (f : Free) (d : Draw) → command_fault worn q h c f ≡ None → CommandOutcome q h f (done q h c f d)
done_shape worn q h Connect f d none = record { content = tt; aim = tt; other = tt; plain = tt }
done_shape worn q h (Open summary) f d none = begun q h f summary (free worn q h (Open summary) f none refl) (connected worn q h (Open summary) f none refl) (not-false (is_summary summary) (test_is_false worn q h (Open summary) f none 6))
done_shape worn q h (Send id bytes) f d none = record { id = id; ask = AskData; inner = inner_data bytes; is = refl; live = somewhere worn q h (Send id bytes) f id none refl; stage = refl; tells = data_tells bytes f.pad; free = free worn q h (Send id bytes) f none refl }
done_shape worn q h (Beat id) f d none = record { id = id; ask = AskBeat; inner = inner_request Heartbeat; is = refl; live = somewhere worn q h (Beat id) f id none refl; stage = refl; tells = beat_tells f.pad; free = free worn q h (Beat id) f none refl }
done_shape worn q h (Update id all) f d none = record { id = id; ask = AskUpdate all; inner = inner_request (key_update (session_of id h) (operation_of all)); is = refl; live = somewhere worn q h (Update id all) f id none refl; stage = refl; tells = update_tells (session_of id h) all f.pad; free = free worn q h (Update id all) f none refl }
done_shape worn q h (Measure None op) f d none = (measured h op, free worn q h (Measure None op) f none refl)
done_shape worn q h (Measure (Some id) op) f d none = record { id = id; ask = AskMeasure op; inner = inner_request (GetMeasurements op); is = refl; live = somewhere worn q h (Measure (Some id) op) f id none refl; stage = refl; tells = measure_tells op f.pad; free = free worn q h (Measure (Some id) op) f none refl }
done_shape worn q h (End id) f d none = record { id = id; ask = AskEnd; inner = inner_request EndSession; is = refl; live = somewhere worn q h (End id) f id none refl; stage = refl; tells = end_tells f.pad; free = free worn q h (End id) f none refl }
done_shape worn q h Retry f d none = resent_shape q h f (outstanding h)

pub told_shape : (worn : Bool) (q : ReqSetup) (h : History) (c command : Command) (f : Free) (d d' : Draw) (x : Sent) → asks worn q h c f d ≡ Adds (Told command x d') → CommandShape q h f command x
told_shape worn q h c command f d d' x is =
    let a = asked worn q h c f d (Told command x d') is in
    subst (λ (o : Outcome). CommandOutcome q h f o) a.1 (done_shape worn q h c f d a.0)

-- ---- Bodies.

pub record IsTookClear (q : ReqSetup) (h : History) (f : Free) (body m : List ℕ) (led : Led) : Type 0 where
  pub sent : Sent
  pub asked : RequestMessage
  pub waits : outstanding h ≡ Some sent
  pub asks : asked_in sent.aim ≡ Some asked
  pub message : m ≡ drop 1 body
  pub led_to : ClearLed q h f asked (carried_by q h m sent.aim) led

pub record IsTookRecord (q : ReqSetup) (h : History) (f : Free) (body : List ℕ) (id : ℕ) (sealed inner : List ℕ) (led : Led) : Type 0 where
  pub sent : Sent
  pub ask : Ask
  pub waits : outstanding h ≡ Some sent
  pub aims : sent.aim ≡ InSession id ask
  pub whole : sealed ≡ drop 1 body
  pub opened : answer_fault q.psk (session_of id h) ask sealed ≡ None
  pub holds : inner ≡ answer_inner q.psk (session_of id h) ask sealed
  pub led_to : RecordLed q h f (came_to q h id ask sealed) ask led

abbrev HeardShape : ReqSetup → History → Free → List ℕ → Outcome → Type 0
HeardShape q h f body (Adds (Told command x d)) = ⊥
HeardShape q h f body (Adds (TookClear tag m led d)) = IsTookClear q h f body m led
HeardShape q h f body (Adds (TookRecord tag id sealed inner led d)) = IsTookRecord q h f body id sealed inner led
HeardShape q h f body _ = Unit {0}

clear_by : (q : ReqSetup) (h : History) (f : Free) (tag : ℕ) (body : List ℕ) (d : Draw) (sent : Sent) (asked : RequestMessage) (aim : Aim) → outstanding h ≡ Some sent → sent.aim ≡ aim → asked_in aim ≡ Some asked
    → (result : Result Led ReqIgnored) → ClearResult q h f asked (carried_by q h (drop 1 body) aim) result → HeardShape q h f body (clear_outcome tag (drop 1 body) d result)
clear_by q h f tag body d sent asked aim waits aims asks (Err cause) shape = tt
clear_by q h f tag body d sent asked aim waits aims asks (Ok led) shape = record {
  sent = sent;
  asked = asked;
  waits = waits;
  asks = ap asked_in aims ∙ asks;
  message = refl;
  led_to = subst (λ (a : Aim). ClearLed q h f asked (carried_by q h (drop 1 body) a) led) (sym aims) shape;
}

record_by : (q : ReqSetup) (h : History) (f : Free) (tag : ℕ) (body : List ℕ) (d : Draw) (sent : Sent) (id : ℕ) (ask : Ask) → outstanding h ≡ Some sent → sent.aim ≡ InSession id ask
    → (fault : Option RecordFault) → answer_fault q.psk (session_of id h) ask (drop 1 body) ≡ fault → HeardShape q h f body (record_outcome q h f tag ask (came_to q h id ask (drop 1 body)) d fault)
record_by q h f tag body d sent id ask waits aims (Some fault) is = tt
record_by q h f tag body d sent id ask waits aims None is = record { sent = sent; ask = ask; waits = waits; aims = aims; whole = refl; opened = is; holds = refl; led_to = record_shape q h f (came_to q h id ask (drop 1 body)) ask }

on_record_shape : (q : ReqSetup) (h : History) (f : Free) (tag : ℕ) (body : List ℕ) (d : Draw) (sent : Sent) (id : ℕ) (ask : Ask) → outstanding h ≡ Some sent → sent.aim ≡ InSession id ask → HeardShape q h f body (on_record q h f tag id ask (drop 1 body) d)
unfolding on_record
on_record_shape q h f tag body d sent id ask waits aims = record_by q h f tag body d sent id ask waits aims (answer_fault q.psk (session_of id h) ask (drop 1 body)) refl

hears_to_shape : (q : ReqSetup) (h : History) (f : Free) (tag : ℕ) (body : List ℕ) (d : Draw) (sent : Sent) (aim : Aim) → outstanding h ≡ Some sent → sent.aim ≡ aim → HeardShape q h f body (hears_to q h f tag body d aim)
hears_to_shape q h f tag body d sent (Plain asked) waits aims = clear_by q h f tag body d sent asked (Plain asked) waits aims refl (clear_led q h f (Plain asked) asked (drop 1 body)) (clear_shape q h f (Plain asked) asked (drop 1 body) refl)
hears_to_shape q h f tag body d sent (ByChunks asked handle number) waits aims = clear_by q h f tag body d sent asked (ByChunks asked handle number) waits aims refl (clear_led q h f (ByChunks asked handle number) asked (drop 1 body)) (clear_shape q h f (ByChunks asked handle number) asked (drop 1 body) refl)
hears_to_shape q h f tag body d sent (ForChunk asked handle number before) waits aims = clear_by q h f tag body d sent asked (ForChunk asked handle number before) waits aims refl (clear_led q h f (ForChunk asked handle number before) asked (drop 1 body)) (clear_shape q h f (ForChunk asked handle number before) asked (drop 1 body) refl)
hears_to_shape q h f tag body d sent (InSession id ask) waits aims = either (HeardShape q h f body) (is_clear body) _ (on_record q h f tag id ask (drop 1 body) d) tt (on_record_shape q h f tag body d sent id ask waits aims)

hears_by_shape : (q : ReqSetup) (h : History) (f : Free) (tag : ℕ) (body : List ℕ) (d : Draw) (waiting : Option Sent) (cause : Option ReqIgnored) → outstanding h ≡ waiting → HeardShape q h f body (hears_by q h f tag body d waiting cause)
hears_by_shape q h f tag body d waiting (Some cause) is = tt
hears_by_shape q h f tag body d None None is = tt
hears_by_shape q h f tag body d (Some sent) None is = hears_to_shape q h f tag body d sent sent.aim is refl

hears_shape : (q : ReqSetup) (h : History) (owner : Bool) (tag : ℕ) (body : List ℕ) (f : Free) (d : Draw) → HeardShape q h f body (hears q h owner tag body f d)
unfolding hears
hears_shape q h owner tag body f d = hears_by_shape q h f tag body d (outstanding h) (body_fault q (outstanding h) owner tag body) refl

pub clear_entry : (q : ReqSetup) (h : History) (owner : Bool) (tag tag' : ℕ) (body m : List ℕ) (f : Free) (led : Led) (d d' : Draw) → hears q h owner tag body f d ≡ Adds (TookClear tag' m led d') → IsTookClear q h f body m led
clear_entry q h owner tag tag' body m f led d d' is = subst (HeardShape q h f body) is (hears_shape q h owner tag body f d)

pub record_entry : (q : ReqSetup) (h : History) (owner : Bool) (tag tag' : ℕ) (body : List ℕ) (id : ℕ) (sealed inner : List ℕ) (f : Free) (led : Led) (d d' : Draw) → hears q h owner tag body f d ≡ Adds (TookRecord tag' id sealed inner led d') → IsTookRecord q h f body id sealed inner led
record_entry q h owner tag tag' body id sealed inner f led d d' is = subst (HeardShape q h f body) is (hears_shape q h owner tag body f d)

-- A command that was done stands with the draw that stood next.
abbrev HasDraw : Draw → Outcome → Type 0
HasDraw d (Adds (Told command x d')) = d ≡ d'
HasDraw d _ = Unit {0}

resent_draw : (d : Draw) (o : Option Sent) → HasDraw d (resent o)
resent_draw d None = tt
resent_draw d (Some x) = tt

done_draw : (q : ReqSetup) (h : History) (c : Command) (f : Free) (d : Draw) → HasDraw d (done q h c f d)
done_draw q h Connect f d = refl
done_draw q h (Open summary) f d = refl
done_draw q h (Send id bytes) f d = refl
done_draw q h (Beat id) f d = refl
done_draw q h (Update id all) f d = refl
done_draw q h (Measure None op) f d = refl
done_draw q h (Measure (Some id) op) f d = refl
done_draw q h (End id) f d = refl
done_draw q h Retry f d = resent_draw d (outstanding h)

pub told_draw : (worn : Bool) (q : ReqSetup) (h : History) (c command : Command) (f : Free) (d d' : Draw) (x : Sent) → asks worn q h c f d ≡ Adds (Told command x d') → d ≡ d'
told_draw worn q h c command f d d' x is = subst (HasDraw d) (asked worn q h c f d (Told command x d') is).1 (done_draw q h c f d)

pub no_clear_told : (worn : Bool) (q : ReqSetup) (h : History) (c : Command) (f : Free) (d d' : Draw) (tag : ℕ) (m : List ℕ) (led : Led) → asks worn q h c f d ≡ Adds (TookClear tag m led d') → ⊥
no_clear_told worn q h c f d d' tag m led is = (let a = asked worn q h c f d (TookClear tag m led d') is in subst (λ (o : Outcome). CommandOutcome q h f o) a.1 (done_shape worn q h c f d a.0))

pub no_record_told : (worn : Bool) (q : ReqSetup) (h : History) (c : Command) (f : Free) (d d' : Draw) (tag id : ℕ) (sealed inner : List ℕ) (led : Led) → asks worn q h c f d ≡ Adds (TookRecord tag id sealed inner led d') → ⊥
no_record_told worn q h c f d d' tag id sealed inner led is = (let a = asked worn q h c f d (TookRecord tag id sealed inner led d') is in subst (λ (o : Outcome). CommandOutcome q h f o) a.1 (done_shape worn q h c f d a.0))

pub no_command_heard : (q : ReqSetup) (h : History) (owner : Bool) (tag : ℕ) (body : List ℕ) (f : Free) (c : Command) (x : Sent) (d d' : Draw) → hears q h owner tag body f d ≡ Adds (Told c x d') → ⊥
no_command_heard q h owner tag body f c x d d' is = subst (HeardShape q h f body) is (hears_shape q h owner tag body f d)
