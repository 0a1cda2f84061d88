-- A body that came leads at requesters whose histories agree to entries that differ at most in the padding of the
-- message that is sent next.
use Rattle.std.proofs.Common.{◌≡◌, ◌==◌, ◌+◌, ◌&&◌, ℕ, List, [], ◌∷◌, refl, ap, ◌∙◌, subst, drop, Bool, true, false, Option, Some, None, Result, Ok, Err, cond}
use Rattle.std.specs.Prelude.{not, slice_index, bytes_eq}
use Rattle.chunking.specs.Collecting.{joined_with}
use Rattle.negotiate.specs.declared.shared.Common.{Common}
use Rattle.negotiate.specs.Capabilities.{common_of}
use Rattle.negotiate.specs.Offer.{offer_of}
use Rattle.negotiate.specs.Versions.{version_entries, first_of_1_2}
use Rattle.spdm_basis.specs.declared.causes.record_fault.RecordFault.{RecordFault}
use Rattle.spdm_grammar.specs.Message.{RequestMessage, ResponseMessage, ExchangeMessage, ExchangeRspMessage, ChunkMessage, OfferMessage}
use Rattle.spdm_grammar.specs.Message.RequestMessage.{GetVersion, GetCapabilities, NegotiateAlgorithms, GetMeasurements, PskExchange}
use Rattle.spdm_grammar.specs.Message.ResponseMessage.{Version, Capabilities, Algorithms, Measurements, PskExchangeRsp, PskFinishRsp, HeartbeatAck, KeyUpdateAck, EndSessionAck, ChunkSendAck, ChunkResponse, Error}
use Rattle.spdm_grammar.specs.declared.told.event.ReqIgnored.{ReqIgnored}
use Rattle.spdm_grammar.specs.declared.told.event.BadReply.{BadReply}
use Rattle.spdm_grammar.specs.declared.told.event.ReqIgnored.TheVariants.{BadVerify}
use Rattle.spdm_grammar.specs.declared.names.error_number.TheConstants.{LARGE_RESPONSE}
use Rattle.spdm_grammar.specs.declared.messages.malformed.Malformed.{Malformed}
use Rattle.spdm_grammar.specs.declared.messages.part_faults.CapsFault.{CapsFault}
use Rattle.spdm_grammar.specs.declared.messages.part_faults.ChunkFault.{ChunkFault}
use Rattle.spdm_machine.specs.Keys.{Draw}
use Rattle.spdm_machine.specs.Terms.{Terms, hash_len}
use Rattle.spdm_grammar.specs.Responses.{response_reading}
use Rattle.requester_machine.specs.Setup.{ReqSetup}
use Rattle.requester_machine.specs.Answers as answers
use Rattle.requester_machine.specs.Answers.{goes_on, is_refused, with_answer, answer_led}
use Rattle.requester_machine.specs.Asking.{Outcome}
use Rattle.requester_machine.specs.Asking.Outcome.{Warns, Adds}
use Rattle.requester_machine.specs.Bodies.{body_fault, is_clear}
use Rattle.requester_machine.specs.ClearAnswers as clear
use Rattle.requester_machine.specs.ClearAnswers.Carried.{Ignored, Refused, Further, Whole}
use Rattle.requester_machine.specs.Commands.{Free, has_reached}
use Rattle.requester_machine.specs.Hearing.{hears, hears_by, hears_to, on_record, record_outcome, came_to, clear_outcome}
use Rattle.requester_machine.specs.History.{History, Entry, Effect, Led, outstanding, connection_terms, next_tag}
use Rattle.requester_machine.specs.History.Effect.{Nothing, Answers, Grants}
use Rattle.requester_machine.specs.History.Entry.{TookClear, TookRecord}
use Rattle.requester_machine.specs.InnerMessages as inner
use Rattle.requester_machine.specs.InnerMessages.{Came}
use Rattle.requester_machine.specs.Message.{Ask, Aim, Sent}
use Rattle.requester_machine.specs.Message.Aim.{Plain, ByChunks, ForChunk, InSession}
use Rattle.requester_machine.specs.Message.Ask.{AskFinish, AskBeat, AskUpdate, AskVerify, AskMeasure, AskChunk, AskEnd}
use Rattle.requester_machine.specs.Message.Content.{Sealed}
use Rattle.requester_machine.specs.Records.{sealed_next, answer_fault, answer_inner}
use Rattle.requester_machine.specs.Sending.{piece_of, record_sent, finish_sent, operation_of}
use Rattle.requester_machine.specs.Session.{Steps, session_of, when_live}
use Rattle.requester_machine.specs.Session.Step.{Accepted}
use Rattle.capture_machine.proofs.Agrees.{Agree}
use Rattle.capture_machine.proofs.AsksAlike.{terms_same, tag_same, handle_same}

-- ---- What differs at most.

-- A record of a session with this padding.
abbrev pub padded : ℕ → List ℕ → Steps → ℕ → Ask → List ℕ → List ℕ → Sent
padded tag psk s id ask inner pad = record { tag = tag; content = Sealed (sealed_next psk s inner pad) inner pad; aim = InSession id ask }

-- Two messages are one, or records that differ in their padding alone.
pub data SentAlike : Sent → Sent → Type 0 where
  Equal : (s : Sent) → SentAlike s s
  Padded : (tag : ℕ) → (psk : List ℕ) → (s : Steps) → (id : ℕ) → (ask : Ask) → (inner : List ℕ) → (pad padding : List ℕ) → SentAlike (padded tag psk s id ask inner pad) (padded tag psk s id ask inner padding)

abbrev pub NextAlike : Option Sent → Option Sent → Type 0
NextAlike None None = Unit {0}
NextAlike (Some s) (Some t) = SentAlike s t
NextAlike _ _ = ⊥

pub record LedAlike (l m : Led) : Type 0 where
  pub event : l.event ≡ m.event
  pub effect : l.effect ≡ m.effect
  pub next : NextAlike l.next m.next

abbrev pub ResultAlike : {E : Type 0} → Result Led E → Result Led E → Type 0
ResultAlike (Ok l) (Ok m) = LedAlike l m
ResultAlike (Err a) (Err b) = a ≡ b
ResultAlike _ _ = ⊥

abbrev pub EntryAlike : Entry → Entry → Type 0
EntryAlike (TookClear tag m led d) (TookClear tag' m' led' d') = (tag ≡ tag') × (m ≡ m') × LedAlike led led' × (d ≡ d')
EntryAlike (TookRecord tag id sealed inner led d) (TookRecord tag' id' sealed' inner' led' d') = (tag ≡ tag') × (id ≡ id') × (sealed ≡ sealed') × (inner ≡ inner') × LedAlike led led' × (d ≡ d')
EntryAlike _ _ = ⊥

-- Both add such entries, or neither adds one.
abbrev pub OutcomeAlike : Outcome → Outcome → Type 0
OutcomeAlike (Adds e) (Adds f) = EntryAlike e f
OutcomeAlike (Adds e) _ = ⊥
OutcomeAlike _ (Adds f) = ⊥
OutcomeAlike _ _ = Unit {0}

next_equal : (o : Option Sent) → NextAlike o o
next_equal None = tt
next_equal (Some s) = Equal s

pub led_equal : (l : Led) → LedAlike l l
led_equal l = record { event = refl; effect = refl; next = next_equal l.next }

result_equal : {E : Type 0} (r : Result Led E) → ResultAlike r r
result_equal (Ok l) = led_equal l
result_equal (Err e) = refl

led_same : (l m : Led) → l ≡ m → LedAlike l m
led_same l m e = subst (LedAlike l) e (led_equal l)

result_same : {E : Type 0} (r s : Result Led E) → r ≡ s → ResultAlike r s
result_same r s e = subst (ResultAlike r) e (result_equal r)

goes_alike : (effect : Effect) (s t : Sent) → SentAlike s t → LedAlike (goes_on effect s) (goes_on effect t)
goes_alike effect s t a = record { event = refl; effect = refl; next = a }

either_alike : {E : Type 0} (b : Bool) (x y x' y' : Result Led E) → ResultAlike x x' → ResultAlike y y' → ResultAlike (cond b x y) (cond b x' y')
either_alike true x y x' y' p q = p
either_alike false x y x' y' p q = q

either_led : (b : Bool) (x y x' y' : Led) → LedAlike x x' → LedAlike y y' → LedAlike (cond b x y) (cond b x' y')
either_led true x y x' y' p q = p
either_led false x y x' y' p q = q

-- A record of one session, under any padding.
record_alike : (q : ReqSetup) (h g : History) → Agree h g → (id : ℕ) (s : Steps) (ask : Ask) (text pad padding : List ℕ) → SentAlike (record_sent q h id s ask text pad) (record_sent q g id s ask text padding)
record_alike q h g a id s ask text pad padding =
    let P : ℕ → Type 0 = λ tag. SentAlike (record_sent q h id s ask text pad) (padded tag q.psk s id ask text padding) in
    subst P (tag_same h g a) (Padded (next_tag h) q.psk s id ask text pad padding)

-- ---- In the clear.

error_same : (h g : History) → Agree h g → (asked : RequestMessage) (code : ℕ) (extended : List ℕ) → answers.error_led h asked code extended ≡ answers.error_led g asked code extended
error_same h g a asked code extended =
    let terms = terms_same h g a in
    let tag = tag_same h g a in
    cc

offer_same : (h g : History) → Agree h g → (effect : Effect) (common : Common) (o : Option OfferMessage) → answers.offer_led h effect common o ≡ answers.offer_led g effect common o
offer_same h g a effect common None = refl
offer_same h g a effect common (Some offer) =
    let tag = tag_same h g a in
    let handle = handle_same h g a in
    cc

caps_same : (q : ReqSetup) (h g : History) → Agree h g → (effect : Effect) (r : Result Common CapsFault) → answers.caps_led q h effect r ≡ answers.caps_led q g effect r
caps_same q h g a effect (Err fault) = refl
caps_same q h g a effect (Ok common) = offer_same h g a effect common (offer_of q.suites common.to_responder.transfer)

version_same : (q : ReqSetup) (h g : History) → Agree h g → (answer : List ℕ) (o : Option ℕ) → answers.version_led q h answer o ≡ answers.version_led q g answer o
version_same q h g a answer None = refl
version_same q h g a answer (Some entry) = let tag = tag_same h g a in cc

with_same : (h g : History) → Agree h g → (x : ExchangeMessage) (answer : List ℕ) → with_answer h x answer ≡ with_answer g x answer
with_same h g a x answer = ap (λ s. when_live s (Accepted answer)) (a.sessions x.req_id)

exchange_alike : (q : ReqSetup) (h g : History) → Agree h g → (f k : Free) (x : ExchangeMessage) (answer : List ℕ) (rsp : ExchangeRspMessage)
    → ResultAlike (answers.exchange_led q h f x answer rsp) (answers.exchange_led q g k x answer rsp)
exchange_alike q h g a f k x answer rsp =
    let P : Steps → Type 0 = λ s. ResultAlike (answers.exchange_led q h f x answer rsp)
    (cond (bytes_eq rsp.verify (answers.answer_verify q.psk s)) (Ok (goes_on (Answers (PskExchange x) answer) (finish_sent q g x.req_id s k.pad))) (Err BadVerify)) in
    subst P (with_same h g a x answer)
    (either_alike (bytes_eq rsp.verify (answers.answer_verify q.psk (with_answer h x answer))) _ _ _ _
    (goes_alike (Answers (PskExchange x) answer) _ _ (record_alike q h g a x.req_id (with_answer h x answer) AskFinish _ f.pad k.pad)) refl)

answer_alike : (q : ReqSetup) (h g : History) → Agree h g → (f k : Free) (place : ℕ) (asked : RequestMessage) (answer : List ℕ) (value : ResponseMessage)
    → ResultAlike (answer_led q h f place asked answer value) (answer_led q g k place asked answer value)
answer_alike q h g a f k place asked answer (Error version code detail extended) = led_same _ _ (error_same h g a asked code extended)
answer_alike q h g a f k place GetVersion answer (Version entries) = led_same _ _ (version_same q h g a answer (first_of_1_2 (version_entries entries)))
answer_alike q h g a f k place (GetCapabilities caps) answer (Capabilities theirs) = led_same _ _ (caps_same q h g a (Answers (GetCapabilities caps) answer) (common_of caps theirs))
answer_alike q h g a f k place (NegotiateAlgorithms offer) answer (Algorithms reply) = led_equal _
answer_alike q h g a f k place (GetMeasurements op) answer (Measurements measured) = led_equal _
answer_alike q h g a f k place (PskExchange x) answer (PskExchangeRsp rsp) = exchange_alike q h g a f k x answer rsp
answer_alike q h g a f k place asked answer value = refl

read_alike : (q : ReqSetup) (h g : History) → Agree h g → (f k : Free) (place : ℕ) (asked : RequestMessage) (answer : List ℕ) (r : Result ResponseMessage Malformed)
    → ResultAlike (clear.read_led q h f place asked answer r) (clear.read_led q g k place asked answer r)
read_alike q h g a f k place asked answer (Err fault) = refl
read_alike q h g a f k place asked answer (Ok value) = answer_alike q h g a f k place asked answer value

reading_same : (h g : History) → Agree h g → (asked : RequestMessage) (bytes : List ℕ) → clear.reading_of h asked bytes ≡ clear.reading_of g asked bytes
reading_same h g a asked bytes = ap (λ (t : Terms). response_reading (hash_len t) (clear.has_summary asked) bytes) (terms_same h g a)

carried_alike : (q : ReqSetup) (h g : History) → Agree h g → (f k : Free) (asked : RequestMessage) (c : clear.Carried) → ResultAlike (clear.carried_led q h f asked c) (clear.carried_led q g k asked c)
carried_alike q h g a f k asked (Ignored cause) = refl
carried_alike q h g a f k asked (Refused code) = led_equal _
carried_alike q h g a f k asked (Further next) = led_equal _
carried_alike q h g a f k asked (Whole answer place) =
    let P : Result ResponseMessage Malformed → Type 0 = λ r. ResultAlike (clear.carried_led q h f asked (Whole answer place)) (clear.read_led q g k place asked answer r) in
    subst P (reading_same h g a asked answer) (read_alike q h g a f k place asked answer (clear.reading_of h asked answer))

acknowledged_same : (h g : History) → Agree h g → (common : Common) (asked : RequestMessage) (piece : ChunkMessage) (early : Bool) (m : List ℕ) (o : Option ReqIgnored)
    → clear.acknowledged h common asked piece early m o ≡ clear.acknowledged g common asked piece early m o
acknowledged_same h g a common asked piece early m (Some cause) = refl
acknowledged_same h g a common asked piece early m None = let tag = tag_same h g a in cc

ack_same : (h g : History) → Agree h g → (common : Common) (asked : RequestMessage) (piece : ChunkMessage) (r : Result ResponseMessage Malformed)
    → clear.ack_carries h common asked piece r ≡ clear.ack_carries g common asked piece r
ack_same h g a common asked piece (Err fault) = refl
ack_same h g a common asked piece (Ok (Error version code detail extended)) = refl
ack_same h g a common asked piece (Ok (ChunkSendAck early handle number m)) = acknowledged_same h g a common asked piece early m _
ack_same h g a common asked piece (Ok value) = refl

collected_same : (h g : History) → Agree h g → (asked : RequestMessage) (before : List ChunkMessage) (c : ChunkMessage) (o : Option ChunkFault) → clear.collected h asked before c o ≡ clear.collected g asked before c o
collected_same h g a asked before c (Some fault) = refl
collected_same h g a asked before c None = let tag = tag_same h g a in cc

chunk_same : (q : ReqSetup) (h g : History) → Agree h g → (asked : RequestMessage) (handle number : ℕ) (before : List ChunkMessage) (r : Result ResponseMessage Malformed)
    → clear.chunk_carries q h asked handle number before r ≡ clear.chunk_carries q g asked handle number before r
chunk_same q h g a asked handle number before (Err fault) = refl
chunk_same q h g a asked handle number before (Ok (Error version code detail extended)) = refl
chunk_same q h g a asked handle number before (Ok (ChunkResponse c)) = collected_same h g a asked before c _
chunk_same q h g a asked handle number before (Ok value) = refl

carries_same : (q : ReqSetup) (h g : History) → Agree h g → (m : List ℕ) (aim : Aim) → clear.carried_by q h m aim ≡ clear.carried_by q g m aim
unfolding clear.carried_by
carries_same q h g a m (Plain asked) = refl
carries_same q h g a m (ByChunks asked handle number) =
    ack_same h g a (connection_terms h).common asked (piece_of (connection_terms h).common asked handle number) (clear.reading_of h asked m)
    ∙ ap (λ (t : Terms). clear.ack_carries g t.common asked (piece_of t.common asked handle number) (response_reading (hash_len t) (clear.has_summary asked) m)) (terms_same h g a)
carries_same q h g a m (ForChunk asked handle number before) =
    chunk_same q h g a asked handle number before (clear.reading_of h asked m)
    ∙ ap (clear.chunk_carries q g asked handle number before) (reading_same h g a asked m)
carries_same q h g a m (InSession id ask) = refl

clear_alike : (q : ReqSetup) (h g : History) → Agree h g → (f k : Free) (aim : Aim) (asked : RequestMessage) (m : List ℕ) → ResultAlike (clear.clear_led q h f aim asked m) (clear.clear_led q g k aim asked m)
unfolding clear.clear_led
clear_alike q h g a f k aim asked m =
    let P : clear.Carried → Type 0 = λ c. ResultAlike (clear.carried_led q h f asked (clear.carried_by q h m aim)) (clear.carried_led q g k asked c) in
    subst P (carries_same q h g a m aim) (carried_alike q h g a f k asked (clear.carried_by q h m aim))

-- ---- In a session.

first_alike : (q : ReqSetup) (h g : History) → Agree h g → (f k : Free) (came : Came) (op : ℕ) (extended : List ℕ) → LedAlike (inner.first_get q h f came op extended) (inner.first_get q g k came op extended)
first_alike q h g a f k came op extended = goes_alike Nothing _ _ (record_alike q h g a came.id (inner.with_record came Nothing) (AskChunk op (slice_index extended 0) 0 []) _ f.pad k.pad)

error_alike : (q : ReqSetup) (h g : History) → Agree h g → (f k : Free) (came : Came) (ask : Ask) (code : ℕ) (extended : List ℕ)
    → ResultAlike (inner.error_led q h f came ask code extended) (inner.error_led q g k came ask code extended)
error_alike q h g a f k came ask code extended = either_alike (inner.follows came ask code) _ _ _ _ (first_alike q h g a f k came (inner.op_in ask) extended) (result_equal _)

update_alike : (q : ReqSetup) (h g : History) → Agree h g → (f k : Free) (came : Came) (all echo : Bool) → ResultAlike (inner.update_led q h f came all echo) (inner.update_led q g k came all echo)
update_alike q h g a f k came all echo =
    either_alike echo _ _ _ _ (goes_alike _ _ _ (record_alike q h g a came.id (inner.with_record came (Grants (AskUpdate all) (inner.message_in came))) AskVerify _ f.pad k.pad)) refl

whole_alike : (q : ReqSetup) (h g : History) → Agree h g → (f k : Free) (came : Came) (op : ℕ) (whole : List ℕ) (r : Result ResponseMessage Malformed)
    → ResultAlike (inner.whole_led q h f came op whole r) (inner.whole_led q g k came op whole r)
whole_alike q h g a f k came op whole (Err fault) = refl
whole_alike q h g a f k came op whole (Ok (Error version code detail extended)) = either_led (code == LARGE_RESPONSE && not (has_reached 65300 came.steps)) _ _ _ _ (first_alike q h g a f k came op extended) (led_equal (is_refused code Nothing))
whole_alike q h g a f k came op whole (Ok (Measurements measured)) = led_equal _
whole_alike q h g a f k came op whole (Ok value) = refl

chunk_alike : (q : ReqSetup) (h g : History) → Agree h g → (f k : Free) (came : Came) (op : ℕ) (before : List ChunkMessage) (c : ChunkMessage) (o : Option ChunkFault)
    → ResultAlike (inner.chunk_led q h f came op before c o) (inner.chunk_led q g k came op before c o)
chunk_alike q h g a f k came op before c (Some fault) = refl
chunk_alike q h g a f k came op before c None =
    either_alike c.last _ _ _ _ (whole_alike q h g a f k came op (joined_with before c) _)
    (goes_alike Nothing _ _ (record_alike q h g a came.id (inner.with_record came Nothing) (AskChunk op c.handle (c.number + 1) (c ∷ before)) _ f.pad k.pad))

message_alike : (q : ReqSetup) (h g : History) → Agree h g → (f k : Free) (came : Came) (ask : Ask) (value : ResponseMessage) → ResultAlike (inner.message_led q h f came ask value) (inner.message_led q g k came ask value)
message_alike q h g a f k came ask (Error version code detail extended) = error_alike q h g a f k came ask code extended
message_alike q h g a f k came AskFinish PskFinishRsp = led_equal _
message_alike q h g a f k came AskBeat HeartbeatAck = led_equal _
message_alike q h g a f k came (AskUpdate all) (KeyUpdateAck op tag) = update_alike q h g a f k came all (inner.echoes came (operation_of all) op tag)
message_alike q h g a f k came AskVerify (KeyUpdateAck op tag) = result_equal _
message_alike q h g a f k came (AskMeasure op) (Measurements measured) = led_equal _
message_alike q h g a f k came AskEnd EndSessionAck = led_equal _
message_alike q h g a f k came (AskChunk op handle number before) (ChunkResponse c) = chunk_alike q h g a f k came op before c (clear.get_fault q.max handle number before c)
message_alike q h g a f k came ask value = refl

inner_read_alike : (q : ReqSetup) (h g : History) → Agree h g → (f k : Free) (came : Came) (ask : Ask) (r : Result ResponseMessage Malformed) → ResultAlike (inner.read_led q h f came ask r) (inner.read_led q g k came ask r)
inner_read_alike q h g a f k came ask (Err fault) = refl
inner_read_alike q h g a f k came ask (Ok value) = message_alike q h g a f k came ask value

inner_by_alike : (q : ReqSetup) (h g : History) → Agree h g → (f k : Free) (came : Came) (ask : Ask) (o : Option BadReply) → ResultAlike (inner.inner_led_by q h f came ask o) (inner.inner_led_by q g k came ask o)
inner_by_alike q h g a f k came ask (Some fault) = refl
inner_by_alike q h g a f k came ask None =
    either_alike (slice_index came.inner 0 == 5) _ _ _ _ (inner_read_alike q h g a f k came ask (inner.reading_of came (inner.message_in came))) (result_equal (inner.data_led came ask))

inner_alike : (q : ReqSetup) (h g : History) → Agree h g → (f k : Free) (came : Came) (ask : Ask) → ResultAlike (inner.inner_led q h f came ask) (inner.inner_led q g k came ask)
unfolding inner.inner_led
inner_alike q h g a f k came ask = inner_by_alike q h g a f k came ask (inner.inner_fault q came.inner)

lost_alike : (came : Came) (r s : Result Led BadReply) → ResultAlike r s → LedAlike (inner.or_lost came r) (inner.or_lost came s)
lost_alike came (Ok l) (Ok m) a = a
lost_alike came (Err x) (Err y) a = led_same _ _ (ap (λ e. inner.or_lost came (Err e)) a)
lost_alike came (Ok l) (Err y) a = absurd a
lost_alike came (Err x) (Ok m) a = absurd a

record_outcome_alike : (q : ReqSetup) (h g : History) → Agree h g → (f k : Free) (tag : ℕ) (ask : Ask) (came : Came) (d : Draw) (o : Option RecordFault)
    → OutcomeAlike (record_outcome q h f tag ask came d o) (record_outcome q g k tag ask came d o)
record_outcome_alike q h g a f k tag ask came d (Some fault) = tt
record_outcome_alike q h g a f k tag ask came d None = (refl, refl, refl, refl, lost_alike came _ _ (inner_alike q h g a f k came ask), refl)

on_record_alike : (q : ReqSetup) (h g : History) → Agree h g → (f k : Free) (tag id : ℕ) (ask : Ask) (sealed : List ℕ) (d : Draw)
    → OutcomeAlike (on_record q h f tag id ask sealed d) (on_record q g k tag id ask sealed d)
unfolding on_record
on_record_alike q h g a f k tag id ask sealed d =
    let P : Steps → Type 0 = λ s. OutcomeAlike (record_outcome q h f tag ask (came_to q h id ask sealed) d (answer_fault q.psk (session_of id h) ask sealed))
    (record_outcome q g k tag ask (record { id = id; steps = s; sealed = sealed; inner = answer_inner q.psk s ask sealed }) d (answer_fault q.psk s ask sealed)) in
    subst P (a.sessions id) (record_outcome_alike q h g a f k tag ask (came_to q h id ask sealed) d (answer_fault q.psk (session_of id h) ask sealed))

-- ---- A body.

clear_outcome_alike : (tag : ℕ) (m : List ℕ) (d : Draw) (r s : Result Led ReqIgnored) → ResultAlike r s → OutcomeAlike (clear_outcome tag m d r) (clear_outcome tag m d s)
clear_outcome_alike tag m d (Ok l) (Ok n) a = (refl, refl, a, refl)
clear_outcome_alike tag m d (Err x) (Err y) a = tt
clear_outcome_alike tag m d (Ok l) (Err y) a = absurd a
clear_outcome_alike tag m d (Err x) (Ok n) a = absurd a

either_outcome : (b : Bool) (code : ℕ) (y y' : Outcome) → OutcomeAlike y y' → OutcomeAlike (cond b (Warns code) y) (cond b (Warns code) y')
either_outcome true code y y' q = tt
either_outcome false code y y' q = q

to_alike : (q : ReqSetup) (h g : History) → Agree h g → (f k : Free) (tag : ℕ) (body : List ℕ) (d : Draw) (aim : Aim) → OutcomeAlike (hears_to q h f tag body d aim) (hears_to q g k tag body d aim)
to_alike q h g a f k tag body d (Plain asked) = clear_outcome_alike tag (drop 1 body) d _ _ (clear_alike q h g a f k (Plain asked) asked (drop 1 body))
to_alike q h g a f k tag body d (ByChunks asked handle number) = clear_outcome_alike tag (drop 1 body) d _ _ (clear_alike q h g a f k (ByChunks asked handle number) asked (drop 1 body))
to_alike q h g a f k tag body d (ForChunk asked handle number before) = clear_outcome_alike tag (drop 1 body) d _ _ (clear_alike q h g a f k (ForChunk asked handle number before) asked (drop 1 body))
to_alike q h g a f k tag body d (InSession id ask) = either_outcome (is_clear body) _ _ _ (on_record_alike q h g a f k tag id ask (drop 1 body) d)

by_alike : (q : ReqSetup) (h g : History) → Agree h g → (f k : Free) (tag : ℕ) (body : List ℕ) (d : Draw) (o : Option Sent) (cause : Option ReqIgnored)
    → OutcomeAlike (hears_by q h f tag body d o cause) (hears_by q g k tag body d o cause)
by_alike q h g a f k tag body d o (Some cause) = tt
by_alike q h g a f k tag body d None None = tt
by_alike q h g a f k tag body d (Some sent) None = to_alike q h g a f k tag body d sent.aim

pub hears_alike : (q : ReqSetup) (h g : History) → Agree h g → (f k : Free) (owner : Bool) (tag : ℕ) (body : List ℕ) (d : Draw) → OutcomeAlike (hears q h owner tag body f d) (hears q g owner tag body k d)
unfolding hears
hears_alike q h g a f k owner tag body d =
    let P : Option Sent → Type 0 = λ o. OutcomeAlike (hears_by q h f tag body d (outstanding h) (body_fault q (outstanding h) owner tag body)) (hears_by q g k tag body d o (body_fault q o owner tag body)) in
    subst P a.waiting (by_alike q h g a f k tag body d (outstanding h) (body_fault q (outstanding h) owner tag body))
