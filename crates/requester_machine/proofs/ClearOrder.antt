-- What a clear message leads to keeps the sessions in order.
use Rattle.std.proofs.Common.{◌+◌, ℕ, List, [], ◌∷◌, true, false, Bool, Option, Some, None}
use Rattle.std.specs.Prelude.{⊤, ◌==◌, ◌&&◌, nat_lt, length, if◌then◌else◌, Result, Ok, Err, bytes_eq, unwrap_or, slice_index}
use Rattle.chunking.specs.Collecting.{joined_with}
use Rattle.negotiate.specs.Capabilities.{common_of}
use Rattle.negotiate.specs.Choosing.{agreed}
use Rattle.negotiate.specs.Offer.{offer_of}
use Rattle.negotiate.specs.Versions.{version_entries, first_of_1_2}
use Rattle.negotiate.specs.declared.shared.Common.{Common}
use Rattle.spdm_grammar.specs.Message.{RequestMessage, ResponseMessage, ChunkMessage, OfferMessage, ExchangeMessage, ExchangeRspMessage}
use Rattle.spdm_grammar.specs.Message.RequestMessage.{GetVersion, GetCapabilities, NegotiateAlgorithms, GetMeasurements, PskExchange}
use Rattle.spdm_grammar.specs.Message.ResponseMessage.{Version, Capabilities, Algorithms, Measurements, PskExchangeRsp, ChunkSendAck, ChunkResponse, Error}
use Rattle.spdm_grammar.specs.Requests.{canonical_request}
use Rattle.spdm_grammar.specs.declared.messages.capabilities.Caps.{Caps}
use Rattle.spdm_grammar.specs.declared.messages.choice.Choice.{Choice}
use Rattle.spdm_grammar.specs.declared.told.event.ReqIgnored.{ReqIgnored}
use Rattle.spdm_grammar.specs.declared.told.event.Stop.TheVariants as stop
use Rattle.spdm_grammar.specs.declared.messages.malformed.Malformed.{Malformed}
use Rattle.spdm_grammar.specs.declared.messages.part_faults.CapsFault.{CapsFault}
use Rattle.spdm_grammar.specs.declared.messages.part_faults.ChunkFault.{ChunkFault}
use Rattle.requester_machine.specs.Setup.{ReqSetup}
use Rattle.requester_machine.specs.Answers.{goes_on, is_refused, stopped, error_led, version_led, offer_led, caps_led, algorithms_led, exchange_led, answer_led, answer_verify, with_answer, may_be_large}
use Rattle.requester_machine.specs.Bodies.{error_in, first_cause}
use Rattle.requester_machine.specs.ClearAnswers.{Carried, ack_tests, acknowledged, ack_carries, collected, get_fault, chunk_carries, carried_by, carried_led, read_led, reading_of, clear_led}
use Rattle.requester_machine.specs.ClearAnswers.Carried.{Ignored, Refused, Further, Whole}
use Rattle.requester_machine.specs.Commands.{Free}
use Rattle.requester_machine.specs.History.{History, Effect, Led, connection_terms, next_handle}
use Rattle.requester_machine.specs.History.Effect.{Nothing, Answers, Refuses}
use Rattle.requester_machine.specs.Message.Aim.{Plain, ByChunks, ForChunk}
use Rattle.requester_machine.specs.Order.{waits_for, waits_asked}
use Rattle.requester_machine.specs.Order.Waits.{Rests}
use Rattle.requester_machine.specs.Sending.{plain_sent, request_sent, piece_sent, piece_of, get_sent, is_too_long}
use Rattle.requester_machine.specs.Session.{Steps, session_of, with_sent, after_clear}
use Rattle.requester_machine.proofs.Steps.{Good, refused_good, exchange_good}
use Rattle.spdm_grammar.specs.declared.names.error_number.TheConstants.{LARGE_RESPONSE}

-- What a message leads to keeps the session with this id good.
abbrev pub GoodLed : ℕ → Steps → Led → Type 0
GoodLed id s led = Good (waits_for id led.next) (with_sent id led.next (after_clear id led.effect s))

abbrev pub GoodResult : ℕ → Steps → Result Led ReqIgnored → Type 0
GoodResult id s (Ok led) = GoodLed id s led
GoodResult id s (Err cause) = ⊤

abbrev pub GoodCarried : ℕ → Steps → Carried → Type 0
GoodCarried id s (Ignored cause) = ⊤
GoodCarried id s (Refused code) = ⊤
GoodCarried id s (Further next) = Good (waits_for id (Some next)) (with_sent id (Some next) s)
GoodCarried id s (Whole answer place) = ⊤

either_led : (id : ℕ) (s : Steps) (b : Bool) (x y : Led) → GoodLed id s x → GoodLed id s y → GoodLed id s (if b then x else y)
either_led id s true x y a c = a
either_led id s false x y a c = c

either_result : (id : ℕ) (s : Steps) (b : Bool) (x y : Result Led ReqIgnored) → GoodResult id s x → GoodResult id s y → GoodResult id s (if b then x else y)
either_result id s true x y a c = a
either_result id s false x y a c = c

either_carried : (id : ℕ) (s : Steps) (b : Bool) (x y : Carried) → GoodCarried id s x → GoodCarried id s y → GoodCarried id s (if b then x else y)
either_carried id s true x y a c = a
either_carried id s false x y a c = c

-- ---- Answers.

refuses-good : (id : ℕ) (s : Steps) (code : ℕ) (asked : RequestMessage) → Good (waits_asked id asked) s → GoodLed id s (is_refused code (Refuses asked))
refuses-good id s code (PskExchange exchange) good = refused_good (exchange.req_id == id) s good
refuses-good id s code _ good = good

error_led-good : (id : ℕ) (s : Steps) (h : History) (asked : RequestMessage) (code : ℕ) (extended : List ℕ) → Good (waits_asked id asked) s → GoodLed id s (error_led h asked code extended)
error_led-good id s h asked code extended good =
    either_led id s (code == LARGE_RESPONSE && may_be_large asked && (connection_terms h).common.chunk) (goes_on Nothing (get_sent h asked (slice_index extended 0) 0 [])) (is_refused code (Refuses asked))
    good (refuses-good id s code asked good)

version_led-good : (id : ℕ) (s : Steps) (q : ReqSetup) (h : History) (answer : List ℕ) (entry : Option ℕ) → Good Rests s → GoodLed id s (version_led q h answer entry)
version_led-good id s q h answer None good = good
version_led-good id s q h answer (Some entry) good = good

sent_led-good : (id : ℕ) (s : Steps) (h : History) (common : Common) (effect : Effect) (offer : OfferMessage) → Good Rests (after_clear id effect s)
    → GoodLed id s (goes_on effect (request_sent common h (NegotiateAlgorithms offer)))
sent_led-good id s h common effect offer good = by_size (nat_lt common.to_responder.transfer (length (canonical_request (NegotiateAlgorithms offer))))
  where
    by_size : (b : Bool) → GoodLed id s (goes_on effect (if b then piece_sent common h (NegotiateAlgorithms offer) (next_handle h) 0 else plain_sent h (NegotiateAlgorithms offer)))
    by_size true = good
    by_size false = good

offer_led-good : (id : ℕ) (s : Steps) (h : History) (caps : Caps) (answer : List ℕ) (common : Common) (offer : Option OfferMessage) → Good Rests s → GoodLed id s (offer_led h (Answers (GetCapabilities caps) answer) common offer)
offer_led-good id s h caps answer common None good = good
offer_led-good id s h caps answer common (Some offer) good =
    either_led id s (is_too_long common (canonical_request (NegotiateAlgorithms offer))) (stopped stop.TooLong) (goes_on (Answers (GetCapabilities caps) answer) (request_sent common h (NegotiateAlgorithms offer)))
    good (sent_led-good id s h common (Answers (GetCapabilities caps) answer) offer good)

caps_led-good : (id : ℕ) (s : Steps) (q : ReqSetup) (h : History) (caps : Caps) (answer : List ℕ) (common : Result Common CapsFault) → Good Rests s → GoodLed id s (caps_led q h (Answers (GetCapabilities caps) answer) common)
caps_led-good id s q h caps answer (Err fault) good = good
caps_led-good id s q h caps answer (Ok common) good = offer_led-good id s h caps answer common (offer_of q.suites common.to_responder.transfer) good

algorithms_led-good : (id : ℕ) (s : Steps) (offer : OfferMessage) (answer : List ℕ) (choice : Option Choice) → Good Rests s → GoodLed id s (algorithms_led (Answers (NegotiateAlgorithms offer) answer) choice)
algorithms_led-good id s offer answer None good = good
algorithms_led-good id s offer answer (Some choice) good = good

-- PSK_FINISH is sealed for the session of the exchange alone.
exchange_led-good : (id : ℕ) (q : ReqSetup) (h : History) (f : Free) (exchange : ExchangeMessage) (answer : List ℕ) (rsp : ExchangeRspMessage)
    → Good (waits_asked id (PskExchange exchange)) (session_of id h) → GoodResult id (session_of id h) (exchange_led q h f exchange answer rsp)
exchange_led-good id q h f exchange answer rsp good =
    either_result id (session_of id h) (bytes_eq rsp.verify (answer_verify q.psk (with_answer h exchange answer))) _ _
    (exchange_good (exchange.req_id == id) answer _ _ (session_of id h) good) tt

answer_led-good : (id : ℕ) (q : ReqSetup) (h : History) (f : Free) (place : ℕ) (asked : RequestMessage) (answer : List ℕ) (value : ResponseMessage)
    → Good (waits_asked id asked) (session_of id h) → GoodResult id (session_of id h) (answer_led q h f place asked answer value)
answer_led-good id q h f place asked answer (Error version code detail extended) good = error_led-good id (session_of id h) h asked code extended good
answer_led-good id q h f place GetVersion answer (Version entries) good = version_led-good id (session_of id h) q h answer (first_of_1_2 (version_entries entries)) good
answer_led-good id q h f place (GetCapabilities caps) answer (Capabilities theirs) good = caps_led-good id (session_of id h) q h caps answer (common_of caps theirs) good
answer_led-good id q h f place (NegotiateAlgorithms offer) answer (Algorithms reply) good = algorithms_led-good id (session_of id h) offer answer (agreed offer reply) good
answer_led-good id q h f place (GetMeasurements op) answer (Measurements measured) good = good
answer_led-good id q h f place (PskExchange exchange) answer (PskExchangeRsp rsp) good = exchange_led-good id q h f exchange answer rsp good
answer_led-good id q h f place asked answer value good = tt

-- ---- What is carried.

acknowledged-good : (id : ℕ) (s : Steps) (h : History) (common : Common) (asked : RequestMessage) (piece : ChunkMessage) (early : Bool) (response : List ℕ) (cause : Option ReqIgnored)
    → Good (waits_asked id asked) s → GoodCarried id s (acknowledged h common asked piece early response cause)
acknowledged-good id s h common asked piece early response (Some cause) good = tt
acknowledged-good id s h common asked piece early response None good =
    either_carried id s early (Refused (unwrap_or (error_in response) 0)) _ tt
    (either_carried id s piece.last (Whole response 6) (Further (piece_sent common h asked piece.handle (piece.number + 1))) tt good)

ack_carries-good : (id : ℕ) (s : Steps) (h : History) (common : Common) (asked : RequestMessage) (piece : ChunkMessage) (reading : Result ResponseMessage Malformed)
    → Good (waits_asked id asked) s → GoodCarried id s (ack_carries h common asked piece reading)
ack_carries-good id s h common asked piece (Err fault) good = tt
ack_carries-good id s h common asked piece (Ok (Error version code detail extended)) good = tt
ack_carries-good id s h common asked piece (Ok (ChunkSendAck early handle number response)) good =
    acknowledged-good id s h common asked piece early response (first_cause (ack_tests piece early handle number response)) good
ack_carries-good id s h common asked piece (Ok _) good = tt

collected-good : (id : ℕ) (s : Steps) (h : History) (asked : RequestMessage) (before : List ChunkMessage) (c : ChunkMessage) (fault : Option ChunkFault)
    → Good (waits_asked id asked) s → GoodCarried id s (collected h asked before c fault)
collected-good id s h asked before c (Some fault) good = tt
collected-good id s h asked before c None good =
    either_carried id s c.last (Whole (joined_with before c) 0) (Further (get_sent h asked c.handle (c.number + 1) (c ∷ before))) tt good

chunk_carries-good : (id : ℕ) (s : Steps) (q : ReqSetup) (h : History) (asked : RequestMessage) (handle number : ℕ) (before : List ChunkMessage) (reading : Result ResponseMessage Malformed)
    → Good (waits_asked id asked) s → GoodCarried id s (chunk_carries q h asked handle number before reading)
chunk_carries-good id s q h asked handle number before (Err fault) good = tt
chunk_carries-good id s q h asked handle number before (Ok (Error version code detail extended)) good = tt
chunk_carries-good id s q h asked handle number before (Ok (ChunkResponse c)) good = collected-good id s h asked before c (get_fault q.max handle number before c) good
chunk_carries-good id s q h asked handle number before (Ok _) good = tt

read_led-good : (id : ℕ) (q : ReqSetup) (h : History) (f : Free) (place : ℕ) (asked : RequestMessage) (answer : List ℕ) (reading : Result ResponseMessage Malformed)
    → Good (waits_asked id asked) (session_of id h) → GoodResult id (session_of id h) (read_led q h f place asked answer reading)
read_led-good id q h f place asked answer (Err fault) good = tt
read_led-good id q h f place asked answer (Ok value) good = answer_led-good id q h f place asked answer value good

carried_led-good : (id : ℕ) (q : ReqSetup) (h : History) (f : Free) (asked : RequestMessage) (carried : Carried)
    → Good (waits_asked id asked) (session_of id h) → GoodCarried id (session_of id h) carried → GoodResult id (session_of id h) (carried_led q h f asked carried)
carried_led-good id q h f asked (Ignored cause) good further = tt
carried_led-good id q h f asked (Refused code) good further = refuses-good id (session_of id h) code asked good
carried_led-good id q h f asked (Further next) good further = further
carried_led-good id q h f asked (Whole answer place) good further = read_led-good id q h f place asked answer (reading_of h asked answer) good

-- ---- All together.

pub plain-good : (id : ℕ) (q : ReqSetup) (h : History) (f : Free) (asked : RequestMessage) (m : List ℕ)
    → Good (waits_asked id asked) (session_of id h) → GoodResult id (session_of id h) (clear_led q h f (Plain asked) asked m)
unfolding clear_led carried_by
plain-good id q h f asked m good = carried_led-good id q h f asked (Whole m 0) good tt

pub by_chunks-good : (id : ℕ) (q : ReqSetup) (h : History) (f : Free) (asked : RequestMessage) (handle number : ℕ) (m : List ℕ)
    → Good (waits_asked id asked) (session_of id h) → GoodResult id (session_of id h) (clear_led q h f (ByChunks asked handle number) asked m)
unfolding clear_led carried_by
by_chunks-good id q h f asked handle number m good =
    carried_led-good id q h f asked (ack_carries h (connection_terms h).common asked (piece_of (connection_terms h).common asked handle number) (reading_of h asked m)) good
    (ack_carries-good id (session_of id h) h (connection_terms h).common asked (piece_of (connection_terms h).common asked handle number) (reading_of h asked m) good)

pub for_chunk-good : (id : ℕ) (q : ReqSetup) (h : History) (f : Free) (asked : RequestMessage) (handle number : ℕ) (before : List ChunkMessage) (m : List ℕ)
    → Good (waits_asked id asked) (session_of id h) → GoodResult id (session_of id h) (clear_led q h f (ForChunk asked handle number before) asked m)
unfolding clear_led carried_by
for_chunk-good id q h f asked handle number before m good =
    carried_led-good id q h f asked (chunk_carries q h asked handle number before (reading_of h asked m)) good
    (chunk_carries-good id (session_of id h) q h asked handle number before (reading_of h asked m) good)
