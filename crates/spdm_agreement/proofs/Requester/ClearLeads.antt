-- What a clear message leads to at a requester: the answer to PSK_EXCHANGE, with which PSK_FINISH is sealed; or what
-- bears on no session.
use Rattle.std.proofs.Common.{◌≡◌, ◌⊎◌, ℕ, ◌+◌, List, [], ◌∷◌, length, Bool, true, false, cond, Option, Some, None, refl, subst, inl, inr}
use Rattle.std.specs.Prelude.{Result, Ok, Err, bytes_eq, unwrap_or, nat_lt, ◌==◌, ◌&&◌, slice_index}
use Rattle.std.proofs.lemmas.Slice.Eq.{bytes_eq-Decides}
use Rattle.chunking.specs.Collecting.{joined_with}
use Rattle.negotiate.specs.Capabilities.{common_of}
use Rattle.negotiate.specs.Choosing.{agreed}
use Rattle.negotiate.specs.Offer.{offer_of}
use Rattle.negotiate.specs.Versions.{version_entries, first_of_1_2}
use Rattle.negotiate.specs.declared.shared.Common.{Common}
use Rattle.requester_machine.specs.Answers.{goes_on, is_refused, stopped, error_led, version_led, offer_led, caps_led, algorithms_led, answer_led, answer_verify, with_answer, may_be_large}
use Rattle.requester_machine.specs.Bodies.{error_in, first_cause}
use Rattle.requester_machine.specs.ClearAnswers.{Carried, ack_tests, acknowledged, ack_carries, collected, get_fault, chunk_carries, carried_by, carried_led, read_led, reading_of, clear_led}
use Rattle.requester_machine.specs.ClearAnswers.Carried.{Ignored, Refused, Further, Whole}
use Rattle.requester_machine.specs.Commands.{Free}
use Rattle.requester_machine.specs.History.{History, Effect, Led, connection_terms, next_handle}
use Rattle.requester_machine.specs.History.Effect.{Nothing, Answers, Refuses, Grants, Loses}
use Rattle.requester_machine.specs.Message.{Aim, Content, Sent, asked_in}
use Rattle.requester_machine.specs.Message.Aim.{Plain, ByChunks, ForChunk, InSession}
use Rattle.requester_machine.specs.Message.Content.{Clear, Sealed}
use Rattle.requester_machine.specs.Sending.{plain_sent, request_sent, piece_sent, piece_of, get_sent, is_too_long, finish_sent}
use Rattle.spdm_grammar.specs.Message.{RequestMessage, ResponseMessage, ChunkMessage, OfferMessage, ExchangeMessage, ExchangeRspMessage}
use Rattle.spdm_grammar.specs.Message.RequestMessage.{GetVersion, GetCapabilities, NegotiateAlgorithms, GetMeasurements, PskExchange}
use Rattle.spdm_grammar.specs.Message.ResponseMessage.{Version, Capabilities, Algorithms, Measurements, PskExchangeRsp, ChunkSendAck, ChunkResponse, Error}
use Rattle.spdm_grammar.specs.Requests.{canonical_request}
use Rattle.spdm_grammar.specs.declared.messages.capabilities.Caps.{Caps}
use Rattle.spdm_grammar.specs.declared.messages.choice.Choice.{Choice}
use Rattle.spdm_grammar.specs.declared.told.event.ReqIgnored.{ReqIgnored}
use Rattle.spdm_grammar.specs.declared.told.event.ReqIgnored.TheVariants as ignored
use Rattle.spdm_grammar.specs.declared.told.event.Stop.TheVariants as stop
use Rattle.spdm_grammar.specs.declared.messages.malformed.Malformed.{Malformed}
use Rattle.spdm_grammar.specs.declared.messages.part_faults.CapsFault.{CapsFault}
use Rattle.spdm_grammar.specs.declared.messages.part_faults.ChunkFault.{ChunkFault}
use Rattle.requester_machine.specs.Setup.{ReqSetup}
use Rattle.spdm_grammar.specs.declared.names.error_number.TheConstants.{LARGE_RESPONSE}

-- ---- Messages in the clear.

abbrev pub IsClear : Content → Type 0
IsClear (Clear message) = Unit {0}
IsClear (Sealed sealed inner pad) = ⊥

abbrev pub IsClearAim : Aim → Type 0
IsClearAim (InSession id ask) = ⊥
IsClearAim _ = Unit {0}

abbrev pub NoExchange : Option RequestMessage → Type 0
NoExchange (Some (PskExchange exchange)) = ⊥
NoExchange _ = Unit {0}

-- The next message goes on with the request that was asked, with no effect before; or neither is PSK_EXCHANGE.
abbrev pub NextClear : RequestMessage → Effect → Option Sent → Type 0
NextClear asked effect None = Unit {0}
NextClear asked effect (Some x) =
    IsClear x.content × IsClearAim x.aim × (((effect ≡ Nothing) × (asked_in x.aim ≡ Some asked)) ⊎ (NoExchange (asked_in x.aim) × NoExchange (Some asked)))

abbrev pub IsPlain : Effect → Type 0
IsPlain (Answers (PskExchange exchange) answer) = ⊥
IsPlain (Grants ask answer) = ⊥
IsPlain Loses = ⊥
IsPlain _ = Unit {0}

-- PSK_EXCHANGE has its answer, whole and with the right verify data.
pub record IsExchanged (q : ReqSetup) (h : History) (f : Free) (asked : RequestMessage) (carried : Carried) (led : Led) : Type 0 where
  pub exchange : ExchangeMessage
  pub rsp : ExchangeRspMessage
  pub answer : List ℕ
  pub place : ℕ
  pub asks : asked ≡ PskExchange exchange
  pub carries : carried ≡ Whole answer place
  pub reads : reading_of h (PskExchange exchange) answer ≡ Ok (PskExchangeRsp rsp)
  pub right : rsp.verify ≡ answer_verify q.psk (with_answer h exchange answer)
  pub is : led ≡ goes_on (Answers (PskExchange exchange) answer) (finish_sent q h exchange.req_id (with_answer h exchange answer) f.pad)

pub record IsAside (asked : RequestMessage) (led : Led) : Type 0 where
  pub effect : IsPlain led.effect
  pub next : NextClear asked led.effect led.next

abbrev pub ClearLed : ReqSetup → History → Free → RequestMessage → Carried → Led → Type 0
ClearLed q h f asked carried led = IsExchanged q h f asked carried led ⊎ IsAside asked led

abbrev pub ClearResult : ReqSetup → History → Free → RequestMessage → Carried → Result Led ReqIgnored → Type 0
ClearResult q h f asked carried (Ok led) = ClearLed q h f asked carried led
ClearResult q h f asked carried (Err cause) = Unit {0}

pub either : {A : Type 0} (P : A → Type 0) (b : Bool) (x y : A) → P x → P y → P (cond b x y)
either P true x y a c = a
either P false x y a c = c

-- ---- Answers.

error_aside : (h : History) (asked : RequestMessage) (code : ℕ) (extended : List ℕ) → IsAside asked (error_led h asked code extended)
error_aside h asked code extended =
    either (IsAside asked) (code == LARGE_RESPONSE && may_be_large asked && (connection_terms h).common.chunk) (goes_on Nothing (get_sent h asked (slice_index extended 0) 0 [])) (is_refused code (Refuses asked))
    (record { effect = tt; next = (tt, tt, inl (refl, refl)) }) (record { effect = tt; next = tt })

version_aside : (q : ReqSetup) (h : History) (answer : List ℕ) (entry : Option ℕ) → IsAside GetVersion (version_led q h answer entry)
version_aside q h answer None = record { effect = tt; next = tt }
version_aside q h answer (Some entry) = record { effect = tt; next = (tt, tt, inr (tt, tt)) }

offer_aside : (h : History) (caps : Caps) (answer : List ℕ) (common : Common) (offer : Option OfferMessage) → IsAside (GetCapabilities caps) (offer_led h (Answers (GetCapabilities caps) answer) common offer)
offer_aside h caps answer common None = record { effect = tt; next = tt }
offer_aside h caps answer common (Some offer) =
    either (IsAside (GetCapabilities caps)) (is_too_long common (canonical_request (NegotiateAlgorithms offer))) (stopped stop.TooLong) (goes_on (Answers (GetCapabilities caps) answer) (request_sent common h (NegotiateAlgorithms offer)))
    (record { effect = tt; next = tt })
    (either (λ (x : Sent). IsAside (GetCapabilities caps) (goes_on (Answers (GetCapabilities caps) answer) x)) (nat_lt common.to_responder.transfer (length (canonical_request (NegotiateAlgorithms offer))))
    (piece_sent common h (NegotiateAlgorithms offer) (next_handle h) 0) (plain_sent h (NegotiateAlgorithms offer))
    (record { effect = tt; next = (tt, tt, inr (tt, tt)) }) (record { effect = tt; next = (tt, tt, inr (tt, tt)) }))

caps_aside : (q : ReqSetup) (h : History) (caps : Caps) (answer : List ℕ) (common : Result Common CapsFault) → IsAside (GetCapabilities caps) (caps_led q h (Answers (GetCapabilities caps) answer) common)
caps_aside q h caps answer (Err fault) = record { effect = tt; next = tt }
caps_aside q h caps answer (Ok common) = offer_aside h caps answer common (offer_of q.suites common.to_responder.transfer)

algorithms_aside : (offer : OfferMessage) (answer : List ℕ) (choice : Option Choice) → IsAside (NegotiateAlgorithms offer) (algorithms_led (Answers (NegotiateAlgorithms offer) answer) choice)
algorithms_aside offer answer None = record { effect = tt; next = tt }
algorithms_aside offer answer (Some choice) = record { effect = tt; next = tt }

exchanged : (q : ReqSetup) (h : History) (f : Free) (exchange : ExchangeMessage) (answer : List ℕ) (place : ℕ) (rsp : ExchangeRspMessage) (carried : Carried) (b : Bool)
    → bytes_eq rsp.verify (answer_verify q.psk (with_answer h exchange answer)) ≡ b → carried ≡ Whole answer place → reading_of h (PskExchange exchange) answer ≡ Ok (PskExchangeRsp rsp)
    → ClearResult q h f (PskExchange exchange) carried
    (cond b (Ok (goes_on (Answers (PskExchange exchange) answer) (finish_sent q h exchange.req_id (with_answer h exchange answer) f.pad))) (Err ignored.BadVerify))
exchanged q h f exchange answer place rsp carried true same carries reads =
    inl (record { exchange = exchange; rsp = rsp; answer = answer; place = place; asks = refl; carries = carries; reads = reads; right = (bytes_eq-Decides rsp.verify (answer_verify q.psk (with_answer h exchange answer))).0 same; is = refl })
exchanged q h f exchange answer place rsp carried false same carries reads = tt

answered : (q : ReqSetup) (h : History) (f : Free) (place : ℕ) (asked : RequestMessage) (answer : List ℕ) (value : ResponseMessage) (carried : Carried) → carried ≡ Whole answer place → reading_of h asked answer ≡ Ok value
    → ClearResult q h f asked carried (answer_led q h f place asked answer value)
answered q h f place asked answer (Error version code detail extended) carried c r = inr (error_aside h asked code extended)
answered q h f place GetVersion answer (Version entries) carried c r = inr (version_aside q h answer (first_of_1_2 (version_entries entries)))
answered q h f place (GetCapabilities caps) answer (Capabilities theirs) carried c r = inr (caps_aside q h caps answer (common_of caps theirs))
answered q h f place (NegotiateAlgorithms offer) answer (Algorithms reply) carried c r = inr (algorithms_aside offer answer (agreed offer reply))
answered q h f place (GetMeasurements op) answer (Measurements measured) carried c r = inr (record { effect = tt; next = tt })
answered q h f place (PskExchange exchange) answer (PskExchangeRsp rsp) carried c r = exchanged q h f exchange answer place rsp carried (bytes_eq rsp.verify (answer_verify q.psk (with_answer h exchange answer))) refl c r
answered q h f place asked answer value carried c r = tt

-- ---- What is carried.

abbrev GoesOn : RequestMessage → Carried → Type 0
GoesOn asked (Further next) = NextClear asked Nothing (Some next)
GoesOn asked _ = Unit {0}

acknowledged_goes : (h : History) (common : Common) (asked : RequestMessage) (piece : ChunkMessage) (early : Bool) (response : List ℕ) (cause : Option ReqIgnored) → GoesOn asked (acknowledged h common asked piece early response cause)
acknowledged_goes h common asked piece early response (Some cause) = tt
acknowledged_goes h common asked piece early response None =
    either (GoesOn asked) early (Refused (unwrap_or (error_in response) 0)) (cond piece.last (Whole response 6) (Further (piece_sent common h asked piece.handle (piece.number + 1)))) tt
    (either (GoesOn asked) piece.last (Whole response 6) (Further (piece_sent common h asked piece.handle (piece.number + 1))) tt (tt, tt, inl (refl, refl)))

ack_goes : (h : History) (common : Common) (asked : RequestMessage) (piece : ChunkMessage) (reading : Result ResponseMessage Malformed) → GoesOn asked (ack_carries h common asked piece reading)
ack_goes h common asked piece (Err fault) = tt
ack_goes h common asked piece (Ok (Error version code detail extended)) = tt
ack_goes h common asked piece (Ok (ChunkSendAck early handle number response)) = acknowledged_goes h common asked piece early response (first_cause (ack_tests piece early handle number response))
ack_goes h common asked piece (Ok _) = tt

collected_goes : (h : History) (asked : RequestMessage) (before : List ChunkMessage) (c : ChunkMessage) (fault : Option ChunkFault) → GoesOn asked (collected h asked before c fault)
collected_goes h asked before c (Some fault) = tt
collected_goes h asked before c None = either (GoesOn asked) c.last (Whole (joined_with before c) 0) (Further (get_sent h asked c.handle (c.number + 1) (c ∷ before))) tt (tt, tt, inl (refl, refl))

chunk_goes : (q : ReqSetup) (h : History) (asked : RequestMessage) (handle number : ℕ) (before : List ChunkMessage) (reading : Result ResponseMessage Malformed) → GoesOn asked (chunk_carries q h asked handle number before reading)
chunk_goes q h asked handle number before (Err fault) = tt
chunk_goes q h asked handle number before (Ok (Error version code detail extended)) = tt
chunk_goes q h asked handle number before (Ok (ChunkResponse c)) = collected_goes h asked before c (get_fault q.max handle number before c)
chunk_goes q h asked handle number before (Ok _) = tt

read : (q : ReqSetup) (h : History) (f : Free) (place : ℕ) (asked : RequestMessage) (answer : List ℕ) (reading : Result ResponseMessage Malformed) (carried : Carried) → carried ≡ Whole answer place → reading_of h asked answer ≡ reading
    → ClearResult q h f asked carried (read_led q h f place asked answer reading)
read q h f place asked answer (Err fault) carried c r = tt
read q h f place asked answer (Ok value) carried c r = answered q h f place asked answer value carried c r

carries : (q : ReqSetup) (h : History) (f : Free) (asked : RequestMessage) (carried : Carried) → GoesOn asked carried → ClearResult q h f asked carried (carried_led q h f asked carried)
carries q h f asked (Ignored cause) further = tt
carries q h f asked (Refused code) further = inr (record { effect = tt; next = tt })
carries q h f asked (Further next) further = inr (record { effect = tt; next = further })
carries q h f asked (Whole answer place) further = read q h f place asked answer (reading_of h asked answer) (Whole answer place) refl refl

goes_by : (q : ReqSetup) (h : History) (m : List ℕ) (aim : Aim) (asked : RequestMessage) → asked_in aim ≡ Some asked → GoesOn asked (carried_by q h m aim)
unfolding carried_by
goes_by q h m (Plain request) asked is = tt
goes_by q h m (ByChunks request handle number) asked is =
    (let same : request ≡ asked = cc is in subst (λ (x : RequestMessage). GoesOn x (ack_carries h (connection_terms h).common request (piece_of (connection_terms h).common request handle number) (reading_of h request m))) same
    (ack_goes h (connection_terms h).common request (piece_of (connection_terms h).common request handle number) (reading_of h request m)))
goes_by q h m (ForChunk request handle number before) asked is =
    (let same : request ≡ asked = cc is in subst (λ (x : RequestMessage). GoesOn x (chunk_carries q h request handle number before (reading_of h request m))) same
    (chunk_goes q h request handle number before (reading_of h request m)))
goes_by q h m (InSession id ask) asked is = tt

pub clear_shape : (q : ReqSetup) (h : History) (f : Free) (aim : Aim) (asked : RequestMessage) (m : List ℕ) → asked_in aim ≡ Some asked → ClearResult q h f asked (carried_by q h m aim) (clear_led q h f aim asked m)
unfolding clear_led
clear_shape q h f aim asked m is = carries q h f asked (carried_by q h m aim) (goes_by q h m aim asked is)
