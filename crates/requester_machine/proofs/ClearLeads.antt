-- What a clear message leads to that came to a clear request, kind by kind.
use Rattle.std.proofs.Common.{refl, ◌≡◌, ◌+◌, ℕ, List, [], ◌∷◌, true, false, Bool, Option, Some, None, subst, ap, sym, ◌∙◌}
use Rattle.std.specs.Prelude.{⊤, ◌==◌, ◌&&◌, if◌then◌else◌, Result, Ok, Err, bytes_eq, unwrap_or, slice_index}
use Rattle.std.proofs.lemmas.Slice.Eq.{bytes_eq-Decides}
use Rattle.chunking.specs.Collecting.{joined_with}
use Rattle.negotiate.specs.Capabilities.{common_of}
use Rattle.negotiate.specs.Choosing.{agreed}
use Rattle.negotiate.specs.Offer.{offer_of}
use Rattle.negotiate.specs.Versions.{version_entries, first_of_1_2}
use Rattle.negotiate.specs.declared.shared.Common.{Common}
use Rattle.spdm_grammar.specs.Message.{RequestMessage, ResponseMessage, ChunkMessage, OfferMessage, ExchangeMessage, ExchangeRspMessage}
use Rattle.spdm_grammar.specs.Message.RequestMessage.{GetVersion, GetCapabilities, NegotiateAlgorithms, GetMeasurements, PskExchange}
use Rattle.spdm_grammar.specs.Message.ResponseMessage.{Version, Capabilities, Algorithms, Measurements, PskExchangeRsp, ChunkSendAck, ChunkResponse, Error}
use Rattle.spdm_grammar.specs.Requests.{canonical_request}
use Rattle.spdm_grammar.specs.declared.messages.capabilities.Caps.{Caps}
use Rattle.spdm_grammar.specs.declared.messages.choice.Choice.{Choice}
use Rattle.spdm_grammar.specs.declared.told.event.Finished.{Finished}
use Rattle.spdm_grammar.specs.declared.told.event.Finished.TheVariants as finished
use Rattle.spdm_grammar.specs.declared.told.event.ReqIgnored.{ReqIgnored}
use Rattle.spdm_grammar.specs.declared.told.event.ReqIgnored.TheVariants as ignored
use Rattle.spdm_grammar.specs.declared.told.event.Stop.{Stop}
use Rattle.spdm_grammar.specs.declared.told.event.Stop.TheVariants as stop
use Rattle.spdm_grammar.specs.declared.messages.malformed.Malformed.{Malformed}
use Rattle.spdm_grammar.specs.declared.messages.part_faults.CapsFault.{CapsFault}
use Rattle.spdm_grammar.specs.declared.messages.part_faults.ChunkFault.{ChunkFault}
use Rattle.spdm_grammar.specs.declared.names.error_number.TheConstants.{LARGE_RESPONSE}
use Rattle.requester_machine.specs.Setup.{ReqSetup, requester_caps}
use Rattle.requester_machine.specs.Answers.{goes_on, is_done, is_refused, stopped, error_led, version_led, offer_led, caps_led, algorithms_led, measured_number, exchange_led, answer_led, answer_verify, with_answer, may_be_large}
use Rattle.requester_machine.specs.Bodies.{error_in, first_cause}
use Rattle.requester_machine.specs.ClearAnswers.{Carried, ack_tests, acknowledged, ack_carries, collected, get_fault, chunk_carries, carried_by, carried_led, read_led, reading_of, clear_led}
use Rattle.requester_machine.specs.ClearAnswers.Carried.{Ignored, Refused, Further, Whole}
use Rattle.requester_machine.specs.Commands.{Free}
use Rattle.requester_machine.specs.History.{History, Led, connection_terms, negotiates}
use Rattle.requester_machine.specs.History.Effect.{Nothing, Answers, Refuses}
use Rattle.requester_machine.specs.Message.{Aim, asked_in}
use Rattle.requester_machine.specs.Message.Aim.{Plain, ByChunks, ForChunk, InSession}
use Rattle.requester_machine.specs.Sending.{plain_sent, request_sent, piece_sent, piece_of, get_sent, is_too_long, finish_sent}
use Rattle.spdm_basis.proofs.Bools.{and_first, and_second}

-- The whole answer to a request, where it stands in the message, and what it encodes.
pub record IsRead (q : ReqSetup) (h : History) (aim : Aim) (m : List ℕ) (asked : RequestMessage) (answer : List ℕ) (value : ResponseMessage) : Type 0 where
  pub place : ℕ
  pub whole : carried_by q h m aim ≡ Whole answer place
  pub reads : reading_of h asked answer ≡ Ok value

-- An ERROR refuses the request; a LargeResponse calls for the first chunk of a large response; an acknowledgement calls
-- for the next chunk of the request, a chunk for the next one of the answer; the negotiation stops; or the request has
-- its answer.
pub data ClearLeads (q : ReqSetup) (h : History) (f : Free) (aim : Aim) (m : List ℕ) (asked : RequestMessage) (led : Led) : Type 0 where
  ByRefusal : (code : ℕ) → led ≡ is_refused code (Refuses asked) → ClearLeads q h f aim m asked led
  ByLarge : (handle : ℕ) → may_be_large asked ≡ true → led ≡ goes_on Nothing (get_sent h asked handle 0 []) → ClearLeads q h f aim m asked led
  BySend : (handle number : ℕ) → aim ≡ ByChunks asked handle number → (piece_of (connection_terms h).common asked handle number).last ≡ false
      → led ≡ goes_on Nothing (piece_sent (connection_terms h).common h asked handle (number + 1)) → ClearLeads q h f aim m asked led
  ByGet : (handle number : ℕ) (before : List ChunkMessage) (c : ChunkMessage) → aim ≡ ForChunk asked handle number before → get_fault q.max handle number before c ≡ None → c.last ≡ false
      → led ≡ goes_on Nothing (get_sent h asked c.handle (c.number + 1) (c ∷ before)) → ClearLeads q h f aim m asked led
  ByStop : (why : Stop) → negotiates asked ≡ true → led ≡ stopped why → ClearLeads q h f aim m asked led
  ByVersion : (answer : List ℕ) → asked ≡ GetVersion → led ≡ goes_on (Answers GetVersion answer) (plain_sent h (GetCapabilities (requester_caps q))) → ClearLeads q h f aim m asked led
  ByCaps : (caps theirs : Caps) (answer : List ℕ) (common : Common) (offer : OfferMessage) → asked ≡ GetCapabilities caps → IsRead q h aim m (GetCapabilities caps) answer (Capabilities theirs)
      → common_of caps theirs ≡ Ok common → offer_of q.suites common.to_responder.transfer ≡ Some offer → is_too_long common (canonical_request (NegotiateAlgorithms offer)) ≡ false
      → led ≡ goes_on (Answers (GetCapabilities caps) answer) (request_sent common h (NegotiateAlgorithms offer)) → ClearLeads q h f aim m asked led
  ByChoice : (offer : OfferMessage) (answer : List ℕ) → asked ≡ NegotiateAlgorithms offer → led ≡ is_done finished.Connected (Answers (NegotiateAlgorithms offer) answer) → ClearLeads q h f aim m asked led
  ByMeasured : (op : ℕ) (answer : List ℕ) (finish : Finished) → asked ≡ GetMeasurements op → led ≡ is_done finish (Answers (GetMeasurements op) answer) → ClearLeads q h f aim m asked led
  ByExchange : (exchange : ExchangeMessage) (answer : List ℕ) (rsp : ExchangeRspMessage) → asked ≡ PskExchange exchange → IsRead q h aim m (PskExchange exchange) answer (PskExchangeRsp rsp)
      → rsp.verify ≡ answer_verify q.psk (with_answer h exchange answer)
      → led ≡ goes_on (Answers (PskExchange exchange) answer) (finish_sent q h exchange.req_id (with_answer h exchange answer) f.pad) → ClearLeads q h f aim m asked led

pub either : {A : Type 0} (P : A → Type 0) (b : Bool) (x y : A) → P x → P y → P (if b then x else y)
either P true x y a c = a
either P false x y a c = c

-- The same, where the test may be used.
pub tested : {A : Type 0} (P : A → Type 0) (b : Bool) (x y : A) → (b ≡ true → P x) → (b ≡ false → P y) → P (if b then x else y)
tested P true x y a c = a refl
tested P false x y a c = c refl

module _ (q : ReqSetup) (h : History) (f : Free) (aim : Aim) (m : List ℕ) where
  abbrev Leads : RequestMessage → Led → Type 0
  Leads asked led = ClearLeads q h f aim m asked led

  abbrev LeadsIn : RequestMessage → Result Led ReqIgnored → Type 0
  LeadsIn asked (Ok led) = Leads asked led
  LeadsIn asked (Err cause) = ⊤

  -- ---- Answers.

  error_leads : (asked : RequestMessage) (code : ℕ) (extended : List ℕ) → Leads asked (error_led h asked code extended)
  error_leads asked code extended =
      tested (Leads asked) (code == LARGE_RESPONSE && may_be_large asked && (connection_terms h).common.chunk) (goes_on Nothing (get_sent h asked (slice_index extended 0) 0 [])) (is_refused code (Refuses asked))
      (λ is. ByLarge (slice_index extended 0) (and_second (code == LARGE_RESPONSE) (may_be_large asked) (and_first (code == LARGE_RESPONSE && may_be_large asked) (connection_terms h).common.chunk is)) refl) (λ is. ByRefusal code refl)

  version_leads : (answer : List ℕ) (entry : Option ℕ) → Leads GetVersion (version_led q h answer entry)
  version_leads answer None = ByStop stop.NoVersion refl refl
  version_leads answer (Some entry) = ByVersion answer refl refl

  offer_leads : (caps theirs : Caps) (answer : List ℕ) (common : Common) (offer : Option OfferMessage) → IsRead q h aim m (GetCapabilities caps) answer (Capabilities theirs) → common_of caps theirs ≡ Ok common → offer_of q.suites common.to_responder.transfer ≡ offer
      → Leads (GetCapabilities caps) (offer_led h (Answers (GetCapabilities caps) answer) common offer)
  offer_leads caps theirs answer common None read is offered = ByStop stop.NoChoice refl refl
  offer_leads caps theirs answer common (Some offer) read is offered =
      tested (Leads (GetCapabilities caps)) (is_too_long common (canonical_request (NegotiateAlgorithms offer))) (stopped stop.TooLong) (goes_on (Answers (GetCapabilities caps) answer) (request_sent common h (NegotiateAlgorithms offer)))
      (λ long. ByStop stop.TooLong refl refl) (λ short. ByCaps caps theirs answer common offer refl read is offered short refl)

  caps_leads : (caps theirs : Caps) (answer : List ℕ) (common : Result Common CapsFault) → IsRead q h aim m (GetCapabilities caps) answer (Capabilities theirs) → common_of caps theirs ≡ common
      → Leads (GetCapabilities caps) (caps_led q h (Answers (GetCapabilities caps) answer) common)
  caps_leads caps theirs answer (Err fault) read is = ByStop (stop.Caps fault) refl refl
  caps_leads caps theirs answer (Ok common) read is = offer_leads caps theirs answer common (offer_of q.suites common.to_responder.transfer) read is refl

  algorithms_leads : (offer : OfferMessage) (answer : List ℕ) (choice : Option Choice) → Leads (NegotiateAlgorithms offer) (algorithms_led (Answers (NegotiateAlgorithms offer) answer) choice)
  algorithms_leads offer answer None = ByStop stop.NoChoice refl refl
  algorithms_leads offer answer (Some choice) = ByChoice offer answer refl refl

  exchange_leads : (exchange : ExchangeMessage) (answer : List ℕ) (rsp : ExchangeRspMessage) → IsRead q h aim m (PskExchange exchange) answer (PskExchangeRsp rsp) → LeadsIn (PskExchange exchange) (exchange_led q h f exchange answer rsp)
  exchange_leads exchange answer rsp read =
      tested (LeadsIn (PskExchange exchange)) (bytes_eq rsp.verify (answer_verify q.psk (with_answer h exchange answer)))
      (Ok (goes_on (Answers (PskExchange exchange) answer) (finish_sent q h exchange.req_id (with_answer h exchange answer) f.pad))) (Err ignored.BadVerify)
      (λ same. ByExchange exchange answer rsp refl read ((bytes_eq-Decides rsp.verify (answer_verify q.psk (with_answer h exchange answer))).0 same) refl) (λ other. tt)

  answer_leads : (place : ℕ) (asked : RequestMessage) (answer : List ℕ) (value : ResponseMessage) → IsRead q h aim m asked answer value → LeadsIn asked (answer_led q h f place asked answer value)
  answer_leads place asked answer (Error version code detail extended) read = error_leads asked code extended
  answer_leads place GetVersion answer (Version entries) read = version_leads answer (first_of_1_2 (version_entries entries))
  answer_leads place (GetCapabilities caps) answer (Capabilities theirs) read = caps_leads caps theirs answer (common_of caps theirs) read refl
  answer_leads place (NegotiateAlgorithms offer) answer (Algorithms reply) read = algorithms_leads offer answer (agreed offer reply)
  answer_leads place (GetMeasurements op) answer (Measurements measured) read = ByMeasured op answer (finished.Measured (measured_number op measured)) refl refl
  answer_leads place (PskExchange exchange) answer (PskExchangeRsp rsp) read = exchange_leads exchange answer rsp read
  answer_leads place asked answer value read = tt

  -- ---- What is carried.

  -- A next message calls for a further chunk of the request, or of its answer.
  abbrev LeadsFrom : RequestMessage → Carried → Type 0
  LeadsFrom asked (Further next) = Leads asked (goes_on Nothing next)
  LeadsFrom asked _ = ⊤

  ack_leads_by : (asked : RequestMessage) (handle number : ℕ) (early : Bool) (response : List ℕ) (cause : Option ReqIgnored) → aim ≡ ByChunks asked handle number
      → LeadsFrom asked (acknowledged h (connection_terms h).common asked (piece_of (connection_terms h).common asked handle number) early response cause)
  ack_leads_by asked handle number early response (Some cause) is = tt
  ack_leads_by asked handle number early response None is =
      either (LeadsFrom asked) early (Refused (unwrap_or (error_in response) 0)) (if piece.last then Whole response 6 else Further (piece_sent common h asked handle (number + 1))) tt
      (tested (LeadsFrom asked) piece.last (Whole response 6) (Further (piece_sent common h asked handle (number + 1))) (λ last. tt) (λ more. BySend handle number is more refl))
    where
      common : Common
      common = (connection_terms h).common

      piece : ChunkMessage
      piece = piece_of (connection_terms h).common asked handle number

  ack_leads : (asked : RequestMessage) (handle number : ℕ) (reading : Result ResponseMessage Malformed) → aim ≡ ByChunks asked handle number
      → LeadsFrom asked (ack_carries h (connection_terms h).common asked (piece_of (connection_terms h).common asked handle number) reading)
  ack_leads asked handle number (Err fault) is = tt
  ack_leads asked handle number (Ok (Error version code detail extended)) is = tt
  ack_leads asked handle number (Ok (ChunkSendAck early its_handle its_number response)) is =
      ack_leads_by asked handle number early response (first_cause (ack_tests (piece_of (connection_terms h).common asked handle number) early its_handle its_number response)) is
  ack_leads asked handle number (Ok _) is = tt

  collected_leads : (asked : RequestMessage) (handle number : ℕ) (before : List ChunkMessage) (c : ChunkMessage) (fault : Option ChunkFault) → aim ≡ ForChunk asked handle number before → get_fault q.max handle number before c ≡ fault
      → LeadsFrom asked (collected h asked before c fault)
  collected_leads asked handle number before c (Some fault) is none = tt
  collected_leads asked handle number before c None is none =
      tested (LeadsFrom asked) c.last (Whole (joined_with before c) 0) (Further (get_sent h asked c.handle (c.number + 1) (c ∷ before))) (λ last. tt) (λ more. ByGet handle number before c is none more refl)

  chunk_leads : (asked : RequestMessage) (handle number : ℕ) (before : List ChunkMessage) (reading : Result ResponseMessage Malformed) → aim ≡ ForChunk asked handle number before
      → LeadsFrom asked (chunk_carries q h asked handle number before reading)
  chunk_leads asked handle number before (Err fault) is = tt
  chunk_leads asked handle number before (Ok (Error version code detail extended)) is = tt
  chunk_leads asked handle number before (Ok (ChunkResponse c)) is = collected_leads asked handle number before c (get_fault q.max handle number before c) is refl
  chunk_leads asked handle number before (Ok _) is = tt

  read_leads : (place : ℕ) (asked : RequestMessage) (answer : List ℕ) (reading : Result ResponseMessage Malformed) → carried_by q h m aim ≡ Whole answer place → reading_of h asked answer ≡ reading
      → LeadsIn asked (read_led q h f place asked answer reading)
  read_leads place asked answer (Err fault) whole reads = tt
  read_leads place asked answer (Ok value) whole reads = answer_leads place asked answer value (record { place = place; whole = whole; reads = reads })

  carried_leads : (asked : RequestMessage) (carried : Carried) → carried_by q h m aim ≡ carried → LeadsFrom asked carried → LeadsIn asked (carried_led q h f asked carried)
  carried_leads asked (Ignored cause) is further = tt
  carried_leads asked (Refused code) is further = ByRefusal code refl
  carried_leads asked (Further next) is further = further
  carried_leads asked (Whole answer place) is further = read_leads place asked answer (reading_of h asked answer) is refl

further_by : (q : ReqSetup) (h : History) (f : Free) (aim : Aim) (m : List ℕ) (asked : RequestMessage) → asked_in aim ≡ Some asked → LeadsFrom q h f aim m asked (carried_by q h m aim)
unfolding carried_by
further_by q h f (Plain request) m asked is = tt
further_by q h f (ByChunks request handle number) m asked is =
    (let same : request ≡ asked = cc is in
    subst (λ (x : RequestMessage). LeadsFrom q h f (ByChunks request handle number) m x (ack_carries h (connection_terms h).common request (piece_of (connection_terms h).common request handle number) (reading_of h request m))) same
    (ack_leads q h f (ByChunks request handle number) m request handle number (reading_of h request m) refl))
further_by q h f (ForChunk request handle number before) m asked is =
    (let same : request ≡ asked = cc is in
    subst (λ (x : RequestMessage). LeadsFrom q h f (ForChunk request handle number before) m x (chunk_carries q h request handle number before (reading_of h request m))) same
    (chunk_leads q h f (ForChunk request handle number before) m request handle number before (reading_of h request m) refl))
further_by q h f (InSession id ask) m asked is = tt

in_result : (q : ReqSetup) (h : History) (f : Free) (aim : Aim) (m : List ℕ) (asked : RequestMessage) (result : Result Led ReqIgnored) (led : Led) → result ≡ Ok led → LeadsIn q h f aim m asked result → ClearLeads q h f aim m asked led
in_result q h f aim m asked result led is leads = subst (LeadsIn q h f aim m asked) is leads

pub clear_leads : (q : ReqSetup) (h : History) (f : Free) (aim : Aim) (m : List ℕ) (asked : RequestMessage) (led : Led) → asked_in aim ≡ Some asked → clear_led q h f aim asked m ≡ Ok led → ClearLeads q h f aim m asked led
unfolding clear_led
clear_leads q h f aim m asked led asks is =
    in_result q h f aim m asked (carried_led q h f asked (carried_by q h m aim)) led is (carried_leads q h f aim m asked (carried_by q h m aim) refl (further_by q h f aim m asked asks))

-- ---- The answer to PSK_EXCHANGE.

pub record IsExchanged (q : ReqSetup) (h : History) (f : Free) (aim : Aim) (m : List ℕ) (asked : RequestMessage) (led : Led) (exchange : ExchangeMessage) (answer : List ℕ) : Type 0 where
  pub asks : asked ≡ PskExchange exchange
  pub rsp : ExchangeRspMessage
  pub read : IsRead q h aim m (PskExchange exchange) answer (PskExchangeRsp rsp)
  pub right : rsp.verify ≡ answer_verify q.psk (with_answer h exchange answer)
  pub is : led ≡ goes_on (Answers (PskExchange exchange) answer) (finish_sent q h exchange.req_id (with_answer h exchange answer) f.pad)

-- What a clear message leads to answers PSK_EXCHANGE only so.
pub exchanged : (q : ReqSetup) (h : History) (f : Free) (aim : Aim) (m : List ℕ) (asked : RequestMessage) (led : Led) (exchange : ExchangeMessage) (answer : List ℕ)
    → ClearLeads q h f aim m asked led → led.effect ≡ Answers (PskExchange exchange) answer → IsExchanged q h f aim m asked led exchange answer
exchanged q h f aim m asked led exchange answer (ByRefusal code is) brings = absurd (cc (ap (λ (l : Led). l.effect) is))
exchanged q h f aim m asked led exchange answer (ByLarge handle may is) brings = absurd (cc (ap (λ (l : Led). l.effect) is))
exchanged q h f aim m asked led exchange answer (BySend handle number aims more is) brings = absurd (cc (ap (λ (l : Led). l.effect) is))
exchanged q h f aim m asked led exchange answer (ByGet handle number before c aims none more is) brings = absurd (cc (ap (λ (l : Led). l.effect) is))
exchanged q h f aim m asked led exchange answer (ByStop why was is) brings = absurd (cc (ap (λ (l : Led). l.effect) is))
exchanged q h f aim m asked led exchange answer (ByVersion its was is) brings = absurd (cc (ap (λ (l : Led). l.effect) is))
exchanged q h f aim m asked led exchange answer (ByCaps caps theirs its common offer was read common_is offered short is) brings = absurd (cc (ap (λ (l : Led). l.effect) is))
exchanged q h f aim m asked led exchange answer (ByChoice offer its was is) brings = absurd (cc (ap (λ (l : Led). l.effect) is))
exchanged q h f aim m asked led exchange answer (ByMeasured op its finish was is) brings = absurd (cc (ap (λ (l : Led). l.effect) is))
exchanged q h f aim m asked led exchange answer (ByExchange own its rsp was read right is) brings =
    let same : Answers (PskExchange own) its ≡ Answers (PskExchange exchange) answer = sym (ap (λ (l : Led). l.effect) is) ∙ brings in
    let own_is : own ≡ exchange = cc same in
    let its_is : its ≡ answer = cc same in
    subst (λ (x : ExchangeMessage). IsExchanged q h f aim m asked led x answer) own_is
    (subst (λ (x : List ℕ). IsExchanged q h f aim m asked led own x) its_is
    (record { asks = was; rsp = rsp; read = read; right = right; is = is }))
