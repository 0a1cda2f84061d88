-- The data or the measurement record that a requester took last are no longer than a message.
use Rattle.std.proofs.Common.{refl, ◌≡◌, ◌≤◌, ◌∷◌, ℕ, List, [], Bool, true, false, Option, Some, None, ap, subst, arith, length, inl, inr}
use Rattle.std.specs.Prelude.{⊤, ◌==◌, ◌&&◌, slice_index, unwrap_or, Result, Ok, Err}
use Rattle.std.proofs.lemmas.Bool.{ltb-false}
use Rattle.requester_core.proofs.Brought.{Short, brings, brought_short, joined_short, no_data, some_data}
use Rattle.chunking.specs.Collecting.{joined_with, told_size}
use Rattle.negotiate.specs.Capabilities.{common_of}
use Rattle.negotiate.specs.Choosing.{agreed}
use Rattle.negotiate.specs.Offer.{offer_of}
use Rattle.negotiate.specs.Versions.{version_entries, first_of_1_2}
use Rattle.negotiate.specs.declared.shared.Common.{Common}
use Rattle.requester_machine.proofs.ClearLeads.{either}
use Rattle.requester_machine.proofs.Heard.{heard, test_is_false}
use Rattle.requester_machine.proofs.HoldsMade.{made_holds}
use Rattle.requester_machine.proofs.ResponseLengths.{ack_short, measured_short, measured_value}
use Rattle.requester_machine.specs.Answers.{goes_on, is_refused, stopped, error_led, version_led, offer_led, caps_led, algorithms_led, exchange_led, answer_led, with_answer, may_be_large}
use Rattle.requester_machine.specs.Asking.Outcome.{Adds}
use Rattle.requester_machine.specs.Bodies.{body_fault}
use Rattle.requester_machine.specs.ClearAnswers.{Carried, ack_carries, ack_tests, acknowledged, carried_by, carried_led, chunk_carries, clear_led, collected, get_fault, has_summary, read_led, reading_of}
use Rattle.requester_machine.specs.ClearAnswers.Carried.{Ignored, Refused, Further, Whole}
use Rattle.requester_machine.specs.Bodies.{first_cause}
use Rattle.requester_machine.specs.Commands.{Free}
use Rattle.requester_machine.specs.Does.{IsMade, body_chosen}
use Rattle.requester_machine.specs.Hearing.{hears, hears_by}
use Rattle.requester_machine.specs.History.{Entry, History, Led, connection_terms, outstanding}
use Rattle.requester_machine.specs.History.Effect.{Answers, Nothing, Refuses}
use Rattle.requester_machine.specs.History.Entry.{Told, TookClear, TookRecord}
use Rattle.requester_machine.specs.Holds.{Holds, Waits}
use Rattle.requester_machine.specs.Message.{Aim, Content, Sent}
use Rattle.requester_machine.specs.Message.Aim.{Plain, ByChunks, ForChunk, InSession}
use Rattle.requester_machine.specs.Sending.{finish_sent, get_sent, is_too_long, piece_of, request_sent}
use Rattle.requester_machine.specs.Setup.{ReqSetup}
use Rattle.requester_machine.specs.Shown.{blocks_of, last_data}
use Rattle.requester_machine.specs.UnderWay.{HasSizes, IsOutstanding}
use Rattle.spdm_grammar.specs.Message.{RequestMessage, ResponseMessage, ChunkMessage, OfferMessage, ExchangeMessage, ExchangeRspMessage}
use Rattle.spdm_grammar.specs.Message.RequestMessage.{GetVersion, GetCapabilities, NegotiateAlgorithms, GetMeasurements, PskExchange}
use Rattle.spdm_grammar.specs.Message.ResponseMessage.{Version, Capabilities, Algorithms, Measurements, PskExchangeRsp, ChunkSendAck, ChunkResponse, Error}
use Rattle.spdm_grammar.specs.Requests.{canonical_request}
use Rattle.spdm_grammar.specs.declared.messages.capabilities.Caps.{Caps}
use Rattle.spdm_grammar.specs.declared.messages.choice.Choice.{Choice}
use Rattle.spdm_grammar.specs.declared.told.event.ReqIgnored.{ReqIgnored}
use Rattle.spdm_grammar.specs.declared.messages.malformed.Malformed.{Malformed}
use Rattle.spdm_grammar.specs.declared.names.TheConstants.{MAX_MESSAGE_SIZE}
use Rattle.spdm_grammar.specs.declared.names.error_number.TheConstants.{LARGE_RESPONSE}
use Rattle.spdm_grammar.specs.declared.messages.part_faults.CapsFault.{CapsFault}
use Rattle.spdm_grammar.specs.declared.messages.part_faults.ChunkFault.{ChunkFault}
use Rattle.spdm_machine.specs.Bodies.{clear_body}
use Rattle.spdm_machine.specs.Keys.{Draw}
use Rattle.spdm_machine.specs.Terms.{hash_len}

-- ---- What a message carries.

abbrev CarriesShort : Carried → Type 0
CarriesShort (Ignored cause) = ⊤
CarriesShort (Refused code) = ⊤
CarriesShort (Further next) = ⊤
CarriesShort (Whole answer place) = length answer ≤ MAX_MESSAGE_SIZE

module _ (q : ReqSetup) (h : History) where
  acknowledges : (common : Common) (asked : RequestMessage) (piece : ChunkMessage) (early : Bool) (response : List ℕ) (cause : Option ReqIgnored) → length response ≤ MAX_MESSAGE_SIZE
      → CarriesShort (acknowledged h common asked piece early response cause)
  acknowledges common asked piece early response (Some cause) short = tt
  acknowledges common asked piece early response None short = either CarriesShort early _ _ tt (either CarriesShort piece.last (Whole response 6) _ short tt)

  ack_carried : (common : Common) (asked : RequestMessage) (piece : ChunkMessage) (m : List ℕ) (reading : Result ResponseMessage Malformed) → length m ≤ MAX_MESSAGE_SIZE → reading_of h asked m ≡ reading
      → CarriesShort (ack_carries h common asked piece reading)
  ack_carried common asked piece m (Err fault) short reads = tt
  ack_carried common asked piece m (Ok (Error version code detail extended)) short reads = tt
  ack_carried common asked piece m (Ok (ChunkSendAck early handle number response)) short reads =
      let within = ack_short (hash_len (connection_terms h)) (has_summary asked) m early handle number response reads in
      acknowledges common asked piece early response (first_cause (ack_tests piece early handle number response)) (omega (arith, within, short))
  ack_carried common asked piece m (Ok _) short reads = tt

  collects : (asked : RequestMessage) (handle number : ℕ) (before : List ChunkMessage) (c : ChunkMessage) (fault : Option ChunkFault) → told_size before ≤ MAX_MESSAGE_SIZE → get_fault q.max handle number before c ≡ fault
      → CarriesShort (collected h asked before c fault)
  collects asked handle number before c (Some fault) told is = tt
  collects asked handle number before c None told is = either CarriesShort c.last (Whole (joined_with before c) 0) _ (joined_short q.max handle number before c told is) tt

  chunk_carried : (asked : RequestMessage) (handle number : ℕ) (before : List ChunkMessage) (reading : Result ResponseMessage Malformed) → told_size before ≤ MAX_MESSAGE_SIZE
      → CarriesShort (chunk_carries q h asked handle number before reading)
  chunk_carried asked handle number before (Err fault) told = tt
  chunk_carried asked handle number before (Ok (Error version code detail extended)) told = tt
  chunk_carried asked handle number before (Ok (ChunkResponse c)) told = collects asked handle number before c (get_fault q.max handle number before c) told refl
  chunk_carried asked handle number before (Ok _) told = tt

  carried_short : (m : List ℕ) (content : Content) (aim : Aim) → length m ≤ MAX_MESSAGE_SIZE → IsOutstanding q h content aim → CarriesShort (carried_by q h m aim)
  unfolding carried_by
  carried_short m content (Plain asked) short waits = short
  carried_short m content (ByChunks asked handle number) short waits =
      ack_carried (connection_terms h).common asked (piece_of (connection_terms h).common asked handle number) m (reading_of h asked m) short refl
  carried_short m content (ForChunk asked handle number before) short waits = chunk_carried asked handle number before (reading_of h asked m) waits.3.told
  carried_short m content (InSession id ask) short waits = tt

-- ---- What a message leads to.

abbrev ShortIn : Result Led ReqIgnored → Type 0
ShortIn (Ok led) = Short led
ShortIn (Err cause) = ⊤

module _ (q : ReqSetup) (h : History) (f : Free) where
  of_error : (asked : RequestMessage) (code : ℕ) (extended : List ℕ) → Short (error_led h asked code extended)
  of_error asked code extended =
      either Short (code == LARGE_RESPONSE && may_be_large asked && (connection_terms h).common.chunk) (goes_on Nothing (get_sent h asked (slice_index extended 0) 0 [])) (is_refused code (Refuses asked))
      (no_data _ refl) (no_data _ refl)

  of_version : (answer : List ℕ) (entry : Option ℕ) → Short (version_led q h answer entry)
  of_version answer None = no_data _ refl
  of_version answer (Some entry) = no_data _ refl

  of_offer : (request : RequestMessage) (answer : List ℕ) (common : Common) (offer : Option OfferMessage) → brings (Answers request answer) ≡ None → Short (offer_led h (Answers request answer) common offer)
  of_offer request answer common None none = no_data _ refl
  of_offer request answer common (Some offer) none =
      either Short (is_too_long common (canonical_request (NegotiateAlgorithms offer))) (stopped _) (goes_on (Answers request answer) (request_sent common h (NegotiateAlgorithms offer)))
      (no_data _ refl) (no_data _ none)

  of_caps : (caps : Caps) (answer : List ℕ) (common : Result Common CapsFault) → Short (caps_led q h (Answers (GetCapabilities caps) answer) common)
  of_caps caps answer (Err fault) = no_data _ refl
  of_caps caps answer (Ok common) = of_offer (GetCapabilities caps) answer common (offer_of q.suites common.to_responder.transfer) refl

  of_algorithms : (offer : OfferMessage) (answer : List ℕ) (choice : Option Choice) → Short (algorithms_led (Answers (NegotiateAlgorithms offer) answer) choice)
  of_algorithms offer answer None = no_data _ refl
  of_algorithms offer answer (Some choice) = no_data _ refl

  of_exchange : (exchange : ExchangeMessage) (answer : List ℕ) (rsp : ExchangeRspMessage) → ShortIn (exchange_led q h f exchange answer rsp)
  of_exchange exchange answer rsp = either ShortIn _ (Ok (goes_on (Answers (PskExchange exchange) answer) (finish_sent q h exchange.req_id (with_answer h exchange answer) f.pad))) (Err _) (no_data _ refl) tt

  of_answer : (place : ℕ) (asked : RequestMessage) (answer : List ℕ) (value : ResponseMessage) → length answer ≤ MAX_MESSAGE_SIZE → reading_of h asked answer ≡ Ok value → ShortIn (answer_led q h f place asked answer value)
  of_answer place asked answer (Error version code detail extended) short reads = of_error asked code extended
  of_answer place GetVersion answer (Version entries) short reads = of_version answer (first_of_1_2 (version_entries entries))
  of_answer place (GetCapabilities caps) answer (Capabilities theirs) short reads = of_caps caps answer (common_of caps theirs)
  of_answer place (NegotiateAlgorithms offer) answer (Algorithms reply) short reads = of_algorithms offer answer (agreed offer reply)
  of_answer place (GetMeasurements op) answer (Measurements measured) short reads =
      let fits = measured_short (hash_len (connection_terms h)) answer measured reads in
      some_data _ measured.block_bytes (ap blocks_of (measured_value (hash_len (connection_terms h)) answer measured reads)) (omega (arith, fits, short))
  of_answer place (PskExchange exchange) answer (PskExchangeRsp rsp) short reads = of_exchange exchange answer rsp
  of_answer place asked answer value short reads = tt

  of_reading : (place : ℕ) (asked : RequestMessage) (answer : List ℕ) (reading : Result ResponseMessage Malformed) → length answer ≤ MAX_MESSAGE_SIZE → reading_of h asked answer ≡ reading → ShortIn (read_led q h f place asked answer reading)
  of_reading place asked answer (Err fault) short reads = tt
  of_reading place asked answer (Ok value) short reads = of_answer place asked answer value short reads

  of_carried : (asked : RequestMessage) (carried : Carried) → CarriesShort carried → ShortIn (carried_led q h f asked carried)
  of_carried asked (Ignored cause) short = tt
  of_carried asked (Refused code) short = no_data _ refl
  of_carried asked (Further next) short = no_data _ refl
  of_carried asked (Whole answer place) short = of_reading place asked answer (reading_of h asked answer) short refl

  of_led : (result : Result Led ReqIgnored) (led : Led) → result ≡ Ok led → ShortIn result → Short led
  of_led result led is short = subst ShortIn is short

  of_clear : (m : List ℕ) (content : Content) (aim : Aim) (asked : RequestMessage) (led : Led) → length m ≤ MAX_MESSAGE_SIZE → IsOutstanding q h content aim → clear_led q h f aim asked m ≡ Ok led → Short led
  unfolding clear_led
  of_clear m content aim asked led short waits is =
      of_led (carried_led q h f asked (carried_by q h m aim)) led is (of_carried asked (carried_by q h m aim) (carried_short q h m content aim short waits))

-- ---- A body that was taken.

no_fault_by : (q : ReqSetup) (h : History) (f : Free) (tag : ℕ) (body : List ℕ) (d : Draw) (waiting : Option Sent) (cause : Option ReqIgnored) (entry : Entry) → hears_by q h f tag body d waiting cause ≡ Adds entry → cause ≡ None
no_fault_by q h f tag body d waiting (Some cause) entry is = absurd (cc is)
no_fault_by q h f tag body d waiting None entry is = refl

no_fault : (q : ReqSetup) (h : History) (owner : Bool) (tag : ℕ) (body : List ℕ) (f : Free) (d : Draw) (entry : Entry) → hears q h owner tag body f d ≡ Adds entry → body_fault q (outstanding h) owner tag body ≡ None
unfolding hears
no_fault q h owner tag body f d entry is = no_fault_by q h f tag body d (outstanding h) (body_fault q (outstanding h) owner tag body) entry is

second_off : (b : Bool) → (true && b) ≡ false → b ≡ false
second_off b off = off

clear_came : (q : ReqSetup) (h : History) (owner : Bool) (tag own : ℕ) (m : List ℕ) (f : Free) (d e : Draw) (led : Led) → HasSizes q → Holds q h → hears q h owner tag (clear_body m) f d ≡ Adds (TookClear own m led e) → Short led
clear_came q h owner tag own m f d e led sizes holds is =
    let none = no_fault q h owner tag (clear_body m) f d (TookClear own m led e) is in
    let within = ltb-false q.transfer (length m) (second_off _ (test_is_false q (outstanding h) owner tag (clear_body m) none 5)) in
    let short : length m ≤ MAX_MESSAGE_SIZE = omega (arith, within, sizes.transfer) in
    elim (heard q h owner tag (clear_body m) f d (TookClear own m led e) is) [
      | inl t ↦
          let same : t.led ≡ led = cc (t.is) in
          subst Short same (of_clear q h f m t.sent.content t.sent.aim t.asked t.led short (subst (Waits q h) t.waits holds.waits) t.leads)
      | inr o ↦ absurd (cc (o.0))
    ]

-- ---- The last.

or_older : (came : Option (List ℕ)) (older : List ℕ) → length older ≤ MAX_MESSAGE_SIZE → ((bytes : List ℕ) → came ≡ Some bytes → length bytes ≤ MAX_MESSAGE_SIZE) → length (unwrap_or came older) ≤ MAX_MESSAGE_SIZE
or_older None older short new = short
or_older (Some bytes) older short new = new bytes refl

pub last_short : (q : ReqSetup) (h : History) → HasSizes q → IsMade q h → length (last_data h) ≤ MAX_MESSAGE_SIZE
last_short q [] sizes made = omega arith
last_short q (Told command sent d ∷ older) sizes made = last_short q older sizes made.1
last_short q (TookClear tag m led d ∷ older) sizes made =
    or_older (brings led.effect) (last_data older) (last_short q older sizes made.1)
    (clear_came q older false tag tag m (body_chosen q older d) d d led sizes (made_holds q older made.1) made.0).are
last_short q (TookRecord tag id sealed inner led d ∷ older) sizes made =
    or_older (brings led.effect) (last_data older) (last_short q older sizes made.1)
    (λ bytes is. brought_short q older false tag (6 ∷ sealed) (body_chosen q older d) d (TookRecord tag id sealed inner led d) bytes sizes (made_holds q older made.1) made.0 refl is)
