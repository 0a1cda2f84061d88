-- What a requester tells of a body is whether it brought application data, or a measurement record.
use Rattle.std.proofs.Common.{refl, ◌≡◌, ℕ, List, [], Bool, true, false, Option, Some, None, ap, sym, subst, inl, inr}
use Rattle.std.specs.Prelude.{⊤, ◌==◌, ◌&&◌, not, if◌then◌else◌, is_some, slice_index, bytes_eq, Result, Ok, Err}
use Rattle.chunking.specs.Collecting.{joined_with}
use Rattle.script_ends.specs.Told.{is_answered}
use Rattle.negotiate.specs.Capabilities.{common_of}
use Rattle.negotiate.specs.Choosing.{agreed}
use Rattle.negotiate.specs.Offer.{offer_of}
use Rattle.negotiate.specs.Versions.{version_entries, first_of_1_2}
use Rattle.negotiate.specs.declared.shared.Common.{Common}
use Rattle.spdm_grammar.specs.Message.{RequestMessage, ResponseMessage, ChunkMessage, OfferMessage, ExchangeMessage, ExchangeRspMessage, MeasuredMessage}
use Rattle.spdm_grammar.specs.Message.RequestMessage.{GetVersion, GetCapabilities, NegotiateAlgorithms, GetMeasurements, PskExchange}
use Rattle.spdm_grammar.specs.Message.ResponseMessage.{Version, Capabilities, Algorithms, Measurements, PskExchangeRsp, PskFinishRsp, HeartbeatAck, KeyUpdateAck, EndSessionAck, ChunkResponse, Error}
use Rattle.spdm_grammar.specs.Requests.{canonical_request}
use Rattle.spdm_grammar.specs.declared.messages.capabilities.Caps.{Caps}
use Rattle.spdm_grammar.specs.declared.messages.choice.Choice.{Choice}
use Rattle.spdm_grammar.specs.declared.told.event.BadReply.{BadReply}
use Rattle.spdm_grammar.specs.declared.told.event.Event.{Event}
use Rattle.spdm_grammar.specs.declared.told.event.Event.TheVariants as event
use Rattle.spdm_grammar.specs.declared.told.event.Finished.TheVariants as finished
use Rattle.spdm_grammar.specs.declared.told.event.ReqIgnored.{ReqIgnored}
use Rattle.spdm_grammar.specs.declared.messages.malformed.Malformed.{Malformed}
use Rattle.spdm_grammar.specs.declared.messages.part_faults.CapsFault.{CapsFault}
use Rattle.spdm_grammar.specs.declared.names.error_number.TheConstants.{LARGE_RESPONSE}
use Rattle.spdm_grammar.specs.declared.messages.part_faults.ChunkFault.{ChunkFault}
use Rattle.spdm_machine.specs.Keys.{Draw}
use Rattle.spdm_machine.specs.Terms.{hash_len}
use Rattle.requester_machine.proofs.ClearLeads.{either}
use Rattle.requester_machine.proofs.Heard.{heard}
use Rattle.requester_machine.proofs.ResponseLengths.{measured_value}
use Rattle.requester_machine.specs.Answers.{goes_on, is_refused, stopped, error_led, version_led, offer_led, caps_led, algorithms_led, exchange_led, answer_led, answer_verify, with_answer, may_be_large, measured_led}
use Rattle.requester_machine.specs.Asking.Outcome.{Adds}
use Rattle.requester_machine.specs.ClearAnswers.{Carried, carried_by, carried_led, clear_led, get_fault}
use Rattle.requester_machine.specs.ClearAnswers as clear
use Rattle.requester_machine.specs.ClearAnswers.Carried.{Ignored, Refused, Further, Whole}
use Rattle.requester_machine.specs.Commands.{Free, has_reached}
use Rattle.requester_machine.specs.Hearing.{came_to, hears}
use Rattle.requester_machine.specs.History.{Entry, History, Led, connection_terms}
use Rattle.requester_machine.specs.History.Effect.{Answers, Grants, Nothing, Refuses}
use Rattle.requester_machine.specs.History.Entry.{Told, TookClear, TookRecord}
use Rattle.requester_machine.specs.InnerMessages.{Came}
use Rattle.requester_machine.specs.InnerMessages as inner
use Rattle.requester_machine.specs.Message.{Aim, Ask}
use Rattle.requester_machine.specs.Message.Ask.{AskBeat, AskChunk, AskData, AskEnd, AskFinish, AskMeasure, AskUpdate, AskVerify}
use Rattle.requester_machine.specs.Sending.{finish_sent, get_sent, is_too_long, operation_of, request_sent}
use Rattle.requester_machine.specs.Session.{session_terms}
use Rattle.requester_machine.specs.Setup.{ReqSetup}
use Rattle.requester_machine.specs.Shown.{blocks_in, blocks_of, bytes_in}

abbrev pub is_measured : Event → Bool
is_measured (event.Done (finished.Measured number)) = true
is_measured _ = false

-- It is told exactly when data came, and where a record did.
pub record Agrees (led : Led) : Type 0 where
  pub bytes : is_some (bytes_in led.effect) ≡ is_answered led.event
  pub blocks : is_some (blocks_in led.effect) ≡ is_measured led.event

-- ---- In the clear.

abbrev ClearIn : Result Led ReqIgnored → Type 0
ClearIn (Ok led) = Agrees led
ClearIn (Err cause) = ⊤

module _ (q : ReqSetup) (h : History) (f : Free) where
  clear_error : (asked : RequestMessage) (code : ℕ) (extended : List ℕ) → Agrees (error_led h asked code extended)
  clear_error asked code extended =
      either Agrees (code == LARGE_RESPONSE && may_be_large asked && (connection_terms h).common.chunk) (goes_on Nothing (get_sent h asked (slice_index extended 0) 0 [])) (is_refused code (Refuses asked))
      (record { bytes = refl; blocks = refl }) (record { bytes = refl; blocks = refl })

  clear_version : (answer : List ℕ) (entry : Option ℕ) → Agrees (version_led q h answer entry)
  clear_version answer None = record { bytes = refl; blocks = refl }
  clear_version answer (Some entry) = record { bytes = refl; blocks = refl }

  clear_offer : (request : RequestMessage) (answer : List ℕ) (common : Common) (offer : Option OfferMessage) → bytes_in (Answers request answer) ≡ None → blocks_in (Answers request answer) ≡ None → Agrees (offer_led h (Answers request answer) common offer)
  clear_offer request answer common None a b = record { bytes = refl; blocks = refl }
  clear_offer request answer common (Some offer) a b =
      either Agrees (is_too_long common (canonical_request (NegotiateAlgorithms offer))) (stopped _) (goes_on (Answers request answer) (request_sent common h (NegotiateAlgorithms offer)))
      (record { bytes = refl; blocks = refl }) (record { bytes = ap is_some a; blocks = ap is_some b })

  clear_caps : (caps : Caps) (answer : List ℕ) (common : Result Common CapsFault) → Agrees (caps_led q h (Answers (GetCapabilities caps) answer) common)
  clear_caps caps answer (Err fault) = record { bytes = refl; blocks = refl }
  clear_caps caps answer (Ok common) = clear_offer (GetCapabilities caps) answer common (offer_of q.suites common.to_responder.transfer) refl refl

  clear_algorithms : (offer : OfferMessage) (answer : List ℕ) (choice : Option Choice) → Agrees (algorithms_led (Answers (NegotiateAlgorithms offer) answer) choice)
  clear_algorithms offer answer None = record { bytes = refl; blocks = refl }
  clear_algorithms offer answer (Some choice) = record { bytes = refl; blocks = refl }

  clear_exchange : (exchange : ExchangeMessage) (answer : List ℕ) (rsp : ExchangeRspMessage) → ClearIn (exchange_led q h f exchange answer rsp)
  clear_exchange exchange answer rsp =
      either ClearIn (bytes_eq rsp.verify (answer_verify q.psk (with_answer h exchange answer)))
      (Ok (goes_on (Answers (PskExchange exchange) answer) (finish_sent q h exchange.req_id (with_answer h exchange answer) f.pad))) (Err _)
      (record { bytes = refl; blocks = refl }) tt

  clear_answer : (place : ℕ) (asked : RequestMessage) (answer : List ℕ) (value : ResponseMessage) → clear.reading_of h asked answer ≡ Ok value → ClearIn (answer_led q h f place asked answer value)
  clear_answer place asked answer (Error version code detail extended) reads = clear_error asked code extended
  clear_answer place GetVersion answer (Version entries) reads = clear_version answer (first_of_1_2 (version_entries entries))
  clear_answer place (GetCapabilities caps) answer (Capabilities theirs) reads = clear_caps caps answer (common_of caps theirs)
  clear_answer place (NegotiateAlgorithms offer) answer (Algorithms reply) reads = clear_algorithms offer answer (agreed offer reply)
  clear_answer place (GetMeasurements op) answer (Measurements measured) reads = record {
    bytes = refl;
    blocks = ap (λ (v : Option ResponseMessage). is_some (blocks_of v)) (measured_value (hash_len (connection_terms h)) answer measured reads);
  }
  clear_answer place (PskExchange exchange) answer (PskExchangeRsp rsp) reads = clear_exchange exchange answer rsp
  clear_answer place asked answer value reads = tt

  clear_read : (place : ℕ) (asked : RequestMessage) (answer : List ℕ) (reading : Result ResponseMessage Malformed) → clear.reading_of h asked answer ≡ reading → ClearIn (clear.read_led q h f place asked answer reading)
  clear_read place asked answer (Err fault) reads = tt
  clear_read place asked answer (Ok value) reads = clear_answer place asked answer value reads

  clear_carried : (asked : RequestMessage) (carried : Carried) → ClearIn (carried_led q h f asked carried)
  clear_carried asked (Ignored cause) = tt
  clear_carried asked (Refused code) = record { bytes = refl; blocks = refl }
  clear_carried asked (Further next) = record { bytes = refl; blocks = refl }
  clear_carried asked (Whole answer place) = clear_read place asked answer (clear.reading_of h asked answer) refl

  in_clear : (result : Result Led ReqIgnored) (led : Led) → result ≡ Ok led → ClearIn result → Agrees led
  in_clear result led is agrees = subst ClearIn is agrees

  pub clear_agrees : (aim : Aim) (m : List ℕ) (asked : RequestMessage) (led : Led) → clear_led q h f aim asked m ≡ Ok led → Agrees led
  unfolding clear_led
  clear_agrees aim m asked led is = in_clear (carried_led q h f asked (carried_by q h m aim)) led is (clear_carried asked (carried_by q h m aim))

-- ---- In a session.

abbrev RecordIn : Result Led BadReply → Type 0
RecordIn (Ok led) = Agrees led
RecordIn (Err fault) = ⊤

module _ (q : ReqSetup) (h : History) (f : Free) (came : Came) where
  measured_agrees : (op : ℕ) (answer : List ℕ) (measured : MeasuredMessage) → inner.reading_of came answer ≡ Ok (Measurements measured) → Agrees (measured_led op measured (Grants (AskMeasure op) answer))
  measured_agrees op answer measured reads = record {
    bytes = refl;
    blocks = ap (λ (v : Option ResponseMessage). is_some (blocks_of v)) (measured_value (hash_len (session_terms came.steps)) answer measured reads);
  }

  error_agrees : (ask : Ask) (code : ℕ) (extended : List ℕ) → RecordIn (inner.error_led q h f came ask code extended)
  error_agrees ask code extended =
      either RecordIn (inner.follows came ask code) (Ok (inner.first_get q h f came (inner.op_in ask) extended)) (if inner.outlives_error ask then Ok (is_refused code Nothing) else Err _) (record { bytes = refl; blocks = refl })
      (either RecordIn (inner.outlives_error ask) (Ok (is_refused code Nothing)) (Err _) (record { bytes = refl; blocks = refl }) tt)

  update_agrees : (all echo : Bool) → RecordIn (inner.update_led q h f came all echo)
  update_agrees all true = record { bytes = refl; blocks = refl }
  update_agrees all false = tt

  verified_agrees : (echo : Bool) → RecordIn (inner.verified_led came echo)
  verified_agrees true = record { bytes = refl; blocks = refl }
  verified_agrees false = tt

  whole_agrees : (op : ℕ) (whole : List ℕ) (reading : Result ResponseMessage Malformed) → inner.reading_of came whole ≡ reading → RecordIn (inner.whole_led q h f came op whole reading)
  whole_agrees op whole (Err fault) reads = tt
  whole_agrees op whole (Ok (Error version code detail extended)) reads =
      either Agrees (code == LARGE_RESPONSE && not (has_reached 65300 came.steps)) (inner.first_get q h f came op extended) (is_refused code Nothing) (record { bytes = refl; blocks = refl }) (record { bytes = refl; blocks = refl })
  whole_agrees op whole (Ok (Measurements measured)) reads = measured_agrees op whole measured reads
  whole_agrees op whole (Ok _) reads = tt

  chunk_agrees : (op : ℕ) (before : List ChunkMessage) (c : ChunkMessage) (fault : Option ChunkFault) → RecordIn (inner.chunk_led q h f came op before c fault)
  chunk_agrees op before c (Some fault) = tt
  chunk_agrees op before c None =
      either RecordIn c.last (inner.whole_led q h f came op (joined_with before c) (inner.reading_of came (joined_with before c))) (Ok _)
      (whole_agrees op (joined_with before c) (inner.reading_of came (joined_with before c)) refl) (record { bytes = refl; blocks = refl })

  message_agrees : (ask : Ask) (value : ResponseMessage) → inner.reading_of came (inner.message_in came) ≡ Ok value → RecordIn (inner.message_led q h f came ask value)
  message_agrees ask (Error version code detail extended) reads = error_agrees ask code extended
  message_agrees AskFinish PskFinishRsp reads = record { bytes = refl; blocks = refl }
  message_agrees AskBeat HeartbeatAck reads = record { bytes = refl; blocks = refl }
  message_agrees (AskUpdate all) (KeyUpdateAck op tag) reads = update_agrees all (inner.echoes came (operation_of all) op tag)
  message_agrees AskVerify (KeyUpdateAck op tag) reads = verified_agrees (inner.echoes came 3 op tag)
  message_agrees (AskMeasure op) (Measurements measured) reads = measured_agrees op (inner.message_in came) measured reads
  message_agrees AskEnd EndSessionAck reads = record { bytes = refl; blocks = refl }
  message_agrees (AskChunk op handle number before) (ChunkResponse c) reads = chunk_agrees op before c (get_fault q.max handle number before c)
  message_agrees ask value reads = tt

  read_agrees : (ask : Ask) (reading : Result ResponseMessage Malformed) → inner.reading_of came (inner.message_in came) ≡ reading → RecordIn (inner.read_led q h f came ask reading)
  read_agrees ask (Err fault) reads = tt
  read_agrees ask (Ok value) reads = message_agrees ask value reads

  own_agrees : (ask : Ask) → RecordIn (inner.data_led came ask)
  own_agrees AskData = record { bytes = refl; blocks = refl }
  own_agrees _ = tt

  inner_agrees : (ask : Ask) (fault : Option BadReply) → RecordIn (inner.inner_led_by q h f came ask fault)
  inner_agrees ask (Some fault) = tt
  inner_agrees ask None = either RecordIn (slice_index came.inner 0 == 5) (inner.read_led q h f came ask (inner.reading_of came (inner.message_in came))) (inner.data_led came ask) (read_agrees ask (inner.reading_of came (inner.message_in came)) refl) (own_agrees ask)

  lost_agrees : (result : Result Led BadReply) → RecordIn result → Agrees (inner.or_lost came result)
  lost_agrees (Ok led) agrees = agrees
  lost_agrees (Err fault) agrees = record { bytes = refl; blocks = refl }

  pub record_agrees : (ask : Ask) → Agrees (inner.or_lost came (inner.inner_led q h f came ask))
  unfolding inner.inner_led
  record_agrees ask = lost_agrees (inner.inner_led_by q h f came ask (inner.inner_fault q came.inner)) (inner_agrees ask (inner.inner_fault q came.inner))

-- ---- An entry.

abbrev pub EntryAgrees : Entry → Type 0
EntryAgrees (Told command sent d) = ⊤
EntryAgrees (TookClear tag m led d) = Agrees led
EntryAgrees (TookRecord tag id sealed inner led d) = Agrees led

pub entry_agrees : (q : ReqSetup) (h : History) (owner : Bool) (tag : ℕ) (body : List ℕ) (f : Free) (d : Draw) (entry : Entry) → hears q h owner tag body f d ≡ Adds entry → EntryAgrees entry
entry_agrees q h owner tag body f d entry is = elim (heard q h owner tag body f d entry is) [
  | inl t ↦ subst EntryAgrees (sym t.is) (clear_agrees q h f t.sent.aim _ t.asked t.led t.leads)
  | inr o ↦ subst EntryAgrees (sym o.1.is) (record_agrees q h f (came_to q h o.1.id o.1.ask _) o.1.ask)
]
