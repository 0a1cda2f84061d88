-- What is told of a body that was taken says whether a further message is sent: with Progress one is, and with what ends a
-- request none is.
use Rattle.std.proofs.Common.{refl, ◌≡◌, ℕ, List, [], Bool, true, false, Option, Some, None, sym, subst, inl, inr}
use Rattle.std.specs.Prelude.{⊤, ◌==◌, ◌&&◌, not, if◌then◌else◌, is_some, slice_index, bytes_eq, Result, Ok, Err}
use Rattle.chunking.specs.Collecting.{joined_with}
use Rattle.negotiate.specs.Capabilities.{common_of}
use Rattle.negotiate.specs.Choosing.{agreed}
use Rattle.negotiate.specs.Offer.{offer_of}
use Rattle.negotiate.specs.Versions.{version_entries, first_of_1_2}
use Rattle.negotiate.specs.declared.shared.Common.{Common}
use Rattle.requester_machine.proofs.ClearLeads.{either}
use Rattle.requester_machine.proofs.Heard.{heard}
use Rattle.requester_machine.specs.Answers.{algorithms_led, answer_led, answer_verify, caps_led, error_led, exchange_led, goes_on, is_refused, may_be_large, offer_led, stopped, version_led, with_answer}
use Rattle.requester_machine.specs.Asking.Outcome.{Adds}
use Rattle.requester_machine.specs.ClearAnswers.{Carried, carried_by, carried_led, clear_led, get_fault}
use Rattle.requester_machine.specs.ClearAnswers as clear
use Rattle.requester_machine.specs.ClearAnswers.Carried.{Ignored, Refused, Further, Whole}
use Rattle.requester_machine.specs.Commands.{Free, has_reached}
use Rattle.requester_machine.specs.Hearing.{came_to, hears}
use Rattle.requester_machine.specs.History.{Effect, Entry, History, Led, connection_terms}
use Rattle.requester_machine.specs.History.Effect.{Answers, Nothing, Refuses}
use Rattle.requester_machine.specs.History.Entry.{Told, TookClear, TookRecord}
use Rattle.requester_machine.specs.InnerMessages.{Came}
use Rattle.requester_machine.specs.InnerMessages as inner
use Rattle.requester_machine.specs.Message.{Aim, Ask}
use Rattle.requester_machine.specs.Message.Ask.{AskBeat, AskChunk, AskData, AskEnd, AskFinish, AskMeasure, AskUpdate, AskVerify}
use Rattle.requester_machine.specs.Sending.{finish_sent, get_sent, is_too_long, operation_of, request_sent}
use Rattle.requester_machine.specs.Setup.{ReqSetup}
use Rattle.spdm_grammar.specs.Message.{RequestMessage, ResponseMessage, ChunkMessage, OfferMessage, ExchangeMessage, ExchangeRspMessage}
use Rattle.spdm_grammar.specs.Message.RequestMessage.{GetVersion, GetCapabilities, NegotiateAlgorithms, GetMeasurements, PskExchange}
use Rattle.spdm_grammar.specs.Message.ResponseMessage.{Version, Capabilities, Algorithms, Measurements, PskExchangeRsp, PskFinishRsp, HeartbeatAck, KeyUpdateAck, EndSessionAck, ChunkResponse, Error}
use Rattle.spdm_grammar.specs.Requests.{canonical_request}
use Rattle.spdm_grammar.specs.declared.messages.capabilities.Caps.{Caps}
use Rattle.spdm_grammar.specs.declared.messages.choice.Choice.{Choice}
use Rattle.spdm_grammar.specs.declared.messages.malformed.Malformed.{Malformed}
use Rattle.spdm_grammar.specs.declared.messages.part_faults.CapsFault.{CapsFault}
use Rattle.spdm_grammar.specs.declared.messages.part_faults.ChunkFault.{ChunkFault}
use Rattle.spdm_grammar.specs.declared.names.error_number.TheConstants.{LARGE_RESPONSE}
use Rattle.spdm_grammar.specs.declared.told.event.BadReply.{BadReply}
use Rattle.spdm_grammar.specs.declared.told.event.Event.{Event}
use Rattle.spdm_grammar.specs.declared.told.event.Event.TheVariants as event
use Rattle.spdm_grammar.specs.declared.told.event.ReqIgnored.{ReqIgnored}
use Rattle.spdm_machine.specs.Keys.{Draw}

-- whether a further message is sent, where an event says so
abbrev pub says_next : Event → Option Bool
says_next event.Progress = Some true
says_next (event.Done finish) = Some false
says_next (event.Refused code) = Some false
says_next (event.Stopped why) = Some false
says_next (event.Lost id reply) = Some false
says_next event.More = None
says_next (event.Warned code) = None
says_next (event.Ignored cause) = None

abbrev pub Tells : Led → Type 0
Tells led = says_next led.event ≡ Some (is_some led.next)

-- ---- In the clear.

abbrev ClearIn : Result Led ReqIgnored → Type 0
ClearIn (Ok led) = Tells led
ClearIn (Err cause) = ⊤

module _ (q : ReqSetup) (h : History) (f : Free) where
  clear_error : (asked : RequestMessage) (code : ℕ) (extended : List ℕ) → Tells (error_led h asked code extended)
  clear_error asked code extended =
      either Tells (code == LARGE_RESPONSE && may_be_large asked && (connection_terms h).common.chunk) (goes_on Nothing (get_sent h asked (slice_index extended 0) 0 [])) (is_refused code (Refuses asked)) refl refl

  clear_version : (answer : List ℕ) (entry : Option ℕ) → Tells (version_led q h answer entry)
  clear_version answer None = refl
  clear_version answer (Some entry) = refl

  clear_offer : (effect : Effect) (common : Common) (offer : Option OfferMessage) → Tells (offer_led h effect common offer)
  clear_offer effect common None = refl
  clear_offer effect common (Some offer) =
      either Tells (is_too_long common (canonical_request (NegotiateAlgorithms offer))) (stopped _) (goes_on effect (request_sent common h (NegotiateAlgorithms offer))) refl refl

  clear_caps : (effect : Effect) (common : Result Common CapsFault) → Tells (caps_led q h effect common)
  clear_caps effect (Err fault) = refl
  clear_caps effect (Ok common) = clear_offer effect common (offer_of q.suites common.to_responder.transfer)

  clear_algorithms : (effect : Effect) (choice : Option Choice) → Tells (algorithms_led effect choice)
  clear_algorithms effect None = refl
  clear_algorithms effect (Some choice) = refl

  clear_exchange : (exchange : ExchangeMessage) (answer : List ℕ) (rsp : ExchangeRspMessage) → ClearIn (exchange_led q h f exchange answer rsp)
  clear_exchange exchange answer rsp =
      either ClearIn (bytes_eq rsp.verify (answer_verify q.psk (with_answer h exchange answer)))
      (Ok (goes_on (Answers (PskExchange exchange) answer) (finish_sent q h exchange.req_id (with_answer h exchange answer) f.pad))) (Err _) refl tt

  clear_answer : (place : ℕ) (asked : RequestMessage) (answer : List ℕ) (value : ResponseMessage) → ClearIn (answer_led q h f place asked answer value)
  clear_answer place asked answer (Error version code detail extended) = clear_error asked code extended
  clear_answer place GetVersion answer (Version entries) = clear_version answer (first_of_1_2 (version_entries entries))
  clear_answer place (GetCapabilities caps) answer (Capabilities theirs) = clear_caps (Answers (GetCapabilities caps) answer) (common_of caps theirs)
  clear_answer place (NegotiateAlgorithms offer) answer (Algorithms reply) = clear_algorithms (Answers (NegotiateAlgorithms offer) answer) (agreed offer reply)
  clear_answer place (GetMeasurements op) answer (Measurements measured) = refl
  clear_answer place (PskExchange exchange) answer (PskExchangeRsp rsp) = clear_exchange exchange answer rsp
  clear_answer place asked answer value = tt

  clear_read : (place : ℕ) (asked : RequestMessage) (answer : List ℕ) (reading : Result ResponseMessage Malformed) → ClearIn (clear.read_led q h f place asked answer reading)
  clear_read place asked answer (Err fault) = tt
  clear_read place asked answer (Ok value) = clear_answer place asked answer value

  clear_carried : (asked : RequestMessage) (carried : Carried) → ClearIn (carried_led q h f asked carried)
  clear_carried asked (Ignored cause) = tt
  clear_carried asked (Refused code) = refl
  clear_carried asked (Further next) = refl
  clear_carried asked (Whole answer place) = clear_read place asked answer (clear.reading_of h asked answer)

  in_clear : (result : Result Led ReqIgnored) (led : Led) → result ≡ Ok led → ClearIn result → Tells led
  in_clear result led is tells = subst ClearIn is tells

  clear_tells : (aim : Aim) (m : List ℕ) (asked : RequestMessage) (led : Led) → clear_led q h f aim asked m ≡ Ok led → Tells led
  unfolding clear_led
  clear_tells aim m asked led is = in_clear (carried_led q h f asked (carried_by q h m aim)) led is (clear_carried asked (carried_by q h m aim))

-- ---- In a session.

abbrev RecordIn : Result Led BadReply → Type 0
RecordIn (Ok led) = Tells led
RecordIn (Err fault) = ⊤

module _ (q : ReqSetup) (h : History) (f : Free) (came : Came) where
  error_tells : (ask : Ask) (code : ℕ) (extended : List ℕ) → RecordIn (inner.error_led q h f came ask code extended)
  error_tells ask code extended =
      either RecordIn (inner.follows came ask code) (Ok (inner.first_get q h f came (inner.op_in ask) extended)) (if inner.outlives_error ask then Ok (is_refused code Nothing) else Err _) refl
      (either RecordIn (inner.outlives_error ask) (Ok (is_refused code Nothing)) (Err _) refl tt)

  update_tells : (all echo : Bool) → RecordIn (inner.update_led q h f came all echo)
  update_tells all true = refl
  update_tells all false = tt

  verified_tells : (echo : Bool) → RecordIn (inner.verified_led came echo)
  verified_tells true = refl
  verified_tells false = tt

  whole_tells : (op : ℕ) (whole : List ℕ) (reading : Result ResponseMessage Malformed) → RecordIn (inner.whole_led q h f came op whole reading)
  whole_tells op whole (Err fault) = tt
  whole_tells op whole (Ok (Error version code detail extended)) =
      either Tells (code == LARGE_RESPONSE && not (has_reached 65300 came.steps)) (inner.first_get q h f came op extended) (is_refused code Nothing) refl refl
  whole_tells op whole (Ok (Measurements measured)) = refl
  whole_tells op whole (Ok _) = tt

  chunk_tells : (op : ℕ) (before : List ChunkMessage) (c : ChunkMessage) (fault : Option ChunkFault) → RecordIn (inner.chunk_led q h f came op before c fault)
  chunk_tells op before c (Some fault) = tt
  chunk_tells op before c None =
      either RecordIn c.last (inner.whole_led q h f came op (joined_with before c) (inner.reading_of came (joined_with before c))) (Ok _)
      (whole_tells op (joined_with before c) (inner.reading_of came (joined_with before c))) refl

  message_tells : (ask : Ask) (value : ResponseMessage) → RecordIn (inner.message_led q h f came ask value)
  message_tells ask (Error version code detail extended) = error_tells ask code extended
  message_tells AskFinish PskFinishRsp = refl
  message_tells AskBeat HeartbeatAck = refl
  message_tells (AskUpdate all) (KeyUpdateAck op tag) = update_tells all (inner.echoes came (operation_of all) op tag)
  message_tells AskVerify (KeyUpdateAck op tag) = verified_tells (inner.echoes came 3 op tag)
  message_tells (AskMeasure op) (Measurements measured) = refl
  message_tells AskEnd EndSessionAck = refl
  message_tells (AskChunk op handle number before) (ChunkResponse c) = chunk_tells op before c (get_fault q.max handle number before c)
  message_tells ask value = tt

  read_tells : (ask : Ask) (reading : Result ResponseMessage Malformed) → RecordIn (inner.read_led q h f came ask reading)
  read_tells ask (Err fault) = tt
  read_tells ask (Ok value) = message_tells ask value

  own_tells : (ask : Ask) → RecordIn (inner.data_led came ask)
  own_tells AskData = refl
  own_tells _ = tt

  inner_tells : (ask : Ask) (fault : Option BadReply) → RecordIn (inner.inner_led_by q h f came ask fault)
  inner_tells ask (Some fault) = tt
  inner_tells ask None =
      either RecordIn (slice_index came.inner 0 == 5) (inner.read_led q h f came ask (inner.reading_of came (inner.message_in came))) (inner.data_led came ask)
      (read_tells ask (inner.reading_of came (inner.message_in came))) (own_tells ask)

  lost_tells : (result : Result Led BadReply) → RecordIn result → Tells (inner.or_lost came result)
  lost_tells (Ok led) tells = tells
  lost_tells (Err fault) tells = refl

  record_tells : (ask : Ask) → Tells (inner.or_lost came (inner.inner_led q h f came ask))
  unfolding inner.inner_led
  record_tells ask = lost_tells (inner.inner_led_by q h f came ask (inner.inner_fault q came.inner)) (inner_tells ask (inner.inner_fault q came.inner))

-- ---- An entry.

abbrev pub EntryTells : Entry → Type 0
EntryTells (Told command sent d) = ⊥
EntryTells (TookClear tag m led d) = Tells led
EntryTells (TookRecord tag id sealed inner led d) = Tells led

pub entry_tells : (q : ReqSetup) (h : History) (owner : Bool) (tag : ℕ) (body : List ℕ) (f : Free) (d : Draw) (entry : Entry) → hears q h owner tag body f d ≡ Adds entry → EntryTells entry
entry_tells q h owner tag body f d entry is = elim (heard q h owner tag body f d entry is) [
  | inl t ↦ subst EntryTells (sym t.is) (clear_tells q h f t.sent.aim _ t.asked t.led t.leads)
  | inr o ↦ subst EntryTells (sym o.1.is) (record_tells q h f (came_to q h o.1.id o.1.ask _) o.1.ask)
]
