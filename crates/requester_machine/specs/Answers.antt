-- What the whole answer to a clear request leads to at a requester (DSP0274, section 10: the responses).
use Rattle.std.specs.Prelude.{◌+◌, ◌==◌, ◌&&◌, ℕ, List, [], slice_index, if◌then◌else◌, Bool, true, false, Option, Some, None, Result, Ok, Err, bytes_eq}
use Rattle.negotiate.specs.Capabilities.{common_of}
use Rattle.negotiate.specs.Choosing.{agreed}
use Rattle.negotiate.specs.Offer.{offer_of}
use Rattle.negotiate.specs.Versions.{version_entries, first_of_1_2}
use Rattle.negotiate.specs.declared.shared.Common.{Common}
use Rattle.key_schedule.specs.declared.direction.Direction.TheVariants as direction
use Rattle.spdm_grammar.specs.Message.{RequestMessage, ResponseMessage, OfferMessage, ExchangeMessage, ExchangeRspMessage, MeasuredMessage}
use Rattle.spdm_grammar.specs.Message.RequestMessage.{GetVersion, GetCapabilities, NegotiateAlgorithms, GetMeasurements, PskExchange}
use Rattle.spdm_grammar.specs.Message.ResponseMessage.{Version, Capabilities, Algorithms, Measurements, PskExchangeRsp, Error}
use Rattle.spdm_grammar.specs.Requests.{canonical_request}
use Rattle.spdm_grammar.specs.declared.messages.choice.Choice.{Choice}
use Rattle.spdm_grammar.specs.declared.told.event.Event.TheVariants as event
use Rattle.spdm_grammar.specs.declared.told.event.Finished.{Finished}
use Rattle.spdm_grammar.specs.declared.told.event.Finished.TheVariants as finished
use Rattle.spdm_grammar.specs.declared.told.event.ReqIgnored.{ReqIgnored}
use Rattle.spdm_grammar.specs.declared.told.event.ReqIgnored.TheVariants as ignored
use Rattle.spdm_grammar.specs.declared.told.event.Stop.{Stop}
use Rattle.spdm_grammar.specs.declared.told.event.Stop.TheVariants as stop
use Rattle.spdm_grammar.specs.declared.messages.part_faults.CapsFault.{CapsFault}
use Rattle.spdm_machine.specs.Keys.{verify_data}
use Rattle.requester_machine.specs.Setup.{ReqSetup, requester_caps}
use Rattle.requester_machine.specs.Commands.{Free}
use Rattle.requester_machine.specs.History.{History, Effect, Led, connection_terms}
use Rattle.requester_machine.specs.History.Effect.{Nothing, Answers, Refuses, Stops}
use Rattle.requester_machine.specs.Message.{Sent}
use Rattle.requester_machine.specs.Sending.{plain_sent, request_sent, get_sent, finish_sent, is_too_long}
use Rattle.requester_machine.specs.Session.{Steps, session_of, when_live, session_terms, t1_of}
use Rattle.requester_machine.specs.Session.Step.{Accepted}
use Rattle.spdm_grammar.specs.declared.names.error_number.TheConstants.{LARGE_RESPONSE}

-- ---- What a message leads to.

-- A further message is sent.
abbrev pub goes_on : Effect → Sent → Led
goes_on effect next = record { event = event.Progress; effect = effect; next = Some next }

-- The command is done.
abbrev pub is_done : Finished → Effect → Led
is_done finish effect = record { event = event.Done finish; effect = effect; next = None }

-- The request was refused with an ERROR, and is gone.
abbrev pub is_refused : ℕ → Effect → Led
is_refused code effect = record { event = event.Refused code; effect = effect; next = None }

-- The negotiation stops.
abbrev pub stopped : Stop → Led
stopped why = record { event = event.Stopped why; effect = Stops; next = None }

-- ---- ERROR.

-- The requests to which the answer may be large.
abbrev pub may_be_large : RequestMessage → Bool
may_be_large (NegotiateAlgorithms offer) = true
may_be_large (GetMeasurements op) = true
may_be_large (PskExchange exchange) = true
may_be_large _ = false

-- LargeResponse, 0F, tells the handle of a large response, which CHUNK_GET fetches where chunks are in common; any
-- other ERROR refuses the request (DSP0274, "ERROR", "Large SPDM message transfer mechanism").
abbrev pub error_led : History → RequestMessage → (code : ℕ) → (extended : List ℕ) → Led
error_led h asked code extended =
    if code == LARGE_RESPONSE && may_be_large asked && (connection_terms h).common.chunk
    then goes_on Nothing (get_sent h asked (slice_index extended 0) 0 [])
    else is_refused code (Refuses asked)

-- ---- The negotiation.

-- VERSION: the first entry of version 1.2 is spoken, and the own capabilities are told.
abbrev pub version_led : ReqSetup → History → List ℕ → Option ℕ → Led
version_led q h answer None = stopped stop.NoVersion
version_led q h answer (Some entry) = goes_on (Answers GetVersion answer) (plain_sent h (GetCapabilities (requester_caps q)))

-- The offer is sent, unless it is too long for the responder.
abbrev pub offer_led : History → Effect → Common → Option OfferMessage → Led
offer_led h effect common None = stopped stop.NoChoice
offer_led h effect common (Some offer) =
    if is_too_long common (canonical_request (NegotiateAlgorithms offer)) then stopped stop.TooLong
    else goes_on effect (request_sent common h (NegotiateAlgorithms offer))

-- CAPABILITIES: they go together with the own ones, which GET_CAPABILITIES told; then there is an offer, unless no hash
-- could be offered.
abbrev pub caps_led : ReqSetup → History → Effect → Result Common CapsFault → Led
caps_led q h effect (Err fault) = stopped (stop.Caps fault)
caps_led q h effect (Ok common) = offer_led h effect common (offer_of q.suites common.to_responder.transfer)

-- ALGORITHMS: they choose of what was offered.
abbrev pub algorithms_led : Effect → Option Choice → Led
algorithms_led effect None = stopped stop.NoChoice
algorithms_led effect (Some choice) = is_done finished.Connected effect

-- ---- Measurements.

-- How many measurements are told: that of all blocks for operation 0, else that of the blocks in the record.
abbrev pub measured_number : (op : ℕ) → MeasuredMessage → ℕ
measured_number op measured = if op == 0 then measured.total else measured.blocks

-- MEASUREMENTS: the command is done, and the number of measurements is told.
abbrev pub measured_led : (op : ℕ) → MeasuredMessage → Effect → Led
measured_led op measured effect = is_done (finished.Measured (measured_number op measured)) effect

-- ---- The exchange.

-- The session as it stands with this PSK_EXCHANGE_RSP.
abbrev pub with_answer : History → ExchangeMessage → List ℕ → Steps
with_answer h exchange answer = when_live (session_of exchange.req_id h) (Accepted answer)

-- The responder's verify data over T1 (DSP0274, "PSK_EXCHANGE_RSP").
abbrev pub answer_verify : List ℕ → Steps → List ℕ
answer_verify psk s = verify_data (session_terms s).choice psk (t1_of s) direction.Response (t1_of s)

-- PSK_EXCHANGE_RSP: where its verify data are right, PSK_FINISH is sent.
abbrev pub exchange_led : ReqSetup → History → Free → ExchangeMessage → List ℕ → ExchangeRspMessage → Result Led ReqIgnored
exchange_led q h f exchange answer rsp =
    if bytes_eq rsp.verify (answer_verify q.psk (with_answer h exchange answer))
    then Ok (goes_on (Answers (PskExchange exchange) answer) (finish_sent q h exchange.req_id (with_answer h exchange answer) f.pad))
    else Err ignored.BadVerify

-- ---- All answers.

-- What a sound answer leads to. One that is neither the expected one nor an ERROR is malformed at its code, byte
-- 1. Place is where the answer begins in the message that carried it.
abbrev pub answer_led : ReqSetup → History → Free → (place : ℕ) → RequestMessage → List ℕ → ResponseMessage → Result Led ReqIgnored
answer_led q h f place asked answer (Error version code detail extended) = Ok (error_led h asked code extended)
answer_led q h f place GetVersion answer (Version entries) = Ok (version_led q h answer (first_of_1_2 (version_entries entries)))
answer_led q h f place (GetCapabilities caps) answer (Capabilities theirs) = Ok (caps_led q h (Answers (GetCapabilities caps) answer) (common_of caps theirs))
answer_led q h f place (NegotiateAlgorithms offer) answer (Algorithms reply) = Ok (algorithms_led (Answers (NegotiateAlgorithms offer) answer) (agreed offer reply))
answer_led q h f place (GetMeasurements op) answer (Measurements measured) = Ok (measured_led op measured (Answers (GetMeasurements op) answer))
answer_led q h f place (PskExchange exchange) answer (PskExchangeRsp rsp) = exchange_led q h f exchange answer rsp
answer_led q h f place asked answer value = Err (ignored.Malformed (place + 1))
