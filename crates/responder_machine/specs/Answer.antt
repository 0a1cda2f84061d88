-- The whole answer of a responder to a request that is not refused (DSP0274, section 10: the responses).
use Rattle.std.specs.Prelude.{◌==◌, ◌++◌, ℕ, List, [], ◌∷◌, length, if◌then◌else◌, false, Option, Some, None, unwrap_or}
use Rattle.chunking.specs.Cutting.{nth_chunk}
use Rattle.key_schedule.specs.declared.direction.Direction.TheVariants as direction
use Rattle.measurements.specs.Blocks.{record_of}
use Rattle.measurements.specs.Records.{asked}
use Rattle.measurements.specs.Summaries.{summary_of}
use Rattle.negotiate.specs.Choosing.{selected}
use Rattle.negotiate.specs.Reply.{reply_of}
use Rattle.running_hash.specs.Hash.{hash_of}
use Rattle.spdm_grammar.specs.Message.{RequestMessage, ResponseMessage, OfferMessage, ExchangeMessage}
use Rattle.spdm_grammar.specs.Message.RequestMessage.{GetVersion, GetCapabilities, NegotiateAlgorithms, GetMeasurements, PskExchange, PskFinish, Heartbeat, KeyUpdate, EndSession, ChunkSend, ChunkGet}
use Rattle.spdm_grammar.specs.Message.ResponseMessage.{Version, Capabilities, Algorithms, Measurements, PskExchangeRsp, PskFinishRsp, HeartbeatAck, KeyUpdateAck, EndSessionAck, ChunkSendAck, ChunkResponse}
use Rattle.spdm_grammar.specs.Requests.{request_in}
use Rattle.spdm_grammar.specs.Responses.{canonical_response}
use Rattle.spdm_machine.specs.Keys.{verify_data}
use Rattle.responder_machine.specs.LargeMessages.{pending_of}
use Rattle.responder_machine.specs.Place.{Place, place_terms}
use Rattle.responder_machine.specs.Setup.{RspSetup, responder_caps, policy_of, inventory_of}
use Rattle.spdm_machine.specs.Terms.{no_choice, hash_len}
use Rattle.transcript.specs.Transcripts.{vca_of}
use Rattle.spdm_grammar.specs.declared.names.spdm_version.TheConstants.{V1_2}

-- All that an answer leaves free: the id, the context and the opaque data of PSK_EXCHANGE_RSP, the nonce and the opaque
-- data of MEASUREMENTS, the handle of a large response, the application data sent in answer, and the padding of a
-- record.
pub record Free : Type 0 where
  pub id : ℕ
  pub context : List ℕ
  pub exchange_opaque : List ℕ
  pub nonce : List ℕ
  pub measured_opaque : List ℕ
  pub handle : ℕ
  pub reply : List ℕ
  pub pad : List ℕ

-- "VERSION": one entry, 1.2.
abbrev pub version_answer : ResponseMessage
version_answer = Version (0x00 ∷ V1_2 ∷ [])

-- "ALGORITHMS": the reply to the offer with the choice that the responder makes.
abbrev pub algorithms_answer : RspSetup → OfferMessage → ResponseMessage
algorithms_answer r offer = Algorithms (reply_of offer (unwrap_or (selected offer (policy_of r)) no_choice))

-- "MEASUREMENTS": the blocks of the operation; for operation 0, which asks for none, how many there are.
abbrev pub measurements_answer : RspSetup → Free → ℕ → ResponseMessage
measurements_answer r f op = Measurements (record {
  total = if op == 0 then length (inventory_of r) else 0;
  blocks = length (asked op (inventory_of r));
  block_bytes = record_of (asked op (inventory_of r));
  nonce = f.nonce;
  opaque = f.measured_opaque;
})

-- The summary that PSK_EXCHANGE asks for; kind 0 asks for none.
abbrev pub summary_answer : RspSetup → Place → ℕ → List ℕ
summary_answer r p kind = if kind == 0 then [] else unwrap_or (summary_of (hash_of (place_terms p).choice.hash) kind (inventory_of r)) []

-- "PSK_EXCHANGE_RSP" with this verify data. The heartbeat period is the configured one where both ends have heartbeats,
-- else 0.
abbrev pub exchange_rsp : RspSetup → Place → Free → ExchangeMessage → List ℕ → ResponseMessage
exchange_rsp r p f exchange verify = PskExchangeRsp (record {
  heartbeat = if (place_terms p).common.heartbeat then r.beat else 0;
  rsp_id = f.id;
  summary = summary_answer r p exchange.summary;
  context = f.context;
  opaque = f.exchange_opaque;
  verify = verify;
})

-- T1 as it stands with this PSK_EXCHANGE: VCA, PSK_EXCHANGE, and its answer without verify data.
abbrev pub t1_with : RspSetup → Place → List ℕ → Free → ExchangeMessage → List ℕ
t1_with r p m f exchange = vca_of p.negotiation ++ m ++ canonical_response (exchange_rsp r p f exchange [])

-- The responder's verify data are over T1.
abbrev pub exchange_answer : RspSetup → Place → List ℕ → Free → ExchangeMessage → ResponseMessage
exchange_answer r p m f exchange =
    exchange_rsp r p f exchange (verify_data (place_terms p).choice r.psk (t1_with r p m f exchange) direction.Response (t1_with r p m f exchange))

-- "CHUNK_RESPONSE": the chunk of this number of the pending large response.
abbrev pub chunk_answer : Place → ℕ → ℕ → ResponseMessage
chunk_answer p handle number =
    ChunkResponse (nth_chunk (place_terms p).common.to_requester.transfer handle (unwrap_or (pending_of (place_terms p).common.to_requester.transfer p.turns) []) number)

-- The answer to each request, of which m are the bytes. A chunk of a large request that is not the last is acknowledged
-- with no response.
abbrev pub answer_of : RspSetup → Place → List ℕ → Free → RequestMessage → ResponseMessage
answer_of r p m f GetVersion = version_answer
answer_of r p m f (GetCapabilities caps) = Capabilities (responder_caps r)
answer_of r p m f (NegotiateAlgorithms offer) = algorithms_answer r offer
answer_of r p m f (GetMeasurements op) = measurements_answer r f op
answer_of r p m f (PskExchange exchange) = exchange_answer r p m f exchange
answer_of r p m f (PskFinish verify) = PskFinishRsp
answer_of r p m f Heartbeat = HeartbeatAck
answer_of r p m f (KeyUpdate op tag) = KeyUpdateAck op tag
answer_of r p m f EndSession = EndSessionAck
answer_of r p m f (ChunkSend chunk) = ChunkSendAck false chunk.handle chunk.number []
answer_of r p m f (ChunkGet handle number) = chunk_answer p handle number

-- The request that a message is at a place.
abbrev pub request_at : Place → List ℕ → Option RequestMessage
request_at p m = request_in (hash_len (place_terms p)) m

-- The bytes of the answer; none where the message is no request.
abbrev pub answer_to : RspSetup → Place → List ℕ → Free → Option RequestMessage → List ℕ
answer_to r p m f None = []
answer_to r p m f (Some request) = canonical_response (answer_of r p m f request)

-- The bytes of the answer to a message as the request that it is at a place; none where it is no request.
unfoldable pub answer_bytes : RspSetup → Place → List ℕ → Free → List ℕ
answer_bytes r p m f = answer_to r p m f (request_at p m)
