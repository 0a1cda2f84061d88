-- Requests and responses as values, without where their parts lie in memory.
use Rattle.std.specs.Prelude.{ℕ, Bool, List, Option}
use Rattle.spdm_grammar.specs.declared.messages.algorithms.AlgOffer.{AlgOffer}
use Rattle.spdm_grammar.specs.declared.messages.algorithms.AlgReply.{AlgReply}
use Rattle.spdm_grammar.specs.declared.messages.capabilities.Caps.{Caps}
use Rattle.spdm_grammar.specs.declared.messages.chunk.ChunkView.{ChunkView}
use Rattle.spdm_grammar.specs.declared.messages.exchange.Exchange.{Exchange}
use Rattle.spdm_grammar.specs.declared.messages.exchange.ExchangeRsp.{ExchangeRsp}
use Rattle.spdm_grammar.specs.declared.messages.measurements.Measured.{Measured}
use Rattle.spdm_grammar.specs.declared.messages.request.Request.{Request}
use Rattle.spdm_grammar.specs.declared.messages.request.Request.TheVariants as request
use Rattle.spdm_grammar.specs.declared.messages.response.Response.{Response}
use Rattle.spdm_grammar.specs.declared.messages.response.Response.TheVariants as response

-- What a requester offers.
pub record OfferMessage : Type 0 where
  pub measurement : ℕ
  pub other : ℕ
  pub asym : ℕ
  pub hash : ℕ
  pub ext_asym : List ℕ
  pub ext_hash : List ℕ
  pub count : ℕ
  pub tables : List ℕ

-- What a responder chose.
pub record ReplyMessage : Type 0 where
  pub measurement : ℕ
  pub other : ℕ
  pub measurement_hash : ℕ
  pub asym : ℕ
  pub hash : ℕ
  pub ext_asym : List ℕ
  pub ext_hash : List ℕ
  pub count : ℕ
  pub tables : List ℕ

-- What begins a session.
pub record ExchangeMessage : Type 0 where
  pub summary : ℕ
  pub req_id : ℕ
  pub hint : List ℕ
  pub context : List ℕ
  pub opaque : List ℕ

-- The answer to it.
pub record ExchangeRspMessage : Type 0 where
  pub heartbeat : ℕ
  pub rsp_id : ℕ
  pub summary : List ℕ
  pub context : List ℕ
  pub opaque : List ℕ
  pub verify : List ℕ

-- Measurements of a responder.
pub record MeasuredMessage : Type 0 where
  pub total : ℕ
  pub blocks : ℕ
  pub block_bytes : List ℕ
  pub nonce : List ℕ
  pub opaque : List ℕ

-- A piece of a large message.
pub record ChunkMessage : Type 0 where
  pub last : Bool
  pub handle : ℕ
  pub number : ℕ
  pub large : Option ℕ
  pub chunk : List ℕ

pub data RequestMessage : Type 0 where
  GetVersion : RequestMessage
  GetCapabilities : (caps : Caps) → RequestMessage
  NegotiateAlgorithms : (offer : OfferMessage) → RequestMessage
  GetMeasurements : (op : ℕ) → RequestMessage
  PskExchange : (exchange : ExchangeMessage) → RequestMessage
  PskFinish : (verify : List ℕ) → RequestMessage
  Heartbeat : RequestMessage
  KeyUpdate : (op : ℕ) → (tag : ℕ) → RequestMessage
  EndSession : RequestMessage
  ChunkSend : (chunk : ChunkMessage) → RequestMessage
  ChunkGet : (handle : ℕ) → (number : ℕ) → RequestMessage

pub data ResponseMessage : Type 0 where
  Version : (entries : List ℕ) → ResponseMessage
  Capabilities : (caps : Caps) → ResponseMessage
  Algorithms : (reply : ReplyMessage) → ResponseMessage
  Measurements : (measured : MeasuredMessage) → ResponseMessage
  PskExchangeRsp : (exchange : ExchangeRspMessage) → ResponseMessage
  PskFinishRsp : ResponseMessage
  HeartbeatAck : ResponseMessage
  KeyUpdateAck : (op : ℕ) → (tag : ℕ) → ResponseMessage
  EndSessionAck : ResponseMessage
  ChunkSendAck : (early : Bool) → (handle : ℕ) → (number : ℕ) → (response : List ℕ) → ResponseMessage
  ChunkResponse : (chunk : ChunkMessage) → ResponseMessage
  Error : (version : ℕ) → (code : ℕ) → (detail : ℕ) → (extended : List ℕ) → ResponseMessage

abbrev pub offer_message : AlgOffer → OfferMessage
offer_message o = record { measurement = o.measurement; other = o.other; asym = o.asym; hash = o.hash; ext_asym = o.ext_asym.now; ext_hash = o.ext_hash.now; count = o.count; tables = o.tables.now }

abbrev pub reply_message : AlgReply → ReplyMessage
reply_message r = record { measurement = r.measurement; other = r.other; measurement_hash = r.measurement_hash; asym = r.asym; hash = r.hash; ext_asym = r.ext_asym.now; ext_hash = r.ext_hash.now; count = r.count; tables = r.tables.now }

abbrev pub exchange_message : Exchange → ExchangeMessage
exchange_message e = record { summary = e.summary; req_id = e.req_id; hint = e.hint.now; context = e.context.now; opaque = e.opaque.now }

abbrev pub exchange_rsp_message : ExchangeRsp → ExchangeRspMessage
exchange_rsp_message e = record { heartbeat = e.heartbeat; rsp_id = e.rsp_id; summary = e.summary.now; context = e.context.now; opaque = e.opaque.now; verify = e.verify.now }

abbrev pub measured_message : Measured → MeasuredMessage
measured_message m = record { total = m.total; blocks = m.blocks; block_bytes = m.block_bytes.now; nonce = m.nonce.now; opaque = m.opaque.now }

abbrev pub chunk_message : ChunkView → ChunkMessage
chunk_message c = record { last = c.last; handle = c.handle; number = c.number; large = c.large; chunk = c.chunk.now }

abbrev pub request_message : Request → RequestMessage
request_message request.GetVersion = GetVersion
request_message (request.GetCapabilities caps) = GetCapabilities caps
request_message (request.NegotiateAlgorithms offer) = NegotiateAlgorithms (offer_message offer)
request_message (request.GetMeasurements op) = GetMeasurements op
request_message (request.PskExchange exchange) = PskExchange (exchange_message exchange)
request_message (request.PskFinish verify) = PskFinish verify.now
request_message request.Heartbeat = Heartbeat
request_message (request.KeyUpdate op tag) = KeyUpdate op tag
request_message request.EndSession = EndSession
request_message (request.ChunkSend chunk) = ChunkSend (chunk_message chunk)
request_message (request.ChunkGet handle number) = ChunkGet handle number

abbrev pub response_message : Response → ResponseMessage
response_message (response.Version entries) = Version entries.now
response_message (response.Capabilities caps) = Capabilities caps
response_message (response.Algorithms reply) = Algorithms (reply_message reply)
response_message (response.Measurements measured) = Measurements (measured_message measured)
response_message (response.PskExchangeRsp exchange) = PskExchangeRsp (exchange_rsp_message exchange)
response_message response.PskFinishRsp = PskFinishRsp
response_message response.HeartbeatAck = HeartbeatAck
response_message (response.KeyUpdateAck op tag) = KeyUpdateAck op tag
response_message response.EndSessionAck = EndSessionAck
response_message (response.ChunkSendAck early handle number answer) = ChunkSendAck early handle number answer.now
response_message (response.ChunkResponse chunk) = ChunkResponse (chunk_message chunk)
response_message (response.Error version code detail extended) = Error version code detail extended.now
