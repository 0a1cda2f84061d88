-- The fields of each message with their sizes in bytes, in the order in which they stand (DSP0274, section 10).
use Rattle.std.specs.Prelude.{ℕ, List, [], ◌∷◌, ◌-◌, length, Option, Some, None}
use Rattle.spdm_grammar.specs.Message.{ChunkMessage, RequestMessage, ResponseMessage}
use Rattle.spdm_grammar.specs.Message.RequestMessage.{GetVersion, GetCapabilities, NegotiateAlgorithms, GetMeasurements, PskExchange, PskFinish, Heartbeat, KeyUpdate, EndSession, ChunkSend, ChunkGet}
use Rattle.spdm_grammar.specs.Message.ResponseMessage.{Version, Capabilities, Algorithms, Measurements, PskExchangeRsp, PskFinishRsp, HeartbeatAck, KeyUpdateAck, EndSessionAck, ChunkSendAck, ChunkResponse, Error}
use Rattle.message_fields.specs.declared.field.Field.{Field}
use Rattle.message_fields.specs.declared.names.Name.{Name}
use Rattle.message_fields.specs.declared.names.Name.TheVariants.{SpdmVersion, Code, Param1, Param2, StructureCount, Attributes, Operation1, Operation2, SummaryType, SessionPolicy, Tag, Handle, TotalBlocks, HeartbeatPeriod, ErrorCode, ErrorData, Reserved, CtExponent, Flags, DataTransferSize, MaxMessageSize, Length, MeasurementSpecification, OtherParamsSupport, BaseAsymAlgo, BaseHashAlgo, ExtAsymCount, ExtHashCount, ExtAsym, ExtHash, ReqAlgStruct, MeasurementSpecificationSel, OtherParamsSelection, MeasurementHashAlgo, BaseAsymSel, BaseHashSel, ExtAsymSelCount, ExtHashSelCount, ExtAsymSel, ExtHashSel, RespAlgStruct, ReqSessionId, RspSessionId, PskHintLength, RequesterContextLength, ResponderContextLength, OpaqueDataLength, PskHint, RequesterContext, ResponderContext, OpaqueData, MeasurementSummaryHash, RequesterVerifyData, ResponderVerifyData, VersionEntryCount, VersionEntries, NumberOfBlocks, RecordLength, RecordData, Nonce, ChunkSeqNo, ChunkSize, LargeMessageSize, Chunk, LargeResponse, ExtendedErrorData, SequenceNumber, RecordSize, EncryptedData, Mac}

-- A field of this name, of so many bytes.
abbrev pub field : Name → ℕ → Field
field name size = record { name = name; size = size }

-- The size of a large message stands in its first chunk alone.
abbrev pub large_size : Option ℕ → ℕ
large_size None = 0
large_size (Some size) = 4

-- A chunk, in CHUNK_SEND and CHUNK_RESPONSE.
abbrev pub chunk_fields : ChunkMessage → List Field
chunk_fields chunk =
    field SpdmVersion 1
    ∷ field Code 1
    ∷ field Attributes 1
    ∷ field Handle 1
    ∷ field ChunkSeqNo 2
    ∷ field Reserved 2
    ∷ field ChunkSize 4
    ∷ field LargeMessageSize (large_size chunk.large)
    ∷ field Chunk (length chunk.chunk)
    ∷ []

-- The requests.
abbrev pub request_fields : RequestMessage → List Field
request_fields GetVersion =
    field SpdmVersion 1
    ∷ field Code 1
    ∷ field Param1 1
    ∷ field Param2 1
    ∷ []
request_fields (GetCapabilities caps) =
    field SpdmVersion 1
    ∷ field Code 1
    ∷ field Param1 1
    ∷ field Param2 1
    ∷ field Reserved 1
    ∷ field CtExponent 1
    ∷ field Reserved 2
    ∷ field Flags 4
    ∷ field DataTransferSize 4
    ∷ field MaxMessageSize 4
    ∷ []
request_fields (NegotiateAlgorithms offer) =
    field SpdmVersion 1
    ∷ field Code 1
    ∷ field StructureCount 1
    ∷ field Param2 1
    ∷ field Length 2
    ∷ field MeasurementSpecification 1
    ∷ field OtherParamsSupport 1
    ∷ field BaseAsymAlgo 4
    ∷ field BaseHashAlgo 4
    ∷ field Reserved 12
    ∷ field ExtAsymCount 1
    ∷ field ExtHashCount 1
    ∷ field Reserved 2
    ∷ field ExtAsym (length offer.ext_asym)
    ∷ field ExtHash (length offer.ext_hash)
    ∷ field ReqAlgStruct (length offer.tables)
    ∷ []
request_fields (GetMeasurements op) =
    field SpdmVersion 1
    ∷ field Code 1
    ∷ field Attributes 1
    ∷ field Operation2 1
    ∷ []
request_fields (PskExchange exchange) =
    field SpdmVersion 1
    ∷ field Code 1
    ∷ field SummaryType 1
    ∷ field SessionPolicy 1
    ∷ field ReqSessionId 2
    ∷ field PskHintLength 2
    ∷ field RequesterContextLength 2
    ∷ field OpaqueDataLength 2
    ∷ field PskHint (length exchange.hint)
    ∷ field RequesterContext (length exchange.context)
    ∷ field OpaqueData (length exchange.opaque)
    ∷ []
request_fields (PskFinish verify) =
    field SpdmVersion 1
    ∷ field Code 1
    ∷ field Param1 1
    ∷ field Param2 1
    ∷ field RequesterVerifyData (length verify)
    ∷ []
request_fields Heartbeat =
    field SpdmVersion 1
    ∷ field Code 1
    ∷ field Param1 1
    ∷ field Param2 1
    ∷ []
request_fields (KeyUpdate op tag) =
    field SpdmVersion 1
    ∷ field Code 1
    ∷ field Operation1 1
    ∷ field Tag 1
    ∷ []
request_fields EndSession =
    field SpdmVersion 1
    ∷ field Code 1
    ∷ field Attributes 1
    ∷ field Param2 1
    ∷ []
request_fields (ChunkSend chunk) = chunk_fields chunk
request_fields (ChunkGet handle number) =
    field SpdmVersion 1
    ∷ field Code 1
    ∷ field Param1 1
    ∷ field Handle 1
    ∷ field ChunkSeqNo 2
    ∷ []

-- The responses.
abbrev pub response_fields : ResponseMessage → List Field
response_fields (Version entries) =
    field SpdmVersion 1
    ∷ field Code 1
    ∷ field Param1 1
    ∷ field Param2 1
    ∷ field Reserved 1
    ∷ field VersionEntryCount 1
    ∷ field VersionEntries (length entries)
    ∷ []
response_fields (Capabilities caps) =
    field SpdmVersion 1
    ∷ field Code 1
    ∷ field Param1 1
    ∷ field Param2 1
    ∷ field Reserved 1
    ∷ field CtExponent 1
    ∷ field Reserved 2
    ∷ field Flags 4
    ∷ field DataTransferSize 4
    ∷ field MaxMessageSize 4
    ∷ []
response_fields (Algorithms reply) =
    field SpdmVersion 1
    ∷ field Code 1
    ∷ field StructureCount 1
    ∷ field Param2 1
    ∷ field Length 2
    ∷ field MeasurementSpecificationSel 1
    ∷ field OtherParamsSelection 1
    ∷ field MeasurementHashAlgo 4
    ∷ field BaseAsymSel 4
    ∷ field BaseHashSel 4
    ∷ field Reserved 12
    ∷ field ExtAsymSelCount 1
    ∷ field ExtHashSelCount 1
    ∷ field Reserved 2
    ∷ field ExtAsymSel (length reply.ext_asym)
    ∷ field ExtHashSel (length reply.ext_hash)
    ∷ field RespAlgStruct (length reply.tables)
    ∷ []
response_fields (Measurements measured) =
    field SpdmVersion 1
    ∷ field Code 1
    ∷ field TotalBlocks 1
    ∷ field Param2 1
    ∷ field NumberOfBlocks 1
    ∷ field RecordLength 3
    ∷ field RecordData (length measured.block_bytes)
    ∷ field Nonce 32
    ∷ field OpaqueDataLength 2
    ∷ field OpaqueData (length measured.opaque)
    ∷ []
response_fields (PskExchangeRsp exchange) =
    field SpdmVersion 1
    ∷ field Code 1
    ∷ field HeartbeatPeriod 1
    ∷ field Param2 1
    ∷ field RspSessionId 2
    ∷ field Reserved 2
    ∷ field ResponderContextLength 2
    ∷ field OpaqueDataLength 2
    ∷ field MeasurementSummaryHash (length exchange.summary)
    ∷ field ResponderContext (length exchange.context)
    ∷ field OpaqueData (length exchange.opaque)
    ∷ field ResponderVerifyData (length exchange.verify)
    ∷ []
response_fields PskFinishRsp =
    field SpdmVersion 1
    ∷ field Code 1
    ∷ field Param1 1
    ∷ field Param2 1
    ∷ []
response_fields HeartbeatAck =
    field SpdmVersion 1
    ∷ field Code 1
    ∷ field Param1 1
    ∷ field Param2 1
    ∷ []
response_fields (KeyUpdateAck op tag) =
    field SpdmVersion 1
    ∷ field Code 1
    ∷ field Operation1 1
    ∷ field Tag 1
    ∷ []
response_fields EndSessionAck =
    field SpdmVersion 1
    ∷ field Code 1
    ∷ field Param1 1
    ∷ field Param2 1
    ∷ []
response_fields (ChunkSendAck early handle number answer) =
    field SpdmVersion 1
    ∷ field Code 1
    ∷ field Attributes 1
    ∷ field Handle 1
    ∷ field ChunkSeqNo 2
    ∷ field LargeResponse (length answer)
    ∷ []
response_fields (ChunkResponse chunk) = chunk_fields chunk
response_fields (Error version code detail extended) =
    field SpdmVersion 1
    ∷ field Code 1
    ∷ field ErrorCode 1
    ∷ field ErrorData 1
    ∷ field ExtendedErrorData (length extended)
    ∷ []

-- A record of so many bytes, at least 24 (DSP0277, "Secured Message format"): the session id in its two halves, the
-- number, the count of bytes behind it, what is encrypted, and the tag.
abbrev pub record_fields : ℕ → List Field
record_fields count =
    field ReqSessionId 2
    ∷ field RspSessionId 2
    ∷ field SequenceNumber 2
    ∷ field RecordSize 2
    ∷ field EncryptedData (count - 24)
    ∷ field Mac 16
    ∷ []
