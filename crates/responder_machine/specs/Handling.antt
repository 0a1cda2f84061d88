-- What a responder does with one message at a place, under the values that are left free.
use Rattle.std.specs.Prelude.{◌+◌, ◌&&◌, nat_lt, ℕ, List, [], ◌∷◌, length, if◌then◌else◌, Bool, false, Option, Some, None}
use Rattle.byteorder.specs.Endian.{little_bytes}
use Rattle.chunking.specs.Collecting.{under_way, joined_with}
use Rattle.spdm_grammar.specs.ErrorNumber.{error_number}
use Rattle.spdm_grammar.specs.Message.{RequestMessage, ChunkMessage}
use Rattle.spdm_grammar.specs.Message.RequestMessage.{ChunkSend}
use Rattle.spdm_grammar.specs.Message.ResponseMessage.{Error, ChunkSendAck}
use Rattle.spdm_grammar.specs.Responses.{canonical_response}
use Rattle.spdm_grammar.specs.declared.messages.error_code.ErrorCode.{ErrorCode}
use Rattle.spdm_grammar.specs.declared.messages.error_code.ErrorCode.TheVariants.{UnsupportedRequest, ResponseTooLarge, LargeResponse}
use Rattle.spdm_grammar.specs.declared.told.phase.Phase.{Phase}
use Rattle.spdm_grammar.specs.declared.told.phase.Phase.TheVariants.{Fresh, Versioned, Capable, Negotiated}
use Rattle.responder_machine.specs.Answer.{Free, answer_bytes, request_at}
use Rattle.responder_machine.specs.LargeMessages.{chunks_of}
use Rattle.responder_machine.specs.Place.{Place, place_terms, inside}
use Rattle.responder_machine.specs.Refusal.{refusal, code_of, sizes_are_known, bytes_round}
use Rattle.responder_machine.specs.Setup.{RspSetup}
use Rattle.responder_machine.specs.Turn.{Turn, Effect}
use Rattle.responder_machine.specs.Turn.Effect.{NoEffect, Took}
use Rattle.spdm_grammar.specs.declared.names.spdm_version.TheConstants.{V1_0, V1_2}

-- ---- ERROR (DSP0274, "ERROR response message format").

-- SPDMVersion of an ERROR: 1.0 in phase Fresh, and 1.2 in all others.
abbrev pub version_in : Phase → ℕ
version_in Fresh = V1_0
version_in Versioned = V1_2
version_in Capable = V1_2
version_in Negotiated = V1_2

-- Error data: the request's code for UnsupportedRequest, else 0.
abbrev pub detail_of : ErrorCode → ℕ → ℕ
detail_of UnsupportedRequest code = code
detail_of _ code = 0

-- Extended error data: the length of the answer for ResponseTooLarge.
abbrev pub extended_of : ErrorCode → List ℕ → List ℕ
extended_of ResponseTooLarge answer = little_bytes 4 (length answer)
extended_of _ answer = []

-- The ERROR of this code in answer to a message, in the version of the phase and with its error data.
abbrev pub error_bytes : RspSetup → Place → List ℕ → Free → ErrorCode → List ℕ
error_bytes r p m f e =
    canonical_response (Error (version_in p.phase) (error_number e) (detail_of e (code_of m)) (extended_of e (answer_bytes r p m f)))

-- LargeResponse tells the handle of the answer.
abbrev pub large_response : ℕ → List ℕ
large_response handle = canonical_response (Error V1_2 (error_number LargeResponse) 0 (handle ∷ []))

-- ---- One message.

-- An answer that is not too long goes by LargeResponse where, with what stands round it, it passes the requester's
-- transfer size.
abbrev pub goes_large : Place → List ℕ → Bool
goes_large p answer =
    sizes_are_known p.phase && nat_lt (place_terms p).common.to_requester.transfer (bytes_round p.at + length answer)

-- The free handle for an answer that goes by LargeResponse; none for any other.
abbrev pub handle_for : Place → Free → List ℕ → Option ℕ
handle_for p f answer = if goes_large p answer then Some f.handle else None

-- What is sent for an answer: LargeResponse with its handle where it goes so, else the answer itself.
abbrev pub sent_for : Place → Free → List ℕ → List ℕ
sent_for p f answer = if goes_large p answer then large_response f.handle else answer

-- A refused request: an ERROR is sent, and nothing takes effect.
abbrev pub refused_turn : RspSetup → Place → List ℕ → Free → ErrorCode → Turn
refused_turn r p m f e = record { message = m; refused = Some e; chunk = None; effect = NoEffect; reply = error_bytes r p m f e }

-- A request takes effect with its bytes, its whole answer and its handle; what is no request has no effect.
abbrev pub effect_of : Option RequestMessage → List ℕ → List ℕ → Option ℕ → Effect
effect_of None request answer large = NoEffect
effect_of (Some asked) request answer large = Took asked request answer large

-- The effect of a request that is not refused.
abbrev pub request_effect : RspSetup → Place → List ℕ → Free → Effect
request_effect r p m f = effect_of (request_at p m) m (answer_bytes r p m f) (handle_for p f (answer_bytes r p m f))

-- What is sent for it: its answer, or LargeResponse.
abbrev pub request_reply : RspSetup → Place → List ℕ → Free → List ℕ
request_reply r p m f = sent_for p f (answer_bytes r p m f)

-- A request that is neither refused nor a chunk: it takes effect and is answered.
abbrev pub plain_turn : RspSetup → Place → List ℕ → Free → Turn
plain_turn r p m f = record { message = m; refused = None; chunk = None; effect = request_effect r p m f; reply = request_reply r p m f }

-- ---- Chunks of a large request (DSP0274, "CHUNK_SEND_ACK response message format").

-- An acknowledgement with a response in it. The mark of an early error is never set.
abbrev pub acknowledged : ChunkMessage → List ℕ → List ℕ
acknowledged c response = canonical_response (ChunkSendAck false c.handle c.number response)

-- A taken chunk.
abbrev pub taken_chunk : List ℕ → ChunkMessage → Effect → List ℕ → Turn
taken_chunk m c effect response = record { message = m; refused = None; chunk = Some c; effect = effect; reply = acknowledged c response }

-- The last chunk is answered by what the large request that it completes leads to. Where that is refused the chunk is
-- taken all the same.
abbrev pub carried_turn : RspSetup → Place → List ℕ → Free → ChunkMessage → List ℕ → Option ErrorCode → Turn
carried_turn r p m f c whole (Some e) = taken_chunk m c NoEffect (error_bytes r p whole f e)
carried_turn r p m f c whole None = taken_chunk m c (request_effect r p whole f) (request_reply r p whole f)

-- The last chunk, by whether the large request that it completes is refused.
abbrev pub last_chunk_turn : RspSetup → Place → List ℕ → Free → ChunkMessage → List ℕ → Turn
last_chunk_turn r p m f c whole = carried_turn r p m f c whole (refusal r p whole f)

-- The last chunk completes the chunks before it. Any other is answered by an acknowledgement without response.
abbrev pub chunk_turn : RspSetup → Place → List ℕ → Free → ChunkMessage → Turn
chunk_turn r p m f c =
    if c.last then last_chunk_turn r (inside p) m f c (joined_with (under_way (chunks_of p.turns)) c)
    else taken_chunk m c NoEffect []

-- The chunk that CHUNK_SEND carries; any other message carries none.
abbrev pub chunk_in : Option RequestMessage → Option ChunkMessage
chunk_in (Some (ChunkSend c)) = Some c
chunk_in _ = None

-- By the code of a refusal and by the chunk: a refused request; one that is no chunk; a chunk that is taken.
abbrev pub turn_by : RspSetup → Place → List ℕ → Free → Option ErrorCode → Option ChunkMessage → Turn
turn_by r p m f (Some e) c = refused_turn r p m f e
turn_by r p m f None None = plain_turn r p m f
turn_by r p m f None (Some c) = chunk_turn r p m f c

-- The turn of a message that is no repeat.
unfoldable pub turn_of : RspSetup → Place → List ℕ → Free → Turn
turn_of r p m f = turn_by r p m f (refusal r p m f) (chunk_in (request_at p m))
