-- The messages that a requester sends (DSP0274, section 10: the requests). Each has the next message tag.
use Rattle.std.specs.Prelude.{◌%◌, ◌++◌, ◌&&◌, ◌||◌, not, nat_lt, ℕ, List, [], ◌∷◌, length, if◌then◌else◌, Bool}
use Rattle.chunking.specs.Cutting.{nth_chunk}
use Rattle.key_schedule.specs.declared.direction.Direction.TheVariants as direction
use Rattle.negotiate.specs.declared.shared.Common.{Common}
use Rattle.spdm_grammar.specs.Message.{RequestMessage, ChunkMessage}
use Rattle.spdm_grammar.specs.Message.RequestMessage.{PskFinish, KeyUpdate, ChunkSend, ChunkGet}
use Rattle.spdm_grammar.specs.Requests.{canonical_request}
use Rattle.spdm_machine.specs.Keys.{verify_data}
use Rattle.requester_machine.specs.Setup.{ReqSetup}
use Rattle.requester_machine.specs.History.{History, next_tag, next_handle}
use Rattle.requester_machine.specs.Message.{Ask, Aim, Sent}
use Rattle.requester_machine.specs.Message.Aim.{Plain, ByChunks, ForChunk, InSession}
use Rattle.requester_machine.specs.Message.Ask.{AskFinish, AskVerify, AskChunk}
use Rattle.requester_machine.specs.Message.Content.{Clear, Sealed}
use Rattle.requester_machine.specs.Records.{sealed_next}
use Rattle.requester_machine.specs.Session.{Steps, session_terms, session_vca, exchange_of, exchange_answer, t1_of, request_epoch}
use Rattle.spdm_grammar.specs.declared.names.message_type.TheConstants.{SPDM}

-- ---- In the clear.

-- A request in the clear, under the next tag, with what it is sent for.
abbrev pub clear_sent : History → RequestMessage → Aim → Sent
clear_sent h request aim = record { tag = next_tag h; content = Clear (canonical_request request); aim = aim }

-- A request, whole in one message.
abbrev pub plain_sent : History → RequestMessage → Sent
plain_sent h asked = clear_sent h asked (Plain asked)

-- The chunk of this number of a request, cut for the responder's transfer size.
abbrev pub piece_of : Common → RequestMessage → ℕ → ℕ → ChunkMessage
piece_of common asked handle number = nth_chunk common.to_responder.transfer handle (canonical_request asked) number

-- CHUNK_SEND with it (DSP0274, "CHUNK_SEND").
abbrev pub piece_sent : Common → History → RequestMessage → ℕ → ℕ → Sent
piece_sent common h asked handle number = clear_sent h (ChunkSend (piece_of common asked handle number)) (ByChunks asked handle number)

-- CHUNK_GET for the chunk of this number of the large response to a request, after the chunks before it (DSP0274,
-- "CHUNK_GET").
abbrev pub get_sent : History → RequestMessage → ℕ → ℕ → List ChunkMessage → Sent
get_sent h asked handle number before = clear_sent h (ChunkGet handle number) (ForChunk asked handle number before)

-- A message is too long for the responder: over its max size, or over its transfer size where chunks are not in common.
abbrev pub is_too_long : Common → List ℕ → Bool
is_too_long common message =
    nat_lt common.to_responder.max (length message)
    || (not common.chunk && nat_lt common.to_responder.transfer (length message))

-- A request that is not too long is sent in chunks where it is over the responder's transfer size, under the next
-- handle.
abbrev pub request_sent : Common → History → RequestMessage → Sent
request_sent common h asked =
    if nat_lt common.to_responder.transfer (length (canonical_request asked)) then piece_sent common h asked (next_handle h) 0
    else plain_sent h asked

-- ---- In a session. The steps are those of the session as they stand when the record is sealed.

-- An inner message is a type and a message: 5 for an SPDM message, 1 for application data (DSP0277).
abbrev pub inner_request : RequestMessage → List ℕ
inner_request request = SPDM ∷ canonical_request request

-- The inner message of application data.
abbrev pub inner_data : List ℕ → List ℕ
inner_data bytes = 1 ∷ bytes

-- A record with this inner message and padding.
abbrev pub record_sent : ReqSetup → History → ℕ → Steps → Ask → List ℕ → List ℕ → Sent
record_sent q h id s ask inner pad = record { tag = next_tag h; content = Sealed (sealed_next q.psk s inner pad) inner pad; aim = InSession id ask }

-- The operation of KEY_UPDATE: 1 UpdateKey, 2 UpdateAllKeys.
abbrev pub operation_of : (all : Bool) → ℕ
operation_of all = if all then 2 else 1

-- Param2 of KEY_UPDATE is the epoch of the request key that its record is sealed under, modulo 256. This project's own.
abbrev pub update_tag : Steps → ℕ
update_tag s = request_epoch s % 256

-- KEY_UPDATE with this operation.
abbrev pub key_update : Steps → (op : ℕ) → RequestMessage
key_update s op = KeyUpdate op (update_tag s)

-- What the verify data of PSK_FINISH cover: Tv, which ends in PSK_FINISH without them (DSP0274,
-- "PSK_FINISH").
abbrev pub finish_input : Steps → List ℕ
finish_input s = session_vca s ++ exchange_of s ++ exchange_answer s ++ canonical_request (PskFinish [])

-- The verify data of PSK_FINISH.
abbrev pub finish_verify : List ℕ → Steps → List ℕ
finish_verify psk s = verify_data (session_terms s).choice psk (t1_of s) direction.Request (finish_input s)

-- PSK_FINISH.
abbrev pub finish_sent : ReqSetup → History → ℕ → Steps → List ℕ → Sent
finish_sent q h id s pad = record_sent q h id s AskFinish (inner_request (PskFinish (finish_verify q.psk s))) pad

-- KEY_UPDATE with VerifyNewKey, operation 3.
abbrev pub verify_sent : ReqSetup → History → ℕ → Steps → List ℕ → Sent
verify_sent q h id s pad = record_sent q h id s AskVerify (inner_request (key_update s 3)) pad

-- CHUNK_GET for the chunk of this number of the large response to GET_MEASUREMENTS with an operation.
abbrev pub chunk_sent : ReqSetup → History → ℕ → Steps → (op handle number : ℕ) → List ChunkMessage → List ℕ → Sent
chunk_sent q h id s op handle number before pad = record_sent q h id s (AskChunk op handle number before) (inner_request (ChunkGet handle number)) pad
