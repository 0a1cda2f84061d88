-- Which requests a responder refuses, with which error code: a list of tests in order, of which the first that holds
-- decides (DSP0274, "ERROR" and the error codes; the order is this project's own).
use Rattle.std.specs.Prelude.{◌+◌, ◌==◌, ◌&&◌, ◌||◌, not, nat_lt, ℕ, List, [], ◌∷◌, length, slice_index, if◌then◌else◌, Bool, true, false, Option, Some, None, is_none, is_some, bytes_eq}
use Rattle.std.specs.Option.{option_or}
use Rattle.std.specs.Result.{result_ok}
use Rattle.spdm_basis.specs.Tests.{first_of_tests}
use Rattle.chunking.specs.Collecting.{broken_rule, under_way}
use Rattle.key_schedule.specs.declared.direction.Direction.TheVariants as direction
use Rattle.measurements.specs.Records.{is_missing}
use Rattle.negotiate.specs.Capabilities.{common_of}
use Rattle.negotiate.specs.Choosing.{selected}
use Rattle.spdm_grammar.specs.Codes.{is_one_of, request_codes}
use Rattle.spdm_grammar.specs.Message.{RequestMessage}
use Rattle.spdm_grammar.specs.Message.RequestMessage.{GetCapabilities, NegotiateAlgorithms, GetMeasurements, PskExchange, PskFinish, KeyUpdate, ChunkSend, ChunkGet}
use Rattle.spdm_grammar.specs.declared.messages.error_code.ErrorCode.{ErrorCode}
use Rattle.spdm_grammar.specs.declared.messages.error_code.ErrorCode.TheVariants.{InvalidRequest, UnexpectedRequest, DecryptError, UnsupportedRequest, SessionLimitExceeded, SessionRequired, ResponseTooLarge, RequestTooLarge, VersionMismatch}
use Rattle.spdm_grammar.specs.declared.messages.part_faults.ChunkFault.{ChunkFault}
use Rattle.spdm_grammar.specs.declared.messages.part_faults.ChunkFault.TheVariants as fault
use Rattle.spdm_grammar.specs.declared.told.phase.Phase.{Phase}
use Rattle.spdm_grammar.specs.declared.told.phase.Phase.TheVariants.{Fresh, Versioned, Capable, Negotiated}
use Rattle.spdm_grammar.specs.declared.told.phase.Stage.{Stage}
use Rattle.spdm_grammar.specs.declared.told.phase.Stage.TheVariants.{Handshake, Open, Verifying}
use Rattle.responder_machine.specs.Answer.{Free, answer_bytes, request_at}
use Rattle.spdm_machine.specs.Keys.{verify_data}
use Rattle.responder_machine.specs.LargeMessages.{pending_of, given_of, handle_of, chunks_of}
use Rattle.responder_machine.specs.Place.{Place, Where, place_terms}
use Rattle.responder_machine.specs.Place.Where.{InClear, InChunks, InSession}
use Rattle.responder_machine.specs.Session.{stage_of, t1_of, tv_of}
use Rattle.responder_machine.specs.Setup.{RspSetup, responder_caps, policy_of, inventory_of}
use Rattle.spdm_machine.specs.Terms.{Terms}
use Rattle.spdm_grammar.specs.declared.names.request_code.TheConstants.{GET_VERSION, CHUNK_SEND, CHUNK_GET, GET_MEASUREMENTS, GET_CAPABILITIES, NEGOTIATE_ALGORITHMS, PSK_EXCHANGE, PSK_FINISH, HEARTBEAT, KEY_UPDATE, END_SESSION}
use Rattle.spdm_grammar.specs.declared.names.spdm_version.TheConstants.{V1_0, V1_2}
use Rattle.spdm_grammar.specs.declared.names.TheConstants.{MAX_SESSIONS}

-- The request code of a message of at least two bytes.
abbrev pub code_of : List ℕ → ℕ
code_of m = slice_index m 1

-- The eleven requests of this profile.
abbrev pub is_known : ℕ → Bool
is_known = is_one_of request_codes

-- ---- Where a request may come.

-- PSK_FINISH, HEARTBEAT, KEY_UPDATE and END_SESSION need a session.
abbrev pub needs_session : Where → ℕ → Bool
needs_session InClear c = is_one_of (PSK_FINISH ∷ HEARTBEAT ∷ KEY_UPDATE ∷ END_SESSION ∷ []) c
needs_session InChunks c = is_one_of (PSK_FINISH ∷ HEARTBEAT ∷ KEY_UPDATE ∷ END_SESSION ∷ []) c
needs_session InSession c = false

-- Nothing is sent in chunks inside a session.
abbrev pub is_chunk_in_session : Where → ℕ → Bool
is_chunk_in_session InClear c = false
is_chunk_in_session InChunks c = false
is_chunk_in_session InSession c = c == CHUNK_SEND

-- GET_VERSION, GET_CAPABILITIES, NEGOTIATE_ALGORITHMS and PSK_EXCHANGE do not come in a session, and GET_VERSION,
-- CHUNK_SEND and CHUNK_GET not in chunks.
abbrev pub is_misplaced : Where → ℕ → Bool
is_misplaced InClear c = false
is_misplaced InChunks c = is_one_of (GET_VERSION ∷ CHUNK_SEND ∷ CHUNK_GET ∷ []) c
is_misplaced InSession c = is_one_of (GET_VERSION ∷ GET_CAPABILITIES ∷ NEGOTIATE_ALGORITHMS ∷ PSK_EXCHANGE ∷ []) c

-- ---- What a phase and a stage allow.

-- CHUNK_GET needs a pending large response in every phase. There is none before Capable.
abbrev pub phase_allows : Phase → Bool → ℕ → Bool
phase_allows Fresh pending c = c == GET_VERSION || (c == CHUNK_GET && pending)
phase_allows Versioned pending c = is_one_of (GET_VERSION ∷ GET_CAPABILITIES ∷ []) c || (c == CHUNK_GET && pending)
phase_allows Capable pending c = is_one_of (GET_VERSION ∷ NEGOTIATE_ALGORITHMS ∷ CHUNK_SEND ∷ []) c || (c == CHUNK_GET && pending)
phase_allows Negotiated pending c = is_one_of (GET_VERSION ∷ GET_MEASUREMENTS ∷ PSK_EXCHANGE ∷ CHUNK_SEND ∷ []) c || (c == CHUNK_GET && pending)

-- The handshake allows PSK_FINISH alone, and Verifying KEY_UPDATE alone. Open allows GET_MEASUREMENTS, HEARTBEAT,
-- KEY_UPDATE and END_SESSION, and CHUNK_GET with a pending large response.
abbrev pub stage_allows : Stage → Bool → ℕ → Bool
stage_allows Handshake pending c = c == PSK_FINISH
stage_allows Open pending c = is_one_of (GET_MEASUREMENTS ∷ HEARTBEAT ∷ KEY_UPDATE ∷ END_SESSION ∷ []) c || (c == CHUNK_GET && pending)
stage_allows Verifying pending c = c == KEY_UPDATE

-- A large response of the place is pending: a chunk of it is still to be given.
abbrev pub has_pending : Place → Bool
has_pending p = is_some (pending_of (place_terms p).common.to_requester.transfer p.turns)

-- The phase allows a request in the clear and in chunks, and the stage allows one in a session.
abbrev pub is_allowed : Where → Place → ℕ → Bool
is_allowed InClear p c = phase_allows p.phase (has_pending p) c
is_allowed InChunks p c = phase_allows p.phase (has_pending p) c
is_allowed InSession p c = stage_allows (stage_of p.events) (has_pending p) c

-- ---- What was not negotiated.

-- GET_MEASUREMENTS needs measurements in the choice, CHUNK_SEND and CHUNK_GET chunks in common, HEARTBEAT and
-- KEY_UPDATE theirs.
abbrev pub lacks_flag : Terms → ℕ → Bool
lacks_flag terms c =
    (c == GET_MEASUREMENTS && not terms.choice.measure) || (is_one_of (CHUNK_SEND ∷ CHUNK_GET ∷ []) c && not terms.common.chunk)
    || (c == HEARTBEAT && not terms.common.heartbeat) || (c == KEY_UPDATE && not terms.common.key_update)

-- ---- What is refused of the contents.

-- The capabilities do not go together.
abbrev pub are_caps_refused : RspSetup → Option RequestMessage → Bool
are_caps_refused r (Some (GetCapabilities caps)) = is_none (result_ok (common_of caps (responder_caps r)))
are_caps_refused r _ = false

-- No choice can be made of the offer.
abbrev pub is_offer_refused : RspSetup → Option RequestMessage → Bool
is_offer_refused r (Some (NegotiateAlgorithms offer)) = is_none (selected offer (policy_of r))
is_offer_refused r _ = false

-- No block has the index.
abbrev pub has_no_block : RspSetup → Option RequestMessage → Bool
has_no_block r (Some (GetMeasurements op)) = is_missing op (inventory_of r)
has_no_block r _ = false

-- The hint is not the one of this requester, or a summary is asked for without measurements.
abbrev pub is_exchange_refused : RspSetup → Place → Option RequestMessage → Bool
is_exchange_refused r p (Some (PskExchange exchange)) = not (bytes_eq exchange.hint r.hint) || (not (exchange.summary == 0) && not (place_terms p).choice.measure)
is_exchange_refused r p _ = false

-- The verify data differ from the requester's over Tv.
abbrev pub is_verify_wrong : RspSetup → Place → List ℕ → Option RequestMessage → Bool
is_verify_wrong r p m (Some (PskFinish verify)) = not (bytes_eq verify (verify_data (place_terms p).choice r.psk (t1_of p.events) direction.Request (tv_of p.events m)))
is_verify_wrong r p m _ = false

-- VerifyNewKey comes in Verifying alone, and the other operations do not come there.
abbrev pub fits_stage : Stage → ℕ → Bool
fits_stage Handshake op = true
fits_stage Open op = not (op == 3)
fits_stage Verifying op = op == 3

-- The operation of a KEY_UPDATE does not fit the stage of its session.
abbrev pub is_update_misplaced : Place → Option RequestMessage → Bool
is_update_misplaced p (Some (KeyUpdate op tag)) = not (fits_stage (stage_of p.events) op)
is_update_misplaced p _ = false

-- The rule of collecting that a chunk of a large request breaks; the greatest length is the responder's own max size.
abbrev pub chunk_fault : RspSetup → Place → Option RequestMessage → Option ChunkFault
chunk_fault r p (Some (ChunkSend chunk)) = broken_rule r.max (under_way (chunks_of p.turns)) chunk
chunk_fault r p _ = None

-- The rule that the chunk breaks is the one of the greatest length.
abbrev pub is_too_large : Option ChunkFault → Bool
is_too_large (Some fault.TooLarge) = true
is_too_large _ = false

-- CHUNK_GET has not the handle of the pending answer, or not the next number.
abbrev pub is_get_refused : Place → Option RequestMessage → Bool
is_get_refused p (Some (ChunkGet handle number)) = not (handle == handle_of p.turns) || not (number == given_of p.turns)
is_get_refused p _ = false

-- ---- The length of the answer.

-- Before phase Capable the sizes of the requester are not known. No answer has more than 42 bytes there.
abbrev pub sizes_are_known : Phase → Bool
sizes_are_known Fresh = false
sizes_are_known Versioned = false
sizes_are_known Capable = true
sizes_are_known Negotiated = true

-- The bytes that stand round an answer: those of CHUNK_SEND_ACK, for a request that arrived in chunks.
abbrev pub bytes_round : Where → ℕ
bytes_round InClear = 0
bytes_round InChunks = 6
bytes_round InSession = 0

-- The answer passes the requester's max size; or with what stands round it its transfer size, and it can't are sent in
-- chunks.
abbrev pub is_answer_too_long : Place → List ℕ → Bool
is_answer_too_long p answer =
    sizes_are_known p.phase
    && (nat_lt (place_terms p).common.to_requester.max (length answer)
    || (not (place_terms p).common.chunk && nat_lt (place_terms p).common.to_requester.transfer (bytes_round p.at + length answer)))

-- ---- The table.

-- The maximum length of a request: the own transfer size, and the own max size where it arrived in chunks.
abbrev pub limit_of : RspSetup → Where → ℕ
limit_of r InClear = r.transfer
limit_of r InChunks = r.max
limit_of r InSession = r.transfer

-- GET_VERSION has SPDMVersion 1.0, and each other request 1.2.
abbrev pub version_for : ℕ → ℕ
version_for c = if c == GET_VERSION then V1_0 else V1_2

-- Where it came, how long it is, and whether it is a request at all.
abbrev pub tests_of_form : RspSetup → Place → List ℕ → List (Bool × ErrorCode)
tests_of_form r p m =
    (nat_lt (length m) 4, InvalidRequest)
    ∷ (nat_lt (limit_of r p.at) (length m), RequestTooLarge)
    ∷ (not (is_known (code_of m)), UnsupportedRequest)
    ∷ (needs_session p.at (code_of m), SessionRequired)
    ∷ (is_chunk_in_session p.at (code_of m), UnsupportedRequest)
    ∷ (is_misplaced p.at (code_of m), UnexpectedRequest)
    ∷ (not (is_allowed p.at p (code_of m)), UnexpectedRequest)
    ∷ (not (slice_index m 0 == version_for (code_of m)), VersionMismatch)
    ∷ (is_none (request_at p m), InvalidRequest)
    ∷ []

-- What it asks for, and what the answer would be.
abbrev pub tests_of_contents : RspSetup → Place → List ℕ → Free → List (Bool × ErrorCode)
tests_of_contents r p m f =
    (lacks_flag (place_terms p) (code_of m), UnsupportedRequest)
    ∷ (are_caps_refused r (request_at p m), InvalidRequest)
    ∷ (is_offer_refused r (request_at p m), InvalidRequest)
    ∷ (has_no_block r (request_at p m), InvalidRequest)
    ∷ (is_exchange_refused r p (request_at p m), InvalidRequest)
    ∷ (is_verify_wrong r p m (request_at p m), DecryptError)
    ∷ (is_update_misplaced p (request_at p m), UnexpectedRequest)
    ∷ (is_too_large (chunk_fault r p (request_at p m)), RequestTooLarge)
    ∷ (is_some (chunk_fault r p (request_at p m)), InvalidRequest)
    ∷ (is_get_refused p (request_at p m), InvalidRequest)
    ∷ (is_answer_too_long p (answer_bytes r p m f), ResponseTooLarge)
    ∷ (code_of m == PSK_EXCHANGE && p.past_handshake == MAX_SESSIONS, SessionLimitExceeded)
    ∷ []

-- The code for which the form of a request is refused, or none: the first of its tests that holds decides.
unfoldable pub refused_form : RspSetup → Place → List ℕ → Option ErrorCode
refused_form r p m = first_of_tests (tests_of_form r p m)

-- The code for which its contents or its answer are refused, or none: again the first test that holds decides.
unfoldable pub refused_contents : RspSetup → Place → List ℕ → Free → Option ErrorCode
refused_contents r p m f = first_of_tests (tests_of_contents r p m f)

-- The code with which a request that is no repeat is refused at a place, or none. The length of the answer is that
-- under the free values.
unfoldable pub refusal : RspSetup → Place → List ℕ → Free → Option ErrorCode
refusal r p m f = option_or (refused_form r p m) (refused_contents r p m f)
