-- What the rows of the responder's table are computed over: a responder and a requester, their messages, and made-up
-- places. No tag is computed in the rows.
use Rattle.std.proofs.Common.{◌≡◌, ◌+◌, ℕ, List, [], ◌∷◌, drop, take, true, Option, Some, None}
use Rattle.std.specs.Prelude.{codes, map, replicate}
use Rattle.measurements.specs.Blocks.{up_to}
use Rattle.negotiate.specs.Offer.{offer_tables}
use Rattle.spdm_grammar.specs.Message.{RequestMessage, OfferMessage, ExchangeMessage, ChunkMessage}
use Rattle.spdm_grammar.specs.Message.RequestMessage.{GetVersion, GetCapabilities, NegotiateAlgorithms, GetMeasurements, PskExchange, PskFinish, Heartbeat, KeyUpdate, EndSession, ChunkSend, ChunkGet}
use Rattle.spdm_grammar.specs.Message.ResponseMessage.{Capabilities}
use Rattle.spdm_grammar.specs.Reading.{field_at, number_at, optional_at, tables_at, behind_tables, behind_table}
use Rattle.spdm_grammar.specs.Requests.{canonical_request, request_body, get_version_layout, get_capabilities_layout, negotiate_algorithms_layout, get_measurements_layout, psk_exchange_layout, psk_finish_layout, heartbeat_layout, key_update_layout, end_session_layout, chunk_send_layout, chunk_get_layout}
use Rattle.spdm_grammar.specs.Responses.{canonical_response, response_body, version_layout, capabilities_layout, algorithms_layout}
use Rattle.spdm_grammar.specs.declared.messages.capabilities.Caps.{Caps}
use Rattle.spdm_grammar.specs.declared.messages.choice.Pick.TheVariants.{Small}
use Rattle.spdm_grammar.specs.declared.names.capability.TheConstants.{PSK_CAP, HBEAT_CAP, KEY_UPD_CAP, CHUNK_CAP}
use Rattle.spdm_grammar.specs.declared.messages.error_code.ErrorCode.{ErrorCode}
use Rattle.spdm_grammar.specs.declared.told.phase.Phase.{Phase}
use Rattle.spdm_grammar.specs.declared.told.phase.Phase.TheVariants.{Fresh, Versioned, Capable, Negotiated}
use Rattle.spdm_machine.specs.Setup.{protection_flags}
use Rattle.spdm_machine.specs.Terms.{no_negotiation, terms_of}
use Rattle.transcript.specs.Transcripts.{Negotiation}
use Rattle.responder_machine.specs.Answer.{Free, version_answer, algorithms_answer, answer_bytes}
use Rattle.responder_machine.specs.Handling.{turn_of}
use Rattle.responder_machine.specs.Place.{Place}
use Rattle.responder_machine.specs.Place.Where.{InClear}
use Rattle.responder_machine.specs.Refusal.{refused_form, refused_contents, refusal}
use Rattle.responder_machine.specs.Responder.{session_turn}
use Rattle.responder_machine.specs.Session.{Events}
use Rattle.responder_machine.specs.Session.Event.{Began, Heard}
use Rattle.responder_machine.specs.Turn.{Turn}
use Rattle.responder_machine.specs.Turn.Effect.{Took}
use Rattle.responder_machine.specs.Setup.{RspSetup, responder_caps}

-- ---- The ends.

-- A responder with all capabilities and with measurements 1 and 3.
abbrev pub setup : RspSetup
setup = record {
  eid = 8;
  transfer = 1024;
  max = 4096;
  unit = 64;
  beat = 30;
  flags = record { measure = true; heartbeat = true; key_update = true; chunk = true };
  opaque = [];
  blocks = record { index = 1; value_type = 1; tcb = true; value = 7 ∷ [] } ∷ record { index = 3; value_type = 1; tcb = true; value = 9 ∷ 9 ∷ [] } ∷ [];
  suites = record { hash = Small; aead = Small };
  peer = 9;
  hint = 0x71 ∷ [];
  psk = codes "1234567890123456";
}

-- The capabilities of a requester that has these flags and sizes.
abbrev pub caps_with : (flags transfer max : ℕ) → Caps
caps_with flags transfer max = record { ct = 0; flags = protection_flags + PSK_CAP + flags; transfer = transfer; max = max }

-- Those of one that has all that are optional, and the responder's sizes.
abbrev pub all_caps : Caps
all_caps = caps_with (HBEAT_CAP + KEY_UPD_CAP + CHUNK_CAP) 1024 4096

-- An offer of SHA-256 and AES-128-GCM, with measurements.
abbrev pub offer : OfferMessage
offer = record { measurement = 1; other = 2; asym = 0; hash = 1; ext_asym = []; ext_hash = []; count = 4; tables = offer_tables 1 }

-- Values that are free in an answer.
abbrev pub free : Free
free = record { id = 1; context = replicate 32 0; exchange_opaque = []; nonce = replicate 32 0; measured_opaque = []; handle = 0; reply = []; pad = [] }

-- ---- The eleven requests, each as it is sent.

abbrev pub get_version : List ℕ
get_version = canonical_request GetVersion

abbrev pub get_capabilities : List ℕ
get_capabilities = canonical_request (GetCapabilities all_caps)

abbrev pub negotiate_algorithms : List ℕ
negotiate_algorithms = canonical_request (NegotiateAlgorithms offer)

abbrev pub get_measurements : ℕ → List ℕ
get_measurements op = canonical_request (GetMeasurements op)

abbrev pub exchange : ExchangeMessage
exchange = record { summary = 0; req_id = 1; hint = 0x71 ∷ []; context = replicate 32 0; opaque = [] }

abbrev pub psk_exchange : List ℕ
psk_exchange = canonical_request (PskExchange exchange)

abbrev pub psk_finish : List ℕ
psk_finish = canonical_request (PskFinish (replicate 32 0))

abbrev pub heartbeat : List ℕ
heartbeat = canonical_request Heartbeat

-- 1 UpdateKey, 2 UpdateAllKeys, 3 VerifyNewKey.
abbrev pub key_update : ℕ → List ℕ
key_update op = canonical_request (KeyUpdate op 0)

abbrev pub end_session : List ℕ
end_session = canonical_request EndSession

-- A large request of 48 bytes as one chunk.
abbrev pub only_chunk : ChunkMessage
only_chunk = record { last = true; handle = 0; number = 0; large = Some 48; chunk = negotiate_algorithms }

abbrev pub chunk_send : List ℕ
chunk_send = canonical_request (ChunkSend only_chunk)

abbrev pub chunk_get : ℕ → ℕ → List ℕ
chunk_get handle number = canonical_request (ChunkGet handle number)

-- The first four bytes of a request, with another SPDMVersion. The version is tested right after the phase and the
-- stage, so VersionMismatch shows that they allow the request.
abbrev pub misversioned : List ℕ → List ℕ
misversioned m = 0x11 ∷ take 3 (drop 1 m)

-- ---- Places in the clear.

-- The messages of a negotiation between a responder and a requester with these capabilities and this offer.
abbrev pub negotiation_with : RspSetup → Caps → OfferMessage → Negotiation
negotiation_with r caps offered = record {
  get_version = get_version;
  version = canonical_response version_answer;
  get_capabilities = canonical_request (GetCapabilities caps);
  capabilities = canonical_response (Capabilities (responder_caps r));
  negotiate_algorithms = canonical_request (NegotiateAlgorithms offered);
  algorithms = canonical_response (algorithms_answer r offered);
}

-- The negotiation with all capabilities.
abbrev pub negotiation : Negotiation
negotiation = negotiation_with setup all_caps offer

abbrev pub clear_with : Phase → List Turn → Negotiation → Place
clear_with phase turns n = record { at = InClear; phase = phase; turns = turns; negotiation = n; events = []; past_handshake = 0 }

abbrev pub fresh : Place
fresh = clear_with Fresh [] no_negotiation

abbrev pub versioned : Place
versioned = clear_with Versioned [] no_negotiation

abbrev pub capable : Place
capable = clear_with Capable [] (record negotiation { negotiate_algorithms = []; algorithms = [] })

abbrev pub negotiated : Place
negotiated = clear_with Negotiated [] negotiation

-- A turn in which a request took effect; its answer went by LargeResponse where there is a handle.
abbrev pub took : RequestMessage → List ℕ → Option ℕ → Turn
took asked answer large = record { message = []; refused = None; chunk = None; effect = Took asked [] answer large; reply = [] }

-- An answer of 100 bytes went by LargeResponse with handle 5, and all of it is still to be given.
abbrev pub large : Turn
large = took (GetMeasurements 255) (replicate 100 0) (Some 5)

-- ---- Sessions.

-- In the handshake.
abbrev pub begun_with : Negotiation → Events
begun_with n = Began n psk_exchange [] ∷ []

abbrev pub after_taking : RequestMessage → Events → Events
after_taking asked s = Heard [] (took asked [] None) [] ∷ s

abbrev pub opened_with : Negotiation → Events
opened_with n = after_taking (PskFinish []) (begun_with n)

abbrev pub verifying_with : Negotiation → Events
verifying_with n = after_taking (KeyUpdate 1 0) (opened_with n)

-- The same, with all capabilities.
abbrev pub begun : Events
begun = begun_with negotiation

abbrev pub opened : Events
opened = opened_with negotiation

abbrev pub verifying : Events
verifying = verifying_with negotiation

-- A large response is pending in a session.
abbrev pub with_large : Events → Events
with_large s = Heard [] large [] ∷ s

-- ---- Tables.

-- A request and the code with which it is refused, or none.
abbrev pub Row : Type 0
Row = List ℕ × Option ErrorCode

-- At a place each request is refused with the code that stands beside it.
abbrev pub IsTable : RspSetup → Place → List Row → Type 0
IsTable r p rows = map (λ (row : Row). refusal r p row.0 free) rows ≡ map (λ (row : Row). row.1) rows

-- All definitions that a row looks through.
unfoldable pub computed : Unit {0}
unfolding refused_form refused_contents refusal turn_of session_turn answer_bytes terms_of up_to field_at number_at optional_at tables_at behind_tables behind_table request_body response_body get_version_layout get_capabilities_layout negotiate_algorithms_layout get_measurements_layout psk_exchange_layout psk_finish_layout heartbeat_layout key_update_layout end_session_layout chunk_send_layout chunk_get_layout version_layout capabilities_layout algorithms_layout
computed = tt
