-- What the responder answers to messages, computed from the definitions. No tag is computed in them.
use Rattle.std.proofs.Common.{refl, ◌≡◌, ℕ, List, [], ◌∷◌, true, Some, None}
use Rattle.std.specs.Prelude.{replicate, codes, Option}
use Rattle.spdm_grammar.specs.Reading.{field_at, number_at, optional_at, tables_at, behind_tables, behind_table}
use Rattle.spdm_grammar.specs.Requests.{request_body, get_version_layout, get_capabilities_layout, negotiate_algorithms_layout, psk_finish_layout, chunk_send_layout, chunk_get_layout}
use Rattle.spdm_grammar.specs.Responses.{response_body, version_layout, capabilities_layout, algorithms_layout}
use Rattle.spdm_grammar.specs.declared.messages.error_code.ErrorCode.{ErrorCode}
use Rattle.spdm_grammar.specs.declared.messages.error_code.ErrorCode.TheVariants.{InvalidRequest, UnexpectedRequest, UnsupportedRequest, SessionRequired, VersionMismatch}
use Rattle.spdm_grammar.specs.declared.told.phase.Phase.TheVariants.{Fresh, Negotiated}
use Rattle.spdm_grammar.specs.declared.messages.choice.Pick.TheVariants.{Small}
use Rattle.responder_machine.specs.Answer.{answer_bytes}
use Rattle.responder_machine.specs.Does.{chosen, clear_does}
use Rattle.responder_machine.specs.Handling.{turn_of}
use Rattle.responder_machine.specs.History.{History, phase_of, clear_turns}
use Rattle.responder_machine.specs.History.Entry.{Clear}
use Rattle.spdm_machine.specs.Keys.{Draw}
use Rattle.responder_machine.specs.Refusal.{refused_form, refused_contents, refusal}
use Rattle.responder_machine.specs.Responder.{Outcome, on_clear, after}
use Rattle.responder_machine.specs.Responder.Outcome.{Adds}
use Rattle.responder_machine.specs.Session.{session_of}
use Rattle.responder_machine.specs.Setup.{RspSetup}
use Rattle.spdm_machine.specs.Terms.{terms_of}

-- `responder 8 1024 4096 64 30 mhkc` towards `requester 9 .. 71 31..36`.
abbrev setup : RspSetup
setup = record {
  eid = 8;
  transfer = 1024;
  max = 4096;
  unit = 64;
  beat = 30;
  flags = record { measure = true; heartbeat = true; key_update = true; chunk = true };
  opaque = [];
  blocks = [];
  suites = record { hash = Small; aead = Small };
  peer = 9;
  hint = 0x71 ∷ [];
  psk = codes "1234567890123456";
}

-- The same with transfer size 42.
abbrev small : RspSetup
small = record setup { transfer = 42 }

abbrev draw : Draw
draw = record { number = 0; bytes = replicate 32 0 }

-- The history after these clear messages, the newest first.
abbrev given : RspSetup → List (List ℕ) → History
given r [] = []
given r (m ∷ older) = after (given r older) (clear_does r (given r older) 0 m draw)

-- What a message is refused with, and its answer.
pub record Told : Type 0 where
  refused : Option ErrorCode
  answer : List ℕ

abbrev told : Outcome → Told
told (Adds (Clear tag t d)) = record { refused = t.refused; answer = t.reply }
told _ = record { refused = None; answer = [] }

abbrev told_to : RspSetup → List (List ℕ) → List ℕ → Told
told_to r before m = told (clear_does r (given r before) 0 m draw)

abbrev answered : List ℕ → Told
answered answer = record { refused = None; answer = answer }

abbrev refuses : ErrorCode → List ℕ → Told
refuses code answer = record { refused = Some code; answer = answer }

-- ---- Messages.

abbrev get_version : List ℕ
get_version = 0x10 ∷ 0x84 ∷ 0x00 ∷ 0x00 ∷ []

abbrev version : List ℕ
version = 0x10 ∷ 0x04 ∷ 0x00 ∷ 0x00 ∷ 0x00 ∷ 0x01 ∷ 0x00 ∷ 0x12 ∷ []

abbrev get_capabilities : List ℕ
get_capabilities = 0x12 ∷ 0xe1 ∷ 0x00 ∷ 0x00 ∷ 0x00 ∷ 0x00 ∷ 0x00 ∷ 0x00 ∷ 0xc0 ∷ 0x64 ∷ 0x02 ∷ 0x00 ∷ 0x00 ∷ 0x04 ∷ 0x00 ∷ 0x00 ∷ 0x00 ∷ 0x10 ∷ 0x00 ∷ 0x00 ∷ []

abbrev capabilities : List ℕ
capabilities = 0x12 ∷ 0x61 ∷ 0x00 ∷ 0x00 ∷ 0x00 ∷ 0x00 ∷ 0x00 ∷ 0x00 ∷ 0xc8 ∷ 0x68 ∷ 0x02 ∷ 0x00 ∷ 0x00 ∷ 0x04 ∷ 0x00 ∷ 0x00 ∷ 0x00 ∷ 0x10 ∷ 0x00 ∷ 0x00 ∷ []

abbrev negotiate_algorithms : List ℕ
negotiate_algorithms = 0x12 ∷ 0xe3 ∷ 0x04 ∷ 0x00 ∷ 0x30 ∷ 0x00 ∷ 0x01 ∷ 0x02 ∷ 0x00 ∷ 0x00 ∷ 0x00 ∷ 0x00 ∷ 0x01 ∷ 0x00 ∷ 0x00 ∷ 0x00 ∷ 0x00 ∷ 0x00 ∷ 0x00 ∷ 0x00 ∷ 0x00 ∷ 0x00 ∷ 0x00 ∷ 0x00 ∷ 0x00 ∷ 0x00 ∷ 0x00 ∷ 0x00 ∷ 0x00 ∷ 0x00 ∷ 0x00 ∷ 0x00 ∷ 0x02 ∷ 0x20 ∷ 0x00 ∷ 0x00 ∷ 0x03 ∷ 0x20 ∷ 0x01 ∷ 0x00 ∷ 0x04 ∷ 0x20 ∷ 0x00 ∷ 0x00 ∷ 0x05 ∷ 0x20 ∷ 0x01 ∷ 0x00 ∷ []

abbrev algorithms : List ℕ
algorithms = 0x12 ∷ 0x63 ∷ 0x04 ∷ 0x00 ∷ 0x34 ∷ 0x00 ∷ 0x01 ∷ 0x02 ∷ 0x02 ∷ 0x00 ∷ 0x00 ∷ 0x00 ∷ 0x00 ∷ 0x00 ∷ 0x00 ∷ 0x00 ∷ 0x01 ∷ 0x00 ∷ 0x00 ∷ 0x00 ∷ 0x00 ∷ 0x00 ∷ 0x00 ∷ 0x00 ∷ 0x00 ∷ 0x00 ∷ 0x00 ∷ 0x00 ∷ 0x00 ∷ 0x00 ∷ 0x00 ∷ 0x00 ∷ 0x00 ∷ 0x00 ∷ 0x00 ∷ 0x00 ∷ 0x02 ∷ 0x20 ∷ 0x00 ∷ 0x00 ∷ 0x03 ∷ 0x20 ∷ 0x01 ∷ 0x00 ∷ 0x04 ∷ 0x20 ∷ 0x00 ∷ 0x00 ∷ 0x05 ∷ 0x20 ∷ 0x01 ∷ 0x00 ∷ []

abbrev small_get_capabilities : List ℕ
small_get_capabilities = 0x12 ∷ 0xe1 ∷ 0x00 ∷ 0x00 ∷ 0x00 ∷ 0x00 ∷ 0x00 ∷ 0x00 ∷ 0xc0 ∷ 0x64 ∷ 0x02 ∷ 0x00 ∷ 0x2a ∷ 0x00 ∷ 0x00 ∷ 0x00 ∷ 0x00 ∷ 0x10 ∷ 0x00 ∷ 0x00 ∷ []

abbrev small_capabilities : List ℕ
small_capabilities = 0x12 ∷ 0x61 ∷ 0x00 ∷ 0x00 ∷ 0x00 ∷ 0x00 ∷ 0x00 ∷ 0x00 ∷ 0xc8 ∷ 0x68 ∷ 0x02 ∷ 0x00 ∷ 0x2a ∷ 0x00 ∷ 0x00 ∷ 0x00 ∷ 0x00 ∷ 0x10 ∷ 0x00 ∷ 0x00 ∷ []

abbrev first_chunk : List ℕ
first_chunk = 0x12 ∷ 0x85 ∷ 0x00 ∷ 0x00 ∷ 0x00 ∷ 0x00 ∷ 0x00 ∷ 0x00 ∷ 0x1a ∷ 0x00 ∷ 0x00 ∷ 0x00 ∷ 0x30 ∷ 0x00 ∷ 0x00 ∷ 0x00 ∷ 0x12 ∷ 0xe3 ∷ 0x04 ∷ 0x00 ∷ 0x30 ∷ 0x00 ∷ 0x01 ∷ 0x02 ∷ 0x00 ∷ 0x00 ∷ 0x00 ∷ 0x00 ∷ 0x01 ∷ 0x00 ∷ 0x00 ∷ 0x00 ∷ 0x00 ∷ 0x00 ∷ 0x00 ∷ 0x00 ∷ 0x00 ∷ 0x00 ∷ 0x00 ∷ 0x00 ∷ 0x00 ∷ 0x00 ∷ []

abbrev last_chunk : List ℕ
last_chunk = 0x12 ∷ 0x85 ∷ 0x01 ∷ 0x00 ∷ 0x01 ∷ 0x00 ∷ 0x00 ∷ 0x00 ∷ 0x16 ∷ 0x00 ∷ 0x00 ∷ 0x00 ∷ 0x00 ∷ 0x00 ∷ 0x00 ∷ 0x00 ∷ 0x00 ∷ 0x00 ∷ 0x02 ∷ 0x20 ∷ 0x00 ∷ 0x00 ∷ 0x03 ∷ 0x20 ∷ 0x01 ∷ 0x00 ∷ 0x04 ∷ 0x20 ∷ 0x00 ∷ 0x00 ∷ 0x05 ∷ 0x20 ∷ 0x01 ∷ 0x00 ∷ []

abbrev first_piece : List ℕ
first_piece = 0x12 ∷ 0x06 ∷ 0x00 ∷ 0x00 ∷ 0x00 ∷ 0x00 ∷ 0x00 ∷ 0x00 ∷ 0x1a ∷ 0x00 ∷ 0x00 ∷ 0x00 ∷ 0x34 ∷ 0x00 ∷ 0x00 ∷ 0x00 ∷ 0x12 ∷ 0x63 ∷ 0x04 ∷ 0x00 ∷ 0x34 ∷ 0x00 ∷ 0x01 ∷ 0x02 ∷ 0x02 ∷ 0x00 ∷ 0x00 ∷ 0x00 ∷ 0x00 ∷ 0x00 ∷ 0x00 ∷ 0x00 ∷ 0x01 ∷ 0x00 ∷ 0x00 ∷ 0x00 ∷ 0x00 ∷ 0x00 ∷ 0x00 ∷ 0x00 ∷ 0x00 ∷ 0x00 ∷ []

abbrev last_piece : List ℕ
last_piece = 0x12 ∷ 0x06 ∷ 0x01 ∷ 0x00 ∷ 0x01 ∷ 0x00 ∷ 0x00 ∷ 0x00 ∷ 0x1a ∷ 0x00 ∷ 0x00 ∷ 0x00 ∷ 0x00 ∷ 0x00 ∷ 0x00 ∷ 0x00 ∷ 0x00 ∷ 0x00 ∷ 0x00 ∷ 0x00 ∷ 0x00 ∷ 0x00 ∷ 0x02 ∷ 0x20 ∷ 0x00 ∷ 0x00 ∷ 0x03 ∷ 0x20 ∷ 0x01 ∷ 0x00 ∷ 0x04 ∷ 0x20 ∷ 0x00 ∷ 0x00 ∷ 0x05 ∷ 0x20 ∷ 0x01 ∷ 0x00 ∷ []

-- ---- On a fresh connection.

-- GET_CAPABILITIES comes before GET_VERSION.
capabilities_before_version : told_to setup [] get_capabilities ≡ refuses UnexpectedRequest (0x10 ∷ 0x7f ∷ 0x04 ∷ 0x00 ∷ [])
unfolding on_clear refused_form refused_contents refusal turn_of answer_bytes chosen session_of terms_of field_at number_at optional_at tables_at behind_tables behind_table request_body response_body get_version_layout get_capabilities_layout negotiate_algorithms_layout psk_finish_layout chunk_send_layout chunk_get_layout version_layout capabilities_layout algorithms_layout
capabilities_before_version = refl

it_stays_fresh : phase_of (clear_turns (given setup (get_capabilities ∷ []))) ≡ Fresh
unfolding on_clear refused_form refused_contents refusal turn_of answer_bytes chosen session_of terms_of field_at number_at optional_at tables_at behind_tables behind_table request_body response_body get_version_layout get_capabilities_layout negotiate_algorithms_layout psk_finish_layout chunk_send_layout chunk_get_layout version_layout capabilities_layout algorithms_layout
it_stays_fresh = refl

get_version_of_version_12 : told_to setup [] (0x12 ∷ 0x84 ∷ 0x00 ∷ 0x00 ∷ []) ≡ refuses VersionMismatch (0x10 ∷ 0x7f ∷ 0x41 ∷ 0x00 ∷ [])
unfolding on_clear refused_form refused_contents refusal turn_of answer_bytes chosen session_of terms_of field_at number_at optional_at tables_at behind_tables behind_table request_body response_body get_version_layout get_capabilities_layout negotiate_algorithms_layout psk_finish_layout chunk_send_layout chunk_get_layout version_layout capabilities_layout algorithms_layout
get_version_of_version_12 = refl

one_byte_message : told_to setup [] (0x10 ∷ []) ≡ refuses InvalidRequest (0x10 ∷ 0x7f ∷ 0x01 ∷ 0x00 ∷ [])
unfolding on_clear refused_form refused_contents refusal turn_of answer_bytes chosen session_of terms_of field_at number_at optional_at tables_at behind_tables behind_table request_body response_body get_version_layout get_capabilities_layout negotiate_algorithms_layout psk_finish_layout chunk_send_layout chunk_get_layout version_layout capabilities_layout algorithms_layout
one_byte_message = refl

-- ---- A negotiation.

abbrev negotiation : List (List ℕ)
negotiation = negotiate_algorithms ∷ get_capabilities ∷ get_version ∷ []

negotiation_begins : told_to setup [] get_version ≡ answered version
unfolding on_clear refused_form refused_contents refusal turn_of answer_bytes chosen session_of terms_of field_at number_at optional_at tables_at behind_tables behind_table request_body response_body get_version_layout get_capabilities_layout negotiate_algorithms_layout psk_finish_layout chunk_send_layout chunk_get_layout version_layout capabilities_layout algorithms_layout
negotiation_begins = refl

negotiation_goes_on : told_to setup (get_version ∷ []) get_capabilities ≡ answered capabilities
unfolding on_clear refused_form refused_contents refusal turn_of answer_bytes chosen session_of terms_of field_at number_at optional_at tables_at behind_tables behind_table request_body response_body get_version_layout get_capabilities_layout negotiate_algorithms_layout psk_finish_layout chunk_send_layout chunk_get_layout version_layout capabilities_layout algorithms_layout
negotiation_goes_on = refl

negotiation_completes : told_to setup (get_capabilities ∷ get_version ∷ []) negotiate_algorithms ≡ answered algorithms
unfolding on_clear refused_form refused_contents refusal turn_of answer_bytes chosen session_of terms_of field_at number_at optional_at tables_at behind_tables behind_table request_body response_body get_version_layout get_capabilities_layout negotiate_algorithms_layout psk_finish_layout chunk_send_layout chunk_get_layout version_layout capabilities_layout algorithms_layout
negotiation_completes = refl

it_is_negotiated : phase_of (clear_turns (given setup negotiation)) ≡ Negotiated
unfolding on_clear refused_form refused_contents refusal turn_of answer_bytes chosen session_of terms_of field_at number_at optional_at tables_at behind_tables behind_table request_body response_body get_version_layout get_capabilities_layout negotiate_algorithms_layout psk_finish_layout chunk_send_layout chunk_get_layout version_layout capabilities_layout algorithms_layout
it_is_negotiated = refl

-- GET_DIGESTS is none of the requests.
unsupported_request : told_to setup negotiation (0x12 ∷ 0x81 ∷ 0x00 ∷ 0x00 ∷ []) ≡ refuses UnsupportedRequest (0x12 ∷ 0x7f ∷ 0x07 ∷ 0x81 ∷ [])
unfolding on_clear refused_form refused_contents refusal turn_of answer_bytes chosen session_of terms_of field_at number_at optional_at tables_at behind_tables behind_table request_body response_body get_version_layout get_capabilities_layout negotiate_algorithms_layout psk_finish_layout chunk_send_layout chunk_get_layout version_layout capabilities_layout algorithms_layout
unsupported_request = refl

-- PSK_FINISH in the clear.
session_required : told_to setup negotiation (0x12 ∷ 0xe7 ∷ 0x00 ∷ 0x00 ∷ replicate 32 0) ≡ refuses SessionRequired (0x12 ∷ 0x7f ∷ 0x0b ∷ 0x00 ∷ [])
unfolding on_clear refused_form refused_contents refusal turn_of answer_bytes chosen session_of terms_of field_at number_at optional_at tables_at behind_tables behind_table request_body response_body get_version_layout get_capabilities_layout negotiate_algorithms_layout psk_finish_layout chunk_send_layout chunk_get_layout version_layout capabilities_layout algorithms_layout
session_required = refl

-- ---- A negotiation by chunks, with transfer size 42 at both ends.

abbrev sizes_told : List (List ℕ)
sizes_told = small_get_capabilities ∷ get_version ∷ []

small_sizes_told : told_to small (get_version ∷ []) small_get_capabilities ≡ answered small_capabilities
unfolding on_clear refused_form refused_contents refusal turn_of answer_bytes chosen session_of terms_of field_at number_at optional_at tables_at behind_tables behind_table request_body response_body get_version_layout get_capabilities_layout negotiate_algorithms_layout psk_finish_layout chunk_send_layout chunk_get_layout version_layout capabilities_layout algorithms_layout
small_sizes_told = refl

first_chunk_is_acknowledged : told_to small sizes_told first_chunk ≡ answered (0x12 ∷ 0x05 ∷ 0x00 ∷ 0x00 ∷ 0x00 ∷ 0x00 ∷ [])
unfolding on_clear refused_form refused_contents refusal turn_of answer_bytes chosen session_of terms_of field_at number_at optional_at tables_at behind_tables behind_table request_body response_body get_version_layout get_capabilities_layout negotiate_algorithms_layout psk_finish_layout chunk_send_layout chunk_get_layout version_layout capabilities_layout algorithms_layout
first_chunk_is_acknowledged = refl

-- The answer is sent in chunks too.
negotiation_by_chunks : told_to small (first_chunk ∷ sizes_told) last_chunk ≡ answered (0x12 ∷ 0x05 ∷ 0x00 ∷ 0x00 ∷ 0x01 ∷ 0x00 ∷ 0x12 ∷ 0x7f ∷ 0x0f ∷ 0x00 ∷ 0x00 ∷ [])
unfolding on_clear refused_form refused_contents refusal turn_of answer_bytes chosen session_of terms_of field_at number_at optional_at tables_at behind_tables behind_table request_body response_body get_version_layout get_capabilities_layout negotiate_algorithms_layout psk_finish_layout chunk_send_layout chunk_get_layout version_layout capabilities_layout algorithms_layout
negotiation_by_chunks = refl

abbrev chunks_sent : List (List ℕ)
chunks_sent = last_chunk ∷ first_chunk ∷ sizes_told

first_piece_is_given : told_to small chunks_sent (0x12 ∷ 0x86 ∷ 0x00 ∷ 0x00 ∷ 0x00 ∷ 0x00 ∷ []) ≡ answered first_piece
unfolding on_clear refused_form refused_contents refusal turn_of answer_bytes chosen session_of terms_of field_at number_at optional_at tables_at behind_tables behind_table request_body response_body get_version_layout get_capabilities_layout negotiate_algorithms_layout psk_finish_layout chunk_send_layout chunk_get_layout version_layout capabilities_layout algorithms_layout
first_piece_is_given = refl

last_piece_is_given : told_to small ((0x12 ∷ 0x86 ∷ 0x00 ∷ 0x00 ∷ 0x00 ∷ 0x00 ∷ []) ∷ chunks_sent) (0x12 ∷ 0x86 ∷ 0x00 ∷ 0x00 ∷ 0x01 ∷ 0x00 ∷ []) ≡ answered last_piece
unfolding on_clear refused_form refused_contents refusal turn_of answer_bytes chosen session_of terms_of field_at number_at optional_at tables_at behind_tables behind_table request_body response_body get_version_layout get_capabilities_layout negotiate_algorithms_layout psk_finish_layout chunk_send_layout chunk_get_layout version_layout capabilities_layout algorithms_layout
last_piece_is_given = refl

no_piece_is_left : told_to small ((0x12 ∷ 0x86 ∷ 0x00 ∷ 0x00 ∷ 0x01 ∷ 0x00 ∷ []) ∷ (0x12 ∷ 0x86 ∷ 0x00 ∷ 0x00 ∷ 0x00 ∷ 0x00 ∷ []) ∷ chunks_sent) (0x12 ∷ 0x86 ∷ 0x00 ∷ 0x00 ∷ 0x02 ∷ 0x00 ∷ []) ≡ refuses UnexpectedRequest (0x12 ∷ 0x7f ∷ 0x04 ∷ 0x00 ∷ [])
unfolding on_clear refused_form refused_contents refusal turn_of answer_bytes chosen session_of terms_of field_at number_at optional_at tables_at behind_tables behind_table request_body response_body get_version_layout get_capabilities_layout negotiate_algorithms_layout psk_finish_layout chunk_send_layout chunk_get_layout version_layout capabilities_layout algorithms_layout
no_piece_is_left = refl

it_is_negotiated_by_chunks : phase_of (clear_turns (given small chunks_sent)) ≡ Negotiated
unfolding on_clear refused_form refused_contents refusal turn_of answer_bytes chosen session_of terms_of field_at number_at optional_at tables_at behind_tables behind_table request_body response_body get_version_layout get_capabilities_layout negotiate_algorithms_layout psk_finish_layout chunk_send_layout chunk_get_layout version_layout capabilities_layout algorithms_layout
it_is_negotiated_by_chunks = refl
