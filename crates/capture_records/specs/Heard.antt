-- What the messages between a requester and the responder show of their sessions, and what each adds. This project's own.
use Rattle.std.specs.Prelude.{◌≡◌, ℕ, List, [], ◌∷◌, take, Bool, bytes_eq, ◌==◌, ◌&&◌, slice_index, slice_index_or, slice_set, if◌then◌else◌, Option, Some, None}
use Rattle.std.specs.List.{list_any, position_from}
use Rattle.capture_records.specs.Keyed.{Keyed}
use Rattle.capture_records.specs.Opening.{IsInner, after_opening, number_at, opening_of}
use Rattle.capture_records.specs.declared.dialogue.RecordTold.{RecordTold}
use Rattle.capture_records.specs.declared.dialogue.RecordTold.TheVariants.{InSession, NoSession}
use Rattle.capture_records.specs.declared.dialogue.TheConstants.{MAX_SESSIONS}
use Rattle.key_schedule.specs.declared.direction.Direction.{Direction}
use Rattle.spdm_grammar.specs.declared.names.request_code.TheConstants.{GET_VERSION, GET_CAPABILITIES, NEGOTIATE_ALGORITHMS, PSK_EXCHANGE}
use Rattle.spdm_grammar.specs.declared.names.response_code.TheConstants.{VERSION, CAPABILITIES, ALGORITHMS, PSK_EXCHANGE_RSP}
use Rattle.spdm_machine.specs.Terms.{terms_of}
use Rattle.transcript.specs.Transcripts.{Negotiation, vca_of}

-- The last message of each kind, whole, and the newest sessions, the newest first.
pub record Heard : Type 0 where
  pub psk : List ℕ
  pub get_version : List ℕ
  pub version : List ℕ
  pub get_capabilities : List ℕ
  pub capabilities : List ℕ
  pub negotiate_algorithms : List ℕ
  pub algorithms : List ℕ
  pub exchange : List ℕ
  pub sessions : List Keyed

abbrev pub nothing_heard : (psk : List ℕ) → Heard
nothing_heard psk = record {
  psk = psk;
  get_version = [];
  version = [];
  get_capabilities = [];
  capabilities = [];
  negotiate_algorithms = [];
  algorithms = [];
  exchange = [];
  sessions = [];
}

abbrev pub negotiation_in : Heard → Negotiation
negotiation_in h = record {
  get_version = h.get_version;
  version = h.version;
  get_capabilities = h.get_capabilities;
  capabilities = h.capabilities;
  negotiate_algorithms = h.negotiate_algorithms;
  algorithms = h.algorithms;
}

-- ---- Messages in the clear.

abbrev pub after_request : Heard → (message : List ℕ) → Heard
after_request h message =
    if slice_index message 1 == GET_VERSION then record h { get_version = message }
    else (if slice_index message 1 == GET_CAPABILITIES then record h { get_capabilities = message }
    else (if slice_index message 1 == NEGOTIATE_ALGORITHMS then record h { negotiate_algorithms = message }
    else (if slice_index message 1 == PSK_EXCHANGE then record h { exchange = message }
    else h)))

-- The session that PSK_EXCHANGE_RSP begins, under what the negotiation settled.
abbrev pub begun_by : Heard → (answer : List ℕ) → Keyed
begun_by h answer = record {
  choice = (terms_of (negotiation_in h)).choice;
  id = record { req = number_at h.exchange 4; rsp = number_at answer 4 };
  vca = vca_of (negotiation_in h);
  exchange = h.exchange;
  answer = answer;
  finish = [];
  finished = [];
  request_epoch = 0;
  response_epoch = 0;
}

-- A session began with this answer.
abbrev pub began_with : (answer : List ℕ) → Keyed → Bool
began_with answer s = bytes_eq s.answer answer

-- PSK_EXCHANGE_RSP came before. Its verify data are those of one exchange.
abbrev pub is_repeat : Heard → (answer : List ℕ) → Bool
is_repeat h answer = list_any (began_with answer) h.sessions

-- Of the sessions the newest are kept. An answer that comes again begins none.
abbrev pub after_exchange : Heard → (answer : List ℕ) → Heard
after_exchange h answer =
    if is_repeat h answer then h
    else record h { sessions = take MAX_SESSIONS (begun_by h answer ∷ h.sessions) }

abbrev pub after_answer : Heard → (message : List ℕ) → Heard
after_answer h message =
    if slice_index message 1 == VERSION then record h { version = message }
    else (if slice_index message 1 == CAPABILITIES then record h { capabilities = message }
    else (if slice_index message 1 == ALGORITHMS then record h { algorithms = message }
    else (if slice_index message 1 == PSK_EXCHANGE_RSP then after_exchange h message
    else h)))

-- ---- Records.

-- A session has the id that a record names.
abbrev pub has_id : (sealed : List ℕ) → Keyed → Bool
has_id sealed s = (s.id.req == number_at sealed 0) && (s.id.rsp == number_at sealed 2)

-- The place of the newest one that has.
abbrev pub place_in : Heard → (sealed : List ℕ) → Option ℕ
place_in h sealed = position_from (has_id sealed) 0 h.sessions

-- What the newest one tells of it.
abbrev pub IsToldBy : Keyed → (psk : List ℕ) → Direction → (sealed : List ℕ) → RecordTold → (out : List ℕ) → Type 0
IsToldBy s psk direction sealed NoSession out = ⊥
IsToldBy s psk direction sealed (InSession id told) out = (id ≡ s.id) × (told ≡ opening_of s psk direction sealed) × IsInner s psk direction sealed told out

abbrev pub after_told : Keyed → Direction → RecordTold → (out : List ℕ) → Keyed
after_told s direction NoSession out = s
after_told s direction (InSession id told) out = after_opening s direction told out

-- What is told of a record that the session at a place is asked of, and what is kept after it.
pub record IsToldIn (h : Heard) (direction : Direction) (sealed : List ℕ) (place : ℕ) (told : RecordTold) (out : List ℕ) (left : Heard) : Type 0 where
  pub session : Keyed
  pub there : (d : Keyed) → slice_index_or h.sessions place d ≡ session
  pub is : IsToldBy session h.psk direction sealed told out
  pub after : left ≡ record h { sessions = slice_set h.sessions place (after_told session direction told out) }

-- What is told of a record, and what is kept after it: where no session has its id, that, and all stays.
abbrev pub IsTold : Heard → Direction → (sealed : List ℕ) → Option ℕ → RecordTold → (out : List ℕ) → (left : Heard) → Type 0
IsTold h direction sealed None told out left = (told ≡ NoSession) × (left ≡ h)
IsTold h direction sealed (Some place) told out left = IsToldIn h direction sealed place told out left
