-- What is shown of a record, and what messages show of the sessions after it. This project's own.
use Rattle.std.specs.Prelude.{ℕ, List, [], length, ◌+◌, ◌-◌, slice_index_or, slice_set, false, Option, Some, None}
use Rattle.capture_records.specs.Heard.{Heard, place_in}
use Rattle.capture_records.specs.Keyed.{Keyed}
use Rattle.capture_records.specs.Opening.{after_opening, inner_by, opening_of}
use Rattle.capture_records.specs.declared.dialogue.RecordTold.{RecordTold}
use Rattle.capture_records.specs.declared.dialogue.RecordTold.TheVariants as told
use Rattle.capture_records.specs.declared.opening.Opening.{Opening}
use Rattle.capture_records.specs.declared.opening.Opening.TheVariants.{Opened, Shut}
use Rattle.capture_records.specs.declared.opening.RecordKeys.{RecordKeys}
use Rattle.capture_records.specs.declared.showing.RecordShown.{RecordShown}
use Rattle.capture_records.specs.declared.showing.RecordShown.TheVariants as shown
use Rattle.key_schedule.specs.declared.direction.Direction.{Direction}
use Rattle.secured_record.specs.declared.TheConstants.{MIN_RECORD_SIZE}
use Rattle.spdm_basis.specs.declared.values.aead_alg.AeadAlg.TheVariants.{Aes128Gcm}
use Rattle.spdm_basis.specs.declared.values.hash_alg.HashAlg.TheVariants.{Sha256}
use Rattle.spdm_basis.specs.declared.causes.record_fault.RecordFault.{RecordFault}

-- No record is there; no session of its id was shown; it does not open, for this fault under the keys in use; or it opens
-- under these keys, with so many bytes of padding behind its inner message.
pub data Seen : Type 0 where
  NoRecord : Seen
  NoSession : Seen
  Closed : (fault : RecordFault) → Seen
  Open : (keys : RecordKeys) → (padding : ℕ) → (inner : List ℕ) → Seen

-- As the program hands it on, with the inner message that was put down.
abbrev pub seen_as : RecordShown → (inner : List ℕ) → Seen
seen_as shown.NoRecord inner = NoRecord
seen_as shown.NoSession inner = NoSession
seen_as (shown.Closed fault) inner = Closed fault
seen_as (shown.Open keys padding) inner = Open keys padding inner

-- What is handed on of a record of which this is told, whose inner message has so many bytes.
abbrev pub shown_told : (sealed : List ℕ) → RecordTold → (inner_len : ℕ) → RecordShown
shown_told sealed told.NoSession inner_len = shown.NoSession
shown_told sealed (told.InSession id (Shut fault)) inner_len = shown.Closed fault
shown_told sealed (told.InSession id (Opened keys)) inner_len = shown.Open keys (length sealed - (MIN_RECORD_SIZE + inner_len))

-- ---- In a session.

-- The inner message of a record of which this is told.
abbrev pub inner_told : Keyed → (psk : List ℕ) → Direction → (sealed : List ℕ) → Opening → List ℕ
inner_told s psk direction sealed (Opened keys) = inner_by s psk direction keys sealed
inner_told s psk direction sealed (Shut fault) = []

abbrev pub seen_told : (sealed : List ℕ) → Opening → (inner : List ℕ) → Seen
seen_told sealed (Opened keys) inner = Open keys (length sealed - (MIN_RECORD_SIZE + length inner)) inner
seen_told sealed (Shut fault) inner = Closed fault

abbrev pub inner_of : Keyed → (psk : List ℕ) → Direction → (sealed : List ℕ) → List ℕ
inner_of s psk direction sealed = inner_told s psk direction sealed (opening_of s psk direction sealed)

abbrev pub seen_in : Keyed → (psk : List ℕ) → Direction → (sealed : List ℕ) → Seen
seen_in s psk direction sealed = seen_told sealed (opening_of s psk direction sealed) (inner_of s psk direction sealed)

abbrev pub session_after : Keyed → (psk : List ℕ) → Direction → (sealed : List ℕ) → Keyed
session_after s psk direction sealed = after_opening s direction (opening_of s psk direction sealed) (inner_of s psk direction sealed)

-- ---- In the newest session with its id.

abbrev pub no_session : Keyed
no_session = record {
  choice = record { hash = Sha256; aead = Aes128Gcm; measure = false };
  id = record { req = 0; rsp = 0 };
  vca = [];
  exchange = [];
  answer = [];
  finish = [];
  finished = [];
  request_epoch = 0;
  response_epoch = 0;
}

abbrev pub session_at : Heard → (place : ℕ) → Keyed
session_at h place = slice_index_or h.sessions place no_session

abbrev pub seen_at : Heard → Direction → (sealed : List ℕ) → Option ℕ → Seen
seen_at h direction sealed None = NoSession
seen_at h direction sealed (Some place) = seen_in (session_at h place) h.psk direction sealed

abbrev pub after_at : Heard → Direction → (sealed : List ℕ) → Option ℕ → Heard
after_at h direction sealed None = h
after_at h direction sealed (Some place) = record h { sessions = slice_set h.sessions place (session_after (session_at h place) h.psk direction sealed) }

unfoldable pub seen_of : Heard → Direction → (sealed : List ℕ) → Seen
seen_of h direction sealed = seen_at h direction sealed (place_in h sealed)

unfoldable pub after_record : Heard → Direction → (sealed : List ℕ) → Heard
after_record h direction sealed = after_at h direction sealed (place_in h sealed)
