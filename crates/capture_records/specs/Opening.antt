-- What is told of a record. This project's own.
use Rattle.std.specs.Prelude.{◌≡◌, ◌+◌, ◌-◌, ◌^◌, ℕ, List, length, min, take, drop, nat_lt, if◌then◌else◌, Option, Some, None, Result, Ok, Err}
use Rattle.byteorder.specs.Endian.{little_number}
use Rattle.capture_records.specs.Keyed.{Keyed, epoch_of, is_early, noted, purpose_by}
use Rattle.capture_records.specs.declared.opening.Opening.{Opening}
use Rattle.capture_records.specs.declared.opening.Opening.TheVariants.{Opened, Shut}
use Rattle.capture_records.specs.declared.opening.RecordKeys.{RecordKeys}
use Rattle.capture_records.specs.declared.opening.RecordKeys.TheVariants as keys
use Rattle.key_schedule.specs.Purpose.{Purpose}
use Rattle.key_schedule.specs.declared.direction.Direction.{Direction}
use Rattle.spdm_basis.specs.SessionIdBytes.{session_id_bytes}
use Rattle.spdm_basis.specs.declared.RecordFault.{RecordFault}
use Rattle.spdm_basis.specs.declared.SessionId.{SessionId}
use Rattle.spdm_grammar.specs.declared.messages.choice.Choice.{Choice}
use Rattle.spdm_machine.specs.Keys.{inner_message, record_fault}

-- The two bytes at a place as a number, and 0 where they are not there.
abbrev pub number_at : List ℕ → (at : ℕ) → ℕ
number_at bytes at = if nat_lt (length bytes) (at + 2) then 0 else little_number 2 (take 2 (drop at bytes))

-- The number that a record tells.
abbrev pub number_in : List ℕ → ℕ
number_in sealed = number_at sealed 4

-- It opens under a purpose and this number, and has this inner message; or this is its fault.
abbrev pub IsTried : Choice → Purpose → SessionId → (sealed : List ℕ) → Result Unit RecordFault → (out : List ℕ) → Type 0
IsTried choice p id sealed (Ok u) out =
    (record_fault choice p (number_in sealed) (session_id_bytes id.req id.rsp) sealed ≡ None)
    × (out ≡ inner_message choice p (number_in sealed) sealed)
IsTried choice p id sealed (Err fault) out = record_fault choice p (number_in sealed) (session_id_bytes id.req id.rsp) sealed ≡ Some fault

-- Why it does not open under these keys of a session, if it does not, and its inner message under them.
abbrev pub fault_by : Keyed → (psk : List ℕ) → Direction → RecordKeys → (sealed : List ℕ) → Option RecordFault
fault_by s psk direction keys sealed = record_fault s.choice (purpose_by s psk direction keys) (number_in sealed) (session_id_bytes s.id.req s.id.rsp) sealed

abbrev pub inner_by : Keyed → (psk : List ℕ) → Direction → RecordKeys → (sealed : List ℕ) → List ℕ
inner_by s psk direction keys sealed = inner_message s.choice (purpose_by s psk direction keys) (number_in sealed) sealed

-- What is told of it where these keys alone are tried.
abbrev pub told_by : RecordKeys → Option RecordFault → Opening
told_by keys None = Opened keys
told_by keys (Some fault) = Shut fault

abbrev pub told_under : Keyed → (psk : List ℕ) → Direction → RecordKeys → (sealed : List ℕ) → Opening
told_under s psk direction keys sealed = told_by keys (fault_by s psk direction keys sealed)

-- Three keys are tried one after the other: the first that opens it is told, and where none does the fault under the first.
abbrev pub first_opened : (first second third : Opening) → Opening
first_opened (Opened keys) second third = Opened keys
first_opened (Shut fault) (Opened keys) third = Opened keys
first_opened (Shut fault) (Shut f) (Opened keys) = Opened keys
first_opened (Shut fault) (Shut f) (Shut g) = Shut fault

-- After one key update more. That there are no more than 2^64 - 1 is a limit of the program.
abbrev pub next_epoch : ℕ → ℕ
next_epoch epoch = min (epoch + 1) (2 ^ 64 - 1)

-- ---- What is told of a record: before PSK_FINISH_RSP came, under the keys of the handshake; then under those in use, under
-- those after the next key update, or under those of the handshake, as a record that is seen late.

abbrev pub opening_of : Keyed → (psk : List ℕ) → Direction → (sealed : List ℕ) → Opening
opening_of s psk direction sealed =
    if is_early s then told_under s psk direction keys.Handshake sealed
    else first_opened (told_under s psk direction (keys.Data (epoch_of s direction)) sealed)
    (told_under s psk direction (keys.Data (next_epoch (epoch_of s direction))) sealed)
    (told_under s psk direction keys.Handshake sealed)

-- These are its inner message, if it opens.
abbrev pub IsInner : Keyed → (psk : List ℕ) → Direction → (sealed : List ℕ) → Opening → (out : List ℕ) → Type 0
IsInner s psk direction sealed (Opened keys) out = out ≡ inner_by s psk direction keys sealed
IsInner s psk direction sealed (Shut fault) out = Unit {0}

-- ---- What the session shows after it.

abbrev pub after_opening : Keyed → Direction → Opening → (inner : List ℕ) → Keyed
after_opening s direction (Opened keys) inner = noted s direction keys inner
after_opening s direction (Shut fault) inner = s

pub record IsTaken (s : Keyed) (psk : List ℕ) (direction : Direction) (sealed : List ℕ) (told : Opening) (out : List ℕ) (left : Keyed) : Type 0 where
  pub opening : told ≡ opening_of s psk direction sealed
  pub inner : IsInner s psk direction sealed told out
  pub after : left ≡ after_opening s direction told out
