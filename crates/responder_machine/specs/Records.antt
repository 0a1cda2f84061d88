-- The records of a session at the responder: under which purpose and number the next ones are taken and sealed.
-- DSP0277, "Sequence number" and "Secured Message format"; DSP0274, "KEY_UPDATE".
use Rattle.std.specs.Prelude.{ℕ, List, length, take, not, nat_lt, Option, Some, if◌then◌else◌, ◌+◌, bytes_eq}
use Rattle.key_schedule.specs.Purpose.{Purpose}
use Rattle.key_schedule.specs.declared.direction.Direction.TheVariants.{Request, Response}
use Rattle.spdm_basis.specs.declared.causes.record_fault.RecordFault.{RecordFault}
use Rattle.spdm_basis.specs.declared.causes.record_fault.RecordFault.TheVariants.{KeySpent, Short, WrongId, WrongNumber}
use Rattle.spdm_machine.specs.Keys.{record_fault, inner_message, sealed_of}
use Rattle.responder_machine.specs.Session.{Events, stage_of, t1_of, t2_of, request_epoch, response_epoch, request_next, response_next, id_bytes, session_terms, is_spent}
use Rattle.responder_machine.specs.Turn.{Turn, updates}
use Rattle.spdm_machine.specs.Sessions.{purpose_in}
use Rattle.secured_record.specs.declared.TheConstants.{MIN_RECORD_SIZE}

-- The purpose under which the next record is taken: that of requests in the present stage and epoch.
abbrev pub request_purpose : List ℕ → Events → Purpose
request_purpose psk s = purpose_in (stage_of s) psk (t1_of s) (t2_of s) Request (request_epoch s)

-- The present purpose of answers: that of responses in the present stage and epoch.
abbrev pub response_purpose : List ℕ → Events → Purpose
response_purpose psk s = purpose_in (stage_of s) psk (t1_of s) (t2_of s) Response (response_epoch s)

-- Why a record that is no repeat does not open in a live session: a key is spent, or it is no record under the present
-- request key, of the session's id and of the next number.
unfoldable pub opening_fault : List ℕ → Events → List ℕ → Option RecordFault
opening_fault psk s sealed =
    if is_spent s then Some KeySpent
    else record_fault (session_terms s).choice (request_purpose psk s) (request_next s) (id_bytes s) sealed

-- Why a record that is no repeat does not open at an ended session: none does, and what is told is its length or its id
-- where they are wrong, and else its number. This project's own.
abbrev pub ended_fault : (id : List ℕ) → List ℕ → RecordFault
ended_fault id sealed =
    if nat_lt (length sealed) MIN_RECORD_SIZE then Short
    else (if not (bytes_eq (take 4 sealed) id) then WrongId
    else WrongNumber)

-- The inner message of the next record.
unfoldable pub opened : List ℕ → Events → List ℕ → List ℕ
opened psk s sealed = inner_message (session_terms s).choice (request_purpose psk s) (request_next s) sealed

-- The purpose of the answer to a turn: UpdateAllKeys is answered under the new response key, and all else under the
-- standing one.
abbrev pub reply_purpose : List ℕ → Events → Turn → Purpose
reply_purpose psk s t =
    if updates 2 t then record (response_purpose psk s) { epoch = response_epoch s + 1 }
    else response_purpose psk s

-- The number of the answer to a turn: 0 for UpdateAllKeys, and for all else the next one of responses.
abbrev pub reply_number : Events → Turn → ℕ
reply_number s t = if updates 2 t then 0 else response_next s

-- The record of an inner message and padding that answers a turn.
unfoldable pub reply_record : List ℕ → Events → Turn → List ℕ → List ℕ → List ℕ
reply_record psk s t inner pad = sealed_of (session_terms s).choice (reply_purpose psk s t) (reply_number s t) (id_bytes s) inner pad
