-- The records of a session at the requester: under which purpose and number the next ones are sealed and taken.
use Rattle.std.specs.Prelude.{◌+◌, ℕ, List, Option, Bool, false, if◌then◌else◌}
use Rattle.key_schedule.specs.Purpose.{Purpose}
use Rattle.key_schedule.specs.declared.direction.Direction.TheVariants.{Request, Response}
use Rattle.spdm_basis.specs.declared.causes.record_fault.RecordFault.{RecordFault}
use Rattle.spdm_machine.specs.Keys.{record_fault, inner_message, sealed_of}
use Rattle.spdm_machine.specs.Sessions.{purpose_in}
use Rattle.requester_machine.specs.Message.{Ask}
use Rattle.requester_machine.specs.Message.Ask.{AskUpdate}
use Rattle.requester_machine.specs.Session.{Steps, stage_of, t1_of, t2_of, request_epoch, response_epoch, request_next, response_next, id_bytes, session_terms}

-- The purpose under which the next record is sealed: that of requests in the present stage and epoch.
abbrev pub request_purpose : List ℕ → Steps → Purpose
request_purpose psk s = purpose_in (stage_of s) psk (t1_of s) (t2_of s) Request (request_epoch s)

-- The present purpose of answers: that of responses in the present stage and epoch.
abbrev pub response_purpose : List ℕ → Steps → Purpose
response_purpose psk s = purpose_in (stage_of s) psk (t1_of s) (t2_of s) Response (response_epoch s)

-- The record of an inner message and padding, under the present request key and the next number.
unfoldable pub sealed_next : List ℕ → Steps → List ℕ → List ℕ → List ℕ
sealed_next psk s inner pad = sealed_of (session_terms s).choice (request_purpose psk s) (request_next s) (id_bytes s) inner pad

-- It asks for the update of all keys.
abbrev pub asks_all : Ask → Bool
asks_all (AskUpdate all) = all
asks_all _ = false

-- The purpose and the number of the answer: UpdateAllKeys is answered by record 0 of the new response key, and by no
-- record of the old one; all else under the present one (DSP0274, "KEY_UPDATE"; which key is this project's own).
abbrev pub answer_purpose : List ℕ → Steps → Ask → Purpose
answer_purpose psk s ask =
    if asks_all ask then record (response_purpose psk s) { epoch = response_epoch s + 1 }
    else response_purpose psk s

-- The number of the answer: 0 for UpdateAllKeys, and for all else the next one of responses.
abbrev pub answer_number : Steps → Ask → ℕ
answer_number s ask = if asks_all ask then 0 else response_next s

-- Why bytes are no record that answers.
unfoldable pub answer_fault : List ℕ → Steps → Ask → List ℕ → Option RecordFault
answer_fault psk s ask sealed = record_fault (session_terms s).choice (answer_purpose psk s ask) (answer_number s ask) (id_bytes s) sealed

-- The inner message of the record that answers.
unfoldable pub answer_inner : List ℕ → Steps → Ask → List ℕ → List ℕ
answer_inner psk s ask sealed = inner_message (session_terms s).choice (answer_purpose psk s ask) (answer_number s ask) sealed
