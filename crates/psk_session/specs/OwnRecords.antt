-- The records that a session at the requester seals itself, opened for the checker them. This project's own.
use Rattle.std.specs.Prelude.{◌≡◌, ◌≤◌, ℕ, List, length, Bool, true, false, Option, Some, None, Result, Ok, Err}
use Rattle.key_schedule.specs.Keys.{DirectionSecret}
use Rattle.requester_machine.specs.Message.{Ask}
use Rattle.requester_machine.specs.Records.{request_purpose, sealed_next}
use Rattle.requester_machine.specs.Session.{Steps, id_bytes, request_next, session_id, session_terms}
use Rattle.session_keys.specs.Keys.{IsKeyOf}
use Rattle.spdm_basis.specs.declared.causes.record_fault.RecordFault.{RecordFault}
use Rattle.spdm_basis.specs.declared.values.session_id.SessionId.{SessionId}
use Rattle.spdm_machine.specs.Keys.{inner_message, record_fault}
use Rattle.transcript.specs.Transcripts.{Negotiation}
use Rattle.psk_session.specs.Course.{with_asked}
use Rattle.psk_session.specs.Finishing as finishing
use Rattle.psk_session.specs.Opening.{accepted, finish_inner}
use Rattle.psk_session.specs.ReqSession.{IsAwaiting}
use Rattle.psk_session.specs.declared.req_session.ReqSession.{ReqSession}
use Rattle.spdm_grammar.specs.declared.names.TheConstants.{MAX_PADDING}
use Rattle.secured_record.specs.declared.TheConstants.{MAX_RECORD_SIZE}

-- The key and the id are those under which a session of these steps seals its records now.
pub record SealsFor (key : DirectionSecret) (id : SessionId) (psk : List ℕ) (s : Steps) : Type 0
  where
    pub is_key : IsKeyOf key (session_terms s).choice (request_purpose psk s)
    pub is_id : id ≡ session_id s

-- ---- A record that is opened.

-- Why bytes are no record that the session would seal next.
unfoldable pub own_fault : (psk : List ℕ) → Steps → (sealed : List ℕ) → Option RecordFault
own_fault psk s sealed =
    record_fault (session_terms s).choice (request_purpose psk s) (request_next s) (id_bytes s)
    sealed

-- The inner message of such a record.
unfoldable pub own_inner : (psk : List ℕ) → Steps → (sealed : List ℕ) → List ℕ
own_inner psk s sealed =
    inner_message (session_terms s).choice (request_purpose psk s) (request_next s) sealed

-- It opens as the record that the session would seal next, and its inner message is this; or it has this fault.
abbrev pub IsOwnOpened : (psk : List ℕ) → Steps → (sealed : List ℕ) → Result Unit RecordFault
    → (out : List ℕ) → Type 0
IsOwnOpened psk s sealed (Ok u) out =
    (own_fault psk s sealed ≡ None) × (out ≡ own_inner psk s sealed)
IsOwnOpened psk s sealed (Err fault) out = own_fault psk s sealed ≡ Some fault

-- ---- Another padding.

-- The session would seal this inner message so next, with some padding of at most 16 bytes.
abbrev pub IsPadded : (psk : List ℕ) → Steps → (inner sealed : List ℕ) → Type 0
IsPadded psk s inner sealed =
    (pad : List ℕ) × (length pad ≤ MAX_PADDING) × (sealed ≡ sealed_next psk s inner pad)

-- Whether it does; bytes beyond the 4,160 of a record are none.
abbrev pub TellsPadded : (psk : List ℕ) → Steps → (inner sealed : List ℕ) → Bool → Type 0
TellsPadded psk s inner sealed true = IsPadded psk s inner sealed
TellsPadded psk s inner sealed false = length sealed ≤ MAX_RECORD_SIZE → IsPadded psk s inner sealed → ⊥

-- The session awaits the answer to a record that has another padding now; or the bytes are no such record.
abbrev pub IsRepadded : (psk : List ℕ) → Steps → Ask → (inner sealed : List ℕ)
    → (new : ReqSession) → Bool → Type 0
IsRepadded psk s a inner sealed new true =
    (pad : List ℕ) × (length pad ≤ MAX_PADDING) × (sealed ≡ sealed_next psk s inner pad)
    × IsAwaiting new psk (with_asked psk s a inner pad) a
IsRepadded psk s a inner sealed new false =
    length sealed ≤ MAX_RECORD_SIZE → IsPadded psk s inner sealed → ⊥

-- The same of a session whose PSK_FINISH was sent.
abbrev pub IsFinishRepadded : (psk : List ℕ) → Negotiation → (exchange answer sealed : List ℕ)
    → (new : finishing.Seen) → Bool → Type 0
IsFinishRepadded psk n exchange answer sealed new true =
    (pad : List ℕ) × (length pad ≤ MAX_PADDING)
    × (sealed ≡ sealed_next psk (accepted n exchange answer)
    (finish_inner psk (accepted n exchange answer)) pad)
    × finishing.StandsFor new psk n exchange answer pad
IsFinishRepadded psk n exchange answer sealed new false =
    length sealed ≤ MAX_RECORD_SIZE
    → IsPadded psk (accepted n exchange answer) (finish_inner psk (accepted n exchange answer))
    sealed → ⊥
