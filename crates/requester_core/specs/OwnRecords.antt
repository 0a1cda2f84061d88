-- The records that a requester seals itself, opened for the checker them. This project's own.
use Rattle.std.specs.Prelude.{◌≡◌, ◌≤◌, ◌&&◌, if◌then◌else◌, length, ℕ, List, Bool, true, false, Option, Some, None, is_none}
use Rattle.psk_session.specs.Course.{with_asked}
use Rattle.psk_session.specs.OwnRecords.{IsPadded, own_fault, own_inner}
use Rattle.requester_machine.specs.History.{History}
use Rattle.requester_machine.specs.Message.{Aim, Ask, Sent}
use Rattle.requester_machine.specs.Message.Aim.{InSession}
use Rattle.requester_machine.specs.Named.{names}
use Rattle.requester_machine.specs.Records.{sealed_next}
use Rattle.requester_machine.specs.Session.{Steps, is_accepted, session_of}
use Rattle.requester_core.specs.Slot.{IsSlotOf}
use Rattle.requester_core.specs.declared.in_sessions.slot.Slot.{Slot}
use Rattle.spdm_grammar.specs.declared.names.TheConstants.{MAX_PADDING}
use Rattle.secured_record.specs.declared.TheConstants.{MAX_RECORD_SIZE}

-- ---- Which session a record names.

-- The first of four ids that holds.
abbrev pub first_of : (first second third fourth : Bool) → Option ℕ
first_of first second third fourth =
    if first then Some 1
    else (if second then Some 2
    else (if third then Some 3
    else (if fourth then Some 4
    else None)))

-- The ReqSessionID of that session, if there is one.
abbrev pub id_named : History → (sealed : List ℕ) → Option ℕ
id_named h sealed =
    first_of (names sealed (session_of 1 h)) (names sealed (session_of 2 h))
    (names sealed (session_of 3 h)) (names sealed (session_of 4 h))

-- ---- What is outstanding.

-- It is asked in a session.
abbrev pub is_in_session : Aim → Bool
is_in_session (InSession id ask) = true
is_in_session _ = false

-- A record is outstanding.
abbrev pub awaits_record : Option Sent → Bool
awaits_record None = false
awaits_record (Some sent) = is_in_session sent.aim

-- Its session, where it is a record.
abbrev pub session_aimed : Aim → Option ℕ
session_aimed (InSession id ask) = Some id
session_aimed _ = None

abbrev pub session_awaited : Option Sent → Option ℕ
session_awaited None = None
session_awaited (Some sent) = session_aimed sent.aim

-- ---- A record that is opened.

-- The session took PSK_EXCHANGE_RSP, and the record opens as the next one that it would seal.
abbrev pub opens_own : (psk : List ℕ) → Steps → (sealed : List ℕ) → Bool
opens_own psk s sealed = is_accepted s && is_none (own_fault psk s sealed)

-- Whether it opens so, with this inner message.
abbrev pub OpensAs : (psk : List ℕ) → Steps → (sealed : List ℕ) → Bool → (out : List ℕ) → Type 0
OpensAs psk s sealed true out =
    (opens_own psk s sealed ≡ true) × (out ≡ own_inner psk s sealed)
OpensAs psk s sealed false out = opens_own psk s sealed ≡ false

-- Whether it names the session and opens so there, with this inner message.
abbrev pub OpensNamed : (psk : List ℕ) → Steps → (sealed : List ℕ) → Bool → (out : List ℕ) → Type 0
OpensNamed psk s sealed true out =
    ((names sealed s && opens_own psk s sealed) ≡ true) × (out ≡ own_inner psk s sealed)
OpensNamed psk s sealed false out = (names sealed s && opens_own psk s sealed) ≡ false

-- ---- Another padding.

-- The session awaits the answer to a record that has another padding now; or the bytes are no such record.
abbrev pub IsSlotRepadded : (psk : List ℕ) → Steps → Ask → (inner sealed : List ℕ) → (new : Slot)
    → Bool → Type 0
IsSlotRepadded psk s a inner sealed new true =
    (pad : List ℕ) × (length pad ≤ MAX_PADDING) × (sealed ≡ sealed_next psk s inner pad)
    × IsSlotOf new psk (with_asked psk s a inner pad)
IsSlotRepadded psk s a inner sealed new false =
    length sealed ≤ MAX_RECORD_SIZE → IsPadded psk s inner sealed → ⊥
