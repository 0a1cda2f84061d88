-- The records of a session counted by the purpose under which each of them stood (DSP0277, "Sequence number").
use Rattle.std.specs.Prelude.{◌≡◌, ◌+◌, ◌==◌, ◌&&◌, ℕ, List, [], ◌∷◌, if◌then◌else◌, Bool, true, false, bytes_eq}
use Rattle.key_schedule.specs.Purpose.{Purpose, Kind}
use Rattle.key_schedule.specs.Purpose.Kind.{Verify, HandshakeRecord, ApplicationRecord}
use Rattle.key_schedule.specs.declared.direction.Direction.{Direction}
use Rattle.key_schedule.specs.declared.direction.Direction.TheVariants.{Request, Response}
use Rattle.spdm_grammar.specs.declared.told.phase.Stage.TheVariants.{Handshake}
use Rattle.responder_machine.specs.Records.{request_purpose, reply_purpose}
use Rattle.responder_machine.specs.Session.{Events, stage_of}
use Rattle.spdm_machine.specs.Sessions.{is_past_handshake}
use Rattle.responder_machine.specs.Session.Event.{Began, Heard, Waited}
use Rattle.responder_machine.specs.Turn.{takes}
use Rattle.spdm_grammar.specs.declared.names.request_code.TheConstants.{PSK_FINISH, KEY_UPDATE}

-- Two kinds are one: verify data, records of the handshake, or records after it.
abbrev pub same_kind : Kind → Kind → Bool
same_kind Verify Verify = true
same_kind HandshakeRecord HandshakeRecord = true
same_kind ApplicationRecord ApplicationRecord = true
same_kind _ _ = false

-- Two directions are one: requests, or responses.
abbrev pub same_direction : Direction → Direction → Bool
same_direction Request Request = true
same_direction Response Response = true
same_direction _ _ = false

-- Two purposes are one.
abbrev pub same_purpose : Purpose → Purpose → Bool
same_purpose p q =
    p.epoch == q.epoch && same_kind p.kind q.kind && same_direction p.direction q.direction
    && bytes_eq p.psk q.psk && bytes_eq p.transcript q.transcript

-- How many records of a session were taken under a purpose. A record is taken under the request purpose that stood when
-- it came.
abbrev pub taken_under : List ℕ → Purpose → Events → ℕ
taken_under psk p [] = 0
taken_under psk p (Heard m t reply ∷ older) = if same_purpose p (request_purpose psk older) then taken_under psk p older + 1 else taken_under psk p older
taken_under psk p (_ ∷ older) = taken_under psk p older

-- How many records were sealed under a purpose: that of the answer to each record taken.
abbrev pub sealed_under : List ℕ → Purpose → Events → ℕ
sealed_under psk p [] = 0
sealed_under psk p (Heard m t reply ∷ older) = if same_purpose p (reply_purpose psk older t) then sealed_under psk p older + 1 else sealed_under psk p older
sealed_under psk p (_ ∷ older) = sealed_under psk p older

-- A session begins once, PSK_FINISH is taken in its handshake alone, and KEY_UPDATE after it alone.
abbrev pub IsStaged : Events → Type 0
IsStaged [] = Unit {0}
IsStaged (Began negotiation exchange answer ∷ older) = older ≡ []
IsStaged (Heard m t reply ∷ older) =
    (takes PSK_FINISH t ≡ true → stage_of older ≡ Handshake) × (takes KEY_UPDATE t ≡ true → is_past_handshake (stage_of older) ≡ true) × IsStaged older
IsStaged (Waited seconds ∷ older) = IsStaged older
