-- What a responder does with a whole message body from a requester, and which entry that adds to the history.
use Rattle.std.specs.Prelude.{◌==◌, ◌&&◌, ◌||◌, not, nat_lt, ℕ, List, [], ◌∷◌, length, slice_index, drop, if◌then◌else◌, Bool, true, false, Option, Some, None, bytes_eq}
use Rattle.spdm_basis.specs.declared.causes.record_fault.RecordFault.{RecordFault}
use Rattle.spdm_grammar.specs.ErrorNumber.{error_number}
use Rattle.spdm_grammar.specs.Message.ResponseMessage.{Error}
use Rattle.spdm_grammar.specs.Responses.{canonical_response}
use Rattle.spdm_grammar.specs.declared.messages.error_code.ErrorCode.{ErrorCode}
use Rattle.spdm_grammar.specs.declared.messages.error_code.ErrorCode.TheVariants.{InvalidRequest, UnexpectedRequest, DecryptError, RequestTooLarge}
use Rattle.spdm_grammar.specs.declared.told.phase.Phase.{Phase}
use Rattle.spdm_grammar.specs.declared.told.phase.Stage.{Stage}
use Rattle.spdm_grammar.specs.declared.told.phase.Stage.TheVariants.{Handshake, Open, Verifying}
use Rattle.responder_machine.specs.Answer.{Free}
use Rattle.responder_machine.specs.Handling.{turn_of, refused_turn, version_in}
use Rattle.responder_machine.specs.History.{History, Entry, Kept, KeptRecord, kept_of, ended_of, phase_of, clear_turns}
use Rattle.responder_machine.specs.History.Entry.{Clear, Sealed}
use Rattle.spdm_machine.specs.Keys.{Draw}
use Rattle.responder_machine.specs.Place.{clear_place, session_place}
use Rattle.responder_machine.specs.Records.{opening_fault, opened, reply_record}
use Rattle.spdm_basis.specs.Tests.{first_of_tests}
use Rattle.responder_machine.specs.Session.{Events, session_of, id_in_record, last_of, stage_of}
use Rattle.responder_machine.specs.Setup.{RspSetup}
use Rattle.responder_machine.specs.Turn.{Turn, is_data}
use Rattle.responder_machine.specs.Turn.Effect.{TookData}
use Rattle.spdm_machine.specs.Bodies.{clear_body, record_body}
use Rattle.spdm_grammar.specs.declared.names.message_type.TheConstants.{SPDM}

-- A body came: a repeat gets this body again; a record that no session opens gets this one; all else adds an entry to
-- the history.
pub data Outcome : Type 0 where
  Same : (body : List ℕ) → Outcome
  Unopened : (body : List ℕ) → Outcome
  Adds : (entry : Entry) → Outcome

-- ---- In the clear.

-- The bytes and the tag are those of the last clear request that was not refused.
abbrev pub is_repeat : Option Kept → ℕ → List ℕ → Bool
is_repeat None tag m = false
is_repeat (Some kept) tag m = kept.tag == tag && bytes_eq kept.message m

-- The reply of the kept request; empty where none is kept.
abbrev pub kept_reply : Option Kept → List ℕ
kept_reply None = []
kept_reply (Some kept) = kept.reply

-- A repeat gets the stored reply and changes nothing. Any other clear message is an entry, a refused one too.
unfoldable pub on_clear : RspSetup → History → ℕ → List ℕ → Free → Draw → Outcome
on_clear r h tag m f d =
    if is_repeat (kept_of h) tag m then Same (clear_body (kept_reply (kept_of h)))
    else Adds (Clear tag (turn_of r (clear_place h) m f) d)

-- ---- In a session.

-- The stage is Open, the one in which application data may come.
abbrev pub is_open : Stage → Bool
is_open Handshake = false
is_open Open = true
is_open Verifying = false

-- An inner message is a type and a message: 5 for an SPDM message, 1 for application data. What it is refused for
-- before it is read as a request: it is empty or of another type; application data comes where the session is not open,
-- or has more than 1,024 bytes.
abbrev pub inner_refusal : Stage → List ℕ → Option ErrorCode
inner_refusal stage inner = first_of_tests (
    (length inner == 0, InvalidRequest)
    ∷ (not (slice_index inner 0 == SPDM || slice_index inner 0 == 1), InvalidRequest)
    ∷ (slice_index inner 0 == 1 && not (is_open stage), UnexpectedRequest)
    ∷ (slice_index inner 0 == 1 && nat_lt 1025 (length inner), RequestTooLarge)
    ∷ [])

-- Application data is answered by application data.
abbrev pub data_turn : Free → List ℕ → Turn
data_turn f bytes = record { message = bytes; refused = None; chunk = None; effect = TookData bytes f.reply; reply = f.reply }

-- An inner message that has a code already is refused with it; else type 5 is handled as an SPDM message, and type 1 as
-- application data.
abbrev pub session_turn_by : RspSetup → Events → List ℕ → Free → Option ErrorCode → Turn
session_turn_by r s inner f (Some e) = refused_turn r (session_place s) (drop 1 inner) f e
session_turn_by r s inner f None = if slice_index inner 0 == SPDM then turn_of r (session_place s) (drop 1 inner) f else data_turn f (drop 1 inner)

-- The turn of the inner message of a record.
unfoldable pub session_turn : RspSetup → Events → List ℕ → Free → Turn
session_turn r s inner f = session_turn_by r s inner f (inner_refusal (stage_of s) inner)

-- The inner message that answers a turn.
abbrev pub inner_reply : Turn → List ℕ
inner_reply t = (if is_data t.effect then 1 else 5) ∷ t.reply

-- ---- Records.

-- The record is this kept one.
abbrev pub repeats : Option KeptRecord → List ℕ → Bool
repeats None sealed = false
repeats (Some kept) sealed = bytes_eq kept.sealed sealed

-- The reply of the kept record; empty where none is kept.
abbrev pub kept_record : Option KeptRecord → List ℕ
kept_record None = []
kept_record (Some kept) = kept.reply

-- DecryptError in the clear.
abbrev pub decrypt_error : Phase → List ℕ
decrypt_error phase = clear_body (canonical_response (Error (version_in phase) (error_number DecryptError) 0 []))

-- The entry of a record that opened, with the record that answers its turn.
abbrev pub sealed_entry : RspSetup → Events → Free → ℕ → List ℕ → Draw → Turn → Entry
sealed_entry r s f tag sealed d t = Sealed tag sealed t (reply_record r.psk s t (inner_reply t) f.pad) d

-- A record with a fault is not opened, and gets DecryptError in the clear; one that opens is an entry.
abbrev pub in_session_by : RspSetup → Phase → Events → Free → ℕ → List ℕ → Draw → Option RecordFault → Outcome
in_session_by r phase s f tag sealed d (Some fault) = Unopened (decrypt_error phase)
in_session_by r phase s f tag sealed d None = Adds (sealed_entry r s f tag sealed d (session_turn r s (opened r.psk s sealed) f))

-- A record that is no repeat, for a live session.
unfoldable pub in_session : RspSetup → Phase → Events → Free → ℕ → List ℕ → Draw → Outcome
in_session r phase s f tag sealed d = in_session_by r phase s f tag sealed d (opening_fault r.psk s sealed)

-- A record for the session of its id: the last record that it took gets its reply again.
abbrev pub to_session : RspSetup → Phase → Events → Free → ℕ → List ℕ → Draw → Outcome
to_session r phase [] f tag sealed d = Unopened (decrypt_error phase)
to_session r phase (e ∷ s) f tag sealed d =
    if repeats (last_of (e ∷ s)) sealed then Same (record_body (kept_record (last_of (e ∷ s))))
    else in_session r phase (e ∷ s) f tag sealed d

-- The last record of the one ended session comes first, also where a live session has its id.
unfoldable pub on_record : RspSetup → History → ℕ → List ℕ → Free → Draw → Outcome
on_record r h tag sealed f d =
    if repeats (ended_of h) sealed then Same (record_body (kept_record (ended_of h)))
    else to_session r (phase_of (clear_turns h)) (session_of (id_in_record sealed) h) f tag sealed d

-- ---- What comes of it.

-- The history after an outcome: an entry that is added stands in front, and nothing else changes it.
abbrev pub after : History → Outcome → History
after h (Same body) = h
after h (Unopened body) = h
after h (Adds entry) = entry ∷ h

-- The body that an entry sent; none for what is no message.
abbrev pub sent_by : Entry → List ℕ
sent_by (Clear tag t d) = clear_body t.reply
sent_by (Sealed tag sealed t reply d) = record_body reply
sent_by _ = []

-- The body that is sent.
abbrev pub body_of : Outcome → List ℕ
body_of (Same body) = body
body_of (Unopened body) = body
body_of (Adds entry) = sent_by entry
