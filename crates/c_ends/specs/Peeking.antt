-- What C is told of an application message before the packet that brings it is taken.
use Rattle.std.specs.Prelude.{◌≡◌, ◌≤◌, ◌<◌, ℕ, List, length, Option, Some, None}
use Rattle.c_ends.specs.Telling.{session_number}
use Rattle.c_ends.specs.Writing.{over}
use Rattle.c_ends.specs.declared.codes.TheConstants.{NONE, OK, ROOM}
use Rattle.c_ends.specs.declared.message.Message as told
use Rattle.responder_machine.specs.NewData.{Message}
use Rattle.spdm_basis.specs.declared.values.session_id.SessionId.{SessionId}

-- Who sends it, and in which session, in numbers.
abbrev pub message_told : (eid : ℕ) → SessionId → told.Message
message_told eid id = record { eid = eid; session = session_number id }

-- The message that comes from this endpoint is told: who sends it, and its data in a room that holds them, with their
-- length. Where the room is too small the length alone is told that is needed, and where no message comes nothing is.
abbrev pub IsPeeked : (eid : ℕ) → Option Message → (code : ℕ) → (old new : List ℕ) → (old_len len : ℕ) → (before after : told.Message) → Type 0
IsPeeked eid None code old new old_len len before after = (code ≡ NONE) × (new ≡ old) × (len ≡ old_len) × (after ≡ before)
IsPeeked eid (Some m) code old new old_len len before after =
    (length m.1 ≤ length old → (code ≡ OK) × (new ≡ over m.1 old) × (len ≡ length m.1) × (after ≡ message_told eid m.0))
    × (length old < length m.1 → (code ≡ ROOM) × (new ≡ old) × (len ≡ length m.1) × (after ≡ before))
