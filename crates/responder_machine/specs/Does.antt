-- What this project's responder does: the one outcome at the values that it chooses. The choices are this project's
-- own.
use Rattle.std.specs.Prelude.{⊤, ◌≡◌, ◌<◌, ◌≤◌, ◌==◌, ℕ, List, [], ◌∷◌, drop, length, slice_index, if◌then◌else◌}
use Rattle.responder_machine.specs.Answer.{Free}
use Rattle.responder_machine.specs.History.{History, queue_of}
use Rattle.responder_machine.specs.History.Entry.{Clear, Sealed, Queued, Ticked, Dropped}
use Rattle.spdm_machine.specs.Keys.{Draw, context_of}
use Rattle.responder_machine.specs.LargeMessages.{next_handle}
use Rattle.responder_machine.specs.Place.{Place, free_id, place_terms, clear_place, session_place}
use Rattle.responder_machine.specs.Responder.{Outcome, on_clear, on_record}
use Rattle.responder_machine.specs.Responder.Outcome.{Adds}
use Rattle.responder_machine.specs.Session.{session_of, id_in_record}
use Rattle.responder_machine.specs.Setup.{RspSetup}
use Rattle.spdm_grammar.specs.declared.names.TheConstants.{MAX_APP_DATA_LEN}
use Rattle.spdm_grammar.specs.declared.names.message_type.TheConstants.{SPDM}

-- The application data that waits first, and an empty one where none waits.
abbrev pub first_queued : List (List ℕ) → List ℕ
first_queued [] = []
first_queued (bytes ∷ others) = bytes

-- The least free id; the context and the nonce by the draw; the configured opaque data in PSK_EXCHANGE_RSP and none in
-- MEASUREMENTS; the handles of the place in order; the first application data of the queue, and an empty one where none
-- waits; no padding.
unfoldable pub chosen : RspSetup → History → Place → Draw → Free
chosen r h p d = record {
  id = free_id h;
  context = context_of (place_terms p).choice.hash d;
  exchange_opaque = r.opaque;
  nonce = d.bytes;
  measured_opaque = [];
  handle = next_handle p.turns;
  reply = first_queued (queue_of h);
  pad = [];
}

-- The values chosen for a clear message, by the clear part of the connection.
abbrev pub clear_chosen : RspSetup → History → Draw → Free
clear_chosen r h d = chosen r h (clear_place h) d

-- The values chosen for a record, by the session that it names.
abbrev pub record_chosen : RspSetup → History → List ℕ → Draw → Free
record_chosen r h sealed d = chosen r h (session_place (session_of (id_in_record sealed) h)) d

-- A clear message came with a tag with this draw next.
abbrev pub clear_does : RspSetup → History → ℕ → List ℕ → Draw → Outcome
clear_does r h tag m d = on_clear r h tag m (clear_chosen r h d) d

-- A record came.
abbrev pub record_does : RspSetup → History → ℕ → List ℕ → Draw → Outcome
record_does r h tag sealed d = on_record r h tag sealed (record_chosen r h sealed d) d

-- A body of type 5 or 6 came.
abbrev pub responder_does : RspSetup → History → ℕ → List ℕ → Draw → Outcome
responder_does r h tag body d =
    if slice_index body 0 == SPDM then clear_does r h tag (drop 1 body) d
    else record_does r h tag (drop 1 body) d

-- A history that this responder made: each entry is what it does at the older history, application data that is queued
-- has at most 1,024 bytes and finds fewer than 16 waiting, and sessions are dropped by time alone.
abbrev pub IsMade : RspSetup → History → Type 0
IsMade r [] = ⊤
IsMade r (Clear tag t d ∷ older) = (clear_does r older tag t.message d ≡ Adds (Clear tag t d)) × IsMade r older
IsMade r (Sealed tag m t reply d ∷ older) = (record_does r older tag m d ≡ Adds (Sealed tag m t reply d)) × IsMade r older
IsMade r (Queued bytes ∷ older) = (length bytes ≤ MAX_APP_DATA_LEN) × (length (queue_of older) < 16) × IsMade r older
IsMade r (Ticked seconds ∷ older) = IsMade r older
IsMade r (Dropped id ∷ older) = ⊥
