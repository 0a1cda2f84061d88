-- A large response in a capture, before all of it was seen. The request that it answers stands in the responder's
-- history with no bytes as its answer until then, so nothing that depends on the answer counts, and nothing of it is
-- pending. It is judged whole at its last chunk. While it is fetched any bytes stand for it whose length is one that is
-- sent in chunks, and each chunk has to be the one that they are cut into. This project's own.
use Rattle.std.specs.Prelude.{◌≡◌, ◌≤◌, ◌==◌, ◌&&◌, ◌||◌, not, ℕ, List, [], ◌∷◌, length, slice_index, drop, if◌then◌else◌, Bool, true, false, Option, Some, None, is_some}
use Rattle.requester_machine.specs.History as requester_history
use Rattle.requester_machine.specs.Message.{Ask, Aim, Sent}
use Rattle.requester_machine.specs.Message.Aim.{Plain, ByChunks, ForChunk, InSession}
use Rattle.requester_machine.specs.Message.Ask.{AskChunk}
use Rattle.responder_machine.specs.Handling.{goes_large}
use Rattle.responder_machine.specs.History.{History, Entry}
use Rattle.responder_machine.specs.History.Entry.{Clear, Sealed, Dropped}
use Rattle.responder_machine.specs.May.{with_dropped}
use Rattle.responder_machine.specs.Place.{Place, clear_place, session_place, inside}
use Rattle.responder_machine.specs.Refusal.{has_pending, is_answer_too_long}
use Rattle.responder_machine.specs.Session.{session_of, id_in_record}
use Rattle.responder_machine.specs.Turn.{Turn, Effect, is_taken, takes, answer_in, handle_in}
use Rattle.responder_machine.specs.Turn.Effect.{NoEffect, Took, TookData}
use Rattle.spdm_machine.specs.Sessions.{id_in_exchange}
use Rattle.spdm_grammar.specs.declared.names.request_code.TheConstants.{CHUNK_GET, PSK_EXCHANGE}
use Rattle.spdm_grammar.specs.declared.names.TheConstants.{MAX_MESSAGE_SIZE}
use Rattle.spdm_grammar.specs.declared.names.message_type.TheConstants.{SPDM}

-- ---- Requests whose large answer was not seen.

-- The answer of the entry went by LargeResponse.
abbrev pub is_large : Entry → Bool
is_large (Clear tag t d) = is_some (handle_in t.effect)
is_large (Sealed tag sealed t reply d) = is_some (handle_in t.effect)
is_large _ = false

-- What took effect, with these bytes as the whole answer to a request, and with this handle; all else stays as it is.
abbrev pub effect_with : List ℕ → Option ℕ → Effect → Effect
effect_with answer large NoEffect = NoEffect
effect_with answer large (Took asked request old handle) = Took asked request answer large
effect_with answer large (TookData bytes old) = TookData bytes old

-- A turn with these bytes as the whole answer to its request, and with this handle. Its reply stays.
abbrev pub turn_with : List ℕ → Option ℕ → Turn → Turn
turn_with answer large t = record t { effect = effect_with answer large t.effect }

-- An entry, with its large response not seen: it has no bytes as its answer, and no handle, so nothing of it is
-- pending.
abbrev pub unseen : Entry → Entry
unseen (Clear tag t d) = Clear tag (turn_with [] None t) d
unseen (Sealed tag sealed t reply d) = Sealed tag sealed (turn_with [] None t) reply d
unseen entry = entry

-- A request took effect, and its answer was not seen. Each answer that was seen has at least four bytes.
abbrev pub is_unseen_effect : Effect → Bool
is_unseen_effect (Took asked request [] None) = true
is_unseen_effect _ = false

-- The large response of the entry was not seen.
abbrev pub is_unseen : Entry → Bool
is_unseen (Clear tag t d) = is_unseen_effect t.effect
is_unseen (Sealed tag sealed t reply d) = is_unseen_effect t.effect
is_unseen _ = false

-- The handle that a turn's reply shows, if it is LargeResponse: its last byte, plain or after the six bytes that an
-- acknowledgement has before it.
abbrev pub handle_shown : Turn → ℕ
handle_shown t = slice_index t.reply (if is_some t.chunk then 10 else 4)

-- A turn with these bytes as its large response, under the handle that its reply shows.
abbrev pub seen_turn : List ℕ → Turn → Turn
seen_turn answer t = turn_with answer (Some (handle_shown t)) t

-- An entry with these bytes as its large response; one that is no message stays as it is.
abbrev pub seen : List ℕ → Entry → Entry
seen answer (Clear tag t d) = Clear tag (seen_turn answer t) d
seen answer (Sealed tag sealed t reply d) = Sealed tag sealed (seen_turn answer t) reply d
seen answer entry = entry

-- ---- The place of a request: the clear part of the connection, or the session of an id.

-- A body of type 5 goes to the clear part, any other to the session of the id that stands in its record.
abbrev pub place_named : List ℕ → Option ℕ
place_named body = if slice_index body 0 == SPDM then None else Some (id_in_record (drop 1 body))

-- The entry is a message that came to this place.
abbrev pub is_in : Option ℕ → Entry → Bool
is_in None (Clear tag t d) = true
is_in (Some id) (Sealed tag sealed t reply d) = id_in_record sealed == id
is_in _ _ = false

-- It came to this place, and its large response was not seen.
abbrev pub is_unseen_in : Option ℕ → Entry → Bool
is_unseen_in place entry = is_in place entry && is_unseen entry

-- The history with these bytes as the newest large response of the place that was not seen.
abbrev pub with_large : Option ℕ → List ℕ → History → History
with_large place answer [] = []
with_large place answer (entry ∷ older) = if is_unseen_in place entry then seen answer entry ∷ older else entry ∷ with_large place answer older

-- The history with sessions that were dropped without a trace just before the request of that answer.
abbrev pub dropped_before_large : Option ℕ → List ℕ → History → History
dropped_before_large place ids [] = []
dropped_before_large place ids (entry ∷ older) =
    if is_unseen_in place entry then entry ∷ with_dropped older ids else entry ∷ dropped_before_large place ids older

-- The RspSessionID of the session that an entry begins; none where it begins none.
abbrev pub id_begun : Entry → Option ℕ
id_begun (Clear tag t d) = if takes PSK_EXCHANGE t then Some (id_in_exchange (answer_in t.effect)) else None
id_begun _ = None

-- That of the session which these bytes begin as the newest large response of the place that was not seen.
abbrev pub begun_with : Option ℕ → List ℕ → History → Option ℕ
begun_with place answer [] = None
begun_with place answer (entry ∷ older) = if is_unseen_in place entry then id_begun (seen answer entry) else begun_with place answer older

-- The entry is a record for the session of this id, or that was dropped.
abbrev pub touches : Option ℕ → Entry → Bool
touches (Some id) (Sealed tag sealed t reply d) = id_in_record sealed == id
touches (Some id) (Dropped which) = which == id
touches _ _ = false

-- No entry after the request of that answer is. Where it begins a session, another one that had its id is gone since
-- then, and took no record; nothing was shown of it either.
abbrev pub is_untouched : Option ℕ → Option ℕ → History → Bool
is_untouched place id [] = true
is_untouched place id (entry ∷ older) = if is_unseen_in place entry then true else not (touches id entry) && is_untouched place id older

-- A repeat is compared with the entry: the newest of the clear part that was taken, or the newest of the session.
abbrev pub is_kept_in : Option ℕ → Entry → Bool
is_kept_in None (Clear tag t d) = is_taken t
is_kept_in (Some id) (Sealed tag sealed t reply d) = id_in_record sealed == id
is_kept_in _ _ = false

-- The large response to the request with which a repeat is compared was not seen: so a repeat gets the same
-- LargeResponse.
abbrev pub repeats_large : Option ℕ → History → Bool
repeats_large place [] = false
repeats_large place (entry ∷ older) = if is_kept_in place entry then is_unseen entry else repeats_large place older

-- ---- Lengths.

-- The place whose sizes an entry's answer goes by.
abbrev pub place_of : History → Entry → Place
place_of h (Clear tag t d) = if is_some t.chunk then inside (clear_place h) else clear_place h
place_of h (Sealed tag sealed t reply d) = session_place (session_of (id_in_record sealed) h)
place_of h _ = clear_place h

-- The place whose sizes the answer to a repeat goes by, in a history of which the last argument is the rest.
abbrev pub place_again : Option ℕ → (all : History) → History → Place
place_again place all [] = clear_place all
place_again place all (entry ∷ older) = if is_kept_in place entry then place_of all entry else place_again place all older

-- A length that is sent in chunks: with what stands round the answer over the requester's transfer size, and at most
-- its max size and 4,096.
abbrev pub IsLargeAnswer : Place → List ℕ → Type 0
IsLargeAnswer p whole = (goes_large p whole ≡ true) × (is_answer_too_long p whole ≡ false) × (length whole ≤ MAX_MESSAGE_SIZE)

-- ---- While it is fetched.

-- A chunk of a large response is asked of a session.
abbrev pub asks_chunk : Ask → Bool
asks_chunk (AskChunk op handle number before) = true
asks_chunk _ = false

-- The message is CHUNK_GET, in the clear or in a session.
abbrev pub is_for_chunk : Aim → Bool
is_for_chunk (Plain asked) = false
is_for_chunk (ByChunks asked handle number) = false
is_for_chunk (ForChunk asked handle number before) = true
is_for_chunk (InSession id ask) = asks_chunk ask

-- The requester has CHUNK_GET outstanding, or owes it.
abbrev pub is_fetching : Option Sent → Bool
is_fetching None = false
is_fetching (Some sent) = is_for_chunk sent.aim

-- The bytes stand for the answer only so long. A LargeResponse that the requester does not take is not fetched.
abbrev pub while_fetched : requester_history.History → Option (List ℕ) → Option (List ℕ)
while_fetched h whole = if is_fetching (requester_history.outstanding h) then whole else None

-- What the requester asks a chunk of is in progress.
abbrev pub asks_known : requester_history.History → Option (List ℕ) → Bool
asks_known h whole = not (is_fetching (requester_history.outstanding h)) || is_some whole

-- The history by which a request is answered, of which this is the body: with the bytes that stand for the answer being
-- fetched. It is one of the place to which the request goes.
abbrev pub judging : Option (List ℕ) → List ℕ → History → History
judging None body h = h
judging (Some whole) body h = with_large (place_named body) whole h

-- ---- The last chunk.

-- CHUNK_GET took effect with the entry.
abbrev pub takes_get : Entry → Bool
takes_get (Clear tag t d) = takes CHUNK_GET t
takes_get (Sealed tag sealed t reply d) = takes CHUNK_GET t
takes_get _ = false

-- CHUNK_GET was taken, and no chunk is left to be fetched.
abbrev pub gives_last : History → Entry → Bool
gives_last h entry = takes_get entry && not (has_pending (place_of (entry ∷ h) entry))
