-- One session at the responder: its own history, picked out of that of the connection, and what is counted in it.
use Rattle.std.specs.Prelude.{◌+◌, ◌*◌, ◌==◌, ◌&&◌, ◌||◌, not, nat_le, ℕ, List, [], ◌∷◌, drop, if◌then◌else◌, Bool, true, false, Option, Some, None, slice_index}
use Rattle.byteorder.specs.Endian.{little_number}
use Rattle.running_hash.specs.Hash.{Hash, hash_of}
use Rattle.spdm_basis.specs.SessionIdBytes.{session_id_bytes}
use Rattle.spdm_grammar.specs.declared.told.phase.Stage.{Stage}
use Rattle.spdm_grammar.specs.declared.told.phase.Stage.TheVariants.{Handshake, Open, Verifying}
use Rattle.responder_machine.specs.History.{History, KeptRecord, clear_turns, negotiation_of}
use Rattle.responder_machine.specs.History.Entry.{Clear, Sealed, Queued, Ticked, Dropped}
use Rattle.spdm_machine.specs.Terms.{Terms, no_negotiation, terms_of}
use Rattle.responder_machine.specs.Turn.{Turn, takes, updates, is_data, request_in, answer_in}
use Rattle.transcript.specs.Transcripts as transcript
use Rattle.transcript.specs.Transcripts.{Negotiation, vca_of}
use Rattle.spdm_machine.specs.Sessions.{id_in_exchange, is_past_handshake}
use Rattle.spdm_grammar.specs.declared.names.request_code.TheConstants.{GET_VERSION, PSK_EXCHANGE, PSK_FINISH, KEY_UPDATE, END_SESSION}
use Rattle.spdm_grammar.specs.declared.names.TheConstants.{MAX_RECORDS}

-- What a session sees: PSK_EXCHANGE and PSK_EXCHANGE_RSP, which began it, with the negotiation that they were made
-- under; a record taken, with the turn of its inner message and the record sent in answer; seconds that passed.
pub data Event : Type 0 where
  Began : (negotiation : Negotiation) → (exchange : List ℕ) → (answer : List ℕ) → Event
  Heard : (sealed : List ℕ) → (turn : Turn) → (reply : List ℕ) → Event
  Waited : (seconds : ℕ) → Event

-- A session's own history, the newest event first. Where there is no event there is no session.
abbrev pub Events : Type 0
Events = List Event

-- The session is live: it has an event.
abbrev pub is_live : Events → Bool
is_live [] = false
is_live (_ ∷ _) = true

-- ---- What began it.

-- The negotiation that its PSK_EXCHANGE was made under, and an empty one where there is none.
abbrev pub session_negotiation : Events → Negotiation
session_negotiation [] = no_negotiation
session_negotiation (Began negotiation exchange answer ∷ older) = negotiation
session_negotiation (_ ∷ older) = session_negotiation older

-- Its PSK_EXCHANGE.
abbrev pub exchange_of : Events → List ℕ
exchange_of [] = []
exchange_of (Began negotiation exchange answer ∷ older) = exchange
exchange_of (_ ∷ older) = exchange_of older

-- The PSK_EXCHANGE_RSP that answered it.
abbrev pub exchange_answer : Events → List ℕ
exchange_answer [] = []
exchange_answer (Began negotiation exchange answer ∷ older) = answer
exchange_answer (_ ∷ older) = exchange_answer older

-- The choice and the common capabilities of a session are those of its negotiation.
abbrev pub session_terms : Events → Terms
session_terms s = terms_of (session_negotiation s)

-- The hash of a session is the chosen one.
abbrev pub session_hash : Events → Hash
session_hash s = hash_of (session_terms s).choice.hash

-- The session id: ReqSessionID and then RspSessionID (DSP0277).
abbrev pub id_bytes : Events → List ℕ
id_bytes s = session_id_bytes (id_in_exchange (exchange_of s)) (id_in_exchange (exchange_answer s))

-- The heartbeat period is Param1 of PSK_EXCHANGE_RSP.
abbrev pub period_of : Events → ℕ
period_of s = slice_index (exchange_answer s) 2

-- ---- How far it has come.

-- The last of PSK_EXCHANGE, PSK_FINISH and KEY_UPDATE that was taken.
abbrev pub stage_of : Events → Stage
stage_of [] = Handshake
stage_of (Heard m t reply ∷ older) =
    if takes PSK_FINISH t then Open
    else (if updates 3 t then Open
    else (if takes KEY_UPDATE t then Verifying
    else stage_of older))
stage_of (_ ∷ older) = stage_of older

-- The turns of the records taken.
abbrev pub turns_of : Events → List Turn
turns_of [] = []
turns_of (Heard m t reply ∷ older) = t ∷ turns_of older
turns_of (_ ∷ older) = turns_of older

-- The last record taken, with its reply.
abbrev pub last_of : Events → Option KeptRecord
last_of [] = None
last_of (Heard m t reply ∷ older) = Some (record { sealed = m; reply = reply })
last_of (_ ∷ older) = last_of older

-- How many application messages were taken.
abbrev pub taken_of : Events → ℕ
taken_of [] = 0
taken_of (Heard m t reply ∷ older) = if is_data t.effect then taken_of older + 1 else taken_of older
taken_of (_ ∷ older) = taken_of older

-- ---- Epochs and numbers (DSP0274, "KEY_UPDATE"; DSP0277, "Sequence number").

-- The updates of the request key that were taken: UpdateKey and UpdateAllKeys.
abbrev pub request_epoch : Events → ℕ
request_epoch [] = 0
request_epoch (Heard m t reply ∷ older) = if updates 1 t || updates 2 t then request_epoch older + 1 else request_epoch older
request_epoch (_ ∷ older) = request_epoch older

-- The updates of the response key: UpdateAllKeys.
abbrev pub response_epoch : Events → ℕ
response_epoch [] = 0
response_epoch (Heard m t reply ∷ older) = if updates 2 t then response_epoch older + 1 else response_epoch older
response_epoch (_ ∷ older) = response_epoch older

-- The records taken under the present request key. PSK_FINISH and an update are the last ones under the key before.
abbrev pub request_next : Events → ℕ
request_next [] = 0
request_next (Heard m t reply ∷ older) = if takes PSK_FINISH t || updates 1 t || updates 2 t then 0 else request_next older + 1
request_next (_ ∷ older) = request_next older

-- The records sealed under the present response key. PSK_FINISH_RSP is the last one under the key before, and
-- UpdateAllKeys is answered by the first one under the new key.
abbrev pub response_next : Events → ℕ
response_next [] = 0
response_next (Heard m t reply ∷ older) = if takes PSK_FINISH t then 0 else (if updates 2 t then 1 else response_next older + 1)
response_next (_ ∷ older) = response_next older

-- A key of the session has sealed 65,536 records, as many as it may. This project's own limit.
abbrev pub is_spent : Events → Bool
is_spent s = request_next s == MAX_RECORDS || response_next s == MAX_RECORDS

-- ---- Transcripts (DSP0274, "Transcript hash").

-- VCA: the six messages of its negotiation.
abbrev pub session_vca : Events → List ℕ
session_vca s = vca_of (session_negotiation s)

-- T1: VCA, PSK_EXCHANGE, and PSK_EXCHANGE_RSP without its verify data.
abbrev pub t1_of : Events → List ℕ
t1_of s = transcript.t1_of (session_hash s) (session_vca s) (exchange_of s) (exchange_answer s)

-- PSK_FINISH, once it was taken.
abbrev pub finish_of : Events → List ℕ
finish_of [] = []
finish_of (Heard m t reply ∷ older) = if takes PSK_FINISH t then request_in t.effect else finish_of older
finish_of (_ ∷ older) = finish_of older

-- PSK_FINISH_RSP, once PSK_FINISH was taken.
abbrev pub finish_answer : Events → List ℕ
finish_answer [] = []
finish_answer (Heard m t reply ∷ older) = if takes PSK_FINISH t then answer_in t.effect else finish_answer older
finish_answer (_ ∷ older) = finish_answer older

-- What the verify data of this PSK_FINISH cover.
abbrev pub tv_of : Events → List ℕ → List ℕ
tv_of s finish = transcript.tv_of (session_hash s) (session_vca s) (exchange_of s) (exchange_answer s) finish

-- T2: VCA, PSK_EXCHANGE, PSK_EXCHANGE_RSP, PSK_FINISH and PSK_FINISH_RSP, all whole.
abbrev pub t2_of : Events → List ℕ
t2_of s = transcript.t2_of (session_vca s) (exchange_of s) (exchange_answer s) (finish_of s) (finish_answer s)

-- ---- Time (DSP0274, "HEARTBEAT"). Only a session past its handshake, with a period, is timed.

-- The session is established, and its period is not 0.
abbrev pub is_timed : Events → Bool
is_timed s = is_past_handshake (stage_of s) && not (period_of s == 0)

-- The seconds since the last record was taken.
abbrev pub idle_of : Events → ℕ
idle_of [] = 0
idle_of (Waited seconds ∷ older) = idle_of older + seconds
idle_of (_ ∷ older) = 0

-- Seconds pass: a timed session waits, and is gone where it has waited for twice its period.
abbrev pub after_tick : Events → ℕ → Events
after_tick s seconds =
    if not (is_timed s) then s
    else (if nat_le (2 * period_of s) (idle_of s + seconds) then []
    else Waited seconds ∷ s)

-- ---- The session of an id.

-- The id by which a record names its session: RspSessionID, which follows ReqSessionID.
abbrev pub id_in_record : List ℕ → ℕ
id_in_record sealed = little_number 2 (drop 2 sealed)

-- A live session with one more event; where there is no session, an event begins none.
abbrev pub when_live : Events → Event → Events
when_live [] e = []
when_live (s ∷ ss) e = e ∷ s ∷ ss

-- END_SESSION ends it. Any other record becomes an event of it.
abbrev pub after_record : Events → List ℕ → Turn → List ℕ → Events
after_record s m t reply = if takes END_SESSION t then [] else when_live s (Heard m t reply)

-- PSK_EXCHANGE_RSP gives this RspSessionID to the session that it begins. 0 is given to none: it is what stands there where
-- the answer is not known.
abbrev pub gives_id : ℕ → (answer : List ℕ) → Bool
gives_id id answer = id_in_exchange answer == id && not (id == 0)

-- PSK_EXCHANGE begins the session to which its answer gives an id, and ends one in its handshake.
abbrev pub after_exchange : ℕ → Events → Turn → Negotiation → Events
after_exchange id s t negotiation =
    if gives_id id (answer_in t.effect) then Began negotiation (request_in t.effect) (answer_in t.effect) ∷ []
    else (if is_past_handshake (stage_of s) then s else [])

-- GET_VERSION ends all sessions, PSK_EXCHANGE is as said, and nothing else in the clear touches one. What else
-- GET_VERSION sets back: `phase_of`, `negotiation_of` and `ended_of` in History.antt.
abbrev pub after_clear : ℕ → Events → Turn → Negotiation → Events
after_clear id s t negotiation =
    if takes GET_VERSION t then []
    else (if takes PSK_EXCHANGE t then after_exchange id s t negotiation
    else s)

-- The own history of the live session that has this RspSessionID, from its exchange on.
unfoldable pub session_of : ℕ → History → Events
session_of id [] = []
session_of id (Clear tag t d ∷ older) = after_clear id (session_of id older) t (negotiation_of (clear_turns older))
session_of id (Sealed tag m t reply d ∷ older) = if id_in_record m == id then after_record (session_of id older) m t reply else session_of id older
session_of id (Queued bytes ∷ older) = session_of id older
session_of id (Ticked seconds ∷ older) = after_tick (session_of id older) seconds
session_of id (Dropped which ∷ older) = if which == id then [] else session_of id older
