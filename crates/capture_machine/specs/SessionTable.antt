-- The sessions that a conforming capture shows. This project's own.
use Rattle.std.specs.Prelude.{◌≡◌, ◌+◌, ◌==◌, ◌&&◌, ◌||◌, not, nat_lt, ℕ, List, [], ◌∷◌, map, reverse, length, if◌then◌else◌, Bool, true, false, Option, Some, None}
use Rattle.requester_machine.specs.History as requester_history
use Rattle.requester_machine.specs.History.Effect.{Answers}
use Rattle.requester_machine.specs.History.Entry.{TookClear}
use Rattle.requester_machine.specs.Message.{Aim, Sent}
use Rattle.requester_machine.specs.Message.Aim.{InSession}
use Rattle.spdm_basis.specs.declared.values.session_id.SessionId.{SessionId}
use Rattle.spdm_grammar.specs.Message.RequestMessage.{PskExchange}
use Rattle.spdm_grammar.specs.declared.told.phase.Stage.{Stage}
use Rattle.responder_machine.specs.Heard.{view_of}
use Rattle.responder_machine.specs.History.{History}
use Rattle.responder_machine.specs.History.Entry.{Clear, Sealed}
use Rattle.responder_machine.specs.Session.{Events, session_of, is_live, exchange_answer, id_in_record}
use Rattle.spdm_machine.specs.Sessions.{id_in_exchange}
use Rattle.requester_machine.specs.Setup.{ReqSetup}
use Rattle.responder_machine.specs.Turn.{Turn, takes, answer_in}
use Rattle.capture_machine.specs.Capture.{Conforms, Follows}
use Rattle.capture_machine.specs.Rounds.{Dialogue, Round, new_dialogue}
use Rattle.world_machine.specs.Setup.{Configuration}
use Rattle.spdm_grammar.specs.declared.names.request_code.TheConstants.{PSK_EXCHANGE}

-- A session that a PSK_EXCHANGE_RSP began: the endpoint of its requester; its own history at the responder, as it last
-- was, and whether it is live there; its ReqSessionID, where the requester took that answer, and until a later session
-- has the id; how many records of it began rounds, and how many answered records that were taken. Each of these was
-- sealed under another key or number than all before it; a copy begins no round, and a record that comes again is not
-- taken.
pub record Row : Type 0 where
  pub eid : ℕ
  pub events : Events
  pub live : Bool
  pub asks_as : Option ℕ
  pub sent : ℕ
  pub answered : ℕ

-- The RspSessionID of a row's session.
abbrev pub responder_id : Row → ℕ
responder_id row = id_in_exchange (exchange_answer row.events)

-- ---- What happened between two moments of a dialogue, one packet apart.

-- PSK_EXCHANGE took effect, and its answer is whole.
abbrev pub begins : Turn → Bool
begins t = takes PSK_EXCHANGE t && not (length (answer_in t.effect) == 0)

-- How many sessions were begun.
abbrev pub begun_count : History → ℕ
begun_count [] = 0
begun_count (Clear tag t d ∷ older) = if begins t then begun_count older + 1 else begun_count older
begun_count (_ ∷ older) = begun_count older

-- The RspSessionID of the session that was begun last.
abbrev pub last_begun : History → ℕ
last_begun [] = 0
last_begun (Clear tag t d ∷ older) = if begins t then id_in_exchange (answer_in t.effect) else last_begun older
last_begun (_ ∷ older) = last_begun older

-- A session was begun between two moments of a dialogue.
abbrev pub has_begun : Dialogue → Dialogue → Bool
has_begun before after = nat_lt (begun_count before.responder) (begun_count after.responder)

-- The session of this id was begun.
abbrev pub has_begun_as : Dialogue → Dialogue → ℕ → Bool
has_begun_as before after id = has_begun before after && last_begun after.responder == id

-- The record that answered the newest entry, where that is a record with this id.
abbrev pub last_reply : ℕ → History → Option (List ℕ)
last_reply id (Sealed tag sealed t reply d ∷ older) = if id_in_record sealed == id then Some reply else None
last_reply id _ = None

-- The record that answered one with this id between two moments, if one did.
abbrev pub reply_between : Dialogue → Dialogue → ℕ → Option (List ℕ)
reply_between before after id = if nat_lt (length before.responder) (length after.responder) then last_reply id after.responder else None

-- The ReqSessionID of the exchange whose answer the requester took last.
abbrev pub accepted_in : requester_history.History → Option ℕ
accepted_in (TookClear tag m led d ∷ older) = accepted_by led.effect
  where
    accepted_by : requester_history.Effect → Option ℕ
    accepted_by (Answers (PskExchange exchange) answer) = Some exchange.req_id
    accepted_by _ = None
accepted_in _ = None

-- The ReqSessionID of the exchange whose answer the requester took between two moments, if it took one.
abbrev pub accepted_between : Dialogue → Dialogue → Option ℕ
accepted_between before after = if nat_lt (length before.requester) (length after.requester) then accepted_in after.requester else None

-- The message is a record of the session with this ReqSessionID.
abbrev pub is_of : ℕ → Option Sent → Bool
is_of id (Some sent) = is_aimed id sent.aim
  where
    is_aimed : ℕ → Aim → Bool
    is_aimed id (InSession of ask) = of == id
    is_aimed id _ = false
is_of id None = false

-- The round is a new one: there was none before, or it had another tag.
abbrev pub is_new : Option Round → Round → Bool
is_new None round = true
is_new (Some before) round = not (before.tag == round.tag)

-- The body of the request by which a round began between two moments, where it is a record of the session with this
-- ReqSessionID.
abbrev pub request_by : Dialogue → Dialogue → ℕ → Option Round → Option (List ℕ)
request_by before after id None = None
request_by before after id (Some round) =
    if is_new before.round round && is_of id (requester_history.outstanding after.requester) then Some round.body else None

-- ---- What that makes of a row.

-- Both ids are there, and they are equal.
abbrev pub is_named : Option ℕ → Option ℕ → Bool
is_named (Some id) (Some other) = id == other
is_named _ _ = false

-- One more, if there is another record.
abbrev pub with_one : Option (List ℕ) → ℕ → ℕ
with_one None count = count
with_one (Some sealed) count = count + 1

-- That request for the ReqSessionID of a row, if the row still has one.
abbrev pub request_between : Dialogue → Dialogue → Option ℕ → Option (List ℕ)
request_between before after None = None
request_between before after (Some id) = request_by before after id after.round

-- A live session goes on, or is live no longer, also where another one has its id now.
abbrev pub with_events : Dialogue → Dialogue → Row → Row
with_events before after row =
    if not (is_live (session_of (responder_id row) after.responder)) || has_begun_as before after (responder_id row) then record row { live = false }
    else record row { events = session_of (responder_id row) after.responder }

-- At the responder: a live row goes on and gets the record that answered it; any other stays as it is.
abbrev pub with_responder : Dialogue → Dialogue → Row → Row
with_responder before after row =
    if row.live then record (with_events before after row) { answered = with_one (reply_between before after (responder_id row)) row.answered }
    else row

-- At the requester: a row loses its ReqSessionID to a session accepted later under it, and gets the record of its own
-- that began a round.
abbrev pub with_requester : Dialogue → Dialogue → Row → Row
with_requester before after row =
    record row {
      asks_as = if is_named row.asks_as (accepted_between before after) then None else row.asks_as;
      sent = with_one (request_between before after row.asks_as) row.sent;
    }

-- A row of this requester changes at both ends; a row of another stays as it is.
abbrev pub row_after : Dialogue → Dialogue → Row → Row
row_after before after row =
    if row.eid == after.setup.eid then with_requester before after (with_responder before after row) else row

-- A new row, after all others: the newest stands first.
abbrev pub new_row : Dialogue → Dialogue → Row
new_row before after = record {
  eid = after.setup.eid;
  events = session_of (last_begun after.responder) after.responder;
  live = true;
  asks_as = accepted_between before after;
  sent = 0;
  answered = 0;
}

-- The rows after two moments, with a new one in front where a session was begun.
abbrev pub rows_between : Dialogue → Dialogue → List Row → List Row
rows_between before after rows =
    if has_begun before after then new_row before after ∷ map (row_after before after) rows
    else map (row_after before after) rows

-- The same for all dialogues, of which a packet changes one.
abbrev pub rows_after : List Dialogue → List Dialogue → List Row → List Row
rows_after [] ds rows = rows
rows_after (b ∷ bs) [] rows = rows
rows_after (b ∷ bs) (d ∷ ds) rows = rows_after bs ds (rows_between b d rows)

-- ---- The table.

-- Packets, the newest first, may lead to what the dialogues then are, and show these rows.
abbrev pub LeadsShowing : Configuration → List (List ℕ) → List Dialogue → List Row → Type 0
LeadsShowing w [] ds rows = (ds ≡ map new_dialogue w.requesters) × (rows ≡ [])
LeadsShowing w (packet ∷ older) ds rows =
    (before : List Dialogue) × (earlier : List Row) × LeadsShowing w older before earlier
    × Follows w older before packet ds
    × (rows ≡ rows_after before ds earlier)

-- An entry of the table: the number of the requester, counted from 1; the session's id; its stage, or none where it is
-- live no longer; the hash of its transcript; how many different records of it stand in requests, and how many in
-- answers.
pub record Seen : Type 0 where
  pub requester : ℕ
  pub id : SessionId
  pub stage : Option Stage
  pub hash : List ℕ
  pub sent : ℕ
  pub answered : ℕ

-- The number of the requester with an endpoint, where the first of these has number n; 0 where none has it.
abbrev pub number_from : ℕ → ℕ → List ReqSetup → ℕ
number_from n eid [] = 0
number_from n eid (q ∷ others) = if q.eid == eid then n else number_from (n + 1) eid others

-- A row as an entry of the table.
abbrev pub seen : Configuration → Row → Seen
seen w row = record {
  requester = number_from 1 row.eid w.requesters;
  id = (view_of row.events).id;
  stage = if row.live then Some (view_of row.events).stage else None;
  hash = (view_of row.events).hash;
  sent = row.sent;
  answered = row.answered;
}

-- Packets, in order, conform and have this table: its entries stand in the order in which PSK_EXCHANGE_RSP came.
abbrev pub HasTable : Configuration → List (List ℕ) → List Seen → Type 0
HasTable w packets table =
    (ds : List Dialogue) × (rows : List Row) × LeadsShowing w (reverse packets) ds rows × (table ≡ map (seen w) (reverse rows))

-- What conforms has a table, and what has one conforms.
abbrev pub ConformingHasTable : Type 0
ConformingHasTable = (w : Configuration) (packets : List (List ℕ))
    → (Conforms w packets → (table : List Seen) × HasTable w packets table)
    × ((table : List Seen) → HasTable w packets table → Conforms w packets)

-- No capture has two tables.
abbrev pub OneTable : Type 0
OneTable = (w : Configuration) (packets : List (List ℕ)) (one other : List Seen) → HasTable w packets one → HasTable w packets other → one ≡ other
