-- The table of sessions as the program represents it: its entries, and for each requester where those stand that a
-- packet may change. This project's own.
use Rattle.std.specs.Prelude.{◌≡◌, ◌≢◌, ◌≤◌, ◌<◌, ◌+◌, ◌-◌, ◌^◌, ◌==◌, ◌&&◌, nat_lt, ℕ, suc, zero, List, [], ◌∷◌, ◌++◌, map, reverse, if◌then◌else◌, Bool, true, false, Option, Some, None, is_some, slice_index_or}
use Rattle.std.specs.List.{AllByRecursion}
use Rattle.responder_machine.specs.Session.{session_of, is_live}
use Rattle.spdm_grammar.specs.declared.told.session_view.SessionView.{SessionView}
use Rattle.check_laws.specs.Changes.{IsFew}
use Rattle.check_laws.specs.Verdict.{seen_of}
use Rattle.check_laws.specs.declared.change.Change.{Change}
use Rattle.check_laws.specs.declared.places.Places.{Places}
use Rattle.check_laws.specs.declared.verdict.Seen.{Seen}
use Rattle.capture_machine.specs.Capture.{Leads}
use Rattle.capture_machine.specs.Rounds.{Dialogue, dialogue_at, with_dialogue}
use Rattle.capture_machine.specs.SessionTable.{HasTable, LeadsShowing, Row, is_named, responder_id, rows_after, rows_between, seen}
use Rattle.world_machine.specs.Setup.{Configuration}

-- ---- Which rows a packet may change.

-- The row is of the requester with this endpoint, and its session is live under this RspSessionID.
abbrev pub is_live_as : (eid id : ℕ) → Row → Bool
is_live_as eid id row = row.eid == eid && (row.live && responder_id row == id)

-- The row is of the requester with this endpoint, and still has this ReqSessionID.
abbrev pub does_ask_as : (eid id : ℕ) → Row → Bool
does_ask_as eid id row = row.eid == eid && is_named row.asks_as (Some id)

-- A test passes at the row of this place, counted from 0, and at no other; at none, where no place is given.
abbrev pub PassesOnlyAt : (Row → Bool) → List Row → Option ℕ → Type 0
PassesOnlyAt test [] None = Unit {0}
PassesOnlyAt test [] (Some place) = ⊥
PassesOnlyAt test (row ∷ rows) None = (test row ≡ false) × PassesOnlyAt test rows None
PassesOnlyAt test (row ∷ rows) (Some zero) = (test row ≡ true) × PassesOnlyAt test rows None
PassesOnlyAt test (row ∷ rows) (Some (suc place)) = (test row ≡ false) × PassesOnlyAt test rows (Some place)

-- A row of the requester of this dialogue: if it is live, it has the events of the session with its RspSessionID, which
-- is one of the four; and so is its ReqSessionID, if it has one.
pub record IsOfDialogue (d : Dialogue) (row : Row) : Type 0 where
  pub now : row.live ≡ true → row.events ≡ session_of (responder_id row) d.responder
  pub begun : row.live ≡ true → is_live row.events ≡ true
  pub few : row.live ≡ true → IsFew (responder_id row)
  pub asks : (id : ℕ) → row.asks_as ≡ Some id → IsFew id

-- The places of a requester's entries among all rows, the oldest first.
pub record ArePlaces (places : Places) (d : Dialogue) (rows : List Row) : Type 0 where
  pub live_at : (slot : ℕ) → slot < 4 → PassesOnlyAt (is_live_as d.setup.eid (slot + 1)) rows (slice_index_or places.live slot None)
  pub asks_at : (slot : ℕ) → slot < 4 → PassesOnlyAt (does_ask_as d.setup.eid (slot + 1)) rows (slice_index_or places.asks slot None)
  pub rest : AllByRecursion (λ row. row.eid ≡ d.setup.eid → IsOfDialogue d row) rows

-- Places stand for what the rows, the newest first, have of a requester.
abbrev pub StandFor : Places → Dialogue → List Row → Type 0
StandFor places d rows = ArePlaces places d (reverse rows)

-- The table has the entries of the rows, the newest first, after this many packets.
pub record StandsForRows (table : List Seen) (w : Configuration) (packets : ℕ) (rows : List Row) : Type 0 where
  pub entries : map seen_of table ≡ map (seen w) (reverse rows)
  pub counts : AllByRecursion (λ row. (row.sent ≤ packets) × (row.answered ≤ packets)) (reverse rows)

-- ---- What a change makes of the table.

-- One more, up to the largest number of 64 bits.
abbrev pub one_more : ℕ → ℕ
one_more n = if nat_lt n (2 ^ 64 - 1) then n + 1 else n

-- The list with one item changed, where the place is one of it.
abbrev pub changed_at : {X : Type 0} → ℕ → (X → X) → List X → List X
changed_at place f [] = []
changed_at zero f (x ∷ xs) = f x ∷ xs
changed_at (suc place) f (x ∷ xs) = x ∷ changed_at place f xs

-- The same, where a place is given.
abbrev pub changed_where : {X : Type 0} → Option ℕ → (X → X) → List X → List X
changed_where None f xs = xs
changed_where (Some place) f xs = changed_at place f xs

-- The session with a RspSessionID, counted from 0, if it is live and was not begun anew.
abbrev pub goes_on : Change → (slot : ℕ) → Option SessionView
goes_on change slot = if is_named change.begun (Some (slot + 1)) then None else slice_index_or change.views slot None

-- An entry of a live session goes on, or ends.
abbrev pub with_view : Option SessionView → Seen → Seen
with_view None entry = record entry { stage = None }
with_view (Some view) entry = record entry { id = view.id; stage = Some view.stage; hash = view.hash }

-- It has one more record in an answer.
abbrev pub with_answered : Bool → Seen → Seen
with_answered false entry = entry
with_answered true entry = record entry { answered = one_more entry.answered }

-- An entry whose session was live under that RspSessionID, after a change.
abbrev pub gone_on : Change → (slot : ℕ) → Seen → Seen
gone_on change slot entry = with_view (goes_on change slot) (with_answered (is_named change.answered (Some (slot + 1))) entry)

-- The entries after the sessions of the first RspSessionIDs went on.
unfoldable pub followed : ℕ → Places → Change → List Seen → List Seen
followed zero places change table = table
followed (suc slot) places change table =
    changed_where (slice_index_or places.live slot None) (gone_on change slot) (followed slot places change table)

-- An entry has one more record in a request.
abbrev pub with_sent : Seen → Seen
with_sent entry = record entry { sent = one_more entry.sent }

-- What is kept for an id, counted from 1; nothing, where it is none of the four.
abbrev pub kept_for : {X : Type 0} → List (Option X) → Option ℕ → Option X
kept_for kept None = None
kept_for kept (Some zero) = None
kept_for kept (Some (suc slot)) = if nat_lt slot 4 then slice_index_or kept slot None else None

-- The entries after a change, but for a new one.
abbrev pub after_change : Places → Change → List Seen → List Seen
after_change places change table = changed_where (kept_for places.asks change.asked) with_sent (followed 4 places change table)

-- The session that was begun, as it is shown.
abbrev pub begun_view : Change → Option SessionView
begun_view change = kept_for change.views change.begun

-- The entry of a session that was begun, of the requester with this number.
abbrev pub new_entries : (requester : ℕ) → Option SessionView → List Seen
new_entries requester None = []
new_entries requester (Some view) =
    record { requester = requester; id = view.id; stage = Some view.stage; hash = view.hash; sent = 0; answered = 0 } ∷ []

-- ---- What a change makes of the places.

-- The place of a new entry, after all others, where a session was begun.
abbrev pub new_place : Change → (entries : ℕ) → Option ℕ
new_place change entries = if is_some (begun_view change) then Some entries else None

-- The place that is kept for a RspSessionID, counted from 0: that of the new entry, if its session has it, or that of a
-- session that goes on.
abbrev pub live_after : Change → (new : Option ℕ) → List (Option ℕ) → (slot : ℕ) → Option ℕ
live_after change new places slot =
    if is_named change.begun (Some (slot + 1)) then new
    else (if is_some (slice_index_or change.views slot None) then slice_index_or places slot None
    else None)

-- The place that is kept for a ReqSessionID, counted from 0: that of the new entry, if one was begun as it was accepted.
abbrev pub asks_after : Change → (new : Option ℕ) → List (Option ℕ) → (slot : ℕ) → Option ℕ
asks_after change new places slot = if is_named change.accepted (Some (slot + 1)) then new else slice_index_or places slot None

-- The places after a change, with that of the new entry.
abbrev pub places_after : Places → Change → (new : Option ℕ) → Places
places_after places change new = record {
  live = live_after change new places.live 0 ∷ live_after change new places.live 1 ∷ live_after change new places.live 2 ∷ live_after change new places.live 3 ∷ [];
  asks = asks_after change new places.asks 0 ∷ asks_after change new places.asks 1 ∷ asks_after change new places.asks 2 ∷ asks_after change new places.asks 3 ∷ [];
}

-- All entries after a change, of the requester with this number.
abbrev pub table_after : (requester : ℕ) → Places → Change → List Seen → List Seen
table_after requester places change table = after_change places change table ++ new_entries requester (begun_view change)

-- ---- What does not change.

-- A packet of one requester leaves the places of another.
abbrev pub OtherPlacesStay : Type 0
OtherPlacesStay = (places : Places) (before after other : Dialogue) (rows : List Row) → other.setup.eid ≢ after.setup.eid
    → StandFor places other rows → StandFor places other (rows_between before after rows)

-- Where nothing changes, the rows stay.
abbrev pub IdleRowsStay : Type 0
IdleRowsStay = (places : Places) (d : Dialogue) (rows : List Row) → StandFor places d rows → rows_between d d rows ≡ rows

-- ---- All requesters.

-- Their endpoints differ.
abbrev pub AreDistinct : List Dialogue → Type 0
AreDistinct [] = Unit {0}
AreDistinct (d ∷ ds) = AllByRecursion (λ (other : Dialogue). other.setup.eid ≢ d.setup.eid) ds × AreDistinct ds

-- There are places of each requester.
abbrev pub HaveAllPlaces : List Dialogue → List Row → Type 0
HaveAllPlaces ds rows = AllByRecursion (λ (d : Dialogue). (places : Places) × StandFor places d rows) ds

-- A packet that changes one dialogue changes the rows by that one alone.
abbrev pub OneChangesRows : Type 0
OneChangesRows = (ds : List Dialogue) (before after : Dialogue) (rows : List Row) → AreDistinct ds
    → dialogue_at after.setup.eid ds ≡ Some before → HaveAllPlaces ds rows
    → rows_after ds (with_dialogue after ds) rows ≡ rows_between before after rows

-- Where its requester has places then, all have.
abbrev pub OneKeepsPlaces : Type 0
OneKeepsPlaces = (ds : List Dialogue) (before after : Dialogue) (rows : List Row) (places : Places) → AreDistinct ds
    → dialogue_at after.setup.eid ds ≡ Some before → HaveAllPlaces ds rows
    → StandFor places after (rows_between before after rows) → HaveAllPlaces (with_dialogue after ds) (rows_between before after rows)

-- All walks over the same packets show the same rows.
abbrev pub RowsAreOfAll : Type 0
RowsAreOfAll = (w : Configuration) (older : List (List ℕ)) (ds es : List Dialogue) (rows : List Row)
    → LeadsShowing w older ds rows → Leads w older es → LeadsShowing w older es rows

-- Before the first packet there are no entries.
abbrev pub TableBegins : Type 0
TableBegins = (w : Configuration) → StandsForRows [] w 0 []

-- The entries are the table of a capture that shows the rows.
abbrev pub TableIsShown : Type 0
TableIsShown = (w : Configuration) (packets : List (List ℕ)) (ds : List Dialogue) (rows : List Row) (n : ℕ) (table : List Seen)
    → LeadsShowing w (reverse packets) ds rows → StandsForRows table w n rows → HasTable w packets (map seen_of table)
