-- What C is told of the changes of sessions, and how it keeps what stood before them.
use Rattle.std.specs.Prelude.{◌≡◌, ◌==◌, not, ℕ, List, [], ◌∷◌, map, Option, Some, None, if◌then◌else◌}
use Rattle.c_ends.specs.Telling.{session_number}
use Rattle.c_ends.specs.declared.codes.TheConstants.{OK, UNKNOWN_PEER}
use Rattle.c_ends.specs.declared.watch.Change.{Change}
use Rattle.c_ends.specs.declared.watch.Watch.{Watch}
use Rattle.c_ends.specs.declared.watch.Watched.{Watched}
use Rattle.responder.specs.Changes.{changes_between, marks_at}
use Rattle.responder.specs.declared.changes.SessionChange.{SessionChange}
use Rattle.responder.specs.declared.changes.SessionChange.TheVariants as change
use Rattle.responder.specs.declared.changes.SessionMark.{SessionMark}
use Rattle.responder_machine.specs.Responding.{Connection}

-- ---- What stood.

-- A session as it stood: 0 is none, 1 one in its handshake, and any other number one that is established.
abbrev pub mark_in : Watched → Option SessionMark
mark_in w =
    if w.standing == 0 then None
    else Some (record { id = record { req = w.req; rsp = w.rsp }; established = not (w.standing == 1) })

-- Those of the RspSessionIDs from 1 to 4.
abbrev pub marks_in : Watch → List (Option SessionMark)
marks_in w = mark_in w.first ∷ mark_in w.second ∷ mark_in w.third ∷ mark_in w.fourth ∷ []

-- ---- What became of it.

-- The line of a kind: the session that it is about, and the one that took its place.
abbrev pub changed : (kind session by : ℕ) → Change
changed kind session by = record { kind = kind; session = session; by = by }

abbrev pub change_told : Option SessionChange → Change
change_told None = changed 0 0 0
change_told (Some (change.Began id)) = changed 1 (session_number id) 0
change_told (Some (change.Established id)) = changed 2 (session_number id) 0
change_told (Some (change.Gone id)) = changed 3 (session_number id) 0
change_told (Some (change.Replaced gone by)) = changed 4 (session_number gone) (session_number by)

-- The changes of the sessions of a connection since they stood as a watch has them are told, by rising RspSessionID, and
-- the watch has them as they stand. Where there is no connection nothing is written.
abbrev pub AreChanges : Option Connection → (code : ℕ) → (old new : Watch) → (before after : List Change) → Type 0
AreChanges None code old new before after = (code ≡ UNKNOWN_PEER) × (new ≡ old) × (after ≡ before)
AreChanges (Some c) code old new before after =
    (code ≡ OK)
    × (marks_in new ≡ marks_at (Some c))
    × (after ≡ map change_told (changes_between (marks_in old) (marks_at (Some c))))
