-- The last chunk of a large response that is held, where its fetch began late: the session that the whole begins, and
-- the last record of the session that ended. This project's own.
use Rattle.std.specs.Prelude.{◌≡◌, ◌==◌, ◌||◌, nat_lt, if◌then◌else◌, ℕ, List, Bool, false, Option, Some, None}
use Rattle.responder_core.specs.LateFetch.{with_ended}
use Rattle.responder_core.specs.declared.connected.Connection.{Connection}
use Rattle.check_late_laws.specs.Late.Marking as marking
use Rattle.check_late_laws.specs.Late.Passed.{touched}
use Rattle.check_late_laws.specs.Late.PassedLast.{touched_by}
use Rattle.check_late_laws.specs.declared.late_fetch.marks.Marks.{Marks}
use Rattle.responder_machine.specs.History.{Entry, History, KeptRecord}
use Rattle.spdm_machine.specs.Sessions.{id_in_exchange}
use Rattle.capture_machine.specs.LargeAnswers.{id_begun}
use Rattle.spdm_grammar.specs.declared.names.TheConstants.{MAX_SESSIONS}

-- The marks stand for this history.
abbrev pub MarksStandAt : Option Marks → History → Type 0
MarksStandAt None h = Unit {0}
MarksStandAt (Some marks) h = marking.StandsFor marks h

-- The session of this id from 1 to 4 was touched; one of another id there is none.
abbrev pub is_touched_at : (id : ℕ) → History → Bool
is_touched_at id h = if id == 0 || nat_lt MAX_SESSIONS id then false else touched id h

-- The fetch began late, and the session that these bytes begin was touched since their request.
abbrev pub begins_touched : Option Marks → (exchange : Bool) → (whole : List ℕ) → History → Bool
begins_touched None exchange whole h = false
begins_touched (Some marks) exchange whole h = if exchange then is_touched_at (id_in_exchange whole) h else false

-- Where the fetch began late, the session that the entry begins was not touched.
abbrev pub IsUnmarked : Option Marks → History → Entry → Type 0
IsUnmarked None h entry = Unit {0}
IsUnmarked (Some marks) h entry = touched_by (id_begun entry) h ≡ false

-- The connection; where the fetch began late, with this last record of the session that ended.
abbrev pub with_ended_if : Option Marks → Option KeptRecord → Connection → Connection
with_ended_if None last seen = seen
with_ended_if (Some marks) last seen = with_ended seen last
