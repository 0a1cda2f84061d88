-- Which sessions were touched since the newest request in the clear that was taken, as the program represents it. This
-- project's own.
use Rattle.std.specs.Prelude.{◌≡◌, ◌≤◌, ◌==◌, ◌||◌, ◌-◌, ◌∷◌, nat_lt, if◌then◌else◌, ℕ, Bool, false, slice_index_or}
use Rattle.check_late_laws.specs.Late.Passed.{IsBehind, touched}
use Rattle.check_late_laws.specs.declared.late_fetch.marks.Marks.{Marks}
use Rattle.responder_machine.specs.History.{History}
use Rattle.responder_machine.specs.History.Entry.{Clear}
use Rattle.responder_machine.specs.Turn.{Turn}
use Rattle.spdm_machine.specs.Keys.{Draw}
use Rattle.spdm_grammar.specs.declared.names.TheConstants.{MAX_SESSIONS}

-- The mark of a RspSessionID; none where it is 0 or above 4.
abbrev pub mark_of : Marks → ℕ → Bool
mark_of seen id = if id == 0 || nat_lt MAX_SESSIONS id then false else slice_index_or seen.set (id - 1) false

-- Each id from 1 to 4 has its mark where its session was touched.
abbrev pub StandsFor : Marks → History → Type 0
StandsFor seen h = (id : ℕ) → 1 ≤ id → id ≤ MAX_SESSIONS → mark_of seen id ≡ touched id h

-- A message in the clear that was refused leaves them.
abbrev pub RefusedLeavesMarks : Type 0
RefusedLeavesMarks = (seen : Marks) (h : History) (tag : ℕ) (t : Turn) (d : Draw) → IsBehind (Clear tag t d) → StandsFor seen h → StandsFor seen (Clear tag t d ∷ h)
