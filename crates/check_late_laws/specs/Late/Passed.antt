-- A request in the clear whose large response passed unseen, and what came after it. This project's own.
use Rattle.std.specs.Prelude.{◌≡◌, ◌||◌, ◌++◌, not, ℕ, List, [], ◌∷◌, if◌then◌else◌, Bool, true, false, Some, None}
use Rattle.check_laws.specs.Walks.{Walks}
use Rattle.requester_machine.specs.Setup.{ReqSetup}
use Rattle.responder_machine.specs.History.{Entry, History}
use Rattle.responder_machine.specs.History.Entry.{Clear, Sealed, Dropped}
use Rattle.responder_machine.specs.Responder.Outcome.{Same}
use Rattle.responder_machine.specs.Setup.{RspSetup}
use Rattle.responder_machine.specs.Turn.{Turn, is_taken}
use Rattle.responder_machine.specs.Turn.Effect.{NoEffect}
use Rattle.spdm_machine.specs.Bodies.{clear_body}
use Rattle.spdm_machine.specs.Keys.{Draw}
use Rattle.capture_machine.specs.CapturedAnswers.{MayLeadTo}
use Rattle.capture_machine.specs.LargeAnswers.{is_kept_in, is_unseen_effect, is_untouched, repeats_large, touches}
use Rattle.capture_machine.specs.Rounds.{Dialogue}
use Rattle.world_machine.specs.Setup.{Configuration}

-- ---- What came behind it.

-- A record, a message in the clear that was refused, or a session that was dropped.
abbrev pub IsBehind : Entry → Type 0
IsBehind (Clear tag t d) = (is_taken t ≡ false) × (t.effect ≡ NoEffect)
IsBehind (Sealed tag sealed t reply d) = Unit {0}
IsBehind (Dropped id) = Unit {0}
IsBehind _ = ⊥

-- Each of these is.
abbrev pub AreBehind : List Entry → Type 0
AreBehind [] = Unit {0}
AreBehind (e ∷ es) = IsBehind e × AreBehind es

-- The turn was taken, and its large response was not seen.
pub record IsPassed (t : Turn) : Type 0 where
  pub taken : is_taken t ≡ true
  pub unseen : is_unseen_effect t.effect ≡ true

-- The newest request in the clear that was taken is one whose answer passed unseen, and only such entries came after
-- it.
pub record StandsBack (h : History) : Type 0 where
  pub behind : List Entry
  pub tag : ℕ
  pub turn : Turn
  pub draw : Draw
  pub before : History
  pub is : h ≡ behind ++ Clear tag turn draw ∷ before
  pub are : AreBehind behind
  pub passed : IsPassed turn

-- ---- Which sessions were touched since.

-- Since the newest request in the clear that was taken, a record came for the session of this id, or it was dropped.
abbrev pub touched : (id : ℕ) → History → Bool
touched id [] = false
touched id (e ∷ older) = if is_kept_in None e then false else touches (Some id) e || touched id older

-- ---- The laws.

-- In a walk a repeat gets LargeResponse again only where the history stands so.
abbrev pub RepeatStandsBack : Type 0
RepeatStandsBack = (w : Configuration) (q : ReqSetup) (older : List (List ℕ)) (d : Dialogue) → Walks w q older d
    → repeats_large None d.responder ≡ true → StandsBack d.responder

-- It is the repeat of that request, with its tag, and gets its reply.
abbrev pub RepeatIsPassed : Type 0
RepeatIsPassed = (r : RspSetup) (h : History) (s : StandsBack h) (tag : ℕ) (m answer : List ℕ) → MayLeadTo r h tag (clear_body m) (Same answer)
    → (tag ≡ s.tag) × (m ≡ s.turn.message) × (answer ≡ clear_body s.turn.reply)

-- Whether the session of an id was touched since that request is determined by a mark for each id, which is kept entry
-- by entry.
abbrev pub TouchIsTold : Type 0
TouchIsTold = (h : History) (s : StandsBack h) (id : ℕ) → is_untouched None (Some id) h ≡ not (touched id h)
