-- What the last chunk of a large response in the clear whose fetch began late shows of its request. This project's own.
use Rattle.std.specs.Prelude.{◌≡◌, ◌≢◌, ◌<◌, ◌↔◌, ◌++◌, ℕ, List, ◌∷◌, true, false, None}
use Rattle.check_fetched_laws.specs.ClearSessions.{AreGets}
use Rattle.check_fetched_laws.specs.LastShown.{IsShownEntry, drops_with}
use Rattle.check_late_laws.specs.Late.Passed.{StandsBack}
use Rattle.check_late_laws.specs.Late.PassedLast.{IsFree, WasAnew, in_front, touched_by}
use Rattle.responder_machine.specs.History.{Entry, History}
use Rattle.responder_machine.specs.Setup.{RspSetup}
use Rattle.capture_machine.specs.CapturedAnswers.{MayHaveLed}
use Rattle.capture_machine.specs.LargeAnswers.{begun_with, id_begun, is_untouched}

-- The request may have led to these bytes after these CHUNK_GETs, after these drops, and the session that they begin
-- was not touched since, exactly when it is so shown before what came since, under another tag, and no mark is set of
-- that session.
abbrev pub LateIsLed : Type 0
LateIsLed = (r : RspSetup) (gets : List Entry) (h : History) (s : StandsBack h) (whole ids : List ℕ) (tag : ℕ) → r.beat < 256 → AreGets gets → IsFree s.turn → WasAnew h s → tag ≢ s.tag
    → (MayHaveLed r None whole ids (gets ++ h) × (is_untouched None (begun_with None whole (gets ++ h)) (gets ++ h) ≡ true))
    ↔ ((ids ≡ drops_with h (in_front h s tag whole))
    × IsShownEntry r h (in_front h s tag whole)
    × (touched_by (id_begun (in_front h s tag whole)) h ≡ false))
