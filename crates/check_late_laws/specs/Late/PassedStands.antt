-- What a connection stands for after the last chunk of a large response whose fetch began late. This project's own.
use Rattle.std.specs.Prelude.{◌≡◌, ◌++◌, ℕ, List, ◌∷◌, true, false}
use Rattle.check_late_laws.specs.Late.Passed.{StandsBack}
use Rattle.check_late_laws.specs.Late.PassedLast.{IsFree, in_front, touched_by}
use Rattle.responder_machine.specs.History.{History, clear_turns, ended_of, kept_of, negotiation_of, phase_of, queue_of}
use Rattle.responder_machine.specs.History.Entry.{Clear}
use Rattle.responder_machine.specs.LargeMessages.{chunks_of, given_of, handle_of, large_of, larges_of}
use Rattle.responder_machine.specs.May.{with_dropped}
use Rattle.responder_machine.specs.Responder.Outcome.{Adds}
use Rattle.responder_machine.specs.Session.{session_of}
use Rattle.responder_machine.specs.Setup.{RspSetup}
use Rattle.responder_machine.specs.Turn.{Turn, is_taken}
use Rattle.spdm_machine.specs.Keys.{Draw}
use Rattle.capture_machine.specs.CapturedAnswers.{AreShown, request_in}
use Rattle.capture_machine.specs.LargeAnswers.{id_begun}

-- All that a connection keeps of two histories is the same, but for the kept message and the last record of the ended
-- session.
pub record AreNear (h g : History) : Type 0 where
  pub phase : phase_of (clear_turns h) ≡ phase_of (clear_turns g)
  pub negotiation : negotiation_of (clear_turns h) ≡ negotiation_of (clear_turns g)
  pub large : large_of (clear_turns h) ≡ large_of (clear_turns g)
  pub given : given_of (clear_turns h) ≡ given_of (clear_turns g)
  pub handle : handle_of (clear_turns h) ≡ handle_of (clear_turns g)
  pub larges : larges_of (clear_turns h) ≡ larges_of (clear_turns g)
  pub chunks : chunks_of (clear_turns h) ≡ chunks_of (clear_turns g)
  pub sessions : (id : ℕ) → session_of id h ≡ session_of id g
  pub queue : queue_of h ≡ queue_of g

-- ---- The laws.

-- So it is where the request, with its whole answer, precedes what came after it, under any tag, in place of standing
-- at its own: where the session that it begins was not touched since, and none was dropped before it but one that the
-- answer shows.
abbrev pub FrontIsNear : Type 0
FrontIsNear = (r : RspSetup) (h : History) (s : StandsBack h) (whole dropped : List ℕ) (other : ℕ)
    → IsFree s.turn → touched_by (id_begun (in_front h s other whole)) h ≡ false
    → AreShown r h (request_in (in_front h s other whole)) (Adds (in_front h s other whole)) dropped
    → AreNear (in_front h s other whole ∷ with_dropped h dropped) (s.behind ++ in_front h s s.tag whole ∷ with_dropped s.before dropped)

-- A further message in the clear leaves it so, under whatever tags; and where it was taken, the kept message differs in the
-- tag alone.
abbrev pub NearGoesOn : Type 0
NearGoesOn = (h g : History) (tag other : ℕ) (t : Turn) (d : Draw) → AreNear h g → AreNear (Clear tag t d ∷ h) (Clear other t d ∷ g)

abbrev pub NearIsKept : Type 0
NearIsKept = (h g : History) (tag : ℕ) (t : Turn) (d : Draw) → is_taken t ≡ true → kept_of (Clear tag t d ∷ h) ≡ kept_of (Clear tag t d ∷ g)

-- At its own place the request leaves the last record of a session that ended since.
abbrev pub EndedStays : Type 0
EndedStays = (h : History) (s : StandsBack h) (whole dropped : List ℕ)
    → ended_of (s.behind ++ in_front h s s.tag whole ∷ with_dropped s.before dropped) ≡ ended_of h
