-- What a fetch that begins late has to keep of its request. This project's own.
use Rattle.std.specs.Prelude.{◌≡◌, ◌≢◌, ℕ, true}
use Rattle.check_fetched_laws.specs.ClearSessions.{IsLeftBy, IsUnseenRequest}
use Rattle.check_fetched_ends.specs.Held.{IsLedTo}
use Rattle.check_late_laws.specs.Late.Passed.{StandsBack}
use Rattle.check_late_laws.specs.Late.PassedLarge.{IsLedLargely}
use Rattle.check_late_laws.specs.Late.PassedLast.{IsFree}
use Rattle.responder_machine.specs.History.{Entry, History, clear_turns, phase_of}
use Rattle.responder_machine.specs.History.Entry.{Clear}
use Rattle.responder_machine.specs.Refusal.{sizes_are_known}
use Rattle.responder_machine.specs.Setup.{RspSetup}
use Rattle.capture_machine.specs.Rounds.{no_draw}

-- Before this history, under this tag, it may lead to its LargeResponse; its answer was not seen; and it leaves the
-- sessions as they are.
pub record IsLateBefore (r : RspSetup) (h : History) (entry : Entry) : Type 0 where
  pub unseen : IsUnseenRequest entry
  pub left : IsLeftBy entry h h
  pub led : IsLedTo r h entry
  pub sized : sizes_are_known (phase_of (clear_turns h)) ≡ true

abbrev pub LateBefore : Type 0
LateBefore = (r : RspSetup) (h : History) (s : StandsBack h) (tag : ℕ) → IsFree s.turn → tag ≢ s.tag → IsLedLargely r s.before (Clear s.tag s.turn s.draw)
    → IsLateBefore r h (Clear tag s.turn no_draw)
