use Rattle.std.proofs.Common.{◌≡◌, ◌<◌, ℕ, List}
use Rattle.responder_core.specs.Setup.{IsSetUp}
use Rattle.check_fetched_ends.specs.LastHeld.{AreAsked, CanBeGiven, count_at}
use Rattle.responder_machine.specs.History.{History}
use Rattle.responder_machine.specs.Setup.{RspSetup}
use Rattle.check_fetched_ends.proofs.clear_fetch.held_given.give_all.Given as goal

abbrev pub invariant-loop-number : goal.invariant-loop-number
invariant-loop-number l = (r : RspSetup) (h : History) (whole : List ℕ) → IsSetUp l.setup r → CanBeGiven r h whole l.tag l.handle
    → AreAsked l.fn.connection l.fn.bytes r h whole l.tag l.handle 0
    → AreAsked l.connection l.bytes r h whole l.tag l.handle l.number × (l.number < count_at h whole)
