-- What bounds the counts of a history: its length, which an end limits. This project's own.
use Rattle.std.specs.Prelude.{◌≤◌, ◌*◌, ℕ, length}
use Rattle.requester_machine.specs.Setup.{ReqSetup}
use Rattle.requester_machine.specs.History.{History, sent_count, larges_of, draws_of}
use Rattle.requester_machine.specs.Session.{session_of, taken_of, request_epoch, response_epoch}

-- Each entry takes at most one draw, sends at most one message and begins at most one large request.
abbrev pub CountsAreBounded : Type 0
CountsAreBounded = (q : ReqSetup) (h : History) → (draws_of q h ≤ length h) × (sent_count h ≤ length h) × (larges_of h ≤ length h)

-- Each entry takes at most one record of a session. So at most one more update of each key, and one more application
-- message, comes with it; and at most two more steps, a message taken and the record that it calls for.
abbrev pub SessionsAreBounded : Type 0
SessionsAreBounded = (h : History) (id : ℕ)
    → (request_epoch (session_of id h) ≤ length h) × (response_epoch (session_of id h) ≤ length h)
    × (taken_of (session_of id h) ≤ length h) × (length (session_of id h) ≤ 2 * length h)
