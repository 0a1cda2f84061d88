-- What would come of a clear message; used only by the checker. This project's own.
use Rattle.std.specs.Prelude.{◌≡◌, ◌≢◌, ℕ, List, Option, None}
use Rattle.responder_core.specs.Sessions.{slot_of}
use Rattle.responder_core.specs.declared.connected.Connection.{Connection}
use Rattle.responder_core.specs.declared.in_sessions.live_session.LiveSession.{LiveSession}
use Rattle.responder_core.specs.declared.judging.dry_run.DryRun.{DryRun}
use Rattle.responder_machine.specs.Heard.{heard_of}
use Rattle.responder_machine.specs.History.{History}
use Rattle.responder_machine.specs.Place.{clear_place}
use Rattle.responder_machine.specs.Refusal.{has_pending}
use Rattle.responder_machine.specs.Responder.{Outcome, after, body_of}

-- It would lead to this outcome: it is told, its body would be sent, and a large response would be pending in the clear
-- after it, or none.
pub record IsTried (h : History) (o : Outcome) (tried : DryRun) (sent : List ℕ) : Type 0 where
  pub told : tried.heard ≡ heard_of o
  pub body : sent ≡ body_of o
  pub pending : tried.pending ≡ has_pending (clear_place (after h o))

-- The session of an id was set aside, and all else stands as before.
pub record IsAside (id : ℕ) (before : Connection) (session : Option LiveSession) (seen : Connection) : Type 0 where
  pub taken : session ≡ slot_of before.sessions id
  pub gone : slot_of seen.sessions id ≡ None
  pub others : (i : ℕ) → i ≢ id → slot_of seen.sessions i ≡ slot_of before.sessions i
  pub ended : seen.sessions.ended ≡ before.sessions.ended
  pub clear : seen.clear ≡ before.clear
  pub queue : seen.queue ≡ before.queue
