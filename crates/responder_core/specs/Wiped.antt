-- Slots without a session are overwritten.
use Rattle.std.specs.Prelude.{◌≡◌}
use Rattle.responder_core.specs.declared.in_sessions.live_session.LiveSession.{LiveSession}
use Rattle.responder_session.specs.Wiped as sessions

-- The session is overwritten, with its clock.
pub record IsWipedLive (live : LiveSession) : Type 0 where
  pub session : sessions.IsWiped live.session
  pub idle : live.idle ≡ 0
  pub period : live.period ≡ 0
