-- A connection without sessions.
use Rattle.std.specs.Prelude.{◌≡◌, None}
use Rattle.responder_core.specs.Sessions.{slot_of}
use Rattle.responder_core.specs.declared.in_sessions.sessions.Sessions.{Sessions}

-- No slot has a session: by the invariant of a slot, each is overwritten.
pub record HasNoSessions (seen : Sessions) : Type 0 where
  pub first : slot_of seen 1 ≡ None
  pub second : slot_of seen 2 ≡ None
  pub third : slot_of seen 3 ≡ None
  pub fourth : slot_of seen 4 ≡ None
