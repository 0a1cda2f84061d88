-- A connection that stands for one history stands for another that is near, once it has the last record of its ended session.
-- This project's own.
use Rattle.std.specs.Prelude.{◌≡◌}
use Rattle.responder_core.specs.Connected as connected
use Rattle.responder_core.specs.LateFetch.{with_ended}
use Rattle.responder_core.specs.declared.connected.Connection.{Connection}
use Rattle.check_late_laws.specs.Late.PassedStands.{AreNear}
use Rattle.responder_machine.specs.History.{History, ended_of, kept_of}
use Rattle.responder_machine.specs.Setup.{RspSetup}

-- The law.
abbrev pub StandsNear : Type 0
StandsNear = (seen : Connection) (r : RspSetup) (h g : History) → AreNear h g → kept_of h ≡ kept_of g → connected.StandsFor seen r h
    → connected.StandsFor (with_ended seen (ended_of g)) r g
