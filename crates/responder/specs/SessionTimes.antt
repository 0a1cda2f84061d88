-- What is told of a session beside its view.
use Rattle.std.specs.Prelude.{◌≡◌, ℕ, List, [], Option, Some, None}
use Rattle.responder_core.specs.Silence.{IsSilenceOf}
use Rattle.responder_core.specs.declared.silence.Silence.{Silence}
use Rattle.responder_machine.specs.Responding.{Connection}
use Rattle.responder_machine.specs.Session.{session_of}
use Rattle.responder_session.specs.Data.{data_of}

-- How long the session of an id of a connection has been silent; where there is no connection, nothing is told.
abbrev pub IsSilenceAt : Option Silence → (id : ℕ) → Option Connection → Type 0
IsSilenceAt silence id None = silence ≡ None
IsSilenceAt silence id (Some c) = IsSilenceOf silence (session_of id c.history)

-- The application data that it took last; none where there is no connection.
abbrev pub data_at : (id : ℕ) → Option Connection → List ℕ
data_at id None = []
data_at id (Some c) = data_of (session_of id c.history)
