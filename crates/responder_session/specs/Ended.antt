-- A session at the responder that END_SESSION ended, as a typed state. `spdm` does not keep this state: what it keeps
-- of an ended session is `ended_of` in `responder_machine/specs/History.antt`, and `on_record` in its `Responder.antt`
-- gives the same answer again.
use Rattle.std.specs.Prelude.{ℕ, List}
use Rattle.responder_session.specs.Session as sessions
use Rattle.responder_session.specs.declared.ended.RspEnded.{RspEnded}

-- The state stands for the ended session of this id, whose last record and reply these were.
pub record StandsFor (seen : RspEnded) (id_bytes old answer : List ℕ) : Type 0 where
  pub session : sessions.IsEnded seen.session id_bytes old answer
