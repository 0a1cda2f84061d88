-- A session at the responder whose keys were updated, and that awaits VerifyNewKey.
use Rattle.std.specs.Prelude.{◌≡◌}
use Rattle.responder_machine.specs.Session.{Events, session_terms, stage_of}
use Rattle.responder_machine.specs.Setup.{RspSetup}
use Rattle.responder_machine.specs.SizeLaws.{HasSizes}
use Rattle.spdm_grammar.specs.declared.told.phase.Stage.TheVariants as stage
use Rattle.responder_session.specs.Session as sessions
use Rattle.responder_session.specs.declared.verifying.RspVerifying.{RspVerifying}

-- The state stands for a session of these events at a responder with this set-up. Its sizes are those of the set-up.
pub record StandsFor (seen : RspVerifying) (r : RspSetup) (s : Events) : Type 0 where
  pub session : sessions.StandsFor seen.session r.psk s
  pub sizes : HasSizes r (session_terms s).common
  pub stage : stage_of s ≡ stage.Verifying
