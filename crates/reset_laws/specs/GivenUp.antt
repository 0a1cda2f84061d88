-- What is left of a connection that was reset. This project's own.
use Rattle.std.specs.Prelude.{◌≡◌, ℕ, [], Option, Some, None}
use Rattle.responder.specs.Resetting.{after_reset, reset_fault}
use Rattle.responder.specs.Standing.{StandsFor}
use Rattle.responder.specs.declared.serving.Responder.{Responder}
use Rattle.responder_machine.specs.History.{History, clear_turns, phase_of}
use Rattle.responder_machine.specs.Responding.{Connection, Responding, connection_of}
use Rattle.responder_machine.specs.Session.{session_of}
use Rattle.spdm_agreement.specs.Configured.{IsResponder}
use Rattle.spdm_grammar.specs.declared.told.phase.Phase.TheVariants.{Versioned}

-- The version alone is negotiated, and no id has a session.
pub record IsGivenUp (h : History) : Type 0 where
  pub phase : phase_of (clear_turns h) ≡ Versioned
  pub sessions : (id : ℕ) → session_of id h ≡ []

-- There is a connection, and this holds of it.
abbrev pub IsGivenUpAt : Option Connection → Type 0
IsGivenUpAt None = ⊥
IsGivenUpAt (Some c) = IsGivenUp c.history

-- The connection with the endpoint, if there is one, is set up within the limits of a configuration.
abbrev pub IsSetUpAt : Option Connection → Type 0
IsSetUpAt None = Unit {0}
IsSetUpAt (Some c) = IsResponder c.setup

-- So it is behind a reset without a fault of each responder of the program.
abbrev pub ResetGivesUp : Type 0
ResetGivesUp = (seen : Responder) (r : Responding) (eid : ℕ) → StandsFor seen r → IsSetUpAt (connection_of eid r.connections)
    → reset_fault eid r ≡ None → IsGivenUpAt (connection_of eid (after_reset eid r).connections)
