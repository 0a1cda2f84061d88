-- What is kept of every made history while it grows: under which negotiation its sessions are, what both ends can do,
-- and what is outstanding. This project's own.
use Rattle.std.specs.Prelude.{⊤, ◌≡◌, ℕ, true, Option, Some, None}
use Rattle.requester_machine.specs.History.{History, connection_terms, negotiation_of, outstanding, phase_of}
use Rattle.requester_machine.specs.Message.{Sent}
use Rattle.requester_machine.specs.Session.{is_live, session_negotiation, session_of}
use Rattle.requester_machine.specs.Setup.{ReqSetup}
use Rattle.requester_machine.specs.UnderWay.{HasSizes, IsCommon, IsOutstanding, is_capable}
use Rattle.spdm_grammar.specs.declared.told.phase.Phase.TheVariants.{Negotiated}

-- A message that is outstanding is as one is that the history made.
abbrev pub Waits : ReqSetup → History → Option Sent → Type 0
Waits q h None = ⊤
Waits q h (Some sent) = IsOutstanding q h sent.content sent.aim

-- A session that is live is under the negotiation as it stands, and the phase is Negotiated.
abbrev pub LiveAt : History → ℕ → Type 0
LiveAt h id = is_live (session_of id h) ≡ true
    → (session_negotiation (session_of id h) ≡ negotiation_of h) × (phase_of h ≡ Negotiated)

-- All of it.
pub record Holds (q : ReqSetup) (h : History) : Type 0 where
  pub live : (id : ℕ) → LiveAt h id
  pub known : HasSizes q → is_capable (phase_of h) ≡ true → IsCommon q (connection_terms h).common
  pub waits : Waits q h (outstanding h)
