-- Both ends know the same of what they can do together, so of chunks and of sizes. This project's own.
use Rattle.std.specs.Prelude.{◌≡◌, ℕ, List, true}
use Rattle.check_laws.specs.Walks.{Walks}
use Rattle.requester_machine.specs.History as requester_history
use Rattle.requester_machine.specs.History.{connection_terms}
use Rattle.requester_machine.specs.Setup.{ReqSetup}
use Rattle.requester_machine.specs.UnderWay.{is_capable}
use Rattle.responder_machine.specs.History.{History, clear_turns, negotiation_of, phase_of}
use Rattle.responder_machine.specs.Refusal.{sizes_are_known}
use Rattle.spdm_machine.specs.Terms.{terms_of}
use Rattle.capture_machine.specs.Rounds.{Dialogue}
use Rattle.world_machine.specs.Setup.{Configuration}

-- A responder told these capabilities last, in response to this request, and its negotiation still counts.
pub record IsTold (h : History) (request answer : List ℕ) : Type 0 where
  pub known : sizes_are_known (phase_of (clear_turns h)) ≡ true
  pub asked : (negotiation_of (clear_turns h)).get_capabilities ≡ request
  pub told : (negotiation_of (clear_turns h)).capabilities ≡ answer

-- In each walk what the requester took as CAPABILITIES is what the responder told it last, as long as the requester's
-- negotiation counts: from CAPABILITIES on, until it starts over.
abbrev pub SameCapabilities : Type 0
SameCapabilities = (w : Configuration) (q : ReqSetup) (older : List (List ℕ)) (d : Dialogue) → Walks w q older d → is_capable (requester_history.phase_of d.requester) ≡ true
    → IsTold d.responder (requester_history.negotiation_of d.requester).get_capabilities (requester_history.negotiation_of d.requester).capabilities

-- So what both ends can do is the same at both of them.
abbrev pub SameCommon : Type 0
SameCommon = (w : Configuration) (q : ReqSetup) (older : List (List ℕ)) (d : Dialogue) → Walks w q older d → is_capable (requester_history.phase_of d.requester) ≡ true
    → (connection_terms d.requester).common ≡ (terms_of (negotiation_of (clear_turns d.responder))).common
