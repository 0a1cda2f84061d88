-- What both ends can do from phase Capable on, and the sizes of their messages: each law is the contract of a function
-- of this crate. This project's own.
use Rattle.std.specs.Prelude.{◌≡◌, ◌≤◌, ℕ, true, Some}
use Rattle.std.specs.Result.{result_ok}
use Rattle.negotiate.specs.Capabilities.{common_of}
use Rattle.negotiate.specs.declared.shared.Common.{Common}
use Rattle.spdm_grammar.specs.Fields.{FitsCaps}
use Rattle.spdm_grammar.specs.declared.messages.capabilities.Caps.{Caps}
use Rattle.spdm_grammar.specs.declared.names.TheConstants.{MIN_DATA_TRANSFER_SIZE, MAX_MESSAGE_SIZE}
use Rattle.spdm_machine.specs.Terms.{terms_of}
use Rattle.responder_machine.specs.Does.{IsMade}
use Rattle.responder_machine.specs.History.{History, clear_turns, phase_of, negotiation_of}
use Rattle.responder_machine.specs.Refusal.{sizes_are_known}
use Rattle.responder_machine.specs.Session.{session_of, session_terms, is_live}
use Rattle.responder_machine.specs.Setup.{RspSetup, responder_caps}

-- From phase Capable on, what both ends can do is what capabilities that a requester told and the responder's own can
-- do together.
abbrev pub CommonIsNegotiated : Type 0
CommonIsNegotiated = (r : RspSetup) (h : History) → IsMade r h → FitsCaps (responder_caps r) → sizes_are_known (phase_of (clear_turns h)) ≡ true
    → (caps : Caps) × (result_ok (common_of caps (responder_caps r)) ≡ Some (terms_of (negotiation_of (clear_turns h))).common)

-- The sizes of messages to the responder are the configured ones. The requester takes 42 bytes at least, its max size
-- is at least its transfer size, and no message to it passes 4,096 bytes.
pub record HasSizes (r : RspSetup) (common : Common) : Type 0 where
  pub own : common.to_responder ≡ record { transfer = r.transfer; max = r.max }
  pub least : MIN_DATA_TRANSFER_SIZE ≤ common.to_requester.transfer
  pub crossed : common.to_requester.transfer ≤ common.to_requester.max
  pub most : common.to_requester.max ≤ MAX_MESSAGE_SIZE

-- So it is for the connection from phase Capable on, where the responder is set up within its limits.
abbrev pub SizesAreSetUp : Type 0
SizesAreSetUp = (r : RspSetup) (h : History) → IsMade r h → r.transfer ≤ r.max → r.max ≤ MAX_MESSAGE_SIZE → sizes_are_known (phase_of (clear_turns h)) ≡ true
    → HasSizes r (terms_of (negotiation_of (clear_turns h))).common

-- And for each live session.
abbrev pub SessionSizesAreSetUp : Type 0
SessionSizesAreSetUp = (r : RspSetup) (h : History) (id : ℕ) → IsMade r h → r.transfer ≤ r.max → r.max ≤ MAX_MESSAGE_SIZE → is_live (session_of id h) ≡ true
    → HasSizes r (session_terms (session_of id h)).common
