-- What the messages of a negotiation settle: the laws of terms, each the contract of a function of this crate. This
-- project's own.
use Rattle.std.specs.Prelude.{◌≡◌, ◌≤◌, ℕ, List, true, Some}
use Rattle.std.specs.Result.{result_ok}
use Rattle.negotiate.specs.Capabilities.{common_of}
use Rattle.negotiate.specs.Choosing.{selected}
use Rattle.negotiate.specs.declared.shared.Common.{Common}
use Rattle.spdm_grammar.specs.Fields.{FitsCaps}
use Rattle.spdm_grammar.specs.Message.{OfferMessage}
use Rattle.spdm_grammar.specs.Message.RequestMessage.{GetCapabilities, NegotiateAlgorithms}
use Rattle.spdm_grammar.specs.declared.messages.capabilities.Caps.{Caps}
use Rattle.spdm_grammar.specs.declared.messages.choice.Choice.{Choice}
use Rattle.spdm_grammar.specs.declared.names.TheConstants.{MIN_DATA_TRANSFER_SIZE}
use Rattle.responder_machine.specs.Answer.{Free, answer_bytes, request_at}
use Rattle.responder_machine.specs.Does.{IsMade}
use Rattle.responder_machine.specs.History.{History, clear_turns, phase_of, negotiation_of}
use Rattle.responder_machine.specs.Place.{Place}
use Rattle.responder_machine.specs.Refusal.{sizes_are_known}
use Rattle.responder_machine.specs.Setup.{RspSetup, responder_caps, policy_of}
use Rattle.spdm_machine.specs.Terms.{terms_of}
use Rattle.transcript.specs.Transcripts.{Negotiation}

-- GET_CAPABILITIES and its answer settle what both ends can do, whatever else was said.
abbrev pub CapabilitiesSettleCommon : Type 0
CapabilitiesSettleCommon = (r : RspSetup) (p : Place) (m : List ℕ) (f : Free) (caps : Caps) (common : Common) (n : Negotiation)
    → FitsCaps (responder_caps r) → request_at p m ≡ Some (GetCapabilities caps) → result_ok (common_of caps (responder_caps r)) ≡ Some common
    → (terms_of (record n { get_capabilities = m; capabilities = answer_bytes r p m f })).common ≡ common

-- NEGOTIATE_ALGORITHMS and its answer settle the choice: the one that the responder made.
abbrev pub AlgorithmsSettleChoice : Type 0
AlgorithmsSettleChoice = (r : RspSetup) (p : Place) (m : List ℕ) (f : Free) (offer : OfferMessage) (choice : Choice) (n : Negotiation)
    → request_at p m ≡ Some (NegotiateAlgorithms offer) → selected offer (policy_of r) ≡ Some choice
    → (terms_of (record n { negotiate_algorithms = m; algorithms = answer_bytes r p m f })).choice ≡ choice

-- From phase Capable on the requester takes messages of 42 bytes at least, and its max size is at least its transfer
-- size.
abbrev pub SizesAreKnown : Type 0
SizesAreKnown = (r : RspSetup) (h : History) → IsMade r h → FitsCaps (responder_caps r) → sizes_are_known (phase_of (clear_turns h)) ≡ true
    → (MIN_DATA_TRANSFER_SIZE ≤ (terms_of (negotiation_of (clear_turns h))).common.to_requester.transfer)
    × ((terms_of (negotiation_of (clear_turns h))).common.to_requester.transfer ≤ (terms_of (negotiation_of (clear_turns h))).common.to_requester.max)
