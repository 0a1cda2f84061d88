-- How far a negotiation has come, as the program represents it.
use Rattle.std.specs.Prelude.{◌≡◌, ◌≤◌, ℕ, List, [], length}
use Rattle.negotiate.specs.declared.shared.Common.{Common}
use Rattle.responder_machine.specs.History.{negotiation_of, phase_of}
use Rattle.responder_machine.specs.Turn.{Turn}
use Rattle.spdm_grammar.specs.declared.messages.choice.Choice.{Choice}
use Rattle.spdm_grammar.specs.declared.names.TheConstants.{MAX_MESSAGE_SIZE, MIN_DATA_TRANSFER_SIZE}
use Rattle.spdm_grammar.specs.declared.told.phase.Phase.{Phase}
use Rattle.spdm_grammar.specs.declared.told.phase.Phase.TheVariants.{Fresh, Versioned, Capable, Negotiated}
use Rattle.spdm_machine.specs.Terms.{no_common, no_negotiation, terms_of}
use Rattle.transcript.specs.Transcripts.{Negotiation, vca_of}

-- The state in contracts: the phase, the bytes of the messages that were said, what both ends can do, and the
-- algorithms that were chosen.
pub record Seen : Type 0 where
  pub phase : Phase
  pub messages : List ℕ
  pub common : Common
  pub choice : Choice

-- Of the six messages only those up to the phase were said.
abbrev pub IsUpTo : Phase → Negotiation → Type 0
IsUpTo Fresh n = n ≡ no_negotiation
IsUpTo Versioned n = n ≡ record no_negotiation { get_version = n.get_version; version = n.version }
IsUpTo Capable n = n ≡ record n { negotiate_algorithms = []; algorithms = [] }
IsUpTo Negotiated n = Unit {0}

-- How many bytes they have at most: GET_VERSION 4 and VERSION 8, GET_CAPABILITIES and CAPABILITIES 20 each,
-- NEGOTIATE_ALGORITHMS up to 4,096, and ALGORITHMS up to 52.
abbrev pub most_in : Phase → ℕ
most_in Fresh = 0
most_in Versioned = 12
most_in Capable = 52
most_in Negotiated = 4200

-- From phase Capable on the requester takes 42 bytes at least, its max size is at least its transfer size, and no
-- message to it passes 4,096 bytes.
pub record IsSized (common : Common) : Type 0 where
  pub least : MIN_DATA_TRANSFER_SIZE ≤ common.to_requester.transfer
  pub crossed : common.to_requester.transfer ≤ common.to_requester.max
  pub most : common.to_requester.max ≤ MAX_MESSAGE_SIZE

-- Before it nothing is in common.
abbrev pub IsSettled : Phase → Common → Type 0
IsSettled Fresh common = common ≡ no_common
IsSettled Versioned common = common ≡ no_common
IsSettled Capable common = IsSized common
IsSettled Negotiated common = IsSized common

-- It is kept of a clear part of these turns, the newest first: it stands in their phase, has the messages of their
-- negotiation, and what these settled.
pub record StandsFor (seen : Seen) (turns : List Turn) : Type 0 where
  pub phase : phase_of turns ≡ seen.phase
  pub messages : seen.messages ≡ vca_of (negotiation_of turns)
  pub up_to : IsUpTo seen.phase (negotiation_of turns)
  pub few : length seen.messages ≤ most_in seen.phase
  pub common : (terms_of (negotiation_of turns)).common ≡ seen.common
  pub choice : (terms_of (negotiation_of turns)).choice ≡ seen.choice
  pub settled : IsSettled seen.phase seen.common
