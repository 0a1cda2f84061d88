-- How far a negotiation has come, as a requester keeps it.
use Rattle.std.specs.Prelude.{⊤, ◌≡◌, ◌≤◌, ℕ, List, [], length, Option, Some, None}
use Rattle.negotiate.specs.declared.shared.Common.{Common}
use Rattle.requester_machine.specs.Message.{Sent, asked_in}
use Rattle.spdm_grammar.specs.Message.{RequestMessage}
use Rattle.spdm_grammar.specs.Message.RequestMessage.{GetCapabilities, GetVersion, NegotiateAlgorithms}
use Rattle.spdm_grammar.specs.declared.messages.choice.Choice.{Choice}
use Rattle.spdm_grammar.specs.declared.names.TheConstants.{MAX_MESSAGE_SIZE}
use Rattle.spdm_grammar.specs.declared.told.phase.Phase.{Phase}
use Rattle.spdm_machine.specs.Terms.{no_negotiation, terms_of}
use Rattle.transcript.specs.Transcripts.{Negotiation, vca_of}

-- The state in contracts: the phase, the bytes of the messages that were said, what both ends can do, and the
-- algorithms that were chosen.
pub record Seen : Type 0 where
  pub phase : Phase
  pub messages : List ℕ
  pub common : Common
  pub choice : Choice

-- How many bytes the messages have at most. The offer is the own one, of 48.
pub record IsShort (n : Negotiation) : Type 0 where
  pub get_version : length n.get_version ≤ 4
  pub version : length n.version ≤ MAX_MESSAGE_SIZE
  pub get_capabilities : length n.get_capabilities ≤ 20
  pub capabilities : length n.capabilities ≤ 20
  pub negotiate_algorithms : length n.negotiate_algorithms ≤ 48
  pub algorithms : length n.algorithms ≤ MAX_MESSAGE_SIZE

-- It is kept of a negotiation in this phase, with these messages.
pub record StandsFor (seen : Seen) (p : Phase) (n : Negotiation) : Type 0 where
  pub phase : p ≡ seen.phase
  pub messages : seen.messages ≡ vca_of n
  pub common : (terms_of n).common ≡ seen.common
  pub choice : (terms_of n).choice ≡ seen.choice
  pub short : IsShort n

-- While the answer to a request of the negotiation is awaited, only the messages before it were said.
abbrev pub IsUpTo : RequestMessage → Negotiation → Type 0
IsUpTo GetVersion n = n ≡ no_negotiation
IsUpTo (GetCapabilities caps) n = n
    ≡ record no_negotiation { get_version = n.get_version; version = n.version }
IsUpTo (NegotiateAlgorithms offer) n = n ≡ record n { negotiate_algorithms = []; algorithms = [] }
IsUpTo _ n = ⊤

abbrev pub IsUpToAsked : Option RequestMessage → Negotiation → Type 0
IsUpToAsked None n = ⊤
IsUpToAsked (Some asked) n = IsUpTo asked n

-- By the outstanding message, if there is one.
abbrev pub IsUpToSent : Option Sent → Negotiation → Type 0
IsUpToSent None n = ⊤
IsUpToSent (Some sent) n = IsUpToAsked (asked_in sent.aim) n
