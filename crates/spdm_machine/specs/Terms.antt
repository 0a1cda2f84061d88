-- What a negotiation settled, read off its messages alone, so that two ends that have the same messages have the same
-- terms. DSP0274, section 10: the messages of the negotiation; what stands where nothing was settled is this project's
-- own.
use Rattle.std.specs.Prelude.{ℕ, List, [], false, Option, Some, None, unwrap_or}
use Rattle.std.specs.Result.{result_ok}
use Rattle.negotiate.specs.Capabilities.{common_of}
use Rattle.negotiate.specs.Choosing.{agreed}
use Rattle.negotiate.specs.declared.shared.Common.{Common}
use Rattle.spdm_basis.specs.Sizes.{hash_size}
use Rattle.spdm_basis.specs.declared.values.aead_alg.AeadAlg.TheVariants.{Aes128Gcm}
use Rattle.spdm_basis.specs.declared.values.hash_alg.HashAlg.TheVariants.{Sha256}
use Rattle.spdm_grammar.specs.Message.{RequestMessage, ResponseMessage, OfferMessage, ReplyMessage}
use Rattle.spdm_grammar.specs.Message.RequestMessage.{GetCapabilities, NegotiateAlgorithms}
use Rattle.spdm_grammar.specs.Message.ResponseMessage.{Capabilities, Algorithms}
use Rattle.spdm_grammar.specs.Requests.{request_in}
use Rattle.spdm_grammar.specs.Responses.{response_in}
use Rattle.spdm_grammar.specs.declared.messages.capabilities.Caps.{Caps}
use Rattle.spdm_grammar.specs.declared.messages.choice.Choice.{Choice}
use Rattle.transcript.specs.Transcripts.{Negotiation}

-- The algorithms that were chosen, and what both ends can do.
pub record Terms : Type 0 where
  pub choice : Choice
  pub common : Common

-- Nothing was said yet.
abbrev pub no_negotiation : Negotiation
no_negotiation = record { get_version = []; version = []; get_capabilities = []; capabilities = []; negotiate_algorithms = []; algorithms = [] }

-- What stands where nothing was settled.
abbrev pub no_common : Common
no_common = record {
  measure = false;
  heartbeat = false;
  key_update = false;
  chunk = false;
  to_requester = record { transfer = 0; max = 0 };
  to_responder = record { transfer = 0; max = 0 };
}

-- The choice that stands where none was settled.
abbrev pub no_choice : Choice
no_choice = record { hash = Sha256; aead = Aes128Gcm; measure = false }

-- The terms that stand where nothing was settled.
abbrev pub no_terms : Terms
no_terms = record { choice = no_choice; common = no_common }

-- The value of a request of the negotiation, of whose fields none depends on the hash.
abbrev pub request_value : List ℕ → Option RequestMessage
request_value bytes = request_in 32 bytes

-- The value of a response that depends on no hash and has no measurement summary.
abbrev pub response_value : List ℕ → Option ResponseMessage
response_value bytes = response_in 32 false bytes

-- The capabilities that GET_CAPABILITIES tells; any other message tells none.
abbrev pub asked_caps : Option RequestMessage → Option Caps
asked_caps (Some (GetCapabilities caps)) = Some caps
asked_caps _ = None

-- The capabilities that CAPABILITIES tells; any other message tells none.
abbrev pub told_caps : Option ResponseMessage → Option Caps
told_caps (Some (Capabilities caps)) = Some caps
told_caps _ = None

-- The offer that NEGOTIATE_ALGORITHMS carries; any other message carries none.
abbrev pub offer_in : Option RequestMessage → Option OfferMessage
offer_in (Some (NegotiateAlgorithms offer)) = Some offer
offer_in _ = None

-- The reply that ALGORITHMS carries; any other message carries none.
abbrev pub reply_in : Option ResponseMessage → Option ReplyMessage
reply_in (Some (Algorithms reply)) = Some reply
reply_in _ = None

-- What two ends with these capabilities can do together.
abbrev pub common_from : Option Caps → Option Caps → Common
common_from (Some requester) (Some responder) = unwrap_or (result_ok (common_of requester responder)) no_common
common_from _ _ = no_common

-- What a reply to an offer chooses.
abbrev pub choice_from : Option OfferMessage → Option ReplyMessage → Choice
choice_from (Some offer) (Some reply) = unwrap_or (agreed offer reply) no_choice
choice_from _ _ = no_choice

-- The common capabilities, read off GET_CAPABILITIES and CAPABILITIES, and the choice, read off NEGOTIATE_ALGORITHMS
-- and ALGORITHMS.
unfoldable pub terms_of : Negotiation → Terms
terms_of n = record {
  common = common_from (asked_caps (request_value n.get_capabilities)) (told_caps (response_value n.capabilities));
  choice = choice_from (offer_in (request_value n.negotiate_algorithms)) (reply_in (response_value n.algorithms));
}

-- The length of the chosen hash.
abbrev pub hash_len : Terms → ℕ
hash_len terms = hash_size terms.choice.hash
