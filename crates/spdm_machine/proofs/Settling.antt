-- What one more exchange of a negotiation adds to what is kept of it.
use Rattle.std.proofs.Common.{refl, ◌≡◌, ◌∙◌, ℕ, List, [], ◌++◌, Option, Some, ap, append-nil}
use Rattle.std.specs.Prelude.{unwrap_or}
use Rattle.negotiate.specs.Choosing.{agreed}
use Rattle.spdm_grammar.specs.Message.{OfferMessage, ReplyMessage, RequestMessage, ResponseMessage}
use Rattle.spdm_grammar.specs.Message.RequestMessage.{NegotiateAlgorithms}
use Rattle.spdm_grammar.specs.Message.ResponseMessage.{Algorithms}
use Rattle.spdm_grammar.specs.declared.messages.choice.Choice.{Choice}
use Rattle.spdm_machine.specs.Terms.{terms_of, request_value, response_value, choice_from, offer_in, reply_in, no_choice, no_negotiation}
use Rattle.transcript.specs.Transcripts.{Negotiation, vca_of}

-- ---- The messages, one behind the other.

pub with_capabilities : (n : Negotiation) (messages request answer : List ℕ) → n ≡ record no_negotiation { get_version = n.get_version; version = n.version } → messages ≡ vca_of n
    → messages ++ request ++ answer ≡ vca_of (record n { get_capabilities = request; capabilities = answer })
with_capabilities n messages request answer is said =
    let first : messages ≡ n.get_version ++ n.version = said ∙ ap vca_of is ∙ simp append-nil in
    let asked : n.negotiate_algorithms ≡ [] = ap (λ (x : Negotiation). x.negotiate_algorithms) is in
    let answered : n.algorithms ≡ [] = ap (λ (x : Negotiation). x.algorithms) is in
    rw (first, asked, answered) (simp append-nil)

pub with_algorithms : (n : Negotiation) (messages request answer : List ℕ) → n ≡ record n { negotiate_algorithms = []; algorithms = [] } → messages ≡ vca_of n
    → messages ++ request ++ answer ≡ vca_of (record n { negotiate_algorithms = request; algorithms = answer })
with_algorithms n messages request answer is said =
    let first : messages ≡ n.get_version ++ n.version ++ n.get_capabilities ++ n.capabilities = said ∙ ap vca_of is ∙ simp append-nil in
    rw first refl

-- CAPABILITIES come before any message of the algorithms.
pub capabilities_up : (n : Negotiation) (request answer : List ℕ) → n ≡ record no_negotiation { get_version = n.get_version; version = n.version }
    → record n { get_capabilities = request; capabilities = answer } ≡ record n { get_capabilities = request; capabilities = answer; negotiate_algorithms = []; algorithms = [] }
capabilities_up n request answer is = ap (λ (x : Negotiation). record n { get_capabilities = request; capabilities = answer; negotiate_algorithms = x.negotiate_algorithms; algorithms = x.algorithms }) is

-- ---- What they settle.

-- CAPABILITIES settle no choice.
pub capabilities_keep : (n : Negotiation) (request answer : List ℕ) → (terms_of (record n { get_capabilities = request; capabilities = answer })).choice ≡ (terms_of n).choice
unfolding terms_of
capabilities_keep n request answer = refl

-- ALGORITHMS settle nothing of what both ends can do.
pub algorithms_keep : (n : Negotiation) (request answer : List ℕ) → (terms_of (record n { negotiate_algorithms = request; algorithms = answer })).common ≡ (terms_of n).common
unfolding terms_of
algorithms_keep n request answer = refl

-- ALGORITHMS settle the choice that offer and reply agree on.
pub choice_by : (n : Negotiation) (m answer : List ℕ) (offer : OfferMessage) (reply : ReplyMessage) (choice : Choice) → request_value m ≡ Some (NegotiateAlgorithms offer) → response_value answer ≡ Some (Algorithms reply) → agreed offer reply ≡ Some choice
    → (terms_of (record n { negotiate_algorithms = m; algorithms = answer })).choice ≡ choice
unfolding terms_of
choice_by n m answer offer reply choice asked answered is =
    ap (λ (q : Option RequestMessage). choice_from (offer_in q) (reply_in (response_value answer))) asked
    ∙ ap (λ (q : Option ResponseMessage). choice_from (Some offer) (reply_in q)) answered
    ∙ ap (λ (q : Option Choice). unwrap_or q no_choice) is
