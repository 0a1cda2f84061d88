-- A whole answer by what it reads as.
use Rattle.std.proofs.Common.{refl, ◌≡◌, ◌∙◌, ap, sym, subst, ℕ, List, []}
use Rattle.std.specs.Prelude.{Result, Ok}
use Rattle.requester_core.specs.ReplyOutcome.{IsAnswered, IsLed}
use Rattle.requester_core.specs.ClearState.{Seen}
use Rattle.requester_core.specs.Outstanding.{IsClearRequest, kind_of}
use Rattle.requester_core.specs.declared.clear.reply_outcome.ReplyOutcome as seen_led
use Rattle.requester_core.specs.declared.clear.reply_outcome.ReplyOutcome.TheVariants as seen
use Rattle.requester_core.specs.declared.clear.outstanding.PendingRequest.TheVariants as asks
use Rattle.requester_machine.specs.Answers.{answer_led}
use Rattle.requester_machine.specs.ClearAnswers.{read_led, reading_of}
use Rattle.requester_machine.specs.Commands.{Free}
use Rattle.requester_machine.specs.History.{History, Led}
use Rattle.requester_machine.specs.Setup.{ReqSetup}
use Rattle.requester_machine.specs.UnderWay.{IsAwaited}
use Rattle.spdm_grammar.specs.Message.{OfferMessage, RequestMessage, ResponseMessage}
use Rattle.spdm_grammar.specs.Message.RequestMessage.{GetCapabilities, GetMeasurements, GetVersion, NegotiateAlgorithms, PskExchange}
use Rattle.spdm_grammar.specs.declared.messages.capabilities.Caps.{Caps}
use Rattle.spdm_grammar.specs.declared.told.event.ReqIgnored.{ReqIgnored}

-- ---- The request, by what is kept of it.

pub version_asked : (q : ReqSetup) (h : History) (request : RequestMessage) → IsAwaited q h request → kind_of request ≡ asks.Version → request ≡ GetVersion
version_asked q h GetVersion a k = refl
version_asked q h (GetCapabilities caps) a k = absurd (cc k)
version_asked q h (NegotiateAlgorithms offer) a k = absurd (cc k)
version_asked q h (GetMeasurements op) a k = absurd (cc k)
version_asked q h (PskExchange exchange) a k = absurd (cc k)
version_asked q h _ a k = absurd a

pub capabilities_asked : (q : ReqSetup) (h : History) (request : RequestMessage) → IsAwaited q h request → kind_of request ≡ asks.Capabilities → (caps : Caps) × (request ≡ GetCapabilities caps)
capabilities_asked q h GetVersion a k = absurd (cc k)
capabilities_asked q h (GetCapabilities caps) a k = (caps, refl)
capabilities_asked q h (NegotiateAlgorithms offer) a k = absurd (cc k)
capabilities_asked q h (GetMeasurements op) a k = absurd (cc k)
capabilities_asked q h (PskExchange exchange) a k = absurd (cc k)
capabilities_asked q h _ a k = absurd a

pub algorithms_asked : (q : ReqSetup) (h : History) (request : RequestMessage) → IsAwaited q h request → kind_of request ≡ asks.Algorithms → (offer : OfferMessage) × (request ≡ NegotiateAlgorithms offer)
algorithms_asked q h GetVersion a k = absurd (cc k)
algorithms_asked q h (GetCapabilities caps) a k = absurd (cc k)
algorithms_asked q h (NegotiateAlgorithms offer) a k = (offer, refl)
algorithms_asked q h (GetMeasurements op) a k = absurd (cc k)
algorithms_asked q h (PskExchange exchange) a k = absurd (cc k)
algorithms_asked q h _ a k = absurd a

pub measurements_asked : (q : ReqSetup) (h : History) (request : RequestMessage) (op : ℕ) → IsAwaited q h request → kind_of request ≡ asks.Measurements op → request ≡ GetMeasurements op
measurements_asked q h GetVersion op a k = absurd (cc k)
measurements_asked q h (GetCapabilities caps) op a k = absurd (cc k)
measurements_asked q h (NegotiateAlgorithms offer) op a k = absurd (cc k)
measurements_asked q h (GetMeasurements other) op a k = (let same : other ≡ op = cc k in ap (λ (n : ℕ). GetMeasurements n) same)
measurements_asked q h (PskExchange exchange) op a k = absurd (cc k)
measurements_asked q h _ op a k = absurd a

-- ---- What it leads to.

pub any_free : Free
any_free = record { id = 0; context = []; opaque = []; pad = [] }

pub answered_by : (q : ReqSetup) (h : History) (place : ℕ) (request : RequestMessage) (answer : List ℕ) (led : seen_led.ReplyOutcome) (old new : Seen) (out : List ℕ)
    → ((f : Free) → IsLed h (read_led q h f place request answer (reading_of h request answer)) led old new out) → IsAnswered q h place request answer led old new out
answered_by q h place request answer (seen.Ignored cause) old new out is = is
answered_by q h place request answer (seen.Rests told) old new out is = is
answered_by q h place request answer (seen.Sends tag) old new out is = is
answered_by q h place request answer (seen.Large tag) old new out is = is
answered_by q h place request answer (seen.More tag) old new out is = is
answered_by q h place request answer seen.Exchange old new out is = absurd (is any_free)

-- By the response that it reads as.
pub answered_as : (q : ReqSetup) (h : History) (place : ℕ) (request : RequestMessage) (answer : List ℕ) (value : ResponseMessage) (leads : Result Led ReqIgnored) (led : seen_led.ReplyOutcome) (old new : Seen) (out : List ℕ)
    → reading_of h request answer ≡ Ok value → ((f : Free) → answer_led q h f place request answer value ≡ leads) → IsLed h leads led old new out → IsAnswered q h place request answer led old new out
answered_as q h place request answer value leads led old new out reads is leads_to =
    answered_by q h place request answer led old new out (λ f. subst (λ (r : Result Led ReqIgnored). IsLed h r led old new out) (sym (ap (read_led q h f place request answer) reads ∙ is f)) leads_to)

pub clear_request : (q : ReqSetup) (h : History) (request : RequestMessage) → IsAwaited q h request → IsClearRequest request
clear_request q h GetVersion a = tt
clear_request q h (GetCapabilities caps) a = tt
clear_request q h (NegotiateAlgorithms offer) a = tt
clear_request q h (GetMeasurements op) a = tt
clear_request q h (PskExchange exchange) a = tt
clear_request q h _ a = absurd a
