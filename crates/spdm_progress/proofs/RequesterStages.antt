-- A requester as a connect goes on: each of the three answers leads to the next request, and the last one to the end.
use Rattle.std.proofs.Common.{◌≡◌, ◌∙◌, ℕ, ◌<◌, ◌≤◌, List, ◌∷◌, length, Bool, false, nat_lt, Option, Some, None, Result, Ok, refl, sym, ap, subst, arith}
use Rattle.std.specs.Prelude.{if◌then◌else◌, unwrap_or}
use Rattle.negotiate.specs.Capabilities.{common_of}
use Rattle.negotiate.specs.Choosing.{agreed, selected}
use Rattle.negotiate.specs.Offer.{offer_of}
use Rattle.negotiate.specs.Reply.{reply_of}
use Rattle.negotiate.specs.declared.shared.Common.{Common}
use Rattle.spdm_grammar.specs.declared.names.TheConstants.{MIN_DATA_TRANSFER_SIZE}
use Rattle.spdm_grammar.proofs.CanonicalResponses.{response_spelled}
use Rattle.spdm_grammar.proofs.Spellings.{spelling_read}
use Rattle.spdm_grammar.specs.Message.{RequestMessage, ResponseMessage, OfferMessage}
use Rattle.spdm_grammar.specs.Message.RequestMessage.{GetVersion, GetCapabilities, NegotiateAlgorithms}
use Rattle.spdm_grammar.specs.Message.ResponseMessage.{Capabilities, Algorithms}
use Rattle.spdm_grammar.specs.Responses.{response_layout, response_reading, canonical_response, FitsResponse, IsSoundResponse}
use Rattle.spdm_grammar.specs.declared.messages.choice.Choice.{Choice}
use Rattle.spdm_grammar.specs.declared.told.event.Event.{Event}
use Rattle.spdm_grammar.specs.declared.told.event.Event.TheVariants as event
use Rattle.spdm_grammar.specs.declared.told.event.Finished.TheVariants as finished
use Rattle.spdm_grammar.specs.declared.messages.malformed.Malformed.{Malformed}
use Rattle.spdm_grammar.specs.declared.told.phase.Phase.TheVariants.{Negotiated}
use Rattle.spdm_machine.specs.Bodies.{clear_body}
use Rattle.spdm_machine.specs.Keys.{Draw}
use Rattle.spdm_machine.specs.Terms.{no_negotiation}
use Rattle.requester_machine.specs.Answers.{goes_on, is_done, stopped, caps_led, offer_led, algorithms_led}
use Rattle.requester_machine.specs.Asking.{Outcome}
use Rattle.requester_machine.specs.Asking.Outcome.{Adds}
use Rattle.requester_machine.specs.ClearAnswers.{clear_led, read_led, reading_of}
use Rattle.requester_machine.specs.Commands.{Free}
use Rattle.requester_machine.specs.Does.{requester_hears, body_chosen}
use Rattle.requester_machine.specs.Hearing.{clear_outcome}
use Rattle.requester_machine.specs.History.{History, Led, outstanding, negotiation_of, next_handle, phase_of, next_tag}
use Rattle.requester_machine.specs.History.Effect.{Answers}
use Rattle.requester_machine.specs.History.Entry.{TookClear}
use Rattle.requester_machine.specs.Message.{Sent}
use Rattle.requester_machine.specs.Message.Aim.{Plain}
use Rattle.requester_machine.specs.Message.Content.{Clear}
use Rattle.requester_machine.specs.Sending.{plain_sent, request_sent, is_too_long}
use Rattle.requester_machine.specs.Setup.{ReqSetup, requester_caps}
use Rattle.requester_machine.specs.Shown.{after, sent_by, event_of}
use Rattle.responder_machine.specs.Answer.{version_answer}
use Rattle.responder_machine.specs.Setup.{RspSetup, responder_caps, policy_of}
use Rattle.spdm_grammar.specs.declared.told.event.ReqIgnored.{ReqIgnored}
use Rattle.spdm_grammar.specs.declared.told.event.Stop.TheVariants as stop
use Rattle.requester_machine.specs.Asking.{asks}
use Rattle.requester_machine.specs.Commands.{command_fault}
use Rattle.requester_machine.specs.History.Entry.{Told}
use Rattle.requester_machine.specs.Message.Command.{Connect}
use Rattle.requester_machine.specs.Requesting.{Requesting, requester_told, commanded_by, is_worn, next_draw}
use Rattle.spdm_machine.specs.Terms.{no_choice}
use Rattle.negotiate.proofs.Choices.{choice_is_agreed}
use Rattle.spdm_agreement.proofs.Responder.Negotiation.{reply_fits, reply_sound}
use Rattle.transcript.specs.Transcripts.{Negotiation}
use Rattle.spdm_progress.proofs.AtRequester.{asking, heard_plain, led_plain, led_whole}
use Rattle.spdm_progress.proofs.ResponderStages.{get_version, version, get_capabilities, capabilities, negotiate_algorithms, algorithms, first_pair, two_pairs, three_pairs}

-- A canonical answer without a summary reads, whatever the hash.
pub reads : (h : History) (v : ResponseMessage) (len : ℕ) → FitsResponse v → IsSoundResponse len false v → response_reading len false (canonical_response v) ≡ Ok v
reads h v len fits sound = spelling_read (response_layout len false) 0 v (canonical_response v) (response_spelled len false v fits sound).is

-- This request is outstanding, and so much was settled.
pub record Asks (q : ReqSetup) (tag : ℕ) (asked : RequestMessage) (m : List ℕ) (n : Negotiation) (h : History) : Type 0 where
  pub waits : outstanding h ≡ Some (asking tag (Clear m) asked)
  pub negotiation : negotiation_of h ≡ n
  pub small : tag < 8

pub record IsOver (n : Negotiation) (h : History) : Type 0 where
  pub none : outstanding h ≡ None
  pub negotiation : negotiation_of h ≡ n
  pub phase : phase_of h ≡ Negotiated

-- What an answer leads to: this event, this message, and a history of which this holds.
pub record Hears (q : ReqSetup) (h : History) (tag : ℕ) (m : List ℕ) (d : Draw) (told : Event) (sent : Option Sent) (P : History → Type 0) : Type 0 where
  pub event : event_of (requester_hears q h false tag (clear_body m) d) ≡ Some told
  pub sends : sent_by (requester_hears q h false tag (clear_body m) d) ≡ sent
  pub leaves : P (after h (requester_hears q h false tag (clear_body m) d))

pub hears_as : (q : ReqSetup) (h : History) (tag : ℕ) (asked : RequestMessage) (m : List ℕ) (n : Negotiation) (answer : List ℕ) (d : Draw) (led : Led) → Asks q tag asked m n h → length answer ≤ q.transfer
    → clear_led q h (body_chosen q h d) (Plain asked) asked answer ≡ Ok led → requester_hears q h false tag (clear_body answer) d ≡ Adds (TookClear tag answer led d)
hears_as q h tag asked m n answer d led asks fits is =
    heard_plain q h (body_chosen q h d) tag (Clear m) asked answer d asks.waits fits ∙ ap (clear_outcome tag answer d) is

pub hears_by : (q : ReqSetup) (h : History) (tag : ℕ) (answer : List ℕ) (d : Draw) (led : Led) (P : History → Type 0) → requester_hears q h false tag (clear_body answer) d ≡ Adds (TookClear tag answer led d) → P (TookClear tag answer led d ∷ h)
    → Hears q h tag answer d led.event led.next P
hears_by q h tag answer d led P is holds = record {
  event = ap event_of is;
  sends = ap sent_by is;
  leaves = subst (λ (o : Outcome). P (after h o)) (sym is) holds;
}

pub handle_few : (h : History) → next_handle h < 256
handle_few h = omega arith

pub next_small : (h : History) → next_tag h < 8
next_small h = omega arith

-- ---- VERSION.

version_led : (q : ReqSetup) (h : History) (f : Free) → clear_led q h f (Plain GetVersion) GetVersion version ≡ Ok (goes_on (Answers GetVersion version) (plain_sent h (GetCapabilities (requester_caps q))))
version_led q h f = led_plain q h f GetVersion version version_answer (reads h version_answer _ tt (refl, (omega arith)))

pub version_heard : (q : ReqSetup) (h : History) (tag : ℕ) (d : Draw) → MIN_DATA_TRANSFER_SIZE ≤ q.transfer → Asks q tag GetVersion get_version no_negotiation h
    → Hears q h tag version d event.Progress (Some (asking (next_tag h) (Clear (get_capabilities q)) (GetCapabilities (requester_caps q))))
    (Asks q (next_tag h) (GetCapabilities (requester_caps q)) (get_capabilities q) first_pair)
version_heard q h tag d room asks =
    let led = goes_on (Answers GetVersion version) (plain_sent h (GetCapabilities (requester_caps q))) in
    hears_by q h tag version d led (Asks q (next_tag h) (GetCapabilities (requester_caps q)) (get_capabilities q) first_pair)
    (hears_as q h tag GetVersion get_version no_negotiation version d led asks (omega arith) (version_led q h (body_chosen q h d)))
    (record { waits = refl; negotiation = ap (λ (n : Negotiation). record n { get_version = get_version; version = version }) asks.negotiation; small = next_small h })

-- ---- CAPABILITIES.

pub record OffersWhole (q : ReqSetup) (r : RspSetup) (offer : OfferMessage) (common : Common) : Type 0 where
  pub shared : common_of (requester_caps q) (responder_caps r) ≡ Ok common
  pub offered : offer_of q.suites common.to_responder.transfer ≡ Some offer
  pub short : is_too_long common (negotiate_algorithms offer) ≡ false
  pub whole : nat_lt common.to_responder.transfer (length (negotiate_algorithms offer)) ≡ false

offers : (q : ReqSetup) (r : RspSetup) (h : History) (offer : OfferMessage) (common : Common) → OffersWhole q r offer common
    → caps_led q h (Answers (GetCapabilities (requester_caps q)) (capabilities r)) (common_of (requester_caps q) (responder_caps r))
    ≡ goes_on (Answers (GetCapabilities (requester_caps q)) (capabilities r)) (plain_sent h (NegotiateAlgorithms offer))
offers q r h offer common k =
    let effect = Answers (GetCapabilities (requester_caps q)) (capabilities r) in
    ap (caps_led q h effect) k.shared ∙ ap (offer_led h effect common) k.offered ∙ rw (k.short, k.whole) refl

pub capabilities_heard : (q : ReqSetup) (r : RspSetup) (h : History) (tag : ℕ) (d : Draw) (offer : OfferMessage) (common : Common) → MIN_DATA_TRANSFER_SIZE ≤ q.transfer → FitsResponse (Capabilities (responder_caps r)) → OffersWhole q r offer common
    → Asks q tag (GetCapabilities (requester_caps q)) (get_capabilities q) first_pair h
    → Hears q h tag (capabilities r) d event.Progress (Some (asking (next_tag h) (Clear (negotiate_algorithms offer)) (NegotiateAlgorithms offer)))
    (Asks q (next_tag h) (NegotiateAlgorithms offer) (negotiate_algorithms offer) (two_pairs q r))
capabilities_heard q r h tag d offer common room told k asks =
    let asked = GetCapabilities (requester_caps q) in
    let led = goes_on (Answers asked (capabilities r)) (plain_sent h (NegotiateAlgorithms offer)) in
    hears_by q h tag (capabilities r) d led (Asks q (next_tag h) (NegotiateAlgorithms offer) (negotiate_algorithms offer) (two_pairs q r))
    (hears_as q h tag asked (get_capabilities q) first_pair (capabilities r) d led asks (omega arith)
    (led_plain q h (body_chosen q h d) asked (capabilities r) (Capabilities (responder_caps r)) (reads h (Capabilities (responder_caps r)) _ told tt)
    ∙ ap (λ (l : Led). let x : Result Led ReqIgnored = Ok l in x) (offers q r h offer common k)))
    (record { waits = refl; negotiation = ap (λ (n : Negotiation). record n { get_capabilities = get_capabilities q; capabilities = capabilities r }) asks.negotiation; small = next_small h })

-- The offer goes as it is sent, whole or in chunks.
pub record Offers (q : ReqSetup) (r : RspSetup) (offer : OfferMessage) (common : Common) : Type 0 where
  pub shared : common_of (requester_caps q) (responder_caps r) ≡ Ok common
  pub offered : offer_of q.suites common.to_responder.transfer ≡ Some offer
  pub short : is_too_long common (negotiate_algorithms offer) ≡ false

pub capabilities_sends : (q : ReqSetup) (r : RspSetup) (h : History) (tag : ℕ) (d : Draw) (offer : OfferMessage) (common : Common) (sent : Sent) (P : History → Type 0) → MIN_DATA_TRANSFER_SIZE ≤ q.transfer → FitsResponse (Capabilities (responder_caps r)) → Offers q r offer common
    → request_sent common h (NegotiateAlgorithms offer) ≡ sent → Asks q tag (GetCapabilities (requester_caps q)) (get_capabilities q) first_pair h
    → ((k : History) → outstanding k ≡ Some sent → negotiation_of k ≡ two_pairs q r → P k) → Hears q h tag (capabilities r) d event.Progress (Some sent) P
capabilities_sends q r h tag d offer common sent P room told k goes asks means =
    let asked = GetCapabilities (requester_caps q) in
    let effect = Answers asked (capabilities r) in
    let led = goes_on effect sent in
    let leads : caps_led q h effect (common_of (requester_caps q) (responder_caps r)) ≡ led =
    ap (caps_led q h effect) k.shared ∙ ap (offer_led h effect common) k.offered
    ∙ ap (λ (b : Bool). if b then stopped stop.TooLong else goes_on effect (request_sent common h (NegotiateAlgorithms offer))) k.short
    ∙ ap (goes_on effect) goes in
    hears_by q h tag (capabilities r) d led P
    (hears_as q h tag asked (get_capabilities q) first_pair (capabilities r) d led asks (omega arith)
    (led_plain q h (body_chosen q h d) asked (capabilities r) (Capabilities (responder_caps r)) (reads h (Capabilities (responder_caps r)) _ told tt)
    ∙ ap (λ (l : Led). let x : Result Led ReqIgnored = Ok l in x) leads))
    (means (TookClear tag (capabilities r) led d ∷ h) refl (ap (λ (n : Negotiation). record n { get_capabilities = get_capabilities q; capabilities = capabilities r }) asks.negotiation))

-- ---- ALGORITHMS.

-- What a requester makes of the whole message, however it came.
pub algorithms_read : (q : ReqSetup) (r : RspSetup) (h : History) (f : Free) (at : ℕ) (offer : OfferMessage) (choice : Choice) → selected offer (policy_of r) ≡ Some choice
    → read_led q h f at (NegotiateAlgorithms offer) (algorithms r offer) (reading_of h (NegotiateAlgorithms offer) (algorithms r offer)) ≡ Ok (is_done finished.Connected (Answers (NegotiateAlgorithms offer) (algorithms r offer)))
algorithms_read q r h f at offer choice chosen =
    let reply = reply_of offer (unwrap_or (selected offer (policy_of r)) no_choice) in
    let takes : agreed offer reply ≡ Some choice = ap (λ (o : Option Choice). agreed offer (reply_of offer (unwrap_or o no_choice))) chosen ∙ choice_is_agreed offer (policy_of r) choice chosen in
    ap (λ (x : Result ResponseMessage Malformed). read_led q h f at (NegotiateAlgorithms offer) (algorithms r offer) x)
    (reads h (Algorithms reply) _ (reply_fits offer (unwrap_or (selected offer (policy_of r)) no_choice)) (reply_sound offer (unwrap_or (selected offer (policy_of r)) no_choice)))
    ∙ ap (λ (o : Option Choice). let x : Result Led ReqIgnored = Ok (algorithms_led (Answers (NegotiateAlgorithms offer) (algorithms r offer)) o) in x) takes

-- It ends the connect.
pub algorithms_over : (q : ReqSetup) (r : RspSetup) (h : History) (tag : ℕ) (m : List ℕ) (d : Draw) (offer : OfferMessage) → negotiation_of h ≡ two_pairs q r
    → requester_hears q h false tag (clear_body m) d ≡ Adds (TookClear tag m (is_done finished.Connected (Answers (NegotiateAlgorithms offer) (algorithms r offer))) d)
    → Hears q h tag m d (event.Done finished.Connected) None (IsOver (three_pairs q r offer))
algorithms_over q r h tag m d offer under is =
    hears_by q h tag m d (is_done finished.Connected (Answers (NegotiateAlgorithms offer) (algorithms r offer))) (IsOver (three_pairs q r offer)) is
    (record { none = refl; negotiation = ap (λ (n : Negotiation). record n { negotiate_algorithms = negotiate_algorithms offer; algorithms = algorithms r offer }) under; phase = refl })

pub algorithms_heard : (q : ReqSetup) (r : RspSetup) (h : History) (tag : ℕ) (d : Draw) (offer : OfferMessage) (choice : Choice) → length (algorithms r offer) ≤ q.transfer → selected offer (policy_of r) ≡ Some choice
    → Asks q tag (NegotiateAlgorithms offer) (negotiate_algorithms offer) (two_pairs q r) h
    → Hears q h tag (algorithms r offer) d (event.Done finished.Connected) None (IsOver (three_pairs q r offer))
algorithms_heard q r h tag d offer choice fits chosen asks =
    let asked = NegotiateAlgorithms offer in
    algorithms_over q r h tag (algorithms r offer) d offer asks.negotiation
    (hears_as q h tag asked (negotiate_algorithms offer) (two_pairs q r) (algorithms r offer) d (is_done finished.Connected (Answers asked (algorithms r offer))) asks fits
    (led_whole q h (body_chosen q h d) asked (algorithms r offer) ∙ algorithms_read q r h (body_chosen q h d) 0 offer choice chosen))

-- ---- The command.

pub told_connect : (a : Requesting) → is_worn a ≡ false → requester_told a Connect ≡ commanded_by a (Adds (Told Connect (plain_sent a.history GetVersion) (next_draw a)))
unfolding requester_told asks command_fault
told_connect a fresh = rw fresh refl

pub asks_version : (q : ReqSetup) (h : History) (d : Draw) → Asks q (next_tag h) GetVersion get_version no_negotiation (Told Connect (plain_sent h GetVersion) d ∷ h)
asks_version q h d = record { waits = refl; negotiation = refl; small = next_small h }
