-- What a requester's history keeps of its negotiation: the messages that count are what they should be.
use Rattle.std.proofs.Common.{◌≡◌, ℕ, List, [], length, Bool, true, false, cond, Option, Some, None, is_some, ◌==◌, ◌&&◌, refl, ap}
use Rattle.std.specs.Prelude.{Ok, Err, Result, nat_lt, slice_index, bytes_eq}
use Rattle.negotiate.specs.Capabilities.{common_of}
use Rattle.negotiate.specs.Choosing.{agreed}
use Rattle.negotiate.specs.Offer.{offer_of}
use Rattle.negotiate.specs.Versions.{version_entries, first_of_1_2}
use Rattle.negotiate.specs.declared.shared.Common.{Common}
use Rattle.requester_machine.specs.Answers.{goes_on, is_refused, stopped, error_led, version_led, offer_led, caps_led, algorithms_led, answer_led, answer_verify, with_answer, may_be_large}
use Rattle.requester_machine.specs.ClearAnswers.{reading_of}
use Rattle.requester_machine.specs.Commands.{Free}
use Rattle.requester_machine.specs.History.{History, Led, connection_terms, next_handle, phase_after, negotiation_after, negotiates}
use Rattle.requester_machine.specs.History.Effect.{Nothing, Answers, Refuses}
use Rattle.requester_machine.specs.Message.{Sent, asked_in}
use Rattle.requester_machine.specs.Sending.{plain_sent, request_sent, piece_sent, get_sent, is_too_long, finish_sent}
use Rattle.spdm_grammar.specs.Message.{RequestMessage, ResponseMessage, OfferMessage}
use Rattle.spdm_grammar.specs.Message.RequestMessage.{GetVersion, GetCapabilities, NegotiateAlgorithms, GetMeasurements, PskExchange}
use Rattle.spdm_grammar.specs.Message.ResponseMessage.{Version, Capabilities, Algorithms, Measurements, PskExchangeRsp, Error}
use Rattle.spdm_grammar.specs.Requests.{canonical_request}
use Rattle.spdm_grammar.specs.declared.messages.capabilities.Caps.{Caps}
use Rattle.spdm_grammar.specs.declared.messages.choice.Choice.{Choice}
use Rattle.spdm_grammar.specs.declared.told.event.ReqIgnored.{ReqIgnored}
use Rattle.spdm_grammar.specs.declared.told.event.ReqIgnored.TheVariants as ignored
use Rattle.spdm_grammar.specs.declared.told.event.Stop.TheVariants as stop
use Rattle.spdm_grammar.specs.declared.messages.part_faults.CapsFault.{CapsFault}
use Rattle.spdm_grammar.specs.declared.told.phase.Phase.{Phase}
use Rattle.spdm_grammar.specs.declared.told.phase.Phase.TheVariants.{Fresh, Versioned, Capable, Negotiated}
use Rattle.requester_machine.specs.Setup.{ReqSetup, requester_caps}
use Rattle.transcript.specs.Transcripts.{Negotiation}
use Rattle.spdm_agreement.proofs.Requester.ExchangeMoves.{exchange_read}
use Rattle.spdm_agreement.proofs.Requester.ClearLeads.{either}
use Rattle.spdm_agreement.proofs.Requester.NegotiationDone.{is_answer}
use Rattle.spdm_agreement.proofs.Messages.Beginnings.{is_request, is_response}
use Rattle.spdm_grammar.specs.declared.names.error_number.TheConstants.{LARGE_RESPONSE}

abbrev pub One : Negotiation → Type 0
One n = (is_request 32 n.get_version ≡ true) × (is_response n.version ≡ true)

abbrev pub Two : Negotiation → Type 0
Two n = (is_request 32 n.get_capabilities ≡ true) × (is_response n.capabilities ≡ true)

abbrev pub Three : Negotiation → Type 0
Three n = (is_request 32 n.negotiate_algorithms ≡ true) × (is_response n.algorithms ≡ true)

abbrev pub PhaseSound : Phase → Negotiation → Type 0
PhaseSound Fresh n = Unit {0}
PhaseSound Versioned n = One n
PhaseSound Capable n = One n × Two n
PhaseSound Negotiated n = One n × Two n × Three n

abbrev pub AskSound : Negotiation → Option RequestMessage → Type 0
AskSound n (Some (GetCapabilities caps)) = One n × (is_request 32 (canonical_request (GetCapabilities caps)) ≡ true)
AskSound n (Some (NegotiateAlgorithms offer)) = One n × Two n × (is_request 32 (canonical_request (NegotiateAlgorithms offer)) ≡ true)
AskSound n _ = Unit {0}

abbrev pub asked_of : Option Sent → Option RequestMessage
asked_of None = None
asked_of (Some x) = asked_in x.aim

abbrev pub LedSound : Phase → Negotiation → Led → Type 0
LedSound p n led = PhaseSound (phase_after led.effect p) (negotiation_after led.effect n) × AskSound (negotiation_after led.effect n) (asked_of led.next)

-- What the own requests are read as.
pub record OwnReads (q : ReqSetup) : Type 0 where
  pub caps : is_request 32 (canonical_request (GetCapabilities (requester_caps q))) ≡ true
  pub offer : (transfer : ℕ) (offer : OfferMessage) → offer_of q.suites transfer ≡ Some offer → is_request 32 (canonical_request (NegotiateAlgorithms offer)) ≡ true

module _ (q : ReqSetup) (own : OwnReads q) (p : Phase) (n : Negotiation) (sound : PhaseSound p n) where
  pub refused_phase : (b : Bool) → PhaseSound (cond b Fresh p) n
  refused_phase true = tt
  refused_phase false = sound

  error_sound : (h : History) (asked : RequestMessage) (code : ℕ) (extended : List ℕ) → AskSound n (Some asked) → LedSound p n (error_led h asked code extended)
  error_sound h asked code extended k =
      either (LedSound p n) (code == LARGE_RESPONSE && may_be_large asked && (connection_terms h).common.chunk) (goes_on Nothing (get_sent h asked (slice_index extended 0) 0 [])) (is_refused code (Refuses asked))
      (sound, k) (refused_phase (negotiates asked), tt)

  version_sound : (h : History) (answer : List ℕ) (entry : Option ℕ) → is_response answer ≡ true → LedSound p n (version_led q h answer entry)
  version_sound h answer None r = (tt, tt)
  version_sound h answer (Some entry) r = (let one : (is_request 32 (canonical_request GetVersion) ≡ true) × (is_response answer ≡ true) = (ap is_some (exchange_read 32 GetVersion tt tt), r) in (one, (one, own.caps)))

  offer_sound : (h : History) (caps : Caps) (answer : List ℕ) (common : Common) (offer : Option OfferMessage) → offer_of q.suites common.to_responder.transfer ≡ offer → AskSound n (Some (GetCapabilities caps)) → is_response answer ≡ true → LedSound p n (offer_led h (Answers (GetCapabilities caps) answer) common offer)
  offer_sound h caps answer common None is k r = (tt, tt)
  offer_sound h caps answer common (Some offer) is k r =
      let all : LedSound p n (goes_on (Answers (GetCapabilities caps) answer) (plain_sent h (NegotiateAlgorithms offer))) = ((k.0, (k.1, r)), (k.0, (k.1, r), own.offer common.to_responder.transfer offer is)) in
      either (LedSound p n) (is_too_long common (canonical_request (NegotiateAlgorithms offer))) (stopped stop.TooLong) (goes_on (Answers (GetCapabilities caps) answer) (request_sent common h (NegotiateAlgorithms offer)))
      (tt, tt)
      (either (λ (x : Sent). LedSound p n (goes_on (Answers (GetCapabilities caps) answer) x)) (nat_lt common.to_responder.transfer (length (canonical_request (NegotiateAlgorithms offer))))
      (piece_sent common h (NegotiateAlgorithms offer) (next_handle h) 0) (plain_sent h (NegotiateAlgorithms offer)) all all)

  caps_sound : (h : History) (caps : Caps) (answer : List ℕ) (common : Result Common CapsFault) → AskSound n (Some (GetCapabilities caps)) → is_response answer ≡ true → LedSound p n (caps_led q h (Answers (GetCapabilities caps) answer) common)
  caps_sound h caps answer (Err fault) k r = (tt, tt)
  caps_sound h caps answer (Ok common) k r = offer_sound h caps answer common (offer_of q.suites common.to_responder.transfer) refl k r

  algorithms_sound : (offer : OfferMessage) (answer : List ℕ) (choice : Option Choice) → AskSound n (Some (NegotiateAlgorithms offer)) → is_response answer ≡ true → LedSound p n (algorithms_led (Answers (NegotiateAlgorithms offer) answer) choice)
  algorithms_sound offer answer None k r = (tt, tt)
  algorithms_sound offer answer (Some choice) k r = ((k.0, k.1, (k.2, r)), tt)

  abbrev pub ResultSound : Result Led ReqIgnored → Type 0
  ResultSound (Ok led) = LedSound p n led
  ResultSound (Err cause) = Unit {0}

  pub answer_sound : (h : History) (f : Free) (place : ℕ) (asked : RequestMessage) (answer : List ℕ) (value : ResponseMessage) → reading_of h asked answer ≡ Ok value → AskSound n (Some asked) → ResultSound (answer_led q h f place asked answer value)
  answer_sound h f place asked answer (Error version code detail extended) r k = error_sound h asked code extended k
  answer_sound h f place GetVersion answer (Version entries) r k = version_sound h answer (first_of_1_2 (version_entries entries)) (is_answer _ _ answer (Version entries) (λ x. x) refl r)
  answer_sound h f place (GetCapabilities caps) answer (Capabilities theirs) r k = caps_sound h caps answer (common_of caps theirs) k (is_answer _ _ answer (Capabilities theirs) (λ x. x) refl r)
  answer_sound h f place (NegotiateAlgorithms offer) answer (Algorithms reply) r k = algorithms_sound offer answer (agreed offer reply) k (is_answer _ _ answer (Algorithms reply) (λ x. x) refl r)
  answer_sound h f place (GetMeasurements op) answer (Measurements measured) r k = (sound, tt)
  answer_sound h f place (PskExchange exchange) answer (PskExchangeRsp rsp) r k =
      either ResultSound (bytes_eq rsp.verify (answer_verify q.psk (with_answer h exchange answer))) (Ok (goes_on (Answers (PskExchange exchange) answer) (finish_sent q h exchange.req_id (with_answer h exchange answer) f.pad))) (Err ignored.BadVerify) (sound, tt) tt
  answer_sound h f place asked answer value r k = tt
