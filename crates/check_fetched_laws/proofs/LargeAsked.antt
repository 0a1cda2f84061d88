-- A requester that awaits the answer to a whole request, and no chunk, asks for a chunk on LargeResponse alone, where
-- chunks are in common.
use Rattle.std.proofs.Common.{◌≡◌, ◌==◌, ◌&&◌, ◌∙◌, ℕ, List, [], ◌∷◌, refl, sym, ap, subst, drop, length, Bool, true, false, Option, Some, None, Result, Ok, Err, cond, eq-eqb, eqb-true}
use Rattle.std.specs.Prelude.{bytes_eq, nat_lt, not, slice_index}
use Rattle.std.proofs.lemmas.Bool.{false≢true, not-false}
use Rattle.check_responder.specs.JudgedResponder.{shows_large}
use Rattle.check_late_laws.proofs.Late.ErrorBytes.{error_bytes}
use Rattle.negotiate.specs.Capabilities.{common_of}
use Rattle.negotiate.specs.Choosing.{agreed}
use Rattle.negotiate.specs.Offer.{offer_of}
use Rattle.negotiate.specs.Versions.{first_of_1_2, version_entries}
use Rattle.negotiate.specs.declared.shared.Common.{Common}
use Rattle.requester_machine.proofs.Heard.{test_is_false}
use Rattle.requester_machine.specs.Answers.{algorithms_led, answer_led, answer_verify, caps_led, error_led, exchange_led, goes_on, is_done, is_refused, may_be_large, offer_led, stopped, version_led, with_answer}
use Rattle.requester_machine.specs.Bodies.{body_fault, is_clear}
use Rattle.requester_machine.specs.ClearAnswers.{carried_by, carried_led, clear_led, has_summary, read_led, reading_of}
use Rattle.requester_machine.specs.Commands.{Free}
use Rattle.requester_machine.specs.Hearing.{clear_outcome, hears, hears_by, hears_to}
use Rattle.requester_machine.specs.History.{Effect, History, Led, connection_terms, next_handle, outstanding}
use Rattle.requester_machine.specs.History.Effect.{Answers, Nothing, Refuses}
use Rattle.requester_machine.specs.Message.{Aim, Sent}
use Rattle.requester_machine.specs.Message.Aim.{Plain}
use Rattle.requester_machine.specs.Sending.{finish_sent, get_sent, is_too_long, piece_sent, plain_sent, request_sent}
use Rattle.requester_machine.specs.Setup.{ReqSetup, requester_caps}
use Rattle.requester_machine.specs.Shown.{after}
use Rattle.spdm_basis.proofs.Bools.{and_first, and_second}
use Rattle.spdm_grammar.specs.Message.{ExchangeMessage, ExchangeRspMessage, OfferMessage, RequestMessage, ResponseMessage}
use Rattle.spdm_grammar.specs.Message.RequestMessage.{GetVersion, GetCapabilities, NegotiateAlgorithms, GetMeasurements, PskExchange}
use Rattle.spdm_grammar.specs.Message.ResponseMessage.{Version, Capabilities, Algorithms, Measurements, PskExchangeRsp, Error}
use Rattle.spdm_grammar.specs.Requests.{canonical_request}
use Rattle.spdm_grammar.specs.declared.messages.choice.Choice.{Choice}
use Rattle.spdm_grammar.specs.declared.told.event.Finished.TheVariants as finished
use Rattle.spdm_grammar.specs.declared.told.event.ReqIgnored.{ReqIgnored}
use Rattle.spdm_grammar.specs.declared.told.event.ReqIgnored.TheVariants as ignored
use Rattle.spdm_grammar.specs.declared.told.event.Stop.TheVariants as stop
use Rattle.spdm_grammar.specs.declared.messages.malformed.Malformed.{Malformed}
use Rattle.spdm_grammar.specs.declared.names.error_number.TheConstants.{LARGE_RESPONSE}
use Rattle.spdm_grammar.specs.declared.names.response_code.TheConstants.{ERROR}
use Rattle.spdm_grammar.specs.declared.messages.part_faults.CapsFault.{CapsFault}
use Rattle.spdm_machine.specs.Terms.{hash_len}
use Rattle.capture_machine.specs.LargeAnswers.{is_fetching, is_for_chunk}
use Rattle.capture_machine.specs.Rounds.{no_draw}

both_are : (a b : Bool) → a ≡ true → b ≡ true → (a && b) ≡ true
both_are true b one two = two
both_are false b one two = absurd (false≢true one)

-- No request goes as a chunk of an answer.
pub sent_plain : (common : Common) (h : History) (a : RequestMessage) → is_for_chunk (request_sent common h a).aim ≡ false
sent_plain common h a = by_size (nat_lt common.to_responder.transfer (length (canonical_request a)))
  where
    by_size : (b : Bool) → is_for_chunk (cond b (piece_sent common h a (next_handle h) 0) (plain_sent h a)).aim ≡ false
    by_size true = refl
    by_size false = refl

module _ (q : ReqSetup) (h : History) (f : Free) (m : List ℕ) where
  abbrev pub IsLarge : Type 0
  IsLarge = (shows_large m ≡ true) × ((connection_terms h).common.chunk ≡ true)

  -- Where it asks for a chunk in response to this message, that is LargeResponse.
  abbrev pub Shows : Led → Type 0
  Shows led = is_fetching led.next ≡ true → IsLarge

  abbrev pub ShowsIn : Result Led ReqIgnored → Type 0
  ShowsIn (Ok led) = Shows led
  ShowsIn (Err cause) = Unit {0}

  error_shows : (a : RequestMessage) (code : ℕ) (extended : List ℕ) → slice_index m 1 ≡ ERROR → slice_index m 2 ≡ code → Shows (error_led h a code extended)
  error_shows a code extended one two = by_test ((code == LARGE_RESPONSE && may_be_large a) && (connection_terms h).common.chunk) refl
    where
      by_test : (b : Bool) → ((code == LARGE_RESPONSE && may_be_large a) && (connection_terms h).common.chunk) ≡ b → Shows (cond b (goes_on Nothing (get_sent h a (slice_index extended 0) 0 [])) (is_refused code (Refuses a)))
      by_test true is = λ gets.
          let large : code ≡ LARGE_RESPONSE = eqb-true code LARGE_RESPONSE (and_first (code == LARGE_RESPONSE) (may_be_large a) (and_first (code == LARGE_RESPONSE && may_be_large a) (connection_terms h).common.chunk is)) in (
            both_are (slice_index m 1 == ERROR) (slice_index m 2 == LARGE_RESPONSE) (eq-eqb (slice_index m 1) ERROR one) (eq-eqb (slice_index m 2) LARGE_RESPONSE (two ∙ large)),
            and_second (code == LARGE_RESPONSE && may_be_large a) (connection_terms h).common.chunk is,
          )
      by_test false is = λ gets. absurd (false≢true gets)

  version_none : (answer : List ℕ) (entry : Option ℕ) → Shows (version_led q h answer entry)
  version_none answer None = λ gets. absurd (false≢true gets)
  version_none answer (Some entry) = λ gets. absurd (false≢true gets)

  offer_none : (effect : Effect) (common : Common) (offer : Option OfferMessage) → Shows (offer_led h effect common offer)
  offer_none effect common None = λ gets. absurd (false≢true gets)
  offer_none effect common (Some offer) = by_length (is_too_long common (canonical_request (NegotiateAlgorithms offer)))
    where
      by_length : (b : Bool) → Shows (cond b (stopped stop.TooLong) (goes_on effect (request_sent common h (NegotiateAlgorithms offer))))
      by_length true = λ gets. absurd (false≢true gets)
      by_length false = λ gets. absurd (false≢true (sym (sent_plain common h (NegotiateAlgorithms offer)) ∙ gets))

  caps_none : (effect : Effect) (x : Result Common CapsFault) → Shows (caps_led q h effect x)
  caps_none effect (Err fault) = λ gets. absurd (false≢true gets)
  caps_none effect (Ok common) = offer_none effect common (offer_of q.suites common.to_responder.transfer)

  choice_none : (effect : Effect) (choice : Option Choice) → Shows (algorithms_led effect choice)
  choice_none effect None = λ gets. absurd (false≢true gets)
  choice_none effect (Some choice) = λ gets. absurd (false≢true gets)

  exchange_none : (exchange : ExchangeMessage) (answer : List ℕ) (rsp : ExchangeRspMessage) → ShowsIn (exchange_led q h f exchange answer rsp)
  exchange_none exchange answer rsp = by_verify (bytes_eq rsp.verify (answer_verify q.psk (with_answer h exchange answer)))
    where
      by_verify : (b : Bool) → ShowsIn (cond b (Ok (goes_on (Answers (PskExchange exchange) answer) (finish_sent q h exchange.req_id (with_answer h exchange answer) f.pad))) (Err ignored.BadVerify))
      by_verify true = λ gets. absurd (false≢true gets)
      by_verify false = tt

  pub answer_shows : (place : ℕ) (a : RequestMessage) (value : ResponseMessage) → reading_of h a m ≡ Ok value → ShowsIn (answer_led q h f place a m value)
  answer_shows place a (Error version code detail extended) reads =
      let bytes = error_bytes (hash_len (connection_terms h)) (has_summary a) m version code detail extended reads in error_shows a code extended bytes.0 bytes.1
  answer_shows place GetVersion (Version entries) reads = version_none m (first_of_1_2 (version_entries entries))
  answer_shows place (GetCapabilities caps) (Capabilities theirs) reads = caps_none (Answers (GetCapabilities caps) m) (common_of caps theirs)
  answer_shows place (NegotiateAlgorithms offer) (Algorithms reply) reads = choice_none (Answers (NegotiateAlgorithms offer) m) (agreed offer reply)
  answer_shows place (GetMeasurements op) (Measurements measured) reads = λ gets. absurd (false≢true gets)
  answer_shows place (PskExchange exchange) (PskExchangeRsp rsp) reads = exchange_none exchange m rsp
  answer_shows place a value reads = tt

  read_shows : (a : RequestMessage) (x : Result ResponseMessage Malformed) → reading_of h a m ≡ x → ShowsIn (read_led q h f 0 a m x)
  read_shows a (Err fault) reads = tt
  read_shows a (Ok value) reads = answer_shows 0 a value reads

  pub plain_shows : (a : RequestMessage) → ShowsIn (clear_led q h f (Plain a) a m)
  unfolding clear_led carried_by
  plain_shows a = read_shows a (reading_of h a m) refl

  -- ---- What is heard.

  module _ (tag : ℕ) (none : is_fetching (outstanding h) ≡ false) where
    outcome_shows : (x : Result Led ReqIgnored) → ShowsIn x → is_fetching (outstanding (after h (clear_outcome tag m no_draw x))) ≡ true → IsLarge
    outcome_shows (Ok led) shows gets = shows gets
    outcome_shows (Err cause) shows gets = absurd (false≢true (sym none ∙ gets))

-- What holds of it while such an answer is awaited, holds then.
module _ (q : ReqSetup) (h : History) (f : Free) (tag : ℕ) (answer : List ℕ) (none : is_fetching (outstanding h) ≡ false) (P : Type 0) (plain : (s : Sent) → outstanding h ≡ Some s → (s.tag == tag) ≡ true → (a : RequestMessage) × (s.aim ≡ Plain a) × P) where
  abbrev Large : Type 0
  Large = (shows_large (drop 1 answer) ≡ true) × ((connection_terms h).common.chunk ≡ true)

  aimed_shows : (aim : Aim) (a : RequestMessage) → aim ≡ Plain a → is_fetching (outstanding (after h (hears_to q h f tag answer no_draw aim))) ≡ true → Large
  aimed_shows aim a is gets =
      outcome_shows q h f (drop 1 answer) tag none (clear_led q h f (Plain a) a (drop 1 answer)) (plain_shows q h f (drop 1 answer) a)
      (subst (λ (x : Aim). is_fetching (outstanding (after h (hears_to q h f tag answer no_draw x))) ≡ true) is gets)

  by_cause : (o : Option Sent) (cause : Option ReqIgnored) → outstanding h ≡ o → body_fault q o false tag answer ≡ cause → is_fetching (outstanding (after h (hears_by q h f tag answer no_draw o cause))) ≡ true → Large × P
  by_cause o (Some cause) waits is gets = absurd (false≢true (sym none ∙ gets))
  by_cause None None waits is gets = absurd (false≢true (sym none ∙ gets))
  by_cause (Some s) None waits is gets =
      let tagged : (s.tag == tag) ≡ true = not-false (s.tag == tag) (test_is_false q (Some s) false tag answer is 2) in
      let aim = plain s waits tagged in
      (aimed_shows s.aim aim.0 aim.1 gets, aim.2)

  pub asks_large : is_fetching (outstanding (after h (hears q h false tag answer f no_draw))) ≡ true → (shows_large (drop 1 answer) ≡ true) × ((connection_terms h).common.chunk ≡ true) × P
  unfolding hears
  asks_large gets = let is = by_cause (outstanding h) (body_fault q (outstanding h) false tag answer) refl refl gets in (is.0.0, is.0.1, is.1)
