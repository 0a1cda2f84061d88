-- A record of a session in which a large response is fetched: its inner message leads to the same turn whatever bytes
-- stand for the large response, where these give the same chunk.
use Rattle.std.proofs.Common.{◌≡◌, ◌≢◌, ◌≤◌, ◌==◌, ◌&&◌, ◌||◌, ℕ, List, [], ◌∷◌, refl, sym, ap, ◌∙◌, subst, length, drop, Bool, true, false, Option, Some, None, is_some, cond}
use Rattle.std.specs.Prelude.{bytes_eq, not, nat_lt, slice_index}
use Rattle.std.specs.Option.{option_or}
use Rattle.std.proofs.lemmas.Bool.{false≢true}
use Rattle.key_schedule.specs.declared.direction.Direction.TheVariants as direction
use Rattle.running_hash.specs.Hash.{hash_of}
use Rattle.spdm_basis.specs.Tests.{first_of_tests}
use Rattle.spdm_grammar.specs.Message.{RequestMessage}
use Rattle.spdm_grammar.specs.Message.RequestMessage.{GetVersion, GetCapabilities, NegotiateAlgorithms, GetMeasurements, PskExchange, PskFinish, Heartbeat, KeyUpdate, EndSession, ChunkSend, ChunkGet}
use Rattle.spdm_grammar.specs.Requests.{request_in}
use Rattle.spdm_grammar.specs.Responses.{canonical_response}
use Rattle.spdm_grammar.specs.declared.messages.error_code.ErrorCode.{ErrorCode}
use Rattle.spdm_grammar.specs.declared.messages.error_code.ErrorCode.TheVariants.{InvalidRequest, UnexpectedRequest, DecryptError, UnsupportedRequest, SessionLimitExceeded, ResponseTooLarge, RequestTooLarge}
use Rattle.spdm_grammar.specs.declared.names.TheConstants.{MAX_MESSAGE_SIZE}
use Rattle.spdm_grammar.specs.declared.names.request_code.TheConstants.{CHUNK_GET, CHUNK_SEND, PSK_EXCHANGE}
use Rattle.spdm_grammar.specs.declared.told.phase.Stage.{Stage}
use Rattle.spdm_machine.specs.Keys.{verify_data}
use Rattle.spdm_machine.specs.Terms.{hash_len, terms_of}
use Rattle.transcript.specs.Transcripts as transcript
use Rattle.transcript.specs.Transcripts.{Negotiation, vca_of}
use Rattle.responder_machine.specs.Answer.{Free, answer_bytes, answer_to, exchange_answer, request_at}
use Rattle.responder_machine.specs.Handling.{chunk_in, turn_of}
use Rattle.responder_machine.specs.Place.{Place, place_terms, session_place}
use Rattle.responder_machine.specs.Place.Where.{InSession}
use Rattle.responder_machine.specs.Refusal.{are_caps_refused, chunk_fault, code_of, has_no_block, has_pending, is_answer_too_long, is_chunk_in_session, is_exchange_refused, is_get_refused, is_offer_refused, is_too_large, is_update_misplaced, fits_stage, is_verify_wrong, lacks_flag, refusal, refused_contents, refused_form, tests_of_form}
use Rattle.responder_machine.specs.Responder.{data_turn, inner_refusal, is_open, session_turn, session_turn_by}
use Rattle.responder_machine.specs.Session.{Events, exchange_answer as session_exchange_answer, exchange_of, session_negotiation, stage_of, turns_of}
use Rattle.responder_machine.specs.Setup.{RspSetup}
use Rattle.responder_machine.specs.Turn.{Turn, takes}
use Rattle.responder_machine.proofs.Codes.{asked-code}
use Rattle.responder_machine.proofs.Tests.{tests_are_false}
use Rattle.check_fetched_laws.proofs.ClearTurns.{misformed_same, turn_at, unread_same}
use Rattle.check_fetched_laws.proofs.GetAlike.{PlacesAlike, form_same, long_same, other_code, plain_same, refused_alike, refused_same, turns_same}
use Rattle.check_fetched_laws.proofs.TurnsBoth.{given_both, handle_both, session_both}
use Rattle.capture_machine.proofs.EventsAlike.{EventsAlike, answer_alike, exchange_alike, negotiation_alike, stage_alike}
use Rattle.capture_machine.proofs.FetchedRecords.{tests_with}

-- Two such sessions are places that are alike.
pub session_places : (s u : Events) → EventsAlike s u → has_pending (session_place s) ≡ has_pending (session_place u) → PlacesAlike (session_place s) (session_place u)
session_places s u e pending =
    let both = session_both s u e in
    record {
      at = refl;
      phase = refl;
      stage = stage_alike s u e;
      common = ap (λ (n : Negotiation). (terms_of n).common) (negotiation_alike s u e);
      pending = pending;
      handle = handle_both (turns_of s) (turns_of u) both;
      given = given_both (turns_of s) (turns_of u) both;
    }

-- The request is CHUNK_GET.
abbrev asks_get : Option RequestMessage → Bool
asks_get (Some (ChunkGet handle number)) = true
asks_get _ = false

-- A request that is no part of a large message.
abbrev IsWhole : RequestMessage → Type 0
IsWhole (ChunkSend c) = ⊥
IsWhole (ChunkGet handle number) = ⊥
IsWhole _ = Unit {0}

module _ (r : RspSetup) (s u : Events) (m : List ℕ) (f : Free) (e : EventsAlike s u) (pending : has_pending (session_place s) ≡ has_pending (session_place u)) where
  abbrev p : Place
  p = session_place s

  abbrev o : Place
  o = session_place u

  a : PlacesAlike (session_place s) (session_place u)
  a = session_places s u e pending

  reads : request_at p m ≡ request_at o m
  reads = ap (λ (n : Negotiation). request_in (hash_len (terms_of n)) m) (negotiation_alike s u e)

  answer_same : (q : RequestMessage) → IsWhole q → answer_to r p m f (Some q) ≡ answer_to r o m f (Some q)
  answer_same (PskExchange x) whole = ap (λ (n : Negotiation). canonical_response (exchange_answer r (record (session_place s) { negotiation = n }) m f x)) (negotiation_alike s u e)
  answer_same GetVersion whole = refl
  answer_same (GetCapabilities caps) whole = refl
  answer_same (NegotiateAlgorithms offer) whole = refl
  answer_same (GetMeasurements op) whole = refl
  answer_same (PskFinish verify) whole = refl
  answer_same Heartbeat whole = refl
  answer_same (KeyUpdate op tag) whole = refl
  answer_same EndSession whole = refl
  answer_same (ChunkSend c) whole = absurd whole
  answer_same (ChunkGet handle number) whole = absurd whole

  -- The verify data are over what both sessions saw.
  verify_same : (verify : List ℕ) → is_verify_wrong r p m (Some (PskFinish verify)) ≡ is_verify_wrong r o m (Some (PskFinish verify))
  verify_same verify =
      let at : Negotiation → List ℕ → List ℕ → Bool = λ n x y.
      let hash = hash_of (terms_of n).choice.hash in
      not (bytes_eq verify (verify_data (terms_of n).choice r.psk (transcript.t1_of hash (vca_of n) x y) direction.Request (transcript.tv_of hash (vca_of n) x y m))) in
      ap (λ (n : Negotiation). at n (exchange_of s) (session_exchange_answer s)) (negotiation_alike s u e)
      ∙ ap (λ (x : List ℕ). at (session_negotiation u) x (session_exchange_answer s)) (exchange_alike s u e) ∙ ap (λ (y : List ℕ). at (session_negotiation u) (exchange_of u) y) (answer_alike s u e)

  -- By what of the place the tests look at.
  abbrev with_terms : Negotiation → (verified misplaced long : Bool) → RequestMessage → List (Bool × ErrorCode)
  with_terms n verified misplaced long q =
      (lacks_flag (terms_of n) (code_of m), UnsupportedRequest)
      ∷ (are_caps_refused r (Some q), InvalidRequest)
      ∷ (is_offer_refused r (Some q), InvalidRequest)
      ∷ (has_no_block r (Some q), InvalidRequest)
      ∷ (is_exchange_refused r (record (session_place s) { negotiation = n }) (Some q), InvalidRequest)
      ∷ (verified, DecryptError)
      ∷ (misplaced, UnexpectedRequest)
      ∷ (false, RequestTooLarge)
      ∷ (false, InvalidRequest)
      ∷ (false, InvalidRequest)
      ∷ (long, ResponseTooLarge)
      ∷ (code_of m == PSK_EXCHANGE && false, SessionLimitExceeded)
      ∷ []

  moved : (q : RequestMessage) (verified verifies misplaced misplaces long longer : Bool) → verified ≡ verifies → misplaced ≡ misplaces → long ≡ longer
      → with_terms p.negotiation verified misplaced long q ≡ with_terms o.negotiation verifies misplaces longer q
  moved q verified verifies misplaced misplaces long longer one two three =
      ap (λ (n : Negotiation). with_terms n verified misplaced long q) (negotiation_alike s u e) ∙ ap (λ (b : Bool). with_terms o.negotiation b misplaced long q) one
      ∙ ap (λ (b : Bool). with_terms o.negotiation verifies b long q) two ∙ ap (λ (b : Bool). with_terms o.negotiation verifies misplaces b q) three

  form_here : (q : RequestMessage) (l : List ℕ) → IsWhole q → tests_with r p m (Some q) l ≡ with_terms p.negotiation (is_verify_wrong r p m (Some q)) (is_update_misplaced p (Some q)) (is_answer_too_long p l) q
  form_here GetVersion l whole = refl
  form_here (GetCapabilities caps) l whole = refl
  form_here (NegotiateAlgorithms offer) l whole = refl
  form_here (GetMeasurements op) l whole = refl
  form_here (PskExchange x) l whole = refl
  form_here (PskFinish verify) l whole = refl
  form_here Heartbeat l whole = refl
  form_here (KeyUpdate op tag) l whole = refl
  form_here EndSession l whole = refl
  form_here (ChunkSend c) l whole = absurd whole
  form_here (ChunkGet handle number) l whole = absurd whole

  form_there : (q : RequestMessage) (l : List ℕ) → IsWhole q → tests_with r o m (Some q) l ≡ with_terms o.negotiation (is_verify_wrong r o m (Some q)) (is_update_misplaced o (Some q)) (is_answer_too_long o l) q
  form_there GetVersion l whole = refl
  form_there (GetCapabilities caps) l whole = refl
  form_there (NegotiateAlgorithms offer) l whole = refl
  form_there (GetMeasurements op) l whole = refl
  form_there (PskExchange x) l whole = refl
  form_there (PskFinish verify) l whole = refl
  form_there Heartbeat l whole = refl
  form_there (KeyUpdate op tag) l whole = refl
  form_there EndSession l whole = refl
  form_there (ChunkSend c) l whole = absurd whole
  form_there (ChunkGet handle number) l whole = absurd whole

  verified_same : (q : RequestMessage) → is_verify_wrong r p m (Some q) ≡ is_verify_wrong r o m (Some q)
  verified_same (PskFinish verify) = verify_same verify
  verified_same GetVersion = refl
  verified_same (GetCapabilities caps) = refl
  verified_same (NegotiateAlgorithms offer) = refl
  verified_same (GetMeasurements op) = refl
  verified_same (PskExchange x) = refl
  verified_same Heartbeat = refl
  verified_same (KeyUpdate op tag) = refl
  verified_same EndSession = refl
  verified_same (ChunkSend c) = refl
  verified_same (ChunkGet handle number) = refl

  misplaced_same : (q : RequestMessage) → is_update_misplaced p (Some q) ≡ is_update_misplaced o (Some q)
  misplaced_same (KeyUpdate op tag) = ap (λ (x : Stage). not (fits_stage x op)) (stage_alike s u e)
  misplaced_same (PskFinish verify) = refl
  misplaced_same GetVersion = refl
  misplaced_same (GetCapabilities caps) = refl
  misplaced_same (NegotiateAlgorithms offer) = refl
  misplaced_same (GetMeasurements op) = refl
  misplaced_same (PskExchange x) = refl
  misplaced_same Heartbeat = refl
  misplaced_same EndSession = refl
  misplaced_same (ChunkSend c) = refl
  misplaced_same (ChunkGet handle number) = refl

  module _ (q : RequestMessage) (whole : IsWhole q) (asks : request_at p m ≡ Some q) where
    bytes : answer_bytes r p m f ≡ answer_bytes r o m f
    unfolding answer_bytes
    bytes = ap (answer_to r p m f) asks ∙ answer_same q whole ∙ sym (ap (answer_to r o m f) (sym reads ∙ asks))

    tests_same : (l : List ℕ) → tests_with r p m (Some q) l ≡ tests_with r o m (Some q) l
    tests_same l =
        form_here q l whole
        ∙ moved q (is_verify_wrong r p m (Some q)) (is_verify_wrong r o m (Some q)) (is_update_misplaced p (Some q)) (is_update_misplaced o (Some q)) (is_answer_too_long p l) (is_answer_too_long o l) (verified_same q) (misplaced_same q) (long_same r m p o f f a l)
        ∙ sym (form_there q l whole)

    contents_same : refused_contents r p m f ≡ refused_contents r o m f
    unfolding refused_contents
    contents_same =
        ap (λ (x : Option RequestMessage). first_of_tests (tests_with r p m x (answer_bytes r p m f))) asks
        ∙ ap (λ (l : List ℕ). first_of_tests (tests_with r p m (Some q) l)) bytes
        ∙ ap first_of_tests (tests_same (answer_bytes r o m f))
        ∙ sym (ap (λ (x : Option RequestMessage). first_of_tests (tests_with r o m x (answer_bytes r o m f))) (sym reads ∙ asks))

    refusal_same : refusal r p m f ≡ refusal r o m f
    unfolding refusal
    refusal_same = ap (λ (x : Option ErrorCode). option_or x (refused_contents r p m f)) (form_same r p o m a reads) ∙ ap (option_or (refused_form r o m)) contents_same

    whole_same : chunk_in (Some q) ≡ None → turn_of r p m f ≡ turn_of r o m f
    whole_same none = by_refusal (refusal r p m f) refl
      where
        by_refusal : (x : Option ErrorCode) → refusal r p m f ≡ x → turn_of r p m f ≡ turn_of r o m f
        by_refusal (Some c) is =
            turn_at r m p o f f a reads p f (Some c) (ap chunk_in asks ∙ none) is ∙ refused_same r m p o f f a c bytes
            ∙ sym (turn_at r m p o f f a reads o f (Some c) (ap chunk_in (sym reads ∙ asks) ∙ none) (sym refusal_same ∙ is))
        by_refusal None is =
            turn_at r m p o f f a reads p f None (ap chunk_in asks ∙ none) is ∙ plain_same r m p o f f a reads bytes refl
            ∙ sym (turn_at r m p o f f a reads o f None (ap chunk_in (sym reads ∙ asks) ∙ none) (sym refusal_same ∙ is))

  -- CHUNK_SEND does not come in a session.
  send_same : (c : _) → request_at p m ≡ Some (ChunkSend c) → turn_of r p m f ≡ turn_of r o m f
  unfolding refused_form
  send_same c asks = misformed_same r m p o f f a reads (λ is.
      let test : is_chunk_in_session InSession (code_of m) ≡ false = tests_are_false (tests_of_form r p m) is 4 in
      let code : CHUNK_SEND ≡ code_of m = asked-code p m (ChunkSend c) asks in
      absurd (false≢true (sym test ∙ ap (is_chunk_in_session InSession) (sym code))))

  by_request : (q : Option RequestMessage) → request_at p m ≡ q → (takes CHUNK_GET (turn_of r p m f) ≡ true → answer_bytes r p m f ≡ answer_bytes r o m f) → turn_of r p m f ≡ turn_of r o m f
  by_request None is same = unread_same r m p o f f a reads is
  by_request (Some (ChunkGet handle number)) is same = turns_same r m handle number p o f f a is (sym reads ∙ is) same refl
  by_request (Some (ChunkSend c)) is same = send_same c is
  by_request (Some GetVersion) is same = whole_same GetVersion tt is refl
  by_request (Some (GetCapabilities caps)) is same = whole_same (GetCapabilities caps) tt is refl
  by_request (Some (NegotiateAlgorithms offer)) is same = whole_same (NegotiateAlgorithms offer) tt is refl
  by_request (Some (GetMeasurements op)) is same = whole_same (GetMeasurements op) tt is refl
  by_request (Some (PskExchange x)) is same = whole_same (PskExchange x) tt is refl
  by_request (Some (PskFinish verify)) is same = whole_same (PskFinish verify) tt is refl
  by_request (Some Heartbeat) is same = whole_same Heartbeat tt is refl
  by_request (Some (KeyUpdate op tag)) is same = whole_same (KeyUpdate op tag) tt is refl
  by_request (Some EndSession) is same = whole_same EndSession tt is refl

  -- The turn of an SPDM message.
  pub message_same : (takes CHUNK_GET (turn_of r p m f) ≡ true → answer_bytes r p m f ≡ answer_bytes r o m f) → turn_of r p m f ≡ turn_of r o m f
  message_same same = by_request (request_at p m) refl same

  -- Where it is no CHUNK_GET, it has the same answer.
  answer_by : (q : Option RequestMessage) → request_at p m ≡ q → ((handle number : ℕ) → q ≡ Some (ChunkGet handle number) → ⊥) → answer_bytes r p m f ≡ answer_bytes r o m f
  unfolding answer_bytes
  answer_by None is not = ap (answer_to r p m f) is ∙ sym (ap (answer_to r o m f) (sym reads ∙ is))
  answer_by (Some (ChunkGet handle number)) is not = absurd (not handle number refl)
  answer_by (Some (ChunkSend c)) is not = ap (answer_to r p m f) is ∙ sym (ap (answer_to r o m f) (sym reads ∙ is))
  answer_by (Some GetVersion) is not = bytes GetVersion tt is
  answer_by (Some (GetCapabilities caps)) is not = bytes (GetCapabilities caps) tt is
  answer_by (Some (NegotiateAlgorithms offer)) is not = bytes (NegotiateAlgorithms offer) tt is
  answer_by (Some (GetMeasurements op)) is not = bytes (GetMeasurements op) tt is
  answer_by (Some (PskExchange x)) is not = bytes (PskExchange x) tt is
  answer_by (Some (PskFinish verify)) is not = bytes (PskFinish verify) tt is
  answer_by (Some Heartbeat) is not = bytes Heartbeat tt is
  answer_by (Some (KeyUpdate op tag)) is not = bytes (KeyUpdate op tag) tt is
  answer_by (Some EndSession) is not = bytes EndSession tt is

  -- Nothing is free in the answer to CHUNK_GET.
  get_free : (k : Free) (q : Option RequestMessage) → request_at p m ≡ q → asks_get q ≡ true → answer_bytes r o m k ≡ answer_bytes r o m f
  unfolding answer_bytes
  get_free k (Some (ChunkGet handle number)) is gets = ap (answer_to r o m k) (sym reads ∙ is) ∙ sym (ap (answer_to r o m f) (sym reads ∙ is))
  get_free k _ is gets = absurd (false≢true gets)

  pub short_same : (k : Free) → length (answer_bytes r p m f) ≤ MAX_MESSAGE_SIZE → length (answer_bytes r o m k) ≤ MAX_MESSAGE_SIZE → length (answer_bytes r o m f) ≤ MAX_MESSAGE_SIZE
  short_same k short few = by_get (asks_get (request_at p m)) refl
    where
      by_get : (b : Bool) → asks_get (request_at p m) ≡ b → length (answer_bytes r o m f) ≤ MAX_MESSAGE_SIZE
      by_get true is = subst (λ (l : List ℕ). length l ≤ MAX_MESSAGE_SIZE) (get_free k (request_at p m) refl is) few
      by_get false is =
          subst (λ (l : List ℕ). length l ≤ MAX_MESSAGE_SIZE) (answer_by (request_at p m) refl (λ handle number asks. false≢true (sym is ∙ ap asks_get asks))) short

-- ---- The inner message.

-- With no code that tells the answer.
inner_other : (stage : Stage) (inner : List ℕ) (c : ErrorCode) → inner_refusal stage inner ≡ Some c → c ≢ ResponseTooLarge
inner_other stage inner c is =
    other_code (
    (length inner == 0, InvalidRequest)
    ∷ (not (slice_index inner 0 == 5 || slice_index inner 0 == 1), InvalidRequest)
    ∷ (slice_index inner 0 == 1 && not (is_open stage), UnexpectedRequest)
    ∷ (slice_index inner 0 == 1 && nat_lt 1025 (length inner), RequestTooLarge)
    ∷ []) c (λ x. absurd (cc), (λ x. absurd (cc), (λ x. absurd (cc), (λ x. absurd (cc), tt)))) is

module _ (r : RspSetup) (s u : Events) (inner : List ℕ) (f : Free) (e : EventsAlike s u) (pending : has_pending (session_place s) ≡ has_pending (session_place u)) where
  abbrev SameBytes : Turn → Type 0
  SameBytes t = takes CHUNK_GET t ≡ true → answer_bytes r (session_place s) (drop 1 inner) f ≡ answer_bytes r (session_place u) (drop 1 inner) f

  inner_by : (x : Option ErrorCode) → ((c : ErrorCode) → x ≡ Some c → c ≢ ResponseTooLarge) → SameBytes (session_turn_by r s inner f x) → session_turn_by r s inner f x ≡ session_turn_by r u inner f x
  inner_by (Some c) other same = refused_alike r (drop 1 inner) (session_place s) (session_place u) f f (session_places s u e pending) c (other c refl)
  inner_by None other same = by_type (slice_index inner 0 == 5) same
    where
      by_type : (b : Bool) → SameBytes (cond b (turn_of r (session_place s) (drop 1 inner) f) (data_turn f (drop 1 inner)))
          → cond b (turn_of r (session_place s) (drop 1 inner) f) (data_turn f (drop 1 inner)) ≡ cond b (turn_of r (session_place u) (drop 1 inner) f) (data_turn f (drop 1 inner))
      by_type true same = message_same r s u (drop 1 inner) f e pending same
      by_type false same = refl

  -- The turn of a record.
  pub session_same : SameBytes (session_turn r s inner f) → session_turn r s inner f ≡ session_turn r u inner f
  unfolding session_turn
  session_same same =
      inner_by (inner_refusal (stage_of s) inner) (inner_other (stage_of s) inner) same ∙ ap (λ (x : Stage). session_turn_by r u inner f (inner_refusal x inner)) (stage_alike s u e)
