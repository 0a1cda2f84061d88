-- A message in the clear while a large response is fetched: CHUNK_GET, GET_VERSION, or one that is no request. It leads
-- to the same turn whatever bytes stand for the large response, where these give the same chunk.
use Rattle.std.proofs.Common.{◌≡◌, ◌≢◌, ◌==◌, ◌&&◌, ◌⊎◌, ℕ, List, [], ◌∷◌, refl, sym, ap, ◌∙◌, length, Bool, true, false, Option, Some, None, is_some, is_none, inl, inr, arith}
use Rattle.std.specs.Prelude.{not}
use Rattle.std.specs.Option.{option_or}
use Rattle.std.proofs.lemmas.Bool.{false≢true}
use Rattle.std.proofs.lemmas.Option.{none-some}
use Rattle.chunking.specs.Cutting.{nth_chunk}
use Rattle.spdm_basis.specs.Tests.{first_of_tests}
use Rattle.spdm_grammar.specs.Message.{RequestMessage}
use Rattle.spdm_grammar.specs.Message.RequestMessage.{GetVersion, GetCapabilities, NegotiateAlgorithms, GetMeasurements, PskExchange, PskFinish, Heartbeat, KeyUpdate, EndSession, ChunkSend, ChunkGet}
use Rattle.spdm_grammar.specs.declared.messages.error_code.ErrorCode.{ErrorCode}
use Rattle.spdm_grammar.specs.declared.messages.error_code.ErrorCode.TheVariants.{InvalidRequest, UnexpectedRequest, DecryptError, UnsupportedRequest, SessionLimitExceeded, ResponseTooLarge, RequestTooLarge}
use Rattle.spdm_grammar.specs.declared.names.request_code.TheConstants.{CHUNK_GET, GET_VERSION, PSK_EXCHANGE}
use Rattle.responder_machine.specs.Answer.{Free, answer_bytes, answer_to, request_at}
use Rattle.responder_machine.specs.Handling.{chunk_in, refused_turn, turn_by, turn_of}
use Rattle.responder_machine.specs.History.{History, clear_turns}
use Rattle.responder_machine.specs.LargeMessages.{given_of, large_of, still_pending}
use Rattle.responder_machine.specs.Place.{Place, clear_place, place_terms}
use Rattle.responder_machine.specs.Refusal.{are_caps_refused, chunk_fault, code_of, has_no_block, has_pending, is_answer_too_long, is_exchange_refused, is_get_refused, is_offer_refused, is_too_large, is_update_misplaced, is_verify_wrong, lacks_flag, refusal, refused_contents, refused_form, tests_of_form}
use Rattle.responder_machine.specs.Setup.{RspSetup}
use Rattle.responder_machine.specs.Turn.{Turn, takes}
use Rattle.responder_machine.proofs.Codes.{asked-code}
use Rattle.responder_machine.proofs.Tests.{tests_are_false}
use Rattle.check_fetched_laws.proofs.GetAlike.{PlacesAlike, bytes_same, form_other, form_same, get_tests, long_same, pending_is, plain_same, refused_alike, refused_same, turns_same}
use Rattle.check_fetched_laws.proofs.TurnsBoth.{Settles, clear_both, common_both, given_both, handle_both, phase_both}
use Rattle.capture_machine.proofs.ChunksGiven.{Chunked}
use Rattle.capture_machine.proofs.ChunksGiven.Chunked.{Gone, Given}
use Rattle.capture_machine.proofs.GetTells.{IsGet, transfer_of, turn_get}
use Rattle.capture_machine.specs.LargeAnswers.{with_large}

module _ (r : RspSetup) (m : List ℕ) (p o : Place) (f k : Free) (a : PlacesAlike p o) (reads : request_at p m ≡ request_at o m) where
  pub turn_at : (q : Place) (v : Free) (x : Option ErrorCode) → chunk_in (request_at q m) ≡ None → refusal r q m v ≡ x → turn_of r q m v ≡ turn_by r q m v x None
  unfolding turn_of
  turn_at q v x none is = ap (λ (y : Option ErrorCode). turn_by r q m v y (chunk_in (request_at q m))) is ∙ ap (turn_by r q m v x) none

  -- ---- No request.

  refused_at : (q : Place) (v : Free) (e : ErrorCode) → refused_form r q m ≡ Some e → turn_of r q m v ≡ refused_turn r q m v e
  unfolding turn_of refusal
  refused_at q v e is = ap (λ (x : Option ErrorCode). turn_by r q m v (option_or x (refused_contents r q m v)) (chunk_in (request_at q m))) is

  -- What is refused for its form, in which one test holds.
  pub misformed_same : (refused_form r p m ≡ None → ⊥) → turn_of r p m f ≡ turn_of r o m k
  misformed_same some = by_form (refused_form r p m) refl
    where
      by_form : (x : Option ErrorCode) → refused_form r p m ≡ x → turn_of r p m f ≡ turn_of r o m k
      by_form None is = absurd (some is)
      by_form (Some e) is = refused_at p f e is ∙ refused_alike r m p o f k a e (form_other r p m e is) ∙ sym (refused_at o k e (sym (form_same r p o m a reads) ∙ is))

  pub unread_same : request_at p m ≡ None → turn_of r p m f ≡ turn_of r o m k
  unfolding refused_form
  unread_same none = misformed_same (λ is.
      let test : is_none (request_at p m) ≡ false = tests_are_false (tests_of_form r p m) is 8 in
      absurd (false≢true (sym test ∙ ap (λ (q : Option RequestMessage). is_none q) none)))

  -- ---- GET_VERSION.

  module _ (asks : request_at p m ≡ Some GetVersion) where
    version_contents : (q : Place) (v : Free) → request_at q m ≡ Some GetVersion → refused_contents r q m v ≡ first_of_tests (get_tests false false (is_answer_too_long q (answer_bytes r q m v)) false)
    unfolding refused_contents
    version_contents q v is =
        ap (λ (y : Option RequestMessage). first_of_tests (
        (lacks_flag (place_terms q) (code_of m), UnsupportedRequest)
        ∷ (are_caps_refused r y, InvalidRequest)
        ∷ (is_offer_refused r y, InvalidRequest)
        ∷ (has_no_block r y, InvalidRequest)
        ∷ (is_exchange_refused r q y, InvalidRequest)
        ∷ (is_verify_wrong r q m y, DecryptError)
        ∷ (is_update_misplaced q y, UnexpectedRequest)
        ∷ (is_too_large (chunk_fault r q y), RequestTooLarge)
        ∷ (is_some (chunk_fault r q y), InvalidRequest)
        ∷ (is_get_refused q y, InvalidRequest)
        ∷ (is_answer_too_long q (answer_bytes r q m v), ResponseTooLarge)
        ∷ (code_of m == PSK_EXCHANGE && q.past_handshake == 4, SessionLimitExceeded)
        ∷ [])) is
        ∙ ap (λ (n : ℕ). first_of_tests (get_tests (lacks_flag (place_terms q) n) false (is_answer_too_long q (answer_bytes r q m v)) (n == PSK_EXCHANGE && q.past_handshake == 4))) (sym (asked-code q m GetVersion is))

    version_bytes : answer_bytes r p m f ≡ answer_bytes r o m k
    unfolding answer_bytes
    version_bytes = ap (answer_to r p m f) asks ∙ sym (ap (answer_to r o m k) (sym reads ∙ asks))

    version_refusal : refusal r p m f ≡ refusal r o m k
    unfolding refusal
    version_refusal =
        ap (λ (x : Option ErrorCode). option_or x (refused_contents r p m f)) (form_same r p o m a reads)
        ∙ ap (option_or (refused_form r o m)) (
        version_contents p f asks
        ∙ ap (λ (l : List ℕ). first_of_tests (get_tests false false (is_answer_too_long p l) false)) version_bytes
        ∙ ap (λ (b : Bool). first_of_tests (get_tests false false b false)) (long_same r m p o f k a (answer_bytes r o m k))
        ∙ sym (version_contents o k (sym reads ∙ asks)))

    version_same : f.handle ≡ k.handle → turn_of r p m f ≡ turn_of r o m k
    version_same handles = by_refusal (refusal r p m f) refl
      where
        by_refusal : (x : Option ErrorCode) → refusal r p m f ≡ x → turn_of r p m f ≡ turn_of r o m k
        by_refusal (Some e) is =
            turn_at p f (Some e) (ap chunk_in asks) is ∙ refused_same r m p o f k a e version_bytes ∙ sym (turn_at o k (Some e) (ap chunk_in (sym reads ∙ asks)) (sym version_refusal ∙ is))
        by_refusal None is =
            turn_at p f None (ap chunk_in asks) is ∙ plain_same r m p o f k a reads version_bytes handles ∙ sym (turn_at o k None (ap chunk_in (sym reads ∙ asks)) (sym version_refusal ∙ is))

  -- ---- By the request that it is.

  -- It has one of two codes.
  abbrev HasCode : Type 0
  HasCode = (code_of m ≡ CHUNK_GET) ⊎ (code_of m ≡ GET_VERSION)

  other_code : (n : ℕ) → HasCode → n ≡ code_of m → n ≢ CHUNK_GET → n ≢ GET_VERSION → ⊥
  other_code n (inl get) is not other = not (is ∙ get)
  other_code n (inr version) is not other = other (is ∙ version)

  by_request : (q : Option RequestMessage) → HasCode → request_at p m ≡ q → (takes CHUNK_GET (turn_of r p m f) ≡ true → answer_bytes r p m f ≡ answer_bytes r o m k) → f.handle ≡ k.handle → turn_of r p m f ≡ turn_of r o m k
  by_request None code is bytes handles = unread_same is
  by_request (Some GetVersion) code is bytes handles = version_same is handles
  by_request (Some (ChunkGet handle number)) code is bytes handles = turns_same r m handle number p o f k a is (sym reads ∙ is) bytes handles
  by_request (Some (GetCapabilities caps)) code is bytes handles = absurd (other_code _ code (asked-code p m _ is) (λ e. absurd (omega (arith, e))) (λ e. absurd (omega (arith, e))))
  by_request (Some (NegotiateAlgorithms offer)) code is bytes handles = absurd (other_code _ code (asked-code p m _ is) (λ e. absurd (omega (arith, e))) (λ e. absurd (omega (arith, e))))
  by_request (Some (GetMeasurements op)) code is bytes handles = absurd (other_code _ code (asked-code p m _ is) (λ e. absurd (omega (arith, e))) (λ e. absurd (omega (arith, e))))
  by_request (Some (PskExchange x)) code is bytes handles = absurd (other_code _ code (asked-code p m _ is) (λ e. absurd (omega (arith, e))) (λ e. absurd (omega (arith, e))))
  by_request (Some (PskFinish verify)) code is bytes handles = absurd (other_code _ code (asked-code p m _ is) (λ e. absurd (omega (arith, e))) (λ e. absurd (omega (arith, e))))
  by_request (Some Heartbeat) code is bytes handles = absurd (other_code _ code (asked-code p m _ is) (λ e. absurd (omega (arith, e))) (λ e. absurd (omega (arith, e))))
  by_request (Some (KeyUpdate op tag)) code is bytes handles = absurd (other_code _ code (asked-code p m _ is) (λ e. absurd (omega (arith, e))) (λ e. absurd (omega (arith, e))))
  by_request (Some EndSession) code is bytes handles = absurd (other_code _ code (asked-code p m _ is) (λ e. absurd (omega (arith, e))) (λ e. absurd (omega (arith, e))))
  by_request (Some (ChunkSend c)) code is bytes handles = absurd (other_code _ code (asked-code p m _ is) (λ e. absurd (omega (arith, e))) (λ e. absurd (omega (arith, e))))

  pub turn_same : HasCode → (takes CHUNK_GET (turn_of r p m f) ≡ true → answer_bytes r p m f ≡ answer_bytes r o m k) → f.handle ≡ k.handle → turn_of r p m f ≡ turn_of r o m k
  turn_same code bytes handles = by_request (request_at p m) code refl bytes handles

-- ---- The clear part, with the bytes of a large answer.

pub clear_places : (w v : List ℕ) (h : History) → Settles h → has_pending (clear_place (with_large None w h)) ≡ has_pending (clear_place (with_large None v h)) → PlacesAlike (clear_place (with_large None w h)) (clear_place (with_large None v h))
clear_places w v h settles pending =
    let both = clear_both w v h in
    let ts : List Turn = clear_turns (with_large None w h) in
    let us : List Turn = clear_turns (with_large None v h) in
    record {
      at = refl;
      phase = phase_both ts us both;
      stage = refl;
      common = common_both w v h settles;
      pending = pending;
      handle = handle_both ts us both;
      given = given_both ts us both;
    }

-- ---- Bytes that give the same chunk.

some_large : (transfer given : ℕ) (x : Option (List ℕ)) → is_some (still_pending transfer given x) ≡ true → x ≢ None
some_large transfer given None is none = false≢true is
some_large transfer given (Some l) is none = none-some l (sym none)

module _ (r : RspSetup) (m : List ℕ) (p o : Place) (f k : Free) (place : Option ℕ) (w v : List ℕ) (h : History) (a : PlacesAlike p o) (reads : request_at p m ≡ request_at o m) (one : Chunked p place w h) (other : Chunked o place v h) where
  large_here : (t : Turn) → IsGet p m t → Chunked p place w h → large_of p.turns ≡ Some w
  large_here t get (Gone none) = absurd (none-some get.whole (sym none ∙ get.large))
  large_here t get (Given large given parts) = large

  large_there : has_pending o ≡ true → Chunked o place v h → large_of o.turns ≡ Some v
  large_there pending (Gone none) = absurd (some_large (transfer_of o) (given_of o.turns) (large_of o.turns) pending none)
  large_there pending (Given large given parts) = large

  -- A turn of CHUNK_GET is answered by the same bytes.
  pub get_bytes : (t : Turn) → IsGet p m t → length w ≡ length v → (nth_chunk (transfer_of p) 0 w (given_of p.turns)).chunk ≡ (nth_chunk (transfer_of o) 0 v (given_of o.turns)).chunk → answer_bytes r p m f ≡ answer_bytes r o m k
  get_bytes t get size chunk =
      let pending : has_pending p ≡ true = ap (λ (x : Option (List ℕ)). is_some x) (pending_is p get.whole get.large get.more) in
      bytes_same r m p o f k t w v a get (large_here t get one) (large_there (sym a.pending ∙ pending) other) size chunk reads

  pub chunk_bytes : length w ≡ length v → (nth_chunk (transfer_of p) 0 w (given_of p.turns)).chunk ≡ (nth_chunk (transfer_of o) 0 v (given_of o.turns)).chunk → takes CHUNK_GET (turn_of r p m f) ≡ true → answer_bytes r p m f ≡ answer_bytes r o m k
  chunk_bytes size chunk gets = get_bytes (turn_of r p m f) (turn_get r p m f gets) size chunk
