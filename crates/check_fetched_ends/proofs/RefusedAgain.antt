-- A request in the clear that was refused is refused again, but for GET_MEASUREMENTS and PSK_EXCHANGE.
use Rattle.std.proofs.Common.{◌≡◌, ◌≢◌, ◌∙◌, ◌==◌, ◌&&◌, ℕ, List, [], ◌∷◌, refl, sym, ap, Bool, true, false, Option, Some, None, is_some, not, cond, ne_eqb}
use Rattle.std.specs.Option.{option_or}
use Rattle.responder_machine.proofs.Codes.{asked-code}
use Rattle.responder_machine.specs.Answer.{Free, answer_bytes, answer_of, answer_to, request_at}
use Rattle.responder_machine.specs.Handling.{chunk_in, refused_turn, turn_by, turn_of}
use Rattle.responder_machine.specs.History.{History, clear_turns, kept_of, negotiation_of, phase_of}
use Rattle.responder_machine.specs.History.Entry.{Clear, Dropped}
use Rattle.responder_machine.specs.May.{with_dropped}
use Rattle.responder_machine.specs.Place.{Place, clear_place, held_of, place_terms}
use Rattle.responder_machine.specs.Place.Where.{InClear}
use Rattle.responder_machine.specs.Refusal.{are_caps_refused, chunk_fault, code_of, has_no_block, is_answer_too_long, is_exchange_refused, is_get_refused, is_offer_refused, is_too_large, is_update_misplaced, is_verify_wrong, lacks_flag, refusal, refused_contents, refused_form}
use Rattle.responder_machine.specs.Responder.{is_repeat, kept_reply, on_clear}
use Rattle.responder_machine.specs.Responder.Outcome.{Same, Adds}
use Rattle.responder_machine.specs.Setup.{RspSetup}
use Rattle.responder_machine.specs.Turn.{Turn, handle_in}
use Rattle.spdm_basis.specs.Tests.{first_of_tests}
use Rattle.spdm_grammar.specs.Codes.{code_for}
use Rattle.spdm_grammar.specs.Message.{RequestMessage}
use Rattle.spdm_grammar.specs.Message.RequestMessage.{GetVersion, GetCapabilities, NegotiateAlgorithms, GetMeasurements, PskExchange, PskFinish, Heartbeat, KeyUpdate, EndSession, ChunkSend, ChunkGet}
use Rattle.spdm_grammar.specs.Responses.{canonical_response}
use Rattle.spdm_grammar.specs.declared.messages.error_code.ErrorCode.{ErrorCode}
use Rattle.spdm_grammar.specs.declared.messages.error_code.ErrorCode.TheVariants.{InvalidRequest, UnexpectedRequest, DecryptError, UnsupportedRequest, SessionLimitExceeded, ResponseTooLarge, RequestTooLarge}
use Rattle.spdm_grammar.specs.declared.names.request_code.TheConstants.{GET_MEASUREMENTS, PSK_EXCHANGE}
use Rattle.spdm_machine.specs.Bodies.{clear_body}
use Rattle.spdm_machine.specs.Keys.{Draw}
use Rattle.check_laws.specs.AnswersShown.{is_whole}
use Rattle.capture_machine.specs.Rounds.{no_draw}
use Rattle.check_fetched_ends.specs.RefusedAgain.{NoneLargeAgain, RefusedAgain, behind_refused}

-- ---- The place.

-- That of these turns, with so many established sessions.
abbrev place_of : List Turn → ℕ → Place
place_of turns n = record {
  at = InClear;
  phase = phase_of turns;
  turns = turns;
  negotiation = negotiation_of turns;
  events = [];
  past_handshake = n;
}

turns_same : (ids : List ℕ) (g : History) → clear_turns (with_dropped g ids) ≡ clear_turns g
turns_same [] g = refl
turns_same (id ∷ ids) g = turns_same ids (Dropped id ∷ g)

-- The tests of contents, by the request.
abbrev tests_by : RspSetup → Place → List ℕ → (long full : Bool) → Option RequestMessage → List (Bool × ErrorCode)
tests_by r p m long full q =
    (lacks_flag (place_terms p) (code_of m), UnsupportedRequest)
    ∷ (are_caps_refused r q, InvalidRequest)
    ∷ (is_offer_refused r q, InvalidRequest)
    ∷ (has_no_block r q, InvalidRequest)
    ∷ (is_exchange_refused r p q, InvalidRequest)
    ∷ (is_verify_wrong r p m q, DecryptError)
    ∷ (is_update_misplaced p q, UnexpectedRequest)
    ∷ (is_too_large (chunk_fault r p q), RequestTooLarge)
    ∷ (is_some (chunk_fault r p q), InvalidRequest)
    ∷ (is_get_refused p q, InvalidRequest)
    ∷ (long, ResponseTooLarge)
    ∷ (full, SessionLimitExceeded)
    ∷ []

abbrev refusal_by : RspSetup → Place → List ℕ → (long full : Bool) → Option ErrorCode
refusal_by r p m long full = option_or (refused_form r p m) (first_of_tests (tests_by r p m long full (request_at p m)))

refusal_is : (r : RspSetup) (p : Place) (m : List ℕ) (f : Free) → refusal r p m f ≡ refusal_by r p m (is_answer_too_long p (answer_bytes r p m f)) (code_of m == PSK_EXCHANGE && p.past_handshake == 4)
unfolding refusal refused_contents
refusal_is r p m f = refl

-- ---- Behind a turn that was refused.

module _ (r : RspSetup) (h : History) (m : List ℕ) (f k : Free) (e : ErrorCode) (n : ℕ) where
  abbrev p : Place
  p = clear_place h

  abbrev t : Turn
  t = refused_turn r p m f e

  abbrev again : Place
  again = place_of (t ∷ clear_turns h) n

  form_again : refused_form r again m ≡ refused_form r p m
  unfolding refused_form
  form_again = refl

  tests_again : (long full : Bool) (q : Option RequestMessage) → tests_by r again m long full q ≡ tests_by r p m long full q
  tests_again long full None = refl
  tests_again long full (Some GetVersion) = refl
  tests_again long full (Some (GetCapabilities caps)) = refl
  tests_again long full (Some (NegotiateAlgorithms offer)) = refl
  tests_again long full (Some (GetMeasurements op)) = refl
  tests_again long full (Some (PskExchange x)) = refl
  tests_again long full (Some (PskFinish verify)) = refl
  tests_again long full (Some Heartbeat) = refl
  tests_again long full (Some (KeyUpdate op tag)) = refl
  tests_again long full (Some EndSession) = refl
  tests_again long full (Some (ChunkSend chunk)) = refl
  tests_again long full (Some (ChunkGet handle number)) = refl

  module _ (measures : code_of m ≢ GET_MEASUREMENTS) (exchange : code_of m ≢ PSK_EXCHANGE) where
    bytes_by : (q : Option RequestMessage) → request_at p m ≡ q → answer_to r again m k q ≡ answer_to r p m f q
    bytes_by None is = refl
    bytes_by (Some GetVersion) is = refl
    bytes_by (Some (GetCapabilities caps)) is = refl
    bytes_by (Some (NegotiateAlgorithms offer)) is = refl
    bytes_by (Some (GetMeasurements op)) is = absurd (measures (sym (asked-code p m (GetMeasurements op) is)))
    bytes_by (Some (PskExchange x)) is = absurd (exchange (sym (asked-code p m (PskExchange x) is)))
    bytes_by (Some (PskFinish verify)) is = refl
    bytes_by (Some Heartbeat) is = refl
    bytes_by (Some (KeyUpdate op tag)) is = refl
    bytes_by (Some EndSession) is = refl
    bytes_by (Some (ChunkSend chunk)) is = refl
    bytes_by (Some (ChunkGet handle number)) is = refl

    bytes_again : answer_bytes r again m k ≡ answer_bytes r p m f
    unfolding answer_bytes
    bytes_again = bytes_by (request_at p m) refl

    refusal_again : refusal r again m k ≡ refusal r p m f
    refusal_again =
        let none : (code_of m == PSK_EXCHANGE) ≡ false = ne_eqb (code_of m) PSK_EXCHANGE exchange in
        let long : Bool = is_answer_too_long p (answer_bytes r p m f) in
        let full : Bool = code_of m == PSK_EXCHANGE && p.past_handshake == 4 in
        let same : (code_of m == PSK_EXCHANGE && n == 4) ≡ full = ap (λ (b : Bool). b && n == 4) none ∙ sym (ap (λ (b : Bool). b && p.past_handshake == 4) none) in
        refusal_is r again m k ∙ ap (λ (l : List ℕ). refusal_by r again m (is_answer_too_long again l) (code_of m == PSK_EXCHANGE && n == 4)) bytes_again ∙ ap (refusal_by r again m long) same
        ∙ ap (λ (o : Option ErrorCode). option_or o (first_of_tests (tests_by r again m long full (request_at p m)))) form_again
        ∙ ap (λ (l : List (Bool × ErrorCode)). option_or (refused_form r p m) (first_of_tests l)) (tests_again long full (request_at p m)) ∙ sym (refusal_is r p m f)

-- ---- The laws.

refused_is : (r : RspSetup) (p : Place) (m : List ℕ) (f : Free) (e : ErrorCode) → refusal r p m f ≡ Some e → turn_of r p m f ≡ refused_turn r p m f e
unfolding turn_of
refused_is r p m f e is = ap (λ (o : Option ErrorCode). turn_by r p m f o (chunk_in (request_at p m))) is

place_is : (r : RspSetup) (h : History) (tag : ℕ) (m : List ℕ) (f : Free) (d : Draw) (ids : List ℕ) (e : ErrorCode) → refusal r (clear_place h) m f ≡ Some e
    → clear_place (behind_refused r h tag m f d ids) ≡ place_of (refused_turn r (clear_place h) m f e ∷ clear_turns h) (held_of (behind_refused r h tag m f d ids))
place_is r h tag m f d ids e is =
    let n : ℕ = held_of (behind_refused r h tag m f d ids) in
    ap (λ (l : List Turn). place_of l n) (turns_same ids (Clear tag (turn_of r (clear_place h) m f) d ∷ h)) ∙ ap (λ (t : Turn). place_of (t ∷ clear_turns h) n) (refused_is r (clear_place h) m f e is)

pub refused_again : RefusedAgain
refused_again r h tag m f k d ids e measures exchange is =
    ap (λ (p : Place). refusal r p m k) (place_is r h tag m f d ids e is) ∙ refusal_again r h m f k e (held_of (behind_refused r h tag m f d ids)) measures exchange ∙ is

whole_clear : (r : RspSetup) (g : History) (tag : ℕ) (m : List ℕ) (k : Free) (e : ErrorCode) → refusal r (clear_place g) m k ≡ Some e → is_whole (on_clear r g tag m k no_draw) ≡ true
unfolding on_clear
whole_clear r g tag m k e is = by_repeat (is_repeat (kept_of g) tag m)
  where
    by_repeat : (b : Bool) → is_whole (cond b (Same (clear_body (kept_reply (kept_of g)))) (Adds (Clear tag (turn_of r (clear_place g) m k) no_draw))) ≡ true
    by_repeat true = refl
    by_repeat false = ap (λ (t : Turn). not (is_some (handle_in t.effect))) (refused_is r (clear_place g) m k e is)

pub none_large_again : NoneLargeAgain
none_large_again r h tag m f k d ids e measures exchange is =
    whole_clear r (behind_refused r h tag m f d ids) tag m k e (refused_again r h tag m f k d ids e measures exchange is)
