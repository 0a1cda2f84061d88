-- A turn that brings LargeResponse depends on no id, and on how many sessions are held only where these are four.
use Rattle.std.proofs.Common.{◌≡◌, ◌+◌, ◌==◌, ◌&&◌, ◌||◌, ℕ, List, [], ◌∷◌, ◌++◌, refl, sym, ap, ◌∙◌, subst, length, drop, take, Bool, true, false, Option, Some, None, is_some, cond}
use Rattle.std.specs.Prelude.{nat_lt, not}
use Rattle.std.specs.Option.{option_or}
use Rattle.std.proofs.lemmas.Bool.{false≢true}
use Rattle.chunking.specs.Collecting.{joined_with, under_way}
use Rattle.responder_machine.proofs.Tests.{contents_shown}
use Rattle.responder_machine.specs.Answer.{Free, answer_bytes, request_at}
use Rattle.responder_machine.specs.Handling.{acknowledged, carried_turn, chunk_in, effect_of, goes_large, large_response, last_chunk_turn, request_effect, request_reply, taken_chunk, turn_by, turn_of}
use Rattle.responder_machine.specs.LargeMessages.{chunks_of}
use Rattle.responder_machine.specs.Place.{Place, Where, inside, place_terms}
use Rattle.responder_machine.specs.Place.Where.{InClear, InChunks, InSession}
use Rattle.responder_machine.specs.Refusal.{are_caps_refused, bytes_round, chunk_fault, code_of, has_no_block, is_allowed, is_answer_too_long, is_exchange_refused, is_get_refused, is_offer_refused, is_too_large, is_update_misplaced, is_verify_wrong, lacks_flag, refusal, refused_contents, refused_form, sizes_are_known, tests_of_form}
use Rattle.responder_machine.specs.Setup.{RspSetup}
use Rattle.responder_machine.specs.Turn.Effect.{NoEffect}
use Rattle.responder_machine.specs.Turn.{Turn, handle_in}
use Rattle.spdm_basis.specs.Tests.{first_of_tests}
use Rattle.spdm_grammar.specs.Message.{ChunkMessage, RequestMessage}
use Rattle.spdm_grammar.specs.Message.RequestMessage.{GetVersion, GetCapabilities, NegotiateAlgorithms, GetMeasurements, PskExchange, PskFinish, Heartbeat, KeyUpdate, EndSession, ChunkSend, ChunkGet}
use Rattle.spdm_grammar.specs.declared.messages.error_code.ErrorCode.{ErrorCode}
use Rattle.spdm_grammar.specs.declared.messages.error_code.ErrorCode.TheVariants.{InvalidRequest, UnexpectedRequest, DecryptError, UnsupportedRequest, SessionLimitExceeded, ResponseTooLarge, RequestTooLarge}
use Rattle.spdm_grammar.specs.declared.names.request_code.TheConstants.{PSK_EXCHANGE}
use Rattle.check_laws.proofs.AnswerLengths.{exchange_length}
use Rattle.check_laws.proofs.LeastValues.{size_of}
use Rattle.capture_machine.specs.CapturedAnswers.{answer_at}

-- The place with so many established sessions.
abbrev pub beside : Place → ℕ → Place
beside p n = record p { past_handshake = n }

-- The values with another id.
abbrev pub named : Free → ℕ → Free
named f id = record f { id = id }

-- Where four are held there, four are held here.
abbrev pub HasRoom : Place → ℕ → Type 0
HasRoom p n = (n == 4) ≡ true → (p.past_handshake == 4) ≡ true

-- ---- Lengths.

module _ (r : RspSetup) (p : Place) (n : ℕ) (m : List ℕ) (f : Free) (id : ℕ) where
  size_moved : (o : Option RequestMessage) → size_of r (beside p n) m o (named f id) ≡ size_of r p m o f
  size_moved None = refl
  size_moved (Some (PskExchange x)) = exchange_length r (beside p n) m (named f id) x ∙ sym (exchange_length r p m f x)
  size_moved (Some (GetMeasurements op)) = refl
  size_moved (Some GetVersion) = refl
  size_moved (Some (GetCapabilities caps)) = refl
  size_moved (Some (NegotiateAlgorithms offer)) = refl
  size_moved (Some (PskFinish verify)) = refl
  size_moved (Some Heartbeat) = refl
  size_moved (Some (KeyUpdate op tag)) = refl
  size_moved (Some EndSession) = refl
  size_moved (Some (ChunkSend chunk)) = refl
  size_moved (Some (ChunkGet handle number)) = refl

  pub length_moved : length (answer_bytes r (beside p n) m (named f id)) ≡ length (answer_bytes r p m f)
  unfolding answer_bytes
  length_moved = size_moved (request_at p m)

pub at_moved : (r : RspSetup) (p : Place) (n : ℕ) (m : List ℕ) (f : Free) (id : ℕ) (c : Option ChunkMessage) → length (answer_at r (beside p n) m (named f id) c) ≡ length (answer_at r p m f c)
at_moved r p n m f id None = length_moved r p n m f id
at_moved r p n m f id (Some c) = length_moved r (inside p) n (joined_with (under_way (chunks_of p.turns)) c) f id

-- ---- Refusals.

allowed_moved : (w : Where) (p : Place) (n c : ℕ) → is_allowed w (beside p n) c ≡ is_allowed w p c
allowed_moved InClear p n c = refl
allowed_moved InChunks p n c = refl
allowed_moved InSession p n c = refl

form_moved : (r : RspSetup) (p : Place) (n : ℕ) (m : List ℕ) → refused_form r (beside p n) m ≡ refused_form r p m
unfolding refused_form
form_moved r p n m =
    ap (λ (b : Bool). first_of_tests (take 6 (tests_of_form r p m) ++ (not b, UnexpectedRequest) ∷ drop 7 (tests_of_form r p m))) (allowed_moved p.at p n (code_of m))

-- The tests of contents, by the request.
abbrev tests_by : RspSetup → Place → List ℕ → (long full : Bool) → Option RequestMessage → List (Bool × ErrorCode)
tests_by r p m long full q =
    (lacks_flag (place_terms p) (code_of m), UnsupportedRequest)
    ∷ (are_caps_refused r q, InvalidRequest)
    ∷ (is_offer_refused r q, InvalidRequest)
    ∷ (has_no_block r q, InvalidRequest)
    ∷ (is_exchange_refused r p q, InvalidRequest)
    ∷ (is_verify_wrong r p m q, DecryptError)
    ∷ (is_update_misplaced p q, UnexpectedRequest)
    ∷ (is_too_large (chunk_fault r p q), RequestTooLarge)
    ∷ (is_some (chunk_fault r p q), InvalidRequest)
    ∷ (is_get_refused p q, InvalidRequest)
    ∷ (long, ResponseTooLarge)
    ∷ (full, SessionLimitExceeded)
    ∷ []

module _ (r : RspSetup) (p : Place) (n : ℕ) (m : List ℕ) (long full : Bool) where
  tests_moved : (q : Option RequestMessage) → tests_by r (beside p n) m long full q ≡ tests_by r p m long full q
  tests_moved None = refl
  tests_moved (Some GetVersion) = refl
  tests_moved (Some (GetCapabilities caps)) = refl
  tests_moved (Some (NegotiateAlgorithms offer)) = refl
  tests_moved (Some (GetMeasurements op)) = refl
  tests_moved (Some (PskExchange x)) = refl
  tests_moved (Some (PskFinish verify)) = refl
  tests_moved (Some Heartbeat) = refl
  tests_moved (Some (KeyUpdate op tag)) = refl
  tests_moved (Some EndSession) = refl
  tests_moved (Some (ChunkSend chunk)) = refl
  tests_moved (Some (ChunkGet handle number)) = refl

abbrev refusal_by : RspSetup → Place → List ℕ → (long full : Bool) → Option ErrorCode
refusal_by r p m long full = option_or (refused_form r p m) (first_of_tests (tests_by r p m long full (request_at p m)))

abbrev is_full : Place → List ℕ → ℕ → Bool
is_full p m n = code_of m == PSK_EXCHANGE && n == 4

refusal_is : (r : RspSetup) (p : Place) (m : List ℕ) (f : Free) → refusal r p m f ≡ refusal_by r p m (is_answer_too_long p (answer_bytes r p m f)) (is_full p m p.past_handshake)
unfolding refusal refused_contents
refusal_is r p m f = refl

not_full : (a x y : Bool) → (x ≡ true → y ≡ true) → (a && y) ≡ false → (a && x) ≡ false
not_full false x y room none = refl
not_full true false y room none = refl
not_full true true y room none = absurd (false≢true (sym none ∙ room refl))

-- What is taken here is taken there.
taken_moved : (r : RspSetup) (p : Place) (n : ℕ) (m : List ℕ) (f : Free) (id : ℕ) → HasRoom p n → refusal r p m f ≡ None → refusal r (beside p n) m (named f id) ≡ None
taken_moved r p n m f id room none =
    let full : is_full p m p.past_handshake ≡ false = contents_shown r p m f none 11 in
    let there : is_full p m n ≡ false = not_full (code_of m == PSK_EXCHANGE) (n == 4) (p.past_handshake == 4) room full in
    let sizes : ℕ → Bool = λ k.
    sizes_are_known p.phase
    && (nat_lt (place_terms p).common.to_requester.max k || (not (place_terms p).common.chunk && nat_lt (place_terms p).common.to_requester.transfer (bytes_round p.at + k))) in
    let brief : is_answer_too_long (beside p n) (answer_bytes r (beside p n) m (named f id)) ≡ is_answer_too_long p (answer_bytes r p m f) = ap sizes (length_moved r p n m f id) in
    let long : Bool = is_answer_too_long p (answer_bytes r p m f) in
    refusal_is r (beside p n) m (named f id)
    ∙ ap (λ (b : Bool). refusal_by r (beside p n) m b (is_full p m n)) brief
    ∙ ap (λ (b : Bool). refusal_by r (beside p n) m long b) (there ∙ sym full)
    ∙ ap (λ (o : Option ErrorCode). option_or o (first_of_tests (tests_by r (beside p n) m long (is_full p m p.past_handshake) (request_at p m)))) (form_moved r p n m)
    ∙ ap (λ (l : List (Bool × ErrorCode)). option_or (refused_form r p m) (first_of_tests l)) (tests_moved r p n m long (is_full p m p.past_handshake) (request_at p m))
    ∙ sym (refusal_is r p m f) ∙ none

-- ---- Turns.

-- The second brings LargeResponse too, and has the same reply.
pub record Moves (t u : Turn) : Type 0 where
  pub large : is_some (handle_in u.effect) ≡ true
  pub reply : u.reply ≡ t.reply

effect_large : (o : Option RequestMessage) (text answer : List ℕ) (b : Bool) (k : ℕ) → is_some (handle_in (effect_of o text answer (cond b (Some k) None))) ≡ true
    → (b ≡ true) × ((other : List ℕ) → is_some (handle_in (effect_of o text other (Some k))) ≡ true)
effect_large None text answer b k large = absurd (false≢true large)
effect_large (Some asked) text answer true k large = (refl, λ other. refl)
effect_large (Some asked) text answer false k large = absurd (false≢true large)

request_moved : (r : RspSetup) (p : Place) (n : ℕ) (m : List ℕ) (f : Free) (id : ℕ) → is_some (handle_in (request_effect r p m f)) ≡ true
    → (is_some (handle_in (request_effect r (beside p n) m (named f id))) ≡ true) × (request_reply r (beside p n) m (named f id) ≡ request_reply r p m f)
request_moved r p n m f id large =
    let here : List ℕ = answer_bytes r p m f in
    let there : List ℕ = answer_bytes r (beside p n) m (named f id) in
    let known = effect_large (request_at p m) m here (goes_large p here) f.handle large in
    let same : goes_large (beside p n) there ≡ goes_large p here =
    ap (λ (k : ℕ). sizes_are_known p.phase && nat_lt (place_terms p).common.to_requester.transfer (bytes_round p.at + k)) (length_moved r p n m f id) in (
      ap (λ (b : Bool). is_some (handle_in (effect_of (request_at p m) m there (cond b (Some f.handle) None)))) (same ∙ known.0) ∙ known.1 there,
      ap (λ (b : Bool). cond b (large_response f.handle) there) (same ∙ known.0) ∙ sym (ap (λ (b : Bool). cond b (large_response f.handle) here) known.0),
    )

module _ (r : RspSetup) (p : Place) (n : ℕ) (m : List ℕ) (f : Free) (id : ℕ) (room : HasRoom p n) where
  abbrev there : Place
  there = beside p n

  abbrev v : Free
  v = named f id

  carried_moved : (c : ChunkMessage) (whole : List ℕ) (o : Option ErrorCode) → refusal r (inside p) whole f ≡ o → is_some (handle_in (carried_turn r (inside p) m f c whole o).effect) ≡ true
      → Moves (carried_turn r (inside p) m f c whole o) (last_chunk_turn r (inside there) m v c whole)
  carried_moved c whole (Some e) is large = absurd (false≢true large)
  carried_moved c whole None is large =
      let known = request_moved r (inside p) n whole f id large in
      subst (λ (o : Option ErrorCode). Moves (carried_turn r (inside p) m f c whole None) (carried_turn r (inside there) m v c whole o)) (sym (taken_moved r (inside p) n whole f id room is))
      (record { large = known.0; reply = ap (acknowledged c) known.1 })

  chunk_moved : (c : ChunkMessage) (whole : List ℕ) (b : Bool) → is_some (handle_in (cond b (last_chunk_turn r (inside p) m f c whole) (taken_chunk m c NoEffect [])).effect) ≡ true
      → Moves (cond b (last_chunk_turn r (inside p) m f c whole) (taken_chunk m c NoEffect [])) (cond b (last_chunk_turn r (inside there) m v c whole) (taken_chunk m c NoEffect []))
  chunk_moved c whole true large = carried_moved c whole (refusal r (inside p) whole f) refl large
  chunk_moved c whole false large = absurd (false≢true large)

  taken_turn : (c : Option ChunkMessage) → is_some (handle_in (turn_by r p m f None c).effect) ≡ true → Moves (turn_by r p m f None c) (turn_by r there m v None c)
  taken_turn None large = (let known = request_moved r p n m f id large in record { large = known.0; reply = known.1 })
  taken_turn (Some c) large = chunk_moved c (joined_with (under_way (chunks_of p.turns)) c) c.last large

  by_moved : (o : Option ErrorCode) (c : Option ChunkMessage) → refusal r p m f ≡ o → is_some (handle_in (turn_by r p m f o c).effect) ≡ true → Moves (turn_by r p m f o c) (turn_by r there m v (refusal r there m v) c)
  by_moved (Some e) c is large = absurd (false≢true large)
  by_moved None c is large = subst (λ (o : Option ErrorCode). Moves (turn_by r p m f None c) (turn_by r there m v o c)) (sym (taken_moved r p n m f id room is)) (taken_turn c large)

  pub turn_moved : is_some (handle_in (turn_of r p m f).effect) ≡ true → Moves (turn_of r p m f) (turn_of r there m v)
  unfolding turn_of
  turn_moved large = by_moved (refusal r p m f) (chunk_in (request_at p m)) refl large
