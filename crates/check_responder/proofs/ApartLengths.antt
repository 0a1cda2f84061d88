-- An answer that is apart from one with PSK_EXCHANGE_RSP carries PSK_EXCHANGE_RSP too.
use Rattle.std.proofs.Common.{◌≡◌, ◌<◌, ◌≤◌, ◌+◌, ◌-◌, ◌==◌, ◌&&◌, ◌||◌, not, ℕ, zero, suc, List, [], ◌∷◌, ◌++◌, refl, sym, ap, ◌∙◌, length, take, drop, Bool, true, false, Option, Some, None, cond, arith, length-append, eqb-true}
use Rattle.std.specs.Prelude.{bytes_eq, slice_index}
use Rattle.std.proofs.lemmas.Bool.{false≢true}
use Rattle.std.proofs.lemmas.Slice.Eq.{bytes_eq-Decides}
use Rattle.key_schedule.specs.declared.direction.Direction.TheVariants as direction
use Rattle.responder_machine.proofs.VerifyLength.{length_verify}
use Rattle.responder_machine.specs.Answer.{Free, answer_bytes, answer_of, answer_to, exchange_answer, request_at, summary_answer, t1_with}
use Rattle.responder_machine.specs.Handling.{acknowledged, carried_turn, chunk_in, error_bytes, goes_large, large_response, request_reply, taken_chunk, turn_by, turn_of}
use Rattle.responder_machine.specs.Place.{Place, inside, place_terms}
use Rattle.responder_machine.specs.Refusal.{refusal}
use Rattle.responder_machine.specs.Setup.{RspSetup}
use Rattle.responder_machine.specs.Turn.{Turn}
use Rattle.responder_machine.specs.Turn.Effect.{NoEffect}
use Rattle.spdm_basis.proofs.Bools.{and_first, and_second}
use Rattle.spdm_grammar.specs.Message.{ChunkMessage, ExchangeMessage, RequestMessage}
use Rattle.spdm_grammar.specs.Message.RequestMessage.{GetVersion, GetCapabilities, NegotiateAlgorithms, GetMeasurements, PskExchange, PskFinish, Heartbeat, KeyUpdate, EndSession, ChunkSend, ChunkGet}
use Rattle.spdm_grammar.specs.Responses.{canonical_response}
use Rattle.spdm_grammar.specs.declared.messages.error_code.ErrorCode.{ErrorCode}
use Rattle.spdm_grammar.specs.declared.names.error_number.TheConstants.{LARGE_RESPONSE}
use Rattle.spdm_grammar.specs.declared.names.response_code.TheConstants.{CHUNK_SEND_ACK, ERROR, PSK_EXCHANGE_RSP}
use Rattle.spdm_machine.specs.Bodies.{clear_body}
use Rattle.spdm_machine.specs.Keys.{verify_data}
use Rattle.spdm_machine.specs.Terms.{hash_len}
use Rattle.check_responder.specs.JudgedResponder.{shows_large}
use Rattle.check_laws.specs.DropsShown.{response_of}
use Rattle.capture_machine.specs.Difference.{carries_exchange, is_apart}

-- With PSK_EXCHANGE_RSP it has ten bytes more than its verify data.
abbrev pub IsOver : Place → List ℕ → Type 0
IsOver p body = carries_exchange body ≡ true → hash_len (place_terms p) + 9 < length body

-- The context that is chosen is long enough.
abbrev pub IsFit : Place → Free → Type 0
IsFit p f = hash_len (place_terms p) ≤ length f.context

-- ---- One message.

exchange_over : (r : RspSetup) (p : Place) (m : List ℕ) (f : Free) (x : ExchangeMessage) → IsFit p f → IsOver p (clear_body (canonical_response (exchange_answer r p m f x)))
exchange_over r p m f x fit is =
    let text : List ℕ = t1_with r p m f x in
    let proof : List ℕ = verify_data (place_terms p).choice r.psk text direction.Response text in
    let verify = length_verify (place_terms p).choice r.psk text direction.Response text in
    let summary : List ℕ = summary_answer r p x.summary in
    let one = length-append (summary ++ f.context ++ f.exchange_opaque) proof in
    let two = length-append (summary ++ f.context) f.exchange_opaque in
    let three = length-append summary f.context in
    omega (arith, fit)

answer_over : (r : RspSetup) (p : Place) (m : List ℕ) (f : Free) (asked : RequestMessage) → IsFit p f → IsOver p (clear_body (canonical_response (answer_of r p m f asked)))
answer_over r p m f GetVersion fit = λ is. absurd (false≢true is)
answer_over r p m f (GetCapabilities caps) fit = λ is. absurd (false≢true is)
answer_over r p m f (NegotiateAlgorithms offer) fit = λ is. absurd (false≢true is)
answer_over r p m f (GetMeasurements op) fit = λ is. absurd (false≢true is)
answer_over r p m f (PskExchange x) fit = exchange_over r p m f x fit
answer_over r p m f (PskFinish verify) fit = λ is. absurd (false≢true is)
answer_over r p m f Heartbeat fit = λ is. absurd (false≢true is)
answer_over r p m f (KeyUpdate op tag) fit = λ is. absurd (false≢true is)
answer_over r p m f EndSession fit = λ is. absurd (false≢true is)
answer_over r p m f (ChunkSend chunk) fit = λ is. absurd (false≢true is)
answer_over r p m f (ChunkGet handle number) fit = λ is. absurd (false≢true is)

to_over : (r : RspSetup) (p : Place) (m : List ℕ) (f : Free) (o : Option RequestMessage) → IsFit p f → IsOver p (clear_body (answer_to r p m f o))
to_over r p m f None fit = λ is. absurd (false≢true is)
to_over r p m f (Some asked) fit = answer_over r p m f asked fit

bytes_over : (r : RspSetup) (p : Place) (m : List ℕ) (f : Free) → IsFit p f → IsOver p (clear_body (answer_bytes r p m f))
unfolding answer_bytes
bytes_over r p m f fit = to_over r p m f (request_at p m) fit

either_over : (p : Place) (b : Bool) (handle : ℕ) (answer : List ℕ) → IsOver p (clear_body answer) → IsOver p (clear_body (cond b (large_response handle) answer))
either_over p true handle answer over = λ is. absurd (false≢true is)
either_over p false handle answer over = over

reply_over : (r : RspSetup) (p : Place) (m : List ℕ) (f : Free) → IsFit p f → IsOver p (clear_body (request_reply r p m f))
reply_over r p m f fit = either_over p (goes_large p (answer_bytes r p m f)) f.handle (answer_bytes r p m f) (bytes_over r p m f fit)

error_over : (r : RspSetup) (p q : Place) (m : List ℕ) (f : Free) (e : ErrorCode) → IsOver q (clear_body (error_bytes r p m f e))
error_over r p q m f e = λ is. absurd (false≢true is)

acked_over : (p : Place) (c : ChunkMessage) (response : List ℕ) → IsOver p (clear_body response) → IsOver p (clear_body (acknowledged c response))
acked_over p c response over is =
    let inner : carries_exchange (clear_body response) ≡ true = ap (λ (b : Bool). b || (slice_index (clear_body response) 2 == CHUNK_SEND_ACK && slice_index (clear_body response) 8 == PSK_EXCHANGE_RSP)) is in
    let more = over inner in
    omega (arith, more)

carried_over : (r : RspSetup) (p : Place) (m : List ℕ) (f : Free) (c : ChunkMessage) (whole : List ℕ) (o : Option ErrorCode) → IsFit p f → IsOver p (clear_body (carried_turn r p m f c whole o).reply)
carried_over r p m f c whole (Some e) fit = acked_over p c (error_bytes r p whole f e) (error_over r p p whole f e)
carried_over r p m f c whole None fit = acked_over p c (request_reply r p whole f) (reply_over r p whole f fit)

picked_over : (p : Place) (b : Bool) (t u : Turn) → IsOver p (clear_body t.reply) → IsOver p (clear_body u.reply) → IsOver p (clear_body (cond b t u).reply)
picked_over p true t u one other = one
picked_over p false t u one other = other

by_over : (r : RspSetup) (p : Place) (m : List ℕ) (f : Free) (o : Option ErrorCode) (c : Option ChunkMessage) → IsFit p f → IsOver p (clear_body (turn_by r p m f o c).reply)
by_over r p m f (Some e) c fit = error_over r p p m f e
by_over r p m f None None fit = reply_over r p m f fit
by_over r p m f None (Some c) fit = picked_over p c.last _ (taken_chunk m c NoEffect []) (carried_over r (inside p) m f c _ _ fit) (acked_over p c [] (λ is. absurd (false≢true is)))

pub turn_over : (r : RspSetup) (p : Place) (m : List ℕ) (f : Free) → IsFit p f → IsOver p (clear_body (turn_of r p m f).reply)
unfolding turn_of
turn_over r p m f fit = by_over r p m f (refusal r p m f) (chunk_in (request_at p m)) fit

-- ---- Bodies that are apart begin alike.

taken_at : (k n : ℕ) (xs : List ℕ) → n < k → slice_index (take k xs) n ≡ slice_index xs n
taken_at zero n xs less = absurd (omega (arith, less))
taken_at (suc k) n [] less = refl
taken_at (suc k) zero (x ∷ xs) less = refl
taken_at (suc k) (suc n) (x ∷ xs) less = taken_at k n xs (omega (arith, less))

pub apart_at : (size n : ℕ) (one other : List ℕ) → size + n < length one → is_apart size one other ≡ true → slice_index one n ≡ slice_index other n
apart_at size n one other more apart =
    let here : (length one == length other && not (bytes_eq one other)) ≡ true = and_first _ (bytes_eq (take (length one - size) one) (take (length other - size) other)) apart in
    let long : length one ≡ length other = eqb-true (length one) (length other) (and_first (length one == length other) _ here) in
    let front : take (length one - size) one ≡ take (length other - size) other = (bytes_eq-Decides _ _).0 (and_second (length one == length other && not (bytes_eq one other)) _ apart) in
    sym (taken_at (length one - size) n one (omega (arith, more))) ∙ ap (λ (l : List ℕ). slice_index l n) front ∙ taken_at (length other - size) n other (omega (arith, more, long))

dropped : (b : List ℕ) → slice_index (drop 6 b) 1 ≡ slice_index b 7
dropped [] = refl
dropped (u ∷ []) = refl
dropped (u ∷ v ∷ []) = refl
dropped (u ∷ v ∷ w ∷ []) = refl
dropped (u ∷ v ∷ w ∷ x ∷ []) = refl
dropped (u ∷ v ∷ w ∷ x ∷ y ∷ []) = refl
dropped (u ∷ v ∷ w ∷ x ∷ y ∷ z ∷ rest) = refl

-- A message with PSK_EXCHANGE_RSP, plain or in an acknowledgement, is no LargeResponse.
begins_exchange : (code inner : ℕ) (b : List ℕ) → slice_index b 1 ≡ code → slice_index b 7 ≡ inner → (code == PSK_EXCHANGE_RSP || (code == CHUNK_SEND_ACK && inner == PSK_EXCHANGE_RSP)) ≡ true → shows_large (response_of b) ≡ false
begins_exchange code inner b is in_is carries = by_code (code == PSK_EXCHANGE_RSP) (code == CHUNK_SEND_ACK) refl refl carries
  where
    by_code : (x y : Bool) → (code == PSK_EXCHANGE_RSP) ≡ x → (code == CHUNK_SEND_ACK) ≡ y → (x || (y && inner == PSK_EXCHANGE_RSP)) ≡ true → shows_large (response_of b) ≡ false
    by_code true y one two carries =
        let at : slice_index b 1 ≡ PSK_EXCHANGE_RSP = is ∙ eqb-true code PSK_EXCHANGE_RSP one in
        let plain : response_of b ≡ b = ap (λ (n : ℕ). cond (n == CHUNK_SEND_ACK) (drop 6 b) b) at in
        ap shows_large plain ∙ ap (λ (n : ℕ). n == ERROR && slice_index b 2 == LARGE_RESPONSE) at
    by_code false true one two carries =
        let at : slice_index b 1 ≡ CHUNK_SEND_ACK = is ∙ eqb-true code CHUNK_SEND_ACK two in
        let acked : response_of b ≡ drop 6 b = ap (λ (n : ℕ). cond (n == CHUNK_SEND_ACK) (drop 6 b) b) at in
        let inside_at : slice_index (drop 6 b) 1 ≡ PSK_EXCHANGE_RSP = dropped b ∙ in_is ∙ eqb-true inner PSK_EXCHANGE_RSP carries in
        ap shows_large acked ∙ ap (λ (n : ℕ). n == ERROR && slice_index (drop 6 b) 2 == LARGE_RESPONSE) inside_at
    by_code false false one two carries = absurd (false≢true carries)

-- So an answer that is apart from one with PSK_EXCHANGE_RSP is none.
pub apart_small : (p : Place) (a b : List ℕ) → IsOver p (clear_body a) → carries_exchange (clear_body a) ≡ true → is_apart (hash_len (place_terms p)) (clear_body a) (clear_body b) ≡ true → shows_large (response_of b) ≡ false
apart_small p a b over carries apart =
    let size : ℕ = hash_len (place_terms p) in
    let more = over carries in
    begins_exchange (slice_index a 1) (slice_index a 7) b (sym (apart_at size 2 (clear_body a) (clear_body b) (omega (arith, more)) apart)) (sym (apart_at size 8 (clear_body a) (clear_body b) (omega (arith, more)) apart)) carries
