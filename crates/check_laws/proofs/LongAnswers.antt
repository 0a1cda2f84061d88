-- An answer that carries PSK_EXCHANGE_RSP is longer than the verify data of either hash.
use Rattle.std.proofs.Common.{◌≡◌, ◌<◌, ◌≤◌, ◌+◌, ◌==◌, ◌&&◌, ◌||◌, ℕ, List, [], ◌++◌, sym, ap, ◌∙◌, length, Bool, true, false, Option, Some, None, cond, arith, length-append}
use Rattle.std.specs.Prelude.{slice_index}
use Rattle.std.proofs.lemmas.Bool.{false≢true}
use Rattle.key_schedule.specs.declared.direction.Direction.TheVariants as direction
use Rattle.responder_machine.proofs.VerifyLength.{length_verify}
use Rattle.responder_machine.specs.Answer.{Free, answer_bytes, answer_of, answer_to, exchange_answer, exchange_rsp, request_at, summary_answer, t1_with}
use Rattle.responder_machine.specs.Handling.{acknowledged, carried_turn, chunk_in, error_bytes, goes_large, large_response, last_chunk_turn, request_reply, taken_chunk, turn_by, turn_of}
use Rattle.responder_machine.specs.Place.{Place, inside, place_terms}
use Rattle.responder_machine.specs.Refusal.{refusal}
use Rattle.responder_machine.specs.Setup.{RspSetup}
use Rattle.responder_machine.specs.Turn.{Turn}
use Rattle.responder_machine.specs.Turn.Effect.{NoEffect}
use Rattle.spdm_basis.specs.Sizes.{hash_size}
use Rattle.spdm_basis.specs.declared.values.hash_alg.HashAlg.{HashAlg}
use Rattle.spdm_basis.specs.declared.values.hash_alg.HashAlg.TheVariants.{Sha256, Sha384}
use Rattle.spdm_grammar.specs.Message.{ChunkMessage, ExchangeMessage, RequestMessage}
use Rattle.spdm_grammar.specs.Message.RequestMessage.{GetVersion, GetCapabilities, NegotiateAlgorithms, GetMeasurements, PskExchange, PskFinish, Heartbeat, KeyUpdate, EndSession, ChunkSend, ChunkGet}
use Rattle.spdm_grammar.specs.Responses.{canonical_response}
use Rattle.spdm_grammar.specs.declared.messages.error_code.ErrorCode.{ErrorCode}
use Rattle.spdm_grammar.specs.declared.names.response_code.TheConstants.{CHUNK_SEND_ACK, PSK_EXCHANGE_RSP}
use Rattle.spdm_machine.specs.Bodies.{clear_body}
use Rattle.spdm_machine.specs.Keys.{verify_data}
use Rattle.spdm_machine.specs.Terms.{hash_len}
use Rattle.capture_machine.specs.Difference.{carries_exchange}

-- It is longer than the longer hash, if it carries PSK_EXCHANGE_RSP.
abbrev pub IsLong : List ℕ → Type 0
IsLong body = carries_exchange body ≡ true → 48 < length body

pub other_long : (body : List ℕ) → carries_exchange body ≡ false → IsLong body
other_long body none is = absurd (false≢true (sym none ∙ is))

-- ---- Lengths.

least_hash : (hash : HashAlg) → 32 ≤ hash_size hash
least_hash Sha256 = omega arith
least_hash Sha384 = omega arith

pub most_hash : (hash : HashAlg) → hash_size hash ≤ 48
most_hash Sha256 = omega arith
most_hash Sha384 = omega arith

exchange_length : (r : RspSetup) (p : Place) (f : Free) (x : ExchangeMessage) (verify : List ℕ) → 12 + length f.context + length verify ≤ length (canonical_response (exchange_rsp r p f x verify))
exchange_length r p f x verify =
    let summary : List ℕ = summary_answer r p x.summary in
    let one = length-append (summary ++ f.context ++ f.exchange_opaque) verify in
    let two = length-append (summary ++ f.context) f.exchange_opaque in
    let three = length-append summary f.context in
    omega arith

-- ---- One message.

-- The context that is chosen is long enough.
abbrev pub IsFit : Place → Free → Type 0
IsFit p f = hash_len (place_terms p) ≤ length f.context

exchange_long : (r : RspSetup) (p : Place) (m : List ℕ) (f : Free) (x : ExchangeMessage) → IsFit p f → IsLong (clear_body (canonical_response (exchange_answer r p m f x)))
exchange_long r p m f x fit is =
    let text : List ℕ = t1_with r p m f x in
    let verify = length_verify (place_terms p).choice r.psk text direction.Response text in
    let least = least_hash (place_terms p).choice.hash in
    let all = exchange_length r p f x (verify_data (place_terms p).choice r.psk text direction.Response text) in
    omega (arith, fit)

answer_long : (r : RspSetup) (p : Place) (m : List ℕ) (f : Free) (asked : RequestMessage) → IsFit p f → IsLong (clear_body (canonical_response (answer_of r p m f asked)))
answer_long r p m f GetVersion fit = λ is. absurd (false≢true is)
answer_long r p m f (GetCapabilities caps) fit = λ is. absurd (false≢true is)
answer_long r p m f (NegotiateAlgorithms offer) fit = λ is. absurd (false≢true is)
answer_long r p m f (GetMeasurements op) fit = λ is. absurd (false≢true is)
answer_long r p m f (PskExchange x) fit = exchange_long r p m f x fit
answer_long r p m f (PskFinish verify) fit = λ is. absurd (false≢true is)
answer_long r p m f Heartbeat fit = λ is. absurd (false≢true is)
answer_long r p m f (KeyUpdate op tag) fit = λ is. absurd (false≢true is)
answer_long r p m f EndSession fit = λ is. absurd (false≢true is)
answer_long r p m f (ChunkSend chunk) fit = λ is. absurd (false≢true is)
answer_long r p m f (ChunkGet handle number) fit = λ is. absurd (false≢true is)

to_long : (r : RspSetup) (p : Place) (m : List ℕ) (f : Free) (o : Option RequestMessage) → IsFit p f → IsLong (clear_body (answer_to r p m f o))
to_long r p m f None fit = λ is. absurd (false≢true is)
to_long r p m f (Some asked) fit = answer_long r p m f asked fit

bytes_long : (r : RspSetup) (p : Place) (m : List ℕ) (f : Free) → IsFit p f → IsLong (clear_body (answer_bytes r p m f))
unfolding answer_bytes
bytes_long r p m f fit = to_long r p m f (request_at p m) fit

-- By LargeResponse or whole.
either_long : (b : Bool) (handle : ℕ) (answer : List ℕ) → IsLong (clear_body answer) → IsLong (clear_body (cond b (large_response handle) answer))
either_long true handle answer long = λ is. absurd (false≢true is)
either_long false handle answer long = long

reply_long : (r : RspSetup) (p : Place) (m : List ℕ) (f : Free) → IsFit p f → IsLong (clear_body (request_reply r p m f))
reply_long r p m f fit = either_long (goes_large p (answer_bytes r p m f)) f.handle (answer_bytes r p m f) (bytes_long r p m f fit)

error_long : (r : RspSetup) (p : Place) (m : List ℕ) (f : Free) (e : ErrorCode) → IsLong (clear_body (error_bytes r p m f e))
error_long r p m f e = λ is. absurd (false≢true is)

-- An acknowledgement carries what its response is.
acked_long : (c : ChunkMessage) (response : List ℕ) → IsLong (clear_body response) → IsLong (clear_body (acknowledged c response))
acked_long c response long is =
    let inside : carries_exchange (clear_body response) ≡ true = ap (λ (b : Bool). b || (slice_index (clear_body response) 2 == CHUNK_SEND_ACK && slice_index (clear_body response) 8 == PSK_EXCHANGE_RSP)) is in
    let more = long inside in
    omega arith

carried_long : (r : RspSetup) (p : Place) (m : List ℕ) (f : Free) (c : ChunkMessage) (whole : List ℕ) (o : Option ErrorCode) → IsFit p f → IsLong (clear_body (carried_turn r p m f c whole o).reply)
carried_long r p m f c whole (Some e) fit = acked_long c (error_bytes r p whole f e) (error_long r p whole f e)
carried_long r p m f c whole None fit = acked_long c (request_reply r p whole f) (reply_long r p whole f fit)

last_long : (r : RspSetup) (p : Place) (m : List ℕ) (f : Free) (c : ChunkMessage) (whole : List ℕ) → IsFit p f → IsLong (clear_body (last_chunk_turn r p m f c whole).reply)
last_long r p m f c whole fit = carried_long r p m f c whole (refusal r p whole f) fit

picked_long : (b : Bool) (t u : Turn) → IsLong (clear_body t.reply) → IsLong (clear_body u.reply) → IsLong (clear_body (cond b t u).reply)
picked_long true t u one other = one
picked_long false t u one other = other

by_long : (r : RspSetup) (p : Place) (m : List ℕ) (f : Free) (o : Option ErrorCode) (c : Option ChunkMessage) → IsFit p f → IsLong (clear_body (turn_by r p m f o c).reply)
by_long r p m f (Some e) c fit = error_long r p m f e
by_long r p m f None None fit = reply_long r p m f fit
by_long r p m f None (Some c) fit = picked_long c.last _ (taken_chunk m c NoEffect []) (last_long r (inside p) m f c _ fit) (acked_long c [] (λ is. absurd (false≢true is)))

pub turn_long : (r : RspSetup) (p : Place) (m : List ℕ) (f : Free) → IsFit p f → IsLong (clear_body (turn_of r p m f).reply)
unfolding turn_of
turn_long r p m f fit = by_long r p m f (refusal r p m f) (chunk_in (request_at p m)) fit
