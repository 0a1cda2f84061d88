-- The reply to a message tells the turn, but for the bytes of an answer that goes by LargeResponse.
use Rattle.std.proofs.Common.{◌≡◌, ◌≢◌, ◌==◌, ◌&&◌, ℕ, List, [], ◌∷◌, refl, sym, ap, ◌∙◌, subst, drop, Bool, true, false, Option, Some, None, is_some, is_none, cond, arith}
use Rattle.std.specs.Prelude.{slice_index, not}
use Rattle.std.proofs.lemmas.Bool.{false≢true}
use Rattle.std.proofs.lemmas.Option.{none-some, same_Some}
use Rattle.std.specs.Option.{option_or}
use Rattle.chunking.specs.Collecting.{under_way, joined_with}
use Rattle.spdm_basis.specs.Tests.{first_of_tests}
use Rattle.spdm_grammar.specs.ErrorNumber.{error_number}
use Rattle.spdm_grammar.specs.Message.{RequestMessage, ChunkMessage}
use Rattle.spdm_grammar.specs.Message.RequestMessage.{GetVersion, GetCapabilities, NegotiateAlgorithms, GetMeasurements, PskExchange, PskFinish, Heartbeat, KeyUpdate, EndSession, ChunkSend, ChunkGet}
use Rattle.spdm_grammar.specs.Responses.{canonical_response}
use Rattle.spdm_grammar.specs.declared.messages.error_code.ErrorCode.{ErrorCode}
use Rattle.spdm_grammar.specs.declared.messages.error_code.ErrorCode.TheVariants.{InvalidRequest, UnexpectedRequest, Unspecified, DecryptError, UnsupportedRequest, SessionLimitExceeded, SessionRequired, ResponseTooLarge, RequestTooLarge, LargeResponse, VersionMismatch}
use Rattle.spdm_grammar.specs.declared.names.error_number.TheConstants.{INVALID_REQUEST, UNEXPECTED_REQUEST, UNSPECIFIED, DECRYPT_ERROR, UNSUPPORTED_REQUEST, SESSION_LIMIT_EXCEEDED, SESSION_REQUIRED, RESPONSE_TOO_LARGE, REQUEST_TOO_LARGE, LARGE_RESPONSE}
use Rattle.spdm_grammar.specs.declared.names.response_code.TheConstants.{ERROR}
use Rattle.responder_machine.specs.Answer.{Free, answer_bytes, answer_of, answer_to, request_at}
use Rattle.responder_machine.specs.Handling.{turn_of, turn_by, plain_turn, last_chunk_turn, carried_turn, taken_chunk, request_effect, request_reply, error_bytes, large_response, effect_of, goes_large, handle_for, chunk_in}
use Rattle.responder_machine.specs.LargeMessages.{chunks_of}
use Rattle.responder_machine.specs.Place.{Place, inside}
use Rattle.responder_machine.specs.Refusal.{refusal, refused_form, refused_contents, tests_of_form, tests_of_contents}
use Rattle.responder_machine.specs.Setup.{RspSetup}
use Rattle.responder_machine.specs.Turn.{Turn, Effect, handle_in}
use Rattle.responder_machine.specs.Turn.Effect.{NoEffect, Took, TookData}
use Rattle.responder_machine.proofs.Tests.{form_shown}
use Rattle.capture_machine.specs.LargeAnswers.{turn_with, effect_with}

-- ---- What is alike.

abbrev pub EffectsAlike : Effect → Effect → Type 0
EffectsAlike NoEffect NoEffect = Unit {0}
EffectsAlike (Took a m x None) (Took b n y None) = (a ≡ b) × (m ≡ n) × (x ≡ y)
EffectsAlike (Took a m x (Some h)) (Took b n y (Some k)) = (a ≡ b) × (m ≡ n) × (h ≡ k)
EffectsAlike (TookData x u) (TookData y v) = (x ≡ y) × (u ≡ v)
EffectsAlike _ _ = ⊥

pub record TurnsAlike (t u : Turn) : Type 0 where
  pub message : t.message ≡ u.message
  pub refused : t.refused ≡ u.refused
  pub chunk : t.chunk ≡ u.chunk
  pub effect : EffectsAlike t.effect u.effect
  pub reply : t.reply ≡ u.reply

effect_same : (d e : Effect) → EffectsAlike d e → is_some (handle_in d) ≡ false → d ≡ e
effect_same NoEffect NoEffect a small = refl
effect_same (Took a m x None) (Took b n y None) alike small = let p = alike.0 in let q = alike.1 in let r = alike.2 in cc
effect_same (Took a m x (Some h)) (Took b n y (Some k)) alike small = absurd (false≢true (sym small))
effect_same (TookData x u) (TookData y v) alike small = let p = alike.0 in let q = alike.1 in cc
effect_same NoEffect (Took b n y z) alike small = absurd alike
effect_same NoEffect (TookData y v) alike small = absurd alike
effect_same (Took a m x None) NoEffect alike small = absurd alike
effect_same (Took a m x None) (Took b n y (Some k)) alike small = absurd alike
effect_same (Took a m x None) (TookData y v) alike small = absurd alike
effect_same (Took a m x (Some h)) NoEffect alike small = absurd alike
effect_same (Took a m x (Some h)) (Took b n y None) alike small = absurd alike
effect_same (Took a m x (Some h)) (TookData y v) alike small = absurd alike
effect_same (TookData x u) NoEffect alike small = absurd alike
effect_same (TookData x u) (Took b n y z) alike small = absurd alike

effect_erased : (d e : Effect) → EffectsAlike d e → (effect_with [] None d ≡ effect_with [] None e) × (is_some (handle_in d) ≡ is_some (handle_in e))
effect_erased NoEffect NoEffect a = (refl, refl)
effect_erased (Took a m x None) (Took b n y None) alike = (let p = alike.0 in let q = alike.1 in cc, refl)
effect_erased (Took a m x (Some h)) (Took b n y (Some k)) alike = (let p = alike.0 in let q = alike.1 in let r = alike.2 in cc, refl)
effect_erased (TookData x u) (TookData y v) alike = (let p = alike.0 in let q = alike.1 in cc, refl)
effect_erased NoEffect (Took b n y z) alike = absurd alike
effect_erased NoEffect (TookData y v) alike = absurd alike
effect_erased (Took a m x None) NoEffect alike = absurd alike
effect_erased (Took a m x None) (Took b n y (Some k)) alike = absurd alike
effect_erased (Took a m x None) (TookData y v) alike = absurd alike
effect_erased (Took a m x (Some h)) NoEffect alike = absurd alike
effect_erased (Took a m x (Some h)) (Took b n y None) alike = absurd alike
effect_erased (Took a m x (Some h)) (TookData y v) alike = absurd alike
effect_erased (TookData x u) NoEffect alike = absurd alike
effect_erased (TookData x u) (Took b n y z) alike = absurd alike

turn_by_parts : (t u : Turn) → t.message ≡ u.message → t.refused ≡ u.refused → t.chunk ≡ u.chunk → t.effect ≡ u.effect → t.reply ≡ u.reply → t ≡ u
turn_by_parts t u a b c d e =
    ap (λ x. record t { message = x }) a ∙ ap (λ x. record t { message = u.message; refused = x }) b ∙ ap (λ x. record t { message = u.message; refused = u.refused; chunk = x }) c
    ∙ ap (λ x. record t { message = u.message; refused = u.refused; chunk = u.chunk; effect = x }) d ∙ ap (λ (x : List ℕ). record u { reply = x }) e

-- A turn whose answer does not go by LargeResponse is told.
pub turns_same : (t u : Turn) → TurnsAlike t u → is_some (handle_in t.effect) ≡ false → t ≡ u
turns_same t u a small = turn_by_parts t u a.message a.refused a.chunk (effect_same t.effect u.effect a.effect small) a.reply

-- Any other is told but for the bytes of the answer.
pub turns_erased : (t u : Turn) → TurnsAlike t u → turn_with [] None t ≡ turn_with [] None u
turns_erased t u a = turn_by_parts (turn_with [] None t) (turn_with [] None u) a.message a.refused a.chunk (effect_erased t.effect u.effect a.effect).0 a.reply

pub turns_large : (t u : Turn) → TurnsAlike t u → is_some (handle_in t.effect) ≡ is_some (handle_in u.effect)
turns_large t u a = (effect_erased t.effect u.effect a.effect).1

-- ---- ERROR.

abbrev code_from : ℕ → ErrorCode
code_from n =
    cond (n == INVALID_REQUEST) InvalidRequest (cond (n == UNEXPECTED_REQUEST) UnexpectedRequest (cond (n == UNSPECIFIED) Unspecified (cond (n == DECRYPT_ERROR) DecryptError
    (cond (n == UNSUPPORTED_REQUEST) UnsupportedRequest (cond (n == SESSION_LIMIT_EXCEEDED) SessionLimitExceeded (cond (n == SESSION_REQUIRED) SessionRequired
    (cond (n == RESPONSE_TOO_LARGE) ResponseTooLarge (cond (n == REQUEST_TOO_LARGE) RequestTooLarge (cond (n == LARGE_RESPONSE) LargeResponse VersionMismatch)))))))))

code_back : (e : ErrorCode) → code_from (error_number e) ≡ e
code_back InvalidRequest = refl
code_back UnexpectedRequest = refl
code_back Unspecified = refl
code_back DecryptError = refl
code_back UnsupportedRequest = refl
code_back SessionLimitExceeded = refl
code_back SessionRequired = refl
code_back ResponseTooLarge = refl
code_back RequestTooLarge = refl
code_back LargeResponse = refl
code_back VersionMismatch = refl

error_told : (a b : ErrorCode) → error_number a ≡ error_number b → a ≡ b
error_told a b same = sym (code_back a) ∙ ap code_from same ∙ code_back b

abbrev is_large_code : ErrorCode → Bool
is_large_code LargeResponse = true
is_large_code _ = false

-- No test gives LargeResponse.
first_by : (b : Bool) (c e : ErrorCode) (rest : Option ErrorCode) → is_large_code c ≡ false → (rest ≡ Some e → e ≢ LargeResponse) → cond b (Some c) rest ≡ Some e → e ≢ LargeResponse
first_by true c e rest not others is same = false≢true (sym not ∙ ap is_large_code (same_Some c e is ∙ same))
first_by false c e rest not others is same = others is same

abbrev without_large : List (Bool × ErrorCode) → Bool
without_large [] = true
without_large (t ∷ ts) = not (is_large_code t.1) && without_large ts

both_of : (a b : Bool) → (not a && b) ≡ true → (a ≡ false) × (b ≡ true)
both_of false b is = (refl, is)
both_of true b is = absurd (false≢true is)

tests_other : (ts : List (Bool × ErrorCode)) → without_large ts ≡ true → (e : ErrorCode) → first_of_tests ts ≡ Some e → e ≢ LargeResponse
tests_other [] none e is = absurd (none-some e is)
tests_other (t ∷ ts) none e is =
    let both = both_of (is_large_code t.1) (without_large ts) none in
    first_by t.0 t.1 e (first_of_tests ts) both.0 (tests_other ts both.1 e) is

form_other : (r : RspSetup) (p : Place) (m : List ℕ) (e : ErrorCode) → refused_form r p m ≡ Some e → e ≢ LargeResponse
unfolding refused_form
form_other r p m e is = tests_other (tests_of_form r p m) refl e is

contents_other : (r : RspSetup) (p : Place) (m : List ℕ) (f : Free) (e : ErrorCode) → refused_contents r p m f ≡ Some e → e ≢ LargeResponse
unfolding refused_contents
contents_other r p m f e is = tests_other (tests_of_contents r p m f) refl e is

or_other : (a b : Option ErrorCode) (e : ErrorCode) → ((x : ErrorCode) → a ≡ Some x → x ≢ LargeResponse) → ((x : ErrorCode) → b ≡ Some x → x ≢ LargeResponse) → option_or a b ≡ Some e → e ≢ LargeResponse
or_other (Some x) b e one two is = one e is
or_other None b e one two is = two e is

pub refusal_other : (r : RspSetup) (p : Place) (m : List ℕ) (f : Free) (e : ErrorCode) → refusal r p m f ≡ Some e → e ≢ LargeResponse
unfolding refusal
refusal_other r p m f e = or_other (refused_form r p m) (refused_contents r p m f) e (form_other r p m) (contents_other r p m f)

-- No answer is an ERROR.
pub no_error : (r : RspSetup) (p : Place) (m : List ℕ) (f : Free) (asked : RequestMessage) → slice_index (canonical_response (answer_of r p m f asked)) 1 ≢ ERROR
no_error r p m f GetVersion e = absurd (omega (arith, e))
no_error r p m f (GetCapabilities caps) e = absurd (omega (arith, e))
no_error r p m f (NegotiateAlgorithms offer) e = absurd (omega (arith, e))
no_error r p m f (GetMeasurements op) e = absurd (omega (arith, e))
no_error r p m f (PskExchange exchange) e = absurd (omega (arith, e))
no_error r p m f (PskFinish verify) e = absurd (omega (arith, e))
no_error r p m f Heartbeat e = absurd (omega (arith, e))
no_error r p m f (KeyUpdate op tag) e = absurd (omega (arith, e))
no_error r p m f EndSession e = absurd (omega (arith, e))
no_error r p m f (ChunkSend chunk) e = absurd (omega (arith, e))
no_error r p m f (ChunkGet handle number) e = absurd (omega (arith, e))

answer_no_error : (r : RspSetup) (p : Place) (m : List ℕ) (f : Free) (asked : RequestMessage) → request_at p m ≡ Some asked → slice_index (answer_bytes r p m f) 1 ≢ ERROR
unfolding answer_bytes
answer_no_error r p m f asked is e = no_error r p m f asked (ap (λ (o : Option RequestMessage). slice_index (answer_to r p m f o) 1) (sym is) ∙ e)

-- ---- A request that is not refused.

module _ (r : RspSetup) (p o : Place) (m : List ℕ) (f k : Free) (asked : RequestMessage) (is : request_at p m ≡ Some asked) (are : request_at o m ≡ Some asked) where
  by_size : (b c : Bool) → cond b (large_response f.handle) (answer_bytes r p m f) ≡ cond c (large_response k.handle) (answer_bytes r o m k)
      → EffectsAlike (effect_of (Some asked) m (answer_bytes r p m f) (cond b (Some f.handle) None)) (effect_of (Some asked) m (answer_bytes r o m k) (cond c (Some k.handle) None))
  by_size true true same = (refl, refl, ap (λ (l : List ℕ). slice_index l 4) same)
  by_size false false same = (refl, refl, same)
  by_size true false same = absurd (answer_no_error r o m k asked are (sym (ap (λ (l : List ℕ). slice_index l 1) same)))
  by_size false true same = absurd (answer_no_error r p m f asked is (ap (λ (l : List ℕ). slice_index l 1) same))

  pub effects_told : request_reply r p m f ≡ request_reply r o m k → EffectsAlike (request_effect r p m f) (request_effect r o m k)
  effects_told same =
      let P : Option RequestMessage → Type 0 = λ x. EffectsAlike (effect_of x m (answer_bytes r p m f) (handle_for p f (answer_bytes r p m f))) (request_effect r o m k) in
      let Q : Option RequestMessage → Type 0 = λ x. EffectsAlike (effect_of (Some asked) m (answer_bytes r p m f) (handle_for p f (answer_bytes r p m f))) (effect_of x m (answer_bytes r o m k) (handle_for o k (answer_bytes r o m k))) in
      subst P (sym is) (subst Q (sym are) (by_size (goes_large p (answer_bytes r p m f)) (goes_large o (answer_bytes r o m k)) same))

  -- No reply to it is an ERROR, but for LargeResponse.
  no_reply_by : (b : Bool) (q : Place) (text : List ℕ) (e : ErrorCode) → e ≢ LargeResponse → error_bytes r q text f e ≢ cond b (large_response k.handle) (answer_bytes r o m k)
  no_reply_by true q text e other same = other (error_told e LargeResponse (ap (λ (l : List ℕ). slice_index l 2) same))
  no_reply_by false q text e other same = answer_no_error r o m k asked are (sym (ap (λ (l : List ℕ). slice_index l 1) same))

pub error_apart : (r : RspSetup) (q o : Place) (text m : List ℕ) (f k : Free) (asked : RequestMessage) → request_at o m ≡ Some asked → (e : ErrorCode) → e ≢ LargeResponse → error_bytes r q text f e ≢ request_reply r o m k
error_apart r q o text m f k asked are e other = no_reply_by r o o m f k asked are are (goes_large o (answer_bytes r o m k)) q text e other

-- Two ERRORs tell their code.
pub errors_told : (r : RspSetup) (p o : Place) (text other : List ℕ) (f k : Free) (a b : ErrorCode) → error_bytes r p text f a ≡ error_bytes r o other k b → a ≡ b
errors_told r p o text other f k a b same = error_told a b (ap (λ (l : List ℕ). slice_index l 2) same)

-- ---- A message.

is_there : (o : Option RequestMessage) → is_none o ≡ false → (asked : RequestMessage) × (o ≡ Some asked)
is_there None e = absurd (false≢true (sym e))
is_there (Some asked) e = (asked, refl)

-- What is not refused is a request.
pub is_request : (r : RspSetup) (p : Place) (m : List ℕ) (f : Free) → refusal r p m f ≡ None → (asked : RequestMessage) × (request_at p m ≡ Some asked)
is_request r p m f none = is_there (request_at p m) (form_shown r p m f none 8)

-- Where two places read one request of a message, and one of the large request that it completes.
pub record ReadAlike (p o : Place) (m : List ℕ) : Type 0 where
  pub asked : request_at p m ≡ request_at o m
  pub chunks : (c : ChunkMessage) → request_at p m ≡ Some (ChunkSend c) → chunks_of p.turns ≡ chunks_of o.turns
  pub whole : (c : ChunkMessage) (text : List ℕ) → request_at p m ≡ Some (ChunkSend c) → request_at (inside p) text ≡ request_at (inside o) text

module _ (r : RspSetup) (p o : Place) (m : List ℕ) (f k : Free) where
  -- The last chunk of a large request.
  carried_told : (c : ChunkMessage) (text : List ℕ) (x y : Option ErrorCode) → refusal r (inside p) text f ≡ x → refusal r (inside o) text k ≡ y → request_at (inside p) text ≡ request_at (inside o) text
      → (carried_turn r (inside p) m f c text x).reply ≡ (carried_turn r (inside o) m k c text y).reply → TurnsAlike (carried_turn r (inside p) m f c text x) (carried_turn r (inside o) m k c text y)
  carried_told c text (Some a) (Some b) is are asked same = record { message = refl; refused = refl; chunk = refl; effect = tt; reply = same }
  carried_told c text None None is are asked same =
      let one = is_request r (inside p) text f is in
      record { message = refl; refused = refl; chunk = refl; effect = effects_told r (inside p) (inside o) text f k one.0 one.1 (sym asked ∙ one.1) (ap (λ (l : List ℕ). drop 6 l) same); reply = same }
  carried_told c text (Some a) None is are asked same =
      let two = is_request r (inside o) text k are in
      absurd (error_apart r (inside p) (inside o) text text f k two.0 two.1 a (refusal_other r (inside p) text f a is) (ap (λ (l : List ℕ). drop 6 l) same))
  carried_told c text None (Some b) is are asked same =
      let one = is_request r (inside p) text f is in
      absurd (error_apart r (inside o) (inside p) text text k f one.0 one.1 b (refusal_other r (inside o) text k b are) (sym (ap (λ (l : List ℕ). drop 6 l) same)))

  last_told : (c : ChunkMessage) (text other : List ℕ) → text ≡ other → request_at (inside p) text ≡ request_at (inside o) text → (last_chunk_turn r (inside p) m f c text).reply ≡ (last_chunk_turn r (inside o) m k c other).reply
      → TurnsAlike (last_chunk_turn r (inside p) m f c text) (last_chunk_turn r (inside o) m k c other)
  last_told c text other one asked =
      let P : List ℕ → Type 0 = λ l. (last_chunk_turn r (inside p) m f c text).reply ≡ (last_chunk_turn r (inside o) m k c l).reply → TurnsAlike (last_chunk_turn r (inside p) m f c text) (last_chunk_turn r (inside o) m k c l) in
      subst P one (carried_told c text (refusal r (inside p) text f) (refusal r (inside o) text k) refl refl asked)

  chunk_told : (b : Bool) (c : ChunkMessage) → chunks_of p.turns ≡ chunks_of o.turns → ((text : List ℕ) → request_at (inside p) text ≡ request_at (inside o) text)
      → (cond b (last_chunk_turn r (inside p) m f c (joined_with (under_way (chunks_of p.turns)) c)) (taken_chunk m c NoEffect [])).reply
      ≡ (cond b (last_chunk_turn r (inside o) m k c (joined_with (under_way (chunks_of o.turns)) c)) (taken_chunk m c NoEffect [])).reply
      → TurnsAlike (cond b (last_chunk_turn r (inside p) m f c (joined_with (under_way (chunks_of p.turns)) c)) (taken_chunk m c NoEffect []))
      (cond b (last_chunk_turn r (inside o) m k c (joined_with (under_way (chunks_of o.turns)) c)) (taken_chunk m c NoEffect []))
  chunk_told true c chunks asked same =
      last_told c _ _ (ap (λ (l : List ChunkMessage). joined_with (under_way l) c) chunks) (asked (joined_with (under_way (chunks_of p.turns)) c)) same
  chunk_told false c chunks asked same = record { message = refl; refused = refl; chunk = refl; effect = tt; reply = same }

  -- Neither refused nor a chunk.
  plain_told : (asked : RequestMessage) → request_at p m ≡ Some asked → request_at o m ≡ Some asked → request_reply r p m f ≡ request_reply r o m k → TurnsAlike (plain_turn r p m f) (plain_turn r o m k)
  plain_told asked is are same = record { message = refl; refused = refl; chunk = refl; effect = effects_told r p o m f k asked is are same; reply = same }

  -- A refused message and one that is not refused have different replies.
  carried_apart : (a : ErrorCode) (c : ChunkMessage) (text : List ℕ) (x : Option ErrorCode) → error_bytes r p m f a ≢ (carried_turn r (inside o) m k c text x).reply
  carried_apart a c text (Some e) same = absurd (let t = ap (λ (l : List ℕ). slice_index l 1) same in omega (arith, t))
  carried_apart a c text None same = absurd (let t = ap (λ (l : List ℕ). slice_index l 1) same in omega (arith, t))

  chunk_apart : (a : ErrorCode) (b : Bool) (c : ChunkMessage) (text : List ℕ) → error_bytes r p m f a ≢ (cond b (last_chunk_turn r (inside o) m k c text) (taken_chunk m c NoEffect [])).reply
  chunk_apart a false c text same = absurd (let t = ap (λ (l : List ℕ). slice_index l 1) same in omega (arith, t))
  chunk_apart a true c text same = carried_apart a c text (refusal r (inside o) text k) same

  taken_apart : (q : RequestMessage) (a : ErrorCode) → a ≢ LargeResponse → request_at o m ≡ Some q → (c : Option ChunkMessage) → error_bytes r p m f a ≢ (turn_by r o m k None c).reply
  taken_apart q a other is None same = error_apart r p o m m f k q is a other same
  taken_apart q a other is (Some c) same = chunk_apart a c.last c (joined_with (under_way (chunks_of o.turns)) c) same

pub chunk_is : (q : Option RequestMessage) (c : ChunkMessage) → chunk_in q ≡ Some c → q ≡ Some (ChunkSend c)
chunk_is (Some (ChunkSend d)) c is = ap (λ x. Some (ChunkSend x)) (same_Some d c is)
chunk_is None c is = absurd (none-some c is)
chunk_is (Some GetVersion) c is = absurd (none-some c is)
chunk_is (Some (GetCapabilities caps)) c is = absurd (none-some c is)
chunk_is (Some (NegotiateAlgorithms offer)) c is = absurd (none-some c is)
chunk_is (Some (GetMeasurements op)) c is = absurd (none-some c is)
chunk_is (Some (PskExchange exchange)) c is = absurd (none-some c is)
chunk_is (Some (PskFinish verify)) c is = absurd (none-some c is)
chunk_is (Some Heartbeat) c is = absurd (none-some c is)
chunk_is (Some (KeyUpdate op tag)) c is = absurd (none-some c is)
chunk_is (Some EndSession) c is = absurd (none-some c is)
chunk_is (Some (ChunkGet handle number)) c is = absurd (none-some c is)

module _ (r : RspSetup) (p o : Place) (m : List ℕ) (f k : Free) (read : ReadAlike p o m) where
  by_told : (x y : Option ErrorCode) (c : Option ChunkMessage) → refusal r p m f ≡ x → refusal r o m k ≡ y → chunk_in (request_at p m) ≡ c → (turn_by r p m f x c).reply ≡ (turn_by r o m k y c).reply → TurnsAlike (turn_by r p m f x c) (turn_by r o m k y c)
  by_told (Some a) (Some b) c is are asks same =
      record { message = refl; refused = ap Some (errors_told r p o m m f k a b same); chunk = refl; effect = tt; reply = same }
  by_told None None None is are asks same =
      let one = is_request r p m f is in
      plain_told r p o m f k one.0 one.1 (sym read.asked ∙ one.1) same
  by_told None None (Some c) is are asks same =
      let chunk = chunk_is (request_at p m) c asks in
      chunk_told r p o m f k c.last c (read.chunks c chunk) (λ text. read.whole c text chunk) same
  by_told (Some a) None c is are asks same =
      let two = is_request r o m k are in
      absurd (taken_apart r p o m f k two.0 a (refusal_other r p m f a is) two.1 c same)
  by_told None (Some b) c is are asks same =
      let one = is_request r p m f is in
      absurd (taken_apart r o p m k f one.0 b (refusal_other r o m k b are) one.1 c (sym same))

  -- The reply tells the turn.
  pub turn_told : (turn_of r p m f).reply ≡ (turn_of r o m k).reply → TurnsAlike (turn_of r p m f) (turn_of r o m k)
  unfolding turn_of
  turn_told same =
      let P : Option ChunkMessage → Type 0 = λ c. (turn_of r p m f).reply ≡ (turn_by r o m k (refusal r o m k) c).reply → TurnsAlike (turn_of r p m f) (turn_by r o m k (refusal r o m k) c) in
      subst P (ap chunk_in read.asked) (by_told (refusal r p m f) (refusal r o m k) (chunk_in (request_at p m)) refl refl refl) same
