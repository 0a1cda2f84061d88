-- A message at two places that differ only in the bytes of the large response that is pending: its turn is the same,
-- where it asks for no chunk, or for one that is the same.
use Rattle.std.proofs.Common.{◌≡◌, ◌≢◌, ◌==◌, ◌&&◌, ℕ, List, [], ◌∷◌, refl, sym, ap, ◌∙◌, length, Bool, true, false, Option, Some, None, cond, is_some, is_none}
use Rattle.std.specs.Option.{option_or}
use Rattle.std.specs.Prelude.{not, nat_lt, slice_index}
use Rattle.std.proofs.lemmas.Bool.{false≢true}
use Rattle.std.proofs.lemmas.Option.{none-some, same_Some}
use Rattle.responder_machine.specs.Answer.{Free, answer_bytes, request_at}
use Rattle.responder_machine.specs.Place.{Place, Where, place_terms}
use Rattle.responder_machine.specs.Refusal.{are_caps_refused, chunk_fault, code_of, has_no_block, is_allowed, is_answer_too_long, is_chunk_in_session, is_exchange_refused, is_get_refused, is_known, is_misplaced, is_offer_refused, is_too_large, is_update_misplaced, is_verify_wrong, lacks_flag, limit_of, needs_session, refusal, refused_contents, refused_form, tests_of_form, version_for}
use Rattle.responder_machine.specs.Setup.{RspSetup}
use Rattle.spdm_basis.specs.Tests.{first_of_tests}
use Rattle.spdm_grammar.specs.Message.{RequestMessage}
use Rattle.spdm_grammar.specs.declared.messages.error_code.ErrorCode.{ErrorCode}
use Rattle.spdm_grammar.specs.declared.messages.error_code.ErrorCode.TheVariants.{InvalidRequest, UnexpectedRequest, DecryptError, UnsupportedRequest, SessionLimitExceeded, SessionRequired, ResponseTooLarge, RequestTooLarge, VersionMismatch}
use Rattle.spdm_grammar.specs.declared.messages.part_faults.ChunkFault.{ChunkFault}
use Rattle.spdm_grammar.specs.declared.names.request_code.TheConstants.{PSK_EXCHANGE}

-- ---- What counts at a place.

-- Two places at which the tests of a message have the same results, but for the length of its answer.
pub record Near (r : RspSetup) (p o : Place) (m : List ℕ) : Type 0 where
  pub at : p.at ≡ o.at
  pub phase : p.phase ≡ o.phase
  pub asked : request_at p m ≡ request_at o m
  pub common : (place_terms p).common ≡ (place_terms o).common
  pub allowed : is_allowed p.at p (code_of m) ≡ is_allowed o.at o (code_of m)
  pub lacks : lacks_flag (place_terms p) (code_of m) ≡ lacks_flag (place_terms o) (code_of m)
  pub exchange : is_exchange_refused r p (request_at p m) ≡ is_exchange_refused r o (request_at o m)
  pub verify : is_verify_wrong r p m (request_at p m) ≡ is_verify_wrong r o m (request_at o m)
  pub update : is_update_misplaced p (request_at p m) ≡ is_update_misplaced o (request_at o m)
  pub fault : chunk_fault r p (request_at p m) ≡ chunk_fault r o (request_at o m)
  pub get : is_get_refused p (request_at p m) ≡ is_get_refused o (request_at o m)
  pub full : (code_of m == PSK_EXCHANGE && p.past_handshake == 4) ≡ (code_of m == PSK_EXCHANGE && o.past_handshake == 4)

-- ---- The tests of a message.

abbrev form_by : RspSetup → List ℕ → Where → (allowed : Bool) → Option RequestMessage → List (Bool × ErrorCode)
form_by r m at allowed q =
    (nat_lt (length m) 4, InvalidRequest)
    ∷ (nat_lt (limit_of r at) (length m), RequestTooLarge)
    ∷ (not (is_known (code_of m)), UnsupportedRequest)
    ∷ (needs_session at (code_of m), SessionRequired)
    ∷ (is_chunk_in_session at (code_of m), UnsupportedRequest)
    ∷ (is_misplaced at (code_of m), UnexpectedRequest)
    ∷ (not allowed, UnexpectedRequest)
    ∷ (not (slice_index m 0 == version_for (code_of m)), VersionMismatch)
    ∷ (is_none q, InvalidRequest)
    ∷ []

form_moved : (r : RspSetup) (p o : Place) (m : List ℕ) → Near r p o m → refused_form r p m ≡ refused_form r o m
unfolding refused_form
form_moved r p o m near =
    ap (λ (a : Where). first_of_tests (form_by r m a (is_allowed p.at p (code_of m)) (request_at p m))) near.at
    ∙ ap (λ (b : Bool). first_of_tests (form_by r m o.at b (request_at p m))) near.allowed
    ∙ ap (λ (q : Option RequestMessage). first_of_tests (form_by r m o.at (is_allowed o.at o (code_of m)) q)) near.asked

abbrev contents_by : RspSetup → List ℕ → Option RequestMessage → (lacks exchange verify update : Bool) → Option ChunkFault → (get long full : Bool) → List (Bool × ErrorCode)
contents_by r m q lacks exchange verify update fault get long full =
    (lacks, UnsupportedRequest)
    ∷ (are_caps_refused r q, InvalidRequest)
    ∷ (is_offer_refused r q, InvalidRequest)
    ∷ (has_no_block r q, InvalidRequest)
    ∷ (exchange, InvalidRequest)
    ∷ (verify, DecryptError)
    ∷ (update, UnexpectedRequest)
    ∷ (is_too_large fault, RequestTooLarge)
    ∷ (is_some fault, InvalidRequest)
    ∷ (get, InvalidRequest)
    ∷ (long, ResponseTooLarge)
    ∷ (full, SessionLimitExceeded)
    ∷ []

contents_same : (r : RspSetup) (m : List ℕ) (q s : Option RequestMessage) (a b c d e f g h : Bool) (x y : Option ChunkFault) (k l : Bool) (u v : Bool) (n i : Bool) → q ≡ s → a ≡ b → c ≡ d → e ≡ f → g ≡ h → x ≡ y → k ≡ l → u ≡ v → n ≡ i
    → contents_by r m q a c e g x k u n ≡ contents_by r m s b d f h y l v i
contents_same r m q s a b c d e f g h x y k l u v n i q1 q2 q3 q4 q5 q6 q7 q8 q9 = cc

abbrev contents_at : RspSetup → Place → List ℕ → (long : Bool) → List (Bool × ErrorCode)
contents_at r p m long =
    contents_by r m (request_at p m) (lacks_flag (place_terms p) (code_of m)) (is_exchange_refused r p (request_at p m)) (is_verify_wrong r p m (request_at p m)) (is_update_misplaced p (request_at p m)) (chunk_fault r p (request_at p m)) (is_get_refused p (request_at p m)) long (code_of m == PSK_EXCHANGE && p.past_handshake == 4)

refusal_is : (r : RspSetup) (p : Place) (m : List ℕ) (f : Free) → refusal r p m f ≡ option_or (refused_form r p m) (first_of_tests (contents_at r p m (is_answer_too_long p (answer_bytes r p m f))))
unfolding refusal refused_contents
refusal_is r p m f = refl

-- The same refusal, where both answers are too long, or neither is.
pub refusal_moved : (r : RspSetup) (p o : Place) (m : List ℕ) (f k : Free) → Near r p o m → is_answer_too_long p (answer_bytes r p m f) ≡ is_answer_too_long o (answer_bytes r o m k) → refusal r p m f ≡ refusal r o m k
refusal_moved r p o m f k near long =
    let tests : contents_at r p m (is_answer_too_long p (answer_bytes r p m f)) ≡ contents_at r o m (is_answer_too_long o (answer_bytes r o m k)) =
    contents_same r m _ _ _ _ _ _ _ _ _ _ _ _ _ _ _ _ _ _ near.asked near.lacks near.exchange near.verify near.update near.fault near.get long near.full in
    refusal_is r p m f ∙ ap (λ (x : Option ErrorCode). option_or x (first_of_tests (contents_at r p m (is_answer_too_long p (answer_bytes r p m f))))) (form_moved r p o m near)
    ∙ ap (λ (l : List (Bool × ErrorCode)). option_or (refused_form r o m) (first_of_tests l)) tests ∙ sym (refusal_is r o m k)

-- Or where chunks are not in common, and are asked for.
pub refusal_lacked : (r : RspSetup) (p o : Place) (m : List ℕ) (f k : Free) → Near r p o m → lacks_flag (place_terms p) (code_of m) ≡ true → refusal r p m f ≡ refusal r o m k
refusal_lacked r p o m f k near lacks =
    let first : (q : Place) (long : Bool) → lacks_flag (place_terms q) (code_of m) ≡ true → first_of_tests (contents_at r q m long) ≡ Some UnsupportedRequest =
    λ q long is. ap (λ (b : Bool). first_of_tests (contents_by r m (request_at q m) b (is_exchange_refused r q (request_at q m)) (is_verify_wrong r q m (request_at q m)) (is_update_misplaced q (request_at q m)) (chunk_fault r q (request_at q m)) (is_get_refused q (request_at q m)) long (code_of m == PSK_EXCHANGE && q.past_handshake == 4))) is in
    refusal_is r p m f ∙ ap (option_or (refused_form r p m)) (first p _ lacks) ∙ ap (λ (x : Option ErrorCode). option_or x (Some UnsupportedRequest)) (form_moved r p o m near)
    ∙ sym (ap (option_or (refused_form r o m)) (first o _ (sym near.lacks ∙ lacks))) ∙ sym (refusal_is r o m k)

-- ---- ResponseTooLarge comes only with an answer that is too long.

abbrev pub is_long_code : ErrorCode → Bool
is_long_code ResponseTooLarge = true
is_long_code _ = false

abbrev pub no_long : List (Bool × ErrorCode) → Bool
no_long [] = true
no_long (t ∷ ts) = not (is_long_code t.1 && t.0) && no_long ts

first_by : (b : Bool) (c e : ErrorCode) (rest : Option ErrorCode) → (is_long_code c && b) ≡ false → (rest ≡ Some e → e ≢ ResponseTooLarge) → cond b (Some c) rest ≡ Some e → e ≢ ResponseTooLarge
first_by false c e rest none others is same = others is same
first_by true c e rest none others is same =
    let long : is_long_code c ≡ true = ap is_long_code (same_Some c e is ∙ same) in
    false≢true (sym none ∙ ap (λ (b : Bool). b && true) long)

both_of : (a b : Bool) → (not a && b) ≡ true → (a ≡ false) × (b ≡ true)
both_of false b is = (refl, is)
both_of true b is = absurd (false≢true is)

pub tests_short : (ts : List (Bool × ErrorCode)) → no_long ts ≡ true → (e : ErrorCode) → first_of_tests ts ≡ Some e → e ≢ ResponseTooLarge
tests_short [] none e is = absurd (none-some e is)
tests_short (t ∷ ts) none e is =
    let both = both_of (is_long_code t.1 && t.0) (no_long ts) none in
    first_by t.0 t.1 e (first_of_tests ts) both.0 (tests_short ts both.1 e) is

or_short : (a b : Option ErrorCode) (e : ErrorCode) → (a ≡ Some e → e ≢ ResponseTooLarge) → (b ≡ Some e → e ≢ ResponseTooLarge) → option_or a b ≡ Some e → e ≢ ResponseTooLarge
or_short (Some x) b e one two is = one is
or_short None b e one two is = two is

form_short : (r : RspSetup) (p : Place) (m : List ℕ) (e : ErrorCode) → refused_form r p m ≡ Some e → e ≢ ResponseTooLarge
unfolding refused_form
form_short r p m e is = tests_short (tests_of_form r p m) refl e is

pub short_error : (r : RspSetup) (p : Place) (m : List ℕ) (f : Free) (e : ErrorCode) → is_answer_too_long p (answer_bytes r p m f) ≡ false → refusal r p m f ≡ Some e → e ≢ ResponseTooLarge
short_error r p m f e brief is =
    let long : Bool = is_answer_too_long p (answer_bytes r p m f) in
    or_short (refused_form r p m) (first_of_tests (contents_at r p m long)) e (form_short r p m e)
    (tests_short (contents_at r p m long) (ap (λ (b : Bool). not b && true) brief) e) (sym (refusal_is r p m f) ∙ is)

pub lacked_error : (r : RspSetup) (p : Place) (m : List ℕ) (f : Free) (e : ErrorCode) → lacks_flag (place_terms p) (code_of m) ≡ true → refusal r p m f ≡ Some e → e ≢ ResponseTooLarge
lacked_error r p m f e lacks is =
    let long : Bool = is_answer_too_long p (answer_bytes r p m f) in
    let first : first_of_tests (contents_at r p m long) ≡ Some UnsupportedRequest =
    ap (λ (b : Bool). first_of_tests (contents_by r m (request_at p m) b (is_exchange_refused r p (request_at p m)) (is_verify_wrong r p m (request_at p m)) (is_update_misplaced p (request_at p m)) (chunk_fault r p (request_at p m)) (is_get_refused p (request_at p m)) long (code_of m == PSK_EXCHANGE && p.past_handshake == 4))) lacks in
    or_short (refused_form r p m) (first_of_tests (contents_at r p m long)) e (form_short r p m e)
    (λ at same. false≢true (ap is_long_code (same_Some UnsupportedRequest e (sym first ∙ at) ∙ same))) (sym (refusal_is r p m f) ∙ is)
