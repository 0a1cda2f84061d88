-- What the texts of a request and of its reply tell of the turn between them.
use Rattle.std.proofs.Common.{◌≡◌, ◌⊎◌, ℕ, zero, suc, ◌+◌, ◌≤◌, List, [], ◌∷◌, ◌++◌, length, take, drop, Bool, true, false, cond, Option, Some, None, ◌==◌, ◌&&◌, ◌||◌, refl, sym, ap, ap₂, ◌∙◌, subst, inl, inr, arith, eqb-true, eq-eqb, true≢false, le-ltb}
use Rattle.std.specs.Prelude.{slice_index}
use Rattle.byteorder.specs.Endian.{little_number}
use Rattle.secured_record.specs.Format.{plain_text}
use Rattle.spdm_grammar.specs.Fields.{is_key_operation}
use Rattle.spdm_grammar.specs.Layout.{IsSpelling}
use Rattle.spdm_grammar.specs.Message.{RequestMessage, ResponseMessage}
use Rattle.spdm_grammar.specs.Message.RequestMessage.{KeyUpdate}
use Rattle.spdm_grammar.specs.Message.ResponseMessage.{KeyUpdateAck}
use Rattle.spdm_grammar.specs.Requests.{IsRequestSpelling, request_layout, request_in, request_body, key_update_layout}
use Rattle.spdm_grammar.specs.Responses.{canonical_response}
use Rattle.spdm_grammar.proofs.Spellings.{read_iff}
use Rattle.responder_machine.specs.Answer.{Free, answer_of, answer_to, answer_bytes}
use Rattle.responder_machine.specs.Handling.{goes_large, large_response, sent_for}
use Rattle.responder_machine.specs.Place.{session_place}
use Rattle.responder_machine.specs.Session.{Events, session_terms}
use Rattle.responder_machine.specs.Setup.{RspSetup}
use Rattle.spdm_machine.specs.Terms.{hash_len}
use Rattle.responder_machine.specs.Turn.{Turn, Effect, is_data, updates, answer_in, asked_in}
use Rattle.responder_machine.specs.Turn.Effect.{NoEffect, Took, TookData}
use Rattle.spdm_agreement.specs.Story.{reply_text}
use Rattle.spdm_agreement.proofs.Messages.RequestCodes.{code_read, second_byte}
use Rattle.spdm_agreement.proofs.Messages.Beginnings.{is_message, is_update_of, operation_in, message_text}
use Rattle.spdm_agreement.proofs.Responder.InnerTurns.{TakesData, TakesRequest, RefusesTurn, TurnIs, took}
use Rattle.spdm_grammar.specs.declared.names.request_code.TheConstants.{HEARTBEAT, KEY_UPDATE}
use Rattle.spdm_grammar.specs.declared.names.response_code.TheConstants.{KEY_UPDATE_ACK, ERROR}

-- An answer of four bytes passes no transfer size.
abbrev pub IsRoomy : Events → Type 0
IsRoomy s = 4 ≤ (session_terms s).common.to_requester.transfer

whole : (s : Events) (answer : List ℕ) → IsRoomy s → length answer ≡ 4 → goes_large (session_place s) answer ≡ false
whole s answer room four = le-ltb (session_terms s).common.to_requester.transfer (0 + length answer) (omega arith)

-- The reply to a request that is taken.
pub replies : (r : RspSetup) (s : Events) (inner : List ℕ) (f : Free) (t : Turn) (x : TakesRequest r s inner f t) → t.reply ≡ sent_for (session_place s) f (canonical_response (answer_of r (session_place s) (drop 1 inner) f x.value))
unfolding answer_bytes
replies r s inner f t x =
    let m = drop 1 inner in
    ap (λ (t : Turn). t.reply) x.is ∙ ap (λ (o : Option RequestMessage). sent_for (session_place s) f (answer_to r (session_place s) m f o)) x.spelled

pub answers : (r : RspSetup) (s : Events) (inner : List ℕ) (f : Free) (t : Turn) (x : TakesRequest r s inner f t) → answer_in t.effect ≡ canonical_response (answer_of r (session_place s) (drop 1 inner) f x.value)
unfolding answer_bytes
answers r s inner f t x =
    let m = drop 1 inner in
    ap answer_in (took r s inner f t x) ∙ ap (λ (o : Option RequestMessage). answer_to r (session_place s) m f o) x.spelled

pub replies_whole : (r : RspSetup) (s : Events) (inner : List ℕ) (f : Free) (t : Turn) (x : TakesRequest r s inner f t) → IsRoomy s → length (canonical_response (answer_of r (session_place s) (drop 1 inner) f x.value)) ≡ 4
    → t.reply ≡ canonical_response (answer_of r (session_place s) (drop 1 inner) f x.value)
replies_whole r s inner f t x room four =
    let a = canonical_response (answer_of r (session_place s) (drop 1 inner) f x.value) in
    replies r s inner f t x ∙ ap (λ (b : Bool). cond b (large_response f.handle) a) (whole s a room four)

-- ---- The text of a reply.

-- A message of this code, and padding never, after the type of an SPDM message.
read_message : (code version spoken : ℕ) (rest : List ℕ) → is_message code (plain_text (5 ∷ version ∷ spoken ∷ rest) []) ≡ (spoken == code)
read_message code version spoken rest = refl

no_message : (code : ℕ) (message : List ℕ) → is_message code (plain_text (1 ∷ message) []) ≡ false
no_message code message = refl

-- The code of a reply: none for application data, 0x7f where the request is refused or the answer is large.
sent_code : (b : Bool) (handle code : ℕ) (v : ResponseMessage) → (ERROR == code) ≡ false → is_message code (message_text (canonical_response v)) ≡ false → is_message code (message_text (cond b (large_response handle) (canonical_response v))) ≡ false
sent_code true handle code v other e = other
sent_code false handle code v other e = e

pub reply_of : (t : Turn) → is_data t.effect ≡ false → reply_text t ≡ message_text t.reply
reply_of t none = ap (λ (b : Bool). plain_text (cond b 1 5 ∷ t.reply) []) none

pub refused_reply : (r : RspSetup) (s : Events) (inner : List ℕ) (f : Free) (t : Turn) → RefusesTurn r s inner f t → (code : ℕ) → (ERROR == code) ≡ false → is_message code (reply_text t) ≡ false
refused_reply r s inner f t x code other = ap (λ (t : Turn). is_message code (reply_text t)) x.is ∙ other

pub data_reply : (s : Events) (inner : List ℕ) (f : Free) (t : Turn) → TakesData s inner f t → (code : ℕ) → is_message code (reply_text t) ≡ false
data_reply s inner f t x code = ap (λ (t : Turn). is_message code (reply_text t)) x.is

-- Of the requests that are taken, KEY_UPDATE alone is answered by KEY_UPDATE_ACK.

abbrev pub updates_in : ℕ → Effect → Bool
updates_in operation e = updates operation (record { message = []; refused = None; chunk = None; effect = e; reply = [] })

-- The test of the operation of a KEY_UPDATE that took effect.
abbrev pub updated_by : (ℕ → Bool) → Option RequestMessage → Bool
updated_by test (Some (KeyUpdate op tag)) = test op
updated_by test _ = false

acknowledges : (r : RspSetup) (s : Events) (m : List ℕ) (f : Free) (v : RequestMessage)
    → ((op : ℕ) × (tag : ℕ) × (v ≡ KeyUpdate op tag))
    ⊎ ((is_message KEY_UPDATE_ACK (message_text (canonical_response (answer_of r (session_place s) m f v))) ≡ false) × ((test : ℕ → Bool) → updated_by test (Some v) ≡ false))
acknowledges r s m f (KeyUpdate op tag) = inl (op, tag, refl)
acknowledges r s m f v = inr (refl, λ test. refl)

-- ---- The text of a request.

index_took : (n : ℕ) (xs : List ℕ) (i c : ℕ) → slice_index (take n xs) i ≡ suc c → slice_index xs i ≡ suc c
index_took zero xs i c e = absurd (cc)
index_took (suc n) [] i c e = e
index_took (suc n) (x ∷ xs) zero c e = e
index_took (suc n) (x ∷ xs) (suc i) c e = index_took n xs i c e

index_dropped : (n : ℕ) (xs : List ℕ) (i : ℕ) → slice_index (drop n xs) i ≡ slice_index xs (n + i)
index_dropped zero xs i = let z : i ≡ 0 + i = omega arith in ap (slice_index xs) z
index_dropped (suc n) [] i = refl
index_dropped (suc n) (x ∷ xs) i = let z : suc (n + i) ≡ suc n + i = omega arith in index_dropped n xs i ∙ ap (slice_index (x ∷ xs)) z

-- The operation of KEY_UPDATE is Param1.
third_byte : (m f g h r1 r2 r3 : List ℕ) → m ≡ f ++ r1 → r1 ≡ g ++ r2 → r2 ≡ h ++ r3 → length f ≡ 1 → length g ≡ 1 → length h ≡ 1 → slice_index m 2 ≡ little_number 1 h
third_byte m (x ∷ []) (y ∷ []) (z ∷ []) r1 r2 r3 e1 e2 e3 n1 n2 n3 = ap (λ (l : List ℕ). slice_index l 2) (e1 ∙ ap (λ (l : List ℕ). x ∷ l) (e2 ∙ ap (λ (l : List ℕ). y ∷ l) e3)) ∙ (omega arith)
third_byte m [] g h r1 r2 r3 e1 e2 e3 n1 n2 n3 = absurd (omega arith)
third_byte m (x ∷ y ∷ f) g h r1 r2 r3 e1 e2 e3 n1 n2 n3 = absurd (omega arith)
third_byte m f [] h r1 r2 r3 e1 e2 e3 n1 n2 n3 = absurd (omega arith)
third_byte m f (x ∷ y ∷ g) h r1 r2 r3 e1 e2 e3 n1 n2 n3 = absurd (omega arith)
third_byte m f g [] r1 r2 r3 e1 e2 e3 n1 n2 n3 = absurd (omega arith)
third_byte m f g (x ∷ y ∷ h) r1 r2 r3 e1 e2 e3 n1 n2 n3 = absurd (omega arith)

update_spelled : (len op tag : ℕ) (rest : List ℕ) → IsSpelling (request_body len KEY_UPDATE) 2 (KeyUpdate op tag) rest → (h : List ℕ) × (others : List ℕ) × (rest ≡ h ++ others) × (length h ≡ 1) × (op ≡ little_number 1 h) × (is_key_operation op ≡ true)
unfolding request_body key_update_layout
update_spelled len op tag rest s = let same : op ≡ little_number 1 s.0 = cc (s.5.5.0) in (s.0, s.1, s.2, s.3, same, subst (λ (n : ℕ). is_key_operation n ≡ true) (sym same) s.4)

pub operation_read : (len : ℕ) (m : List ℕ) (op tag : ℕ) → request_in len m ≡ Some (KeyUpdate op tag) → (slice_index m 2 ≡ op) × (is_key_operation op ≡ true)
operation_read len m op tag e =
    let s : IsRequestSpelling len (KeyUpdate op tag) m = (read_iff (request_layout len) (KeyUpdate op tag) m).0 e in
    let t = s.5 in
    let code : little_number 1 t.0 ≡ KEY_UPDATE = sym (second_byte m s.0 t.0 s.1 t.1 s.2 t.2 s.3 t.3) ∙ sym (code_read len m (KeyUpdate op tag) e) in
    let u = update_spelled len op tag t.1 (subst (λ (c : ℕ). IsSpelling (request_body len c) 2 (KeyUpdate op tag) t.1) code t.5) in
    (third_byte m s.0 t.0 u.0 s.1 t.1 u.1 s.2 t.2 u.2 s.3 t.3 u.3 ∙ sym u.4, u.5)

-- Where an inner message is what a text holds, the bytes of its front but zeros are those of the text.
pub in_text : (n : ℕ) (text inner : List ℕ) (i c : ℕ) → inner ≡ take n (drop 2 text) → slice_index inner i ≡ suc c → slice_index text (2 + i) ≡ suc c
in_text n text inner i c is e = sym (index_dropped 2 text i) ∙ index_took n (drop 2 text) i c (ap (λ (l : List ℕ). slice_index l i) (sym is) ∙ e)

least : (op : ℕ) → is_key_operation op ≡ true → (k : ℕ) × (op ≡ suc k)
least zero e = absurd (true≢false (sym e))
least (suc k) e = (k, refl)

-- ---- KEY_UPDATE is told by its text and that of its reply.

not_third : (a b c : Bool) → c ≡ false → (a && b && c) ≡ false
not_third true true c e = e
not_third true false c e = refl
not_third false b c e = refl

all_three : (a b c : Bool) → a ≡ true → c ≡ true → (a && b && c) ≡ b
all_three true true true e f = refl
all_three true false true e f = refl
all_three false b c e f = absurd (true≢false (sym e))
all_three true b false e f = absurd (true≢false (sym f))

both_are : (a b : ℕ) → (a == b) ≡ true → (c d : ℕ) → (c == d) ≡ true → ((a == b) && (c == d)) ≡ true
both_are a b e c d f = ap₂ (λ (x y : Bool). x && y) e f

updated_refused : (r : RspSetup) (s : Events) (inner : List ℕ) (f : Free) (t : Turn) → RefusesTurn r s inner f t → (test : ℕ → Bool) → updated_by test (asked_in t.effect) ≡ false
updated_refused r s inner f t x test = ap (λ (t : Turn). updated_by test (asked_in t.effect)) x.is

updated_data : (s : Events) (inner : List ℕ) (f : Free) (t : Turn) → TakesData s inner f t → (test : ℕ → Bool) → updated_by test (asked_in t.effect) ≡ false
updated_data s inner f t x test = ap (λ (t : Turn). updated_by test (asked_in t.effect)) x.is

update_told : (r : RspSetup) (s : Events) (inner : List ℕ) (f : Free) (t : Turn) (n : ℕ) (text : List ℕ) → inner ≡ take n (drop 2 text) → IsRoomy s → (x : TakesRequest r s inner f t) → (op tag : ℕ) → x.value ≡ KeyUpdate op tag
    → (is_message KEY_UPDATE text ≡ true) × (operation_in text ≡ op) × (is_message KEY_UPDATE_ACK (reply_text t) ≡ true)
update_told r s inner f t n text holds room x op tag is =
    let m = drop 1 inner in
    let spelled : request_in (hash_len (session_terms s)) m ≡ Some (KeyUpdate op tag) = x.spelled ∙ ap (λ (v : RequestMessage). Some v) is in
    let kind : slice_index inner 0 ≡ 5 = eqb-true (slice_index inner 0) 5 x.typed in
    let code : slice_index inner 2 ≡ KEY_UPDATE = sym (index_dropped 1 inner 1) ∙ sym (code_read (hash_len (session_terms s)) m (KeyUpdate op tag) spelled) in
    let told = operation_read (hash_len (session_terms s)) m op tag spelled in
    let some = least op told.1 in
    let third : slice_index inner 3 ≡ suc some.0 = sym (index_dropped 1 inner 2) ∙ told.0 ∙ some.1 in
    let one : slice_index text 2 ≡ 5 = in_text n text inner 0 4 holds kind in
    let two : slice_index text 4 ≡ KEY_UPDATE = in_text n text inner 2 HEARTBEAT holds code in
    let three : slice_index text 5 ≡ suc some.0 = in_text n text inner 3 some.0 holds third in
    let reply : t.reply ≡ canonical_response (KeyUpdateAck op tag) =
    replies_whole r s inner f t x room (ap (λ (v : RequestMessage). length (canonical_response (answer_of r (session_place s) m f v))) is)
    ∙ ap (λ (v : RequestMessage). canonical_response (answer_of r (session_place s) m f v)) is in
    let quiet : is_data t.effect ≡ false = ap is_data (took r s inner f t x) in (
      both_are (slice_index text 2) 5 (eq-eqb _ _ one) (slice_index text 4) KEY_UPDATE (eq-eqb _ _ two),
      three ∙ sym some.1,
      ap (is_message KEY_UPDATE_ACK) (reply_of t quiet) ∙ ap (λ (l : List ℕ). is_message KEY_UPDATE_ACK (message_text l)) reply,
    )

update_by : (r : RspSetup) (s : Events) (inner : List ℕ) (f : Free) (t : Turn) (n : ℕ) (text : List ℕ) → inner ≡ take n (drop 2 text) → IsRoomy s → (x : TakesRequest r s inner f t) → (test : ℕ → Bool)
    → is_update_of (test (operation_in text)) (text, reply_text t) ≡ updated_by test (asked_in t.effect)
update_by r s inner f t n text holds room x test = elim (acknowledges r s (drop 1 inner) f x.value) [
  | inl u ↦ (let told = update_told r s inner f t n text holds room x u.0 u.1 u.2 in
      all_three (is_message KEY_UPDATE text) (test (operation_in text)) (is_message KEY_UPDATE_ACK (reply_text t)) told.0 told.2 ∙ ap test told.1
      ∙ ap (λ (v : RequestMessage). updated_by test (Some v)) (sym u.2) ∙ ap (λ (e : Effect). updated_by test (asked_in e)) (sym (took r s inner f t x)))
  | inr u ↦ (let quiet : is_data t.effect ≡ false = ap is_data (took r s inner f t x) in
      let a = canonical_response (answer_of r (session_place s) (drop 1 inner) f x.value) in
      let code : is_message KEY_UPDATE_ACK (reply_text t) ≡ false = ap (is_message KEY_UPDATE_ACK) (reply_of t quiet) ∙ ap (λ (l : List ℕ). is_message KEY_UPDATE_ACK (message_text l)) (replies r s inner f t x)
      ∙ sent_code (goes_large (session_place s) a) f.handle KEY_UPDATE_ACK (answer_of r (session_place s) (drop 1 inner) f x.value) refl u.0 in
      not_third (is_message KEY_UPDATE text) (test (operation_in text)) (is_message KEY_UPDATE_ACK (reply_text t)) code
      ∙ sym (ap (λ (e : Effect). updated_by test (asked_in e)) (took r s inner f t x) ∙ u.1 test))
]

pub tells_updates : (r : RspSetup) (s : Events) (inner : List ℕ) (f : Free) (t : Turn) (n : ℕ) (text : List ℕ) → inner ≡ take n (drop 2 text) → IsRoomy s → TurnIs r s inner f t → (test : ℕ → Bool)
    → is_update_of (test (operation_in text)) (text, reply_text t) ≡ updated_by test (asked_in t.effect)
tells_updates r s inner f t n text holds room x test = elim x [
  | inl a ↦ not_third (is_message KEY_UPDATE text) (test (operation_in text)) (is_message KEY_UPDATE_ACK (reply_text t)) (refused_reply r s inner f t a KEY_UPDATE_ACK refl) ∙ sym (updated_refused r s inner f t a test)
  | inr y ↦ elim y [
    | inl a ↦ not_third (is_message KEY_UPDATE text) (test (operation_in text)) (is_message KEY_UPDATE_ACK (reply_text t)) (data_reply s inner f t a KEY_UPDATE_ACK) ∙ sym (updated_data s inner f t a test)
    | inr a ↦ update_by r s inner f t n text holds room a test
  ]
]

-- What is counted for the keys of a session.
all_of : (e : Effect) → updated_by (λ n. n == 2) (asked_in e) ≡ updates_in 2 e
all_of NoEffect = refl
all_of (TookData bytes answer) = refl
all_of (Took (KeyUpdate op tag) request answer large) = refl
all_of (Took v request answer large) = refl

any_of : (e : Effect) → updated_by (λ n. n == 1 || n == 2) (asked_in e) ≡ (updates_in 1 e || updates_in 2 e)
any_of NoEffect = refl
any_of (TookData bytes answer) = refl
any_of (Took (KeyUpdate op tag) request answer large) = refl
any_of (Took v request answer large) = refl

pub tells_all : (r : RspSetup) (s : Events) (inner : List ℕ) (f : Free) (t : Turn) (n : ℕ) (text : List ℕ) → inner ≡ take n (drop 2 text) → IsRoomy s → TurnIs r s inner f t
    → is_update_of (operation_in text == 2) (text, reply_text t) ≡ updates 2 t
tells_all r s inner f t n text holds room x = tells_updates r s inner f t n text holds room x (λ n. n == 2) ∙ all_of t.effect

pub tells_any : (r : RspSetup) (s : Events) (inner : List ℕ) (f : Free) (t : Turn) (n : ℕ) (text : List ℕ) → inner ≡ take n (drop 2 text) → IsRoomy s → TurnIs r s inner f t
    → is_update_of (operation_in text == 1 || operation_in text == 2) (text, reply_text t) ≡ (updates 1 t || updates 2 t)
tells_any r s inner f t n text holds room x = tells_updates r s inner f t n text holds room x (λ n. n == 1 || n == 2) ∙ any_of t.effect

third_of : (e : Effect) → updated_by (λ n. n == 3) (asked_in e) ≡ updates_in 3 e
third_of NoEffect = refl
third_of (TookData bytes answer) = refl
third_of (Took (KeyUpdate op tag) request answer large) = refl
third_of (Took v request answer large) = refl

pub tells_third : (r : RspSetup) (s : Events) (inner : List ℕ) (f : Free) (t : Turn) (n : ℕ) (text : List ℕ) → inner ≡ take n (drop 2 text) → IsRoomy s → TurnIs r s inner f t
    → is_update_of (operation_in text == 3) (text, reply_text t) ≡ updates 3 t
tells_third r s inner f t n text holds room x = tells_updates r s inner f t n text holds room x (λ n. n == 3) ∙ third_of t.effect

-- A KEY_UPDATE that took effect has one of the three operations.
pub operation_known : (r : RspSetup) (s : Events) (inner : List ℕ) (f : Free) (t : Turn) → TurnIs r s inner f t → (op tag : ℕ) → asked_in t.effect ≡ Some (KeyUpdate op tag) → is_key_operation op ≡ true
operation_known r s inner f t x op tag is = elim x [
  | inl a ↦ absurd (let none : None ≡ Some (KeyUpdate op tag) = sym (ap (λ (t : Turn). asked_in t.effect) a.is) ∙ is in cc)
  | inr y ↦ elim y [
    | inl a ↦ absurd (let none : None ≡ Some (KeyUpdate op tag) = sym (ap (λ (t : Turn). asked_in t.effect) a.is) ∙ is in cc)
    | inr a ↦ (operation_read (hash_len (session_terms s)) (drop 1 inner) op tag (a.spelled ∙ sym (ap asked_in (took r s inner f t a)) ∙ is)).1
  ]
]
