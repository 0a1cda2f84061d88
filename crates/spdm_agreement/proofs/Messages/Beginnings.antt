-- The sessions of a pre-shared key as they are: what belongs to their beginning, and that T1, T2 and records tell it.
use Rattle.std.proofs.Common.{◌≡◌, ◌⊎◌, ℕ, ◌+◌, List, [], ◌∷◌, ◌++◌, length, drop, Bool, true, false, ◌&&◌, ◌||◌, ◌==◌, Option, Some, None, is_some, refl, sym, ap, ap₂, ◌∙◌, subst, inl, inr, arith, length-append, append_assoc, append-nil, bytes_eq, if◌then◌else◌}
use Rattle.std.specs.Prelude.{slice_index}
use Rattle.std.proofs.lemmas.Slice.Eq.{bytes_eq-Decides}
use Rattle.aes_gcm.specs.Gcm.{crypt}
use Rattle.aes_gcm.proofs.Twice.{crypt-crypt}
use Rattle.byteorder.specs.Endian.{little_number}
use Rattle.key_schedule.specs.Purpose.{Purpose, key_of, iv_of}
use Rattle.key_schedule.specs.declared.direction.Direction.TheVariants.{Request, Response}
use Rattle.running_hash.specs.Hash.{Hash, hash_of}
use Rattle.secured_record.specs.Format.{header, nonce, plain_text}
use Rattle.spdm_basis.specs.Sizes.{hash_size}
use Rattle.spdm_basis.specs.SessionIdBytes.{session_id_bytes}
use Rattle.spdm_basis.specs.declared.values.hash_alg.HashAlg.{HashAlg}
use Rattle.spdm_basis.specs.declared.values.hash_alg.HashAlg.TheVariants.{Sha256, Sha384}
use Rattle.spdm_grammar.specs.Ends.{EndsByItself}
use Rattle.spdm_grammar.specs.Message.{RequestMessage, ResponseMessage}
use Rattle.spdm_grammar.specs.Message.RequestMessage.{PskExchange, PskFinish}
use Rattle.spdm_grammar.specs.Message.ResponseMessage.{ChunkSendAck, Error, KeyUpdateAck, PskFinishRsp}
use Rattle.spdm_grammar.specs.Requests.{IsRequestSpelling, request_layout, request_in, canonical_request}
use Rattle.spdm_grammar.specs.Responses.{IsResponseSpelling, response_layout, response_in, canonical_response}
use Rattle.spdm_grammar.proofs.Ends.{no_request_longer, no_response_longer}
use Rattle.spdm_grammar.proofs.Spellings.{read_iff}
use Rattle.spdm_machine.specs.Keys.{verify_data}
use Rattle.responder_machine.proofs.VerifyLength.{length_verify}
use Rattle.spdm_machine.specs.Sessions.{id_in_exchange}
use Rattle.spdm_machine.specs.Terms.{Terms, terms_of, hash_len}
use Rattle.transcript.specs.Transcripts.{Negotiation, vca_of, without_verify, t1_of, t2_of}
use Rattle.spdm_agreement.specs.Reading.{First, Reading}
use Rattle.spdm_grammar.specs.declared.names.request_code.TheConstants.{KEY_UPDATE}
use Rattle.spdm_grammar.specs.declared.names.response_code.TheConstants.{PSK_FINISH_RSP, KEY_UPDATE_ACK}
use Rattle.std.proofs.lemmas.Bool.{and_parts}

-- ---- One message behind which others stand is told by the bytes of all.

-- Where two lists that begin with a and b are one, one of these is the beginning of the other.
parted : (a b x y : List ℕ) → a ++ x ≡ b ++ y → ((c : List ℕ) × (b ≡ a ++ c) × (x ≡ c ++ y)) ⊎ ((c : List ℕ) × (a ≡ b ++ c) × (y ≡ c ++ x))
parted [] b x y e = inl (b, refl, e)
parted (n ∷ a) [] x y e = inr (n ∷ a, refl, sym e)
parted (n ∷ a) (m ∷ b) x y e =
    let head : n ≡ m = cc in
    let tail : a ++ x ≡ b ++ y = cc in
    elim (parted a b x y tail) [
      | inl l ↦ inl (l.0, ap₂ (λ (k : ℕ) (r : List ℕ). k ∷ r) (sym head) l.1, l.2)
      | inr l ↦ inr (l.0, ap₂ (λ (k : ℕ) (r : List ℕ). k ∷ r) head l.1, l.2)
    ]

-- What is after the longer one is nothing.
closed : (a b c x y : List ℕ) → b ≡ a ++ c → x ≡ c ++ y → c ≡ [] → (a ≡ b) × (x ≡ y)
closed a b c x y e f n = (sym (e ∙ ap (λ (l : List ℕ). a ++ l) n ∙ append-nil a), f ∙ ap (λ (l : List ℕ). l ++ y) n)

pub request_told : (len : ℕ) (m n : RequestMessage) (a b x y : List ℕ) → request_in len a ≡ Some m → request_in len b ≡ Some n → a ++ x ≡ b ++ y → (a ≡ b) × (x ≡ y)
request_told len m n a b x y read_a read_b e =
    let spelled_a : IsRequestSpelling len m a = (read_iff (request_layout len) m a).0 read_a in
    let spelled_b : IsRequestSpelling len n b = (read_iff (request_layout len) n b).0 read_b in
    elim (parted a b x y e) [
      | inl l ↦ closed a b l.0 x y l.1 l.2 (no_request_longer len m n a l.0 spelled_a (subst (IsRequestSpelling len n) l.1 spelled_b))
      | inr l ↦ (let is = closed b a l.0 y x l.1 l.2 (no_request_longer len n m b l.0 spelled_b (subst (IsRequestSpelling len m) l.1 spelled_a)) in (sym is.0, sym is.1))
    ]

pub response_told : (len : ℕ) (m n : ResponseMessage) (a b x y : List ℕ) → EndsByItself m → EndsByItself n → response_in len false a ≡ Some m → response_in len false b ≡ Some n → a ++ x ≡ b ++ y → (a ≡ b) × (x ≡ y)
response_told len m n a b x y ends_a ends_b read_a read_b e =
    let spelled_a : IsResponseSpelling len false m a = (read_iff (response_layout len false) m a).0 read_a in
    let spelled_b : IsResponseSpelling len false n b = (read_iff (response_layout len false) n b).0 read_b in
    elim (parted a b x y e) [
      | inl l ↦ closed a b l.0 x y l.1 l.2 (no_response_longer len false m n a l.0 ends_a spelled_a (subst (IsResponseSpelling len false n) l.1 spelled_b))
      | inr l ↦ (let is = closed b a l.0 y x l.1 l.2 (no_response_longer len false n m b l.0 ends_b spelled_b (subst (IsResponseSpelling len false m) l.1 spelled_a)) in (sym is.0, sym is.1))
    ]

-- ---- A sound beginning.

abbrev pub first_terms : First → Terms
first_terms t = terms_of t.negotiation

abbrev pub first_hash : First → Hash
first_hash t = hash_of (first_terms t).choice.hash

-- T1, and the verify data of the responder over it.
abbrev pub transcript_of : First → List ℕ
transcript_of t = t1_of (first_hash t) (vca_of t.negotiation) t.exchange t.answer

abbrev pub answer_verify : List ℕ → First → List ℕ
answer_verify psk t = verify_data (first_terms t).choice psk (transcript_of t) Response (transcript_of t)

abbrev pub is_request : ℕ → List ℕ → Bool
is_request len bytes = is_some (request_in len bytes)

abbrev pub ends_by_itself : Option ResponseMessage → Bool
ends_by_itself None = false
ends_by_itself (Some (ChunkSendAck early handle number answer)) = false
ends_by_itself (Some (Error version code detail extended)) = false
ends_by_itself (Some _) = true

abbrev pub is_response : List ℕ → Bool
is_response bytes = ends_by_itself (response_in 32 false bytes)

abbrev pub is_negotiated : Negotiation → Bool
is_negotiated n =
    is_request 32 n.get_version && (is_response n.version && (is_request 32 n.get_capabilities && (is_response n.capabilities && (is_request 32 n.negotiate_algorithms && is_response n.algorithms))))

-- The messages of the negotiation and PSK_EXCHANGE are what they should be, and PSK_EXCHANGE_RSP ends in the right verify
-- data.
unfoldable pub is_sound_first : List ℕ → First → Bool
is_sound_first psk t =
    is_negotiated t.negotiation && (is_request (hash_len (first_terms t)) t.exchange && bytes_eq t.answer (without_verify (first_hash t) t.answer ++ answer_verify psk t))

some_of : {A : Type 0} (o : Option A) → is_some o ≡ true → (x : A) × (o ≡ Some x)
some_of None e = absurd (cc)
some_of (Some x) e = (x, refl)

itself_of : (o : Option ResponseMessage) → ends_by_itself o ≡ true → (x : ResponseMessage) × EndsByItself x × (o ≡ Some x)
itself_of None e = absurd (cc)
itself_of (Some (ChunkSendAck early handle number answer)) e = absurd (cc)
itself_of (Some (Error version code detail extended)) e = absurd (cc)
itself_of (Some x) e = (x, tt, refl)

request_told_by : (len : ℕ) (a b x y : List ℕ) → is_request len a ≡ true → is_request len b ≡ true → a ++ x ≡ b ++ y → (a ≡ b) × (x ≡ y)
request_told_by len a b x y p q e =
    let m = some_of (request_in len a) p in
    let n = some_of (request_in len b) q in
    request_told len m.0 n.0 a b x y m.1 n.1 e

response_told_by : (a b x y : List ℕ) → is_response a ≡ true → is_response b ≡ true → a ++ x ≡ b ++ y → (a ≡ b) × (x ≡ y)
response_told_by a b x y p q e =
    let m = itself_of (response_in 32 false a) p in
    let n = itself_of (response_in 32 false b) q in
    response_told 32 m.0 n.0 a b x y m.1 n.1 m.2 n.2 e

six : (a b c d e f x : List ℕ) → (a ++ b ++ c ++ d ++ e ++ f) ++ x ≡ a ++ (b ++ (c ++ (d ++ (e ++ (f ++ x)))))
six a b c d e f x = simp append_assoc

abbrev negotiation : (a b c d e f : List ℕ) → Negotiation
negotiation a b c d e f = record { get_version = a; version = b; get_capabilities = c; capabilities = d; negotiate_algorithms = e; algorithms = f }

same_negotiation : (n m : Negotiation) → n.get_version ≡ m.get_version → n.version ≡ m.version → n.get_capabilities ≡ m.get_capabilities → n.capabilities ≡ m.capabilities → n.negotiate_algorithms ≡ m.negotiate_algorithms → n.algorithms ≡ m.algorithms → n ≡ m
same_negotiation n m a b c d e f =
    ap (λ (l : List ℕ). negotiation l n.version n.get_capabilities n.capabilities n.negotiate_algorithms n.algorithms) a
    ∙ ap (λ (l : List ℕ). negotiation m.get_version l n.get_capabilities n.capabilities n.negotiate_algorithms n.algorithms) b
    ∙ ap (λ (l : List ℕ). negotiation m.get_version m.version l n.capabilities n.negotiate_algorithms n.algorithms) c
    ∙ ap (λ (l : List ℕ). negotiation m.get_version m.version m.get_capabilities l n.negotiate_algorithms n.algorithms) d
    ∙ ap (λ (l : List ℕ). negotiation m.get_version m.version m.get_capabilities m.capabilities l n.algorithms) e
    ∙ ap (λ (l : List ℕ). negotiation m.get_version m.version m.get_capabilities m.capabilities m.negotiate_algorithms l) f

negotiation_told : (n m : Negotiation) (x y : List ℕ) → is_negotiated n ≡ true → is_negotiated m ≡ true → vca_of n ++ x ≡ vca_of m ++ y → (n ≡ m) × (x ≡ y)
negotiation_told n m x y p q e =
    let p1 = and_parts _ _ p in
    let p2 = and_parts _ _ p1.1 in
    let p3 = and_parts _ _ p2.1 in
    let p4 = and_parts _ _ p3.1 in
    let p5 = and_parts _ _ p4.1 in
    let q1 = and_parts _ _ q in
    let q2 = and_parts _ _ q1.1 in
    let q3 = and_parts _ _ q2.1 in
    let q4 = and_parts _ _ q3.1 in
    let q5 = and_parts _ _ q4.1 in
    let n6 = n.algorithms ++ x in
    let n5 = n.negotiate_algorithms ++ n6 in
    let n4 = n.capabilities ++ n5 in
    let n3 = n.get_capabilities ++ n4 in
    let n2 = n.version ++ n3 in
    let m6 = m.algorithms ++ y in
    let m5 = m.negotiate_algorithms ++ m6 in
    let m4 = m.capabilities ++ m5 in
    let m3 = m.get_capabilities ++ m4 in
    let m2 = m.version ++ m3 in
    let flat = sym (six n.get_version n.version n.get_capabilities n.capabilities n.negotiate_algorithms n.algorithms x) ∙ e ∙ six m.get_version m.version m.get_capabilities m.capabilities m.negotiate_algorithms m.algorithms y in
    let e1 = request_told_by 32 n.get_version m.get_version n2 m2 p1.0 q1.0 flat in
    let e2 = response_told_by n.version m.version n3 m3 p2.0 q2.0 e1.1 in
    let e3 = request_told_by 32 n.get_capabilities m.get_capabilities n4 m4 p3.0 q3.0 e2.1 in
    let e4 = response_told_by n.capabilities m.capabilities n5 m5 p4.0 q4.0 e3.1 in
    let e5 = request_told_by 32 n.negotiate_algorithms m.negotiate_algorithms n6 m6 p5.0 q5.0 e4.1 in
    let e6 = response_told_by n.algorithms m.algorithms x y p5.1 q5.1 e5.1 in
    (same_negotiation n m e1.0 e2.0 e3.0 e4.0 e5.0 e6.0, e6.1)

-- ---- T1 and T2.

abbrev beginning : Negotiation → List ℕ → List ℕ → First
beginning n e a = record { negotiation = n; exchange = e; answer = a }

same_first : (s t : First) → s.negotiation ≡ t.negotiation → s.exchange ≡ t.exchange → s.answer ≡ t.answer → s ≡ t
same_first s t n e a =
    ap (λ (x : Negotiation). beginning x s.exchange s.answer) n ∙ ap (λ (x : List ℕ). beginning t.negotiation x s.answer) e ∙ ap (λ (x : List ℕ). beginning t.negotiation t.exchange x) a

-- What is known of a sound beginning.
pub record IsSound (psk : List ℕ) (t : First) : Type 0 where
  pub negotiated : is_negotiated t.negotiation ≡ true
  pub exchange : is_request (hash_len (first_terms t)) t.exchange ≡ true
  pub answer : t.answer ≡ without_verify (first_hash t) t.answer ++ answer_verify psk t

pub sound : (psk : List ℕ) (t : First) → is_sound_first psk t ≡ true → IsSound psk t
unfolding is_sound_first
sound psk t e =
    let one = and_parts (is_negotiated t.negotiation) _ e in
    let two = and_parts (is_request (hash_len (first_terms t)) t.exchange) _ one.1 in
    record { negotiated = one.0; exchange = two.0; answer = (bytes_eq-Decides t.answer (without_verify (first_hash t) t.answer ++ answer_verify psk t)).0 two.1 }

-- Where the bytes after the negotiation and PSK_EXCHANGE are one, so are these.
pub parts_told : (s t : First) (x y : List ℕ) → is_negotiated s.negotiation ≡ true → is_negotiated t.negotiation ≡ true → is_request (hash_len (first_terms s)) s.exchange ≡ true → is_request (hash_len (first_terms t)) t.exchange ≡ true
    → vca_of s.negotiation ++ s.exchange ++ x ≡ vca_of t.negotiation ++ t.exchange ++ y → (s.negotiation ≡ t.negotiation) × (s.exchange ≡ t.exchange) × (x ≡ y)
parts_told s t x y n m a b e =
    let one = negotiation_told s.negotiation t.negotiation (s.exchange ++ x) (t.exchange ++ y) n m (sym (append_assoc (vca_of s.negotiation) s.exchange x) ∙ e ∙ append_assoc (vca_of t.negotiation) t.exchange y) in
    let read : is_request (hash_len (first_terms s)) t.exchange ≡ true = subst (λ (n : Negotiation). is_request (hash_len (terms_of n)) t.exchange ≡ true) (sym one.0) b in
    let two = request_told_by (hash_len (first_terms s)) s.exchange t.exchange x y a read one.1 in
    (one.0, two.0, two.1)

began : (psk : List ℕ) (s t : First) (x y : List ℕ) → IsSound psk s → IsSound psk t → vca_of s.negotiation ++ s.exchange ++ x ≡ vca_of t.negotiation ++ t.exchange ++ y → (s.negotiation ≡ t.negotiation) × (s.exchange ≡ t.exchange) × (x ≡ y)
began psk s t x y p q e = parts_told s t x y p.negotiated q.negotiated p.exchange q.exchange e

pub transcript_tells : (psk : List ℕ) (s t : First) → is_sound_first psk s ≡ true → is_sound_first psk t ≡ true → transcript_of s ≡ transcript_of t → s ≡ t
transcript_tells psk s t p q e =
    let ps = sound psk s p in
    let qt = sound psk t q in
    let parts = began psk s t (without_verify (first_hash s) s.answer) (without_verify (first_hash t) t.answer) ps qt e in
    let verify : answer_verify psk s ≡ answer_verify psk t =
    ap (λ (n : Negotiation). verify_data (terms_of n).choice psk (transcript_of s) Response (transcript_of s)) parts.0
    ∙ ap (λ (x : List ℕ). verify_data (terms_of t.negotiation).choice psk x Response x) e in
    same_first s t parts.0 parts.1 (ps.answer ∙ ap₂ (λ (a b : List ℕ). a ++ b) parts.2 verify ∙ sym qt.answer)

-- PSK_FINISH with the right verify data, and PSK_FINISH_RSP.
abbrev pub finish_verify : List ℕ → First → List ℕ
finish_verify psk t = verify_data (first_terms t).choice psk (transcript_of t) Request (vca_of t.negotiation ++ t.exchange ++ t.answer ++ canonical_request (PskFinish []))

abbrev pub finish_message : List ℕ → First → List ℕ
finish_message psk t = canonical_request (PskFinish (finish_verify psk t))

abbrev pub finish_reply : List ℕ
finish_reply = canonical_response PskFinishRsp

abbrev pub second_of : List ℕ → First → List ℕ
second_of psk t = t2_of (vca_of t.negotiation) t.exchange t.answer (finish_message psk t) finish_reply

nothing : (c : List ℕ) → length c ≡ 0 → c ≡ []
nothing [] e = refl
nothing (x ∷ c) e = absurd (omega arith)

-- What stands before ends of one length is told.
front_told : (a b x y : List ℕ) → length x ≡ length y → a ++ x ≡ b ++ y → a ≡ b
front_told a b x y n e = elim (parted a b x y e) [
  | inl l ↦ (let m : length l.0 ≡ 0 = omega (arith, ap length l.2, length-append l.0 y) in (closed a b l.0 x y l.1 l.2 (nothing l.0 m)).0)
  | inr l ↦ (let m : length l.0 ≡ 0 = omega (arith, ap length l.2, length-append l.0 x) in sym (closed b a l.0 y x l.1 l.2 (nothing l.0 m)).0)
]

behind : (v e a f z : List ℕ) → v ++ e ++ a ++ f ++ z ≡ (v ++ e) ++ (a ++ (f ++ z))
behind v e a f z = simp append_assoc

pub second_tells : (psk : List ℕ) (s t : First) → is_sound_first psk s ≡ true → is_sound_first psk t ≡ true → second_of psk s ≡ second_of psk t → s ≡ t
second_tells psk s t p q e =
    let ps = sound psk s p in
    let qt = sound psk t q in
    let parts = began psk s t (s.answer ++ (finish_message psk s ++ finish_reply)) (t.answer ++ (finish_message psk t ++ finish_reply)) ps qt
    (sym (behind (vca_of s.negotiation) s.exchange s.answer (finish_message psk s) finish_reply) ∙ e ∙ behind (vca_of t.negotiation) t.exchange t.answer (finish_message psk t) finish_reply) in
    let one = length_verify (first_terms s).choice psk (transcript_of s) Request (vca_of s.negotiation ++ s.exchange ++ s.answer ++ canonical_request (PskFinish [])) in
    let two = length_verify (first_terms t).choice psk (transcript_of t) Request (vca_of t.negotiation ++ t.exchange ++ t.answer ++ canonical_request (PskFinish [])) in
    let sizes : hash_size (first_terms s).choice.hash ≡ hash_size (first_terms t).choice.hash = ap (λ (n : Negotiation). hash_size (terms_of n).choice.hash) parts.0 in
    let lengths : length (finish_message psk s ++ finish_reply) ≡ length (finish_message psk t ++ finish_reply) =
    omega (arith, length-append (finish_verify psk s) finish_reply, length-append (finish_verify psk t) finish_reply) in
    same_first s t parts.0 parts.1 (front_told s.answer t.answer (finish_message psk s ++ finish_reply) (finish_message psk t ++ finish_reply) lengths parts.2)

-- ---- Records.

abbrev pub first_id : First → List ℕ
first_id t = session_id_bytes (id_in_exchange t.exchange) (id_in_exchange t.answer)

-- The header and the encrypted text.
unfoldable pub sealed_of : First → Purpose → ℕ → List ℕ → List ℕ
sealed_of t p number text =
    header (first_id t) number (length text + 16)
    ++ crypt (key_of (first_terms t).choice.hash (first_terms t).choice.aead p) (nonce (iv_of (first_terms t).choice.hash p) number) text

pub sealed_tells : (t : First) (p : Purpose) (number : ℕ) (b c : List ℕ) → sealed_of t p number b ≡ sealed_of t p number c → b ≡ c
unfolding sealed_of
sealed_tells t p number b c e =
    let key = key_of (first_terms t).choice.hash (first_terms t).choice.aead p in
    let iv = nonce (iv_of (first_terms t).choice.hash p) number in
    let text : crypt key iv b ≡ crypt key iv c = ap (λ (l : List ℕ). drop 8 l) e in
    sym (crypt-crypt key iv b) ∙ ap (crypt key iv) text ∙ crypt-crypt key iv c

-- ---- All together.

-- A context holds the number of its draw as its last eight bytes but those of padding.
abbrev pub draw_place : HashAlg → ℕ
draw_place Sha256 = 24
draw_place Sha384 = 32

abbrev pub context_number : HashAlg → List ℕ → ℕ
context_number hash context = little_number 8 (drop (draw_place hash) context)

abbrev pub exchange_in : First → Option RequestMessage
exchange_in t = request_in (hash_len (first_terms t)) t.exchange

abbrev pub context_in : Option RequestMessage → List ℕ
context_in (Some (PskExchange exchange)) = exchange.context
context_in _ = []

-- The length of the measurement summary in PSK_EXCHANGE_RSP, which precedes the context.
abbrev pub summary_size : ℕ → Option RequestMessage → ℕ
summary_size size (Some (PskExchange exchange)) = if exchange.summary == 0 then 0 else size
summary_size size _ = 0

abbrev pub answer_context : First → List ℕ
answer_context t = drop (12 + summary_size (hash_len (first_terms t)) (exchange_in t)) t.answer

-- The number of the draw in the context of PSK_EXCHANGE_RSP, read off what stands before the verify data.
abbrev pub front_draw : First → ℕ
front_draw t = context_number (first_terms t).choice.hash (drop (12 + summary_size (hash_len (first_terms t)) (exchange_in t)) (without_verify (first_hash t) t.answer))

-- Of the text of a record: the type of the inner message, and the code and Param1 of the SPDM message in it.
abbrev pub is_message : ℕ → List ℕ → Bool
is_message code text = slice_index text 2 == 5 && slice_index text 4 == code

abbrev pub is_update_of : Bool → List ℕ × List ℕ → Bool
is_update_of is_operation x = is_message KEY_UPDATE x.0 && is_operation && is_message KEY_UPDATE_ACK x.1

abbrev pub operation_in : List ℕ → ℕ
operation_in text = slice_index text 5

abbrev pub message_text : List ℕ → List ℕ
message_text message = plain_text (5 ∷ message) []

abbrev pub reading_of : List ℕ → Reading
reading_of psk = record {
  psk = psk;
  is_sound = is_sound_first psk;
  transcript = transcript_of;
  transcript_tells = transcript_tells psk;
  second = second_of psk;
  second_tells = second_tells psk;
  requester_id = λ t. id_in_exchange t.exchange;
  responder_id = λ t. id_in_exchange t.answer;
  requester_draw = λ t. context_number (first_terms t).choice.hash (context_in (exchange_in t));
  responder_draw = λ t. context_number (first_terms t).choice.hash (answer_context t);
  finish = λ t. message_text (finish_message psk t);
  finish_answer = λ t. message_text finish_reply;
  opens = is_message PSK_FINISH_RSP;
  is_update = λ x. is_update_of (operation_in x.0 == 1 || operation_in x.0 == 2) x;
  is_update_all = λ x. is_update_of (operation_in x.0 == 2) x;
  granted = message_text (canonical_response (KeyUpdateAck 1 0));
  sealed = sealed_of;
  sealed_tells = sealed_tells;
}
