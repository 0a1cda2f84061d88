-- A request for measurements or for a session leads to the same turn at two places in the clear that differ in what
-- came there and in the sessions alone: where neither has four established sessions, or measurements are asked for.
use Rattle.std.proofs.Common.{◌≡◌, ◌≢◌, ◌==◌, ◌&&◌, ◌||◌, ◌∙◌, ℕ, List, [], ◌∷◌, refl, sym, ap, arith, Bool, true, false, Option, Some, None, cond, inl, inr}
use Rattle.std.proofs.lemmas.Bool.{false≢true}
use Rattle.std.proofs.lemmas.Option.{none-some}
use Rattle.check_late_laws.proofs.TurnsMoved.{Near, refusal_moved}
use Rattle.check_late_laws.specs.Late.PassedLast.{IsFree}
use Rattle.responder_machine.proofs.Codes.{asked-code}
use Rattle.responder_machine.proofs.Turns.{turn_of-plain, turn_of-refused}
use Rattle.responder_machine.specs.Answer.{Free, answer_bytes, answer_to, request_at}
use Rattle.responder_machine.specs.Handling.{carried_turn, chunk_in, chunk_turn, effect_of, handle_for, plain_turn, sent_for, taken_chunk, turn_by, turn_of}
use Rattle.responder_machine.specs.Laws.{completed_at}
use Rattle.responder_machine.specs.Place.{Place, inside}
use Rattle.responder_machine.specs.Place.Where.{InClear}
use Rattle.responder_machine.specs.Refusal.{chunk_fault, code_of, has_pending, is_answer_too_long, is_exchange_refused, is_get_refused, is_update_misplaced, is_verify_wrong, phase_allows, refusal}
use Rattle.responder_machine.specs.Setup.{RspSetup}
use Rattle.responder_machine.specs.Turn.{Turn, code_in, is_taken}
use Rattle.responder_machine.specs.Turn.Effect.{NoEffect}
use Rattle.spdm_grammar.specs.Codes.{code_for, is_one_of}
use Rattle.spdm_grammar.specs.Message.{ChunkMessage, RequestMessage}
use Rattle.spdm_grammar.specs.Message.RequestMessage.{GetVersion, GetCapabilities, NegotiateAlgorithms, GetMeasurements, PskExchange, PskFinish, Heartbeat, KeyUpdate, EndSession, ChunkSend, ChunkGet}
use Rattle.spdm_grammar.specs.declared.messages.error_code.ErrorCode.{ErrorCode}
use Rattle.spdm_grammar.specs.declared.names.request_code.TheConstants.{CHUNK_GET, CHUNK_SEND, GET_CAPABILITIES, GET_MEASUREMENTS, GET_VERSION, NEGOTIATE_ALGORITHMS, PSK_EXCHANGE}
use Rattle.spdm_grammar.specs.declared.told.phase.Phase.{Phase}
use Rattle.spdm_grammar.specs.declared.told.phase.Phase.TheVariants.{Fresh, Versioned, Capable, Negotiated}
use Rattle.transcript.specs.Transcripts.{Negotiation}

-- ---- Places and requests.

-- A place in the clear.
abbrev pub place_by : Phase → Negotiation → List Turn → ℕ → Place
place_by reached agreed ts held = record {
  at = InClear;
  phase = reached;
  turns = ts;
  negotiation = agreed;
  events = [];
  past_handshake = held;
}

-- A request whose answer has a free length.
abbrev pub IsFreeRequest : RequestMessage → Type 0
IsFreeRequest (GetMeasurements op) = Unit {0}
IsFreeRequest (PskExchange x) = Unit {0}
IsFreeRequest _ = ⊥

-- For measurements another id may be chosen.
abbrev pub with_id : RequestMessage → Free → ℕ → Free
with_id (GetMeasurements op) f i = record f { id = i }
with_id _ f i = f

allows_same : (reached : Phase) (x y : Bool) (c : ℕ) → (c == CHUNK_GET) ≡ false → phase_allows reached x c ≡ phase_allows reached y c
allows_same Fresh x y c other = ap (λ (b : Bool). c == GET_VERSION || (b && x)) other ∙ sym (ap (λ (b : Bool). c == GET_VERSION || (b && y)) other)
allows_same Versioned x y c other =
    ap (λ (b : Bool). is_one_of (GET_VERSION ∷ GET_CAPABILITIES ∷ []) c || (b && x)) other ∙ sym (ap (λ (b : Bool). is_one_of (GET_VERSION ∷ GET_CAPABILITIES ∷ []) c || (b && y)) other)
allows_same Capable x y c other =
    ap (λ (b : Bool). is_one_of (GET_VERSION ∷ NEGOTIATE_ALGORITHMS ∷ CHUNK_SEND ∷ []) c || (b && x)) other
    ∙ sym (ap (λ (b : Bool). is_one_of (GET_VERSION ∷ NEGOTIATE_ALGORITHMS ∷ CHUNK_SEND ∷ []) c || (b && y)) other)
allows_same Negotiated x y c other =
    ap (λ (b : Bool). is_one_of (GET_VERSION ∷ GET_MEASUREMENTS ∷ PSK_EXCHANGE ∷ CHUNK_SEND ∷ []) c || (b && x)) other
    ∙ sym (ap (λ (b : Bool). is_one_of (GET_VERSION ∷ GET_MEASUREMENTS ∷ PSK_EXCHANGE ∷ CHUNK_SEND ∷ []) c || (b && y)) other)

no_get : (q : RequestMessage) → IsFreeRequest q → (code_for q == CHUNK_GET) ≡ false
no_get (GetMeasurements op) free = refl
no_get (PskExchange x) free = refl
no_get GetVersion free = absurd free
no_get (GetCapabilities caps) free = absurd free
no_get (NegotiateAlgorithms offer) free = absurd free
no_get (PskFinish verify) free = absurd free
no_get Heartbeat free = absurd free
no_get (KeyUpdate op tag) free = absurd free
no_get EndSession free = absurd free
no_get (ChunkSend c) free = absurd free
no_get (ChunkGet handle number) free = absurd free

pub no_chunk : (q : RequestMessage) → IsFreeRequest q → chunk_in (Some q) ≡ None
no_chunk (GetMeasurements op) free = refl
no_chunk (PskExchange x) free = refl
no_chunk GetVersion free = absurd free
no_chunk (GetCapabilities caps) free = absurd free
no_chunk (NegotiateAlgorithms offer) free = absurd free
no_chunk (PskFinish verify) free = absurd free
no_chunk Heartbeat free = absurd free
no_chunk (KeyUpdate op tag) free = absurd free
no_chunk EndSession free = absurd free
no_chunk (ChunkSend c) free = absurd free
no_chunk (ChunkGet handle number) free = absurd free

-- ---- The turn.

module _ (r : RspSetup) (m : List ℕ) (reached : Phase) (agreed : Negotiation) (ts us : List Turn) (a b : ℕ) where
  abbrev p : Place
  p = place_by reached agreed ts a

  abbrev o : Place
  o = place_by reached agreed us b

  abbrev IsFull : Type 0
  IsFull = (code_of m == PSK_EXCHANGE && a == 4) ≡ (code_of m == PSK_EXCHANGE && b == 4)

  via : {A : Type 0} (q : RequestMessage) → request_at p m ≡ Some q → (f g : Option RequestMessage → A) → f (Some q) ≡ g (Some q) → f (request_at p m) ≡ g (request_at o m)
  via q reads f g same = ap f reads ∙ same ∙ sym (ap g reads)

  near : (q : RequestMessage) → IsFreeRequest q → request_at p m ≡ Some q → IsFull → Near r p o m
  near (GetMeasurements op) free reads full = record {
    at = refl;
    phase = refl;
    asked = refl;
    common = refl;
    allowed = allows_same reached (has_pending p) (has_pending o) (code_of m) (sym (ap (λ (n : ℕ). n == CHUNK_GET) (asked-code p m (GetMeasurements op) reads)));
    lacks = refl;
    exchange = via (GetMeasurements op) reads (is_exchange_refused r p) (is_exchange_refused r o) refl;
    verify = via (GetMeasurements op) reads (is_verify_wrong r p m) (is_verify_wrong r o m) refl;
    update = via (GetMeasurements op) reads (is_update_misplaced p) (is_update_misplaced o) refl;
    fault = via (GetMeasurements op) reads (chunk_fault r p) (chunk_fault r o) refl;
    get = via (GetMeasurements op) reads (is_get_refused p) (is_get_refused o) refl;
    full = full;
  }
  near (PskExchange x) free reads full = record {
    at = refl;
    phase = refl;
    asked = refl;
    common = refl;
    allowed = allows_same reached (has_pending p) (has_pending o) (code_of m) (sym (ap (λ (n : ℕ). n == CHUNK_GET) (asked-code p m (PskExchange x) reads)));
    lacks = refl;
    exchange = via (PskExchange x) reads (is_exchange_refused r p) (is_exchange_refused r o) refl;
    verify = via (PskExchange x) reads (is_verify_wrong r p m) (is_verify_wrong r o m) refl;
    update = via (PskExchange x) reads (is_update_misplaced p) (is_update_misplaced o) refl;
    fault = via (PskExchange x) reads (chunk_fault r p) (chunk_fault r o) refl;
    get = via (PskExchange x) reads (is_get_refused p) (is_get_refused o) refl;
    full = full;
  }
  near GetVersion free reads full = absurd free
  near (GetCapabilities caps) free reads full = absurd free
  near (NegotiateAlgorithms offer) free reads full = absurd free
  near (PskFinish verify) free reads full = absurd free
  near Heartbeat free reads full = absurd free
  near (KeyUpdate op tag) free reads full = absurd free
  near EndSession free reads full = absurd free
  near (ChunkSend c) free reads full = absurd free
  near (ChunkGet handle number) free reads full = absurd free

  pub bytes_same : (q : RequestMessage) → IsFreeRequest q → request_at (place_by reached agreed ts a) m ≡ Some q → (f : Free) (i : ℕ)
      → answer_bytes r (place_by reached agreed ts a) m f ≡ answer_bytes r (place_by reached agreed us b) m (with_id q f i)
  unfolding answer_bytes
  bytes_same (GetMeasurements op) free reads f i = ap (answer_to r p m f) reads ∙ sym (ap (answer_to r o m (record f { id = i })) reads)
  bytes_same (PskExchange x) free reads f i = ap (answer_to r p m f) reads ∙ sym (ap (answer_to r o m f) reads)
  bytes_same GetVersion free reads f i = absurd free
  bytes_same (GetCapabilities caps) free reads f i = absurd free
  bytes_same (NegotiateAlgorithms offer) free reads f i = absurd free
  bytes_same (PskFinish verify) free reads f i = absurd free
  bytes_same Heartbeat free reads f i = absurd free
  bytes_same (KeyUpdate op tag) free reads f i = absurd free
  bytes_same EndSession free reads f i = absurd free
  bytes_same (ChunkSend c) free reads f i = absurd free
  bytes_same (ChunkGet handle number) free reads f i = absurd free

  abbrev plain_with : Free → List ℕ → Turn
  plain_with f l = record {
    message = m;
    refused = None;
    chunk = None;
    effect = effect_of (request_at p m) m l (handle_for p f l);
    reply = sent_for p f l;
  }

  plain_same : (q : RequestMessage) → IsFreeRequest q → request_at p m ≡ Some q → (f : Free) (i : ℕ) → plain_turn r p m f ≡ plain_turn r o m (with_id q f i)
  plain_same (GetMeasurements op) free reads f i = ap (plain_with f) (bytes_same (GetMeasurements op) free reads f i)
  plain_same (PskExchange x) free reads f i = ap (plain_with f) (bytes_same (PskExchange x) free reads f i)
  plain_same GetVersion free reads f i = absurd free
  plain_same (GetCapabilities caps) free reads f i = absurd free
  plain_same (NegotiateAlgorithms offer) free reads f i = absurd free
  plain_same (PskFinish verify) free reads f i = absurd free
  plain_same Heartbeat free reads f i = absurd free
  plain_same (KeyUpdate op tag) free reads f i = absurd free
  plain_same EndSession free reads f i = absurd free
  plain_same (ChunkSend c) free reads f i = absurd free
  plain_same (ChunkGet handle number) free reads f i = absurd free

  pub turn_moved : (q : RequestMessage) → IsFreeRequest q → request_at (place_by reached agreed ts a) m ≡ Some q → (f : Free) (i : ℕ)
      → (code_of m == PSK_EXCHANGE && a == 4) ≡ (code_of m == PSK_EXCHANGE && b == 4) → refusal r (place_by reached agreed ts a) m f ≡ None
      → turn_of r (place_by reached agreed ts a) m f ≡ turn_of r (place_by reached agreed us b) m (with_id q f i)
  turn_moved q free reads f i full none =
      let bytes = bytes_same q free reads f i in
      let there : refusal r o m (with_id q f i) ≡ None = sym (refusal_moved r p o m f (with_id q f i) (near q free reads full) (ap (is_answer_too_long p) bytes)) ∙ none in
      turn_of-plain r p m f q none reads (no_chunk q free) ∙ plain_same q free reads f i ∙ sym (turn_of-plain r o m (with_id q f i) q there reads (no_chunk q free))

-- ---- What a turn tells of its request.

module _ (r : RspSetup) (p : Place) (m : List ℕ) (f : Free) where
  refused_not : (x : Option ErrorCode) → refusal r p m f ≡ x → is_taken (turn_of r p m f) ≡ true → refusal r p m f ≡ None
  refused_not None is taken = is
  refused_not (Some e) is taken = absurd (false≢true (sym (ap is_taken (turn_of-refused r p m f e is)) ∙ taken))

  pub taken_none : is_taken (turn_of r p m f) ≡ true → refusal r p m f ≡ None
  taken_none taken = refused_not (refusal r p m f) refl taken

  turn_at : (c : Option ChunkMessage) → refusal r p m f ≡ None → chunk_in (request_at p m) ≡ c → turn_of r p m f ≡ turn_by r p m f None c
  unfolding turn_of
  turn_at c none is = ap (λ (x : Option ErrorCode). turn_by r p m f x (chunk_in (request_at p m))) none ∙ ap (turn_by r p m f None) is

  carried_chunk : (c : ChunkMessage) (whole : List ℕ) (x : Option ErrorCode) → (carried_turn r (inside p) m f c whole x).chunk ≡ Some c
  carried_chunk c whole (Some e) = refl
  carried_chunk c whole None = refl

  has_chunk : (c : ChunkMessage) → (chunk_turn r p m f c).chunk ≡ Some c
  has_chunk c = by_last c.last
    where
      by_last : (last : Bool) → (cond last (carried_turn r (inside p) m f c (completed_at p c) (refusal r (inside p) (completed_at p c) f)) (taken_chunk m c NoEffect [])).chunk ≡ Some c
      by_last true = carried_chunk c (completed_at p c) (refusal r (inside p) (completed_at p c) f)
      by_last false = refl

  plain_code : (q : Option RequestMessage) (k : ℕ) → request_at p m ≡ q → code_in (effect_of q m (answer_bytes r p m f) (handle_for p f (answer_bytes r p m f))) ≡ k → code_in (plain_turn r p m f).effect ≡ k
  plain_code q k reads is = ap (λ (x : Option RequestMessage). code_in (effect_of x m (answer_bytes r p m f) (handle_for p f (answer_bytes r p m f)))) reads ∙ is

  -- What was asked for.
  pub record Asks : Type 0 where
    pub q : RequestMessage
    pub reads : request_at p m ≡ Some q
    pub free : IsFreeRequest q

  other : (n : ℕ) → (turn_of r p m f).effect ≡ (plain_turn r p m f).effect → code_in (plain_turn r p m f).effect ≡ n → IsFree (turn_of r p m f) → n ≢ GET_MEASUREMENTS → n ≢ PSK_EXCHANGE → ⊥
  other n plain code free one two = elim free.code [
    | inl is ↦ one (sym code ∙ ap code_in (sym plain) ∙ is)
    | inr is ↦ two (sym code ∙ ap code_in (sym plain) ∙ is)
  ]

  by_request : (x : Option RequestMessage) → request_at p m ≡ x → refusal r p m f ≡ None → IsFree (turn_of r p m f) → Asks
  by_request (Some (GetMeasurements op)) is none free = record { q = GetMeasurements op; reads = is; free = tt }
  by_request (Some (PskExchange x)) is none free = record { q = PskExchange x; reads = is; free = tt }
  by_request (Some (ChunkSend c)) is none free =
      let chunk : (turn_of r p m f).chunk ≡ Some c = ap (λ (t : Turn). t.chunk) (turn_at (Some c) none (ap chunk_in is)) ∙ has_chunk c in
      absurd (none-some c (sym free.whole ∙ chunk))
  by_request None is none free =
      absurd (other 0 (ap (λ (t : Turn). t.effect) (turn_at None none (ap chunk_in is))) (plain_code None 0 is refl) free (λ e. absurd (omega (arith, e))) (λ e. absurd (omega (arith, e))))
  by_request (Some GetVersion) is none free =
      absurd (other (code_for GetVersion) (ap (λ (t : Turn). t.effect) (turn_at None none (ap chunk_in is))) (plain_code _ _ is refl) free (λ e. absurd (omega (arith, e))) (λ e. absurd (omega (arith, e))))
  by_request (Some (GetCapabilities caps)) is none free =
      absurd (other (code_for (GetCapabilities caps)) (ap (λ (t : Turn). t.effect) (turn_at None none (ap chunk_in is))) (plain_code _ _ is refl) free (λ e. absurd (omega (arith, e))) (λ e. absurd (omega (arith, e))))
  by_request (Some (NegotiateAlgorithms offer)) is none free =
      absurd (other (code_for (NegotiateAlgorithms offer)) (ap (λ (t : Turn). t.effect) (turn_at None none (ap chunk_in is))) (plain_code _ _ is refl) free (λ e. absurd (omega (arith, e))) (λ e. absurd (omega (arith, e))))
  by_request (Some (PskFinish verify)) is none free =
      absurd (other (code_for (PskFinish verify)) (ap (λ (t : Turn). t.effect) (turn_at None none (ap chunk_in is))) (plain_code _ _ is refl) free (λ e. absurd (omega (arith, e))) (λ e. absurd (omega (arith, e))))
  by_request (Some Heartbeat) is none free =
      absurd (other (code_for Heartbeat) (ap (λ (t : Turn). t.effect) (turn_at None none (ap chunk_in is))) (plain_code _ _ is refl) free (λ e. absurd (omega (arith, e))) (λ e. absurd (omega (arith, e))))
  by_request (Some (KeyUpdate op tag)) is none free =
      absurd (other (code_for (KeyUpdate op tag)) (ap (λ (t : Turn). t.effect) (turn_at None none (ap chunk_in is))) (plain_code _ _ is refl) free (λ e. absurd (omega (arith, e))) (λ e. absurd (omega (arith, e))))
  by_request (Some EndSession) is none free =
      absurd (other (code_for EndSession) (ap (λ (t : Turn). t.effect) (turn_at None none (ap chunk_in is))) (plain_code _ _ is refl) free (λ e. absurd (omega (arith, e))) (λ e. absurd (omega (arith, e))))
  by_request (Some (ChunkGet handle number)) is none free =
      absurd (other (code_for (ChunkGet handle number)) (ap (λ (t : Turn). t.effect) (turn_at None none (ap chunk_in is))) (plain_code _ _ is refl) free (λ e. absurd (omega (arith, e))) (λ e. absurd (omega (arith, e))))

  pub asks : is_taken (turn_of r p m f) ≡ true → IsFree (turn_of r p m f) → Asks
  asks taken free = by_request (request_at p m) refl (taken_none taken) free
