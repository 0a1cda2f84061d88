-- A record in two sessions that differ only in the bytes of the large response that is pending there.
use Rattle.std.proofs.Common.{◌≡◌, ◌+◌, ◌==◌, ◌||◌, ℕ, List, [], ◌∷◌, refl, sym, ap, ◌∙◌, take, length, Bool, true, false, Option, Some, None, cond, is_some, eqb-true}
use Rattle.std.specs.Prelude.{not, nat_lt, unwrap_or}
use Rattle.std.proofs.lemmas.Bool.{false≢true, not-false}
use Rattle.chunking.specs.Collecting.{broken_rule, under_way}
use Rattle.chunking.specs.Cutting.{chunk_count, chunk_end, nth_chunk, unit_of}
use Rattle.std.specs.Int.{div_ceil}
use Rattle.responder_machine.proofs.Tests.{contents_shown}
use Rattle.responder_machine.specs.Answer.{Free, answer_bytes, chunk_answer, request_at}
use Rattle.responder_machine.specs.Handling.{chunk_in, effect_of, handle_for, turn_by, turn_of}
use Rattle.responder_machine.specs.History.{History}
use Rattle.responder_machine.specs.LargeMessages.{given_of, handle_of, large_of, still_pending}
use Rattle.responder_machine.specs.Place.{Place, session_place}
use Rattle.responder_machine.specs.Refusal.{chunk_fault, code_of, fits_stage, has_pending, is_exchange_refused, is_get_refused, is_update_misplaced, is_verify_wrong, lacks_flag, refusal, stage_allows}
use Rattle.responder_machine.specs.Session.{Events, stage_of, session_negotiation, turns_of}
use Rattle.responder_machine.specs.Session.Event.{Began, Heard, Waited}
use Rattle.responder_machine.specs.Setup.{RspSetup}
use Rattle.responder_machine.specs.Turn.{Turn, code_in, handle_in, is_taken, takes}
use Rattle.spdm_grammar.specs.Message.{ChunkMessage, RequestMessage}
use Rattle.spdm_grammar.specs.Message.RequestMessage.{GetVersion, GetCapabilities, NegotiateAlgorithms, GetMeasurements, PskExchange, PskFinish, Heartbeat, KeyUpdate, EndSession, ChunkSend, ChunkGet}
use Rattle.spdm_grammar.specs.Message.ResponseMessage.{ChunkResponse}
use Rattle.spdm_grammar.specs.Requests.{request_in}
use Rattle.spdm_grammar.specs.declared.messages.error_code.ErrorCode.{ErrorCode}
use Rattle.spdm_grammar.specs.declared.names.request_code.TheConstants.{CHUNK_GET}
use Rattle.spdm_machine.specs.Terms.{hash_len, terms_of}
use Rattle.spdm_grammar.specs.declared.told.phase.Stage.{Stage}
use Rattle.transcript.specs.Transcripts.{Negotiation}
use Rattle.capture_machine.proofs.ChunksGiven.{Chunked, gets_of}
use Rattle.capture_machine.proofs.ChunksGiven.Chunked.{Gone, Given}
use Rattle.capture_machine.proofs.EventsAlike.{EventsAlike, answer_alike, answered, chunks_alike, exchange_alike, negotiation_alike, stage_alike}
use Rattle.capture_machine.proofs.EventsAlike.EventsAlike.{NoEvent, Behind, Here}
use Rattle.capture_machine.proofs.GetTells.{transfer_of}
use Rattle.check_late_laws.proofs.Cuts.{same_chunk}
use Rattle.check_late_laws.proofs.TurnsMoved.{Near}

-- ---- What is counted.

given_step : (t : Turn) (l k : List Turn) → given_of l ≡ given_of k → given_of (t ∷ l) ≡ given_of (t ∷ k)
given_step t l k same = ap (λ (n : ℕ). cond (not (is_taken t)) n (cond (takes CHUNK_GET t) (n + 1) 0)) same

pub given_alike : (s u : Events) → EventsAlike s u → given_of (turns_of s) ≡ given_of (turns_of u)
given_alike _ _ NoEvent = refl
given_alike _ _ (Behind (Began n x y) s u a) = given_alike s u a
given_alike _ _ (Behind (Heard sealed t reply) s u a) = given_step t (turns_of s) (turns_of u) (given_alike s u a)
given_alike _ _ (Behind (Waited n) s u a) = given_alike s u a
given_alike _ _ (Here sealed t x m large w v reply s u not a) = given_step (answered t x m large w) (turns_of s) (turns_of u) (given_alike s u a)

handle_alike : (s u : Events) → EventsAlike s u → handle_of (turns_of s) ≡ handle_of (turns_of u)
handle_alike _ _ NoEvent = refl
handle_alike _ _ (Behind (Began n x y) s u a) = handle_alike s u a
handle_alike _ _ (Behind (Heard sealed t reply) s u a) = ap (unwrap_or (handle_in t.effect)) (handle_alike s u a)
handle_alike _ _ (Behind (Waited n) s u a) = handle_alike s u a
handle_alike _ _ (Here sealed t x m large w v reply s u not a) = ap (unwrap_or large) (handle_alike s u a)

-- ---- The chunk that is given.

given_whole : (t n : ℕ) (o : Option (List ℕ)) (v : List ℕ) → o ≡ Some v → unwrap_or (still_pending t n o) [] ≡ cond (nat_lt n (chunk_count t v)) v []
given_whole t n o v is = ap (λ (x : Option (List ℕ)). unwrap_or (still_pending t n x) []) is ∙ by_more (nat_lt n (chunk_count t v))
  where
    by_more : (b : Bool) → unwrap_or (cond b (Some v) None) [] ≡ cond b v []
    by_more true = refl
    by_more false = refl

either_chunk : (t handle n : ℕ) (v w : List ℕ) (b : Bool) → nth_chunk t handle v n ≡ nth_chunk t handle w n → nth_chunk t handle (cond b v []) n ≡ nth_chunk t handle (cond b w []) n
either_chunk t handle n v w true same = same
either_chunk t handle n v w false same = refl

pub chunk_same : (p o : Place) (v w : List ℕ) (handle : ℕ) → transfer_of p ≡ transfer_of o → large_of p.turns ≡ Some v → large_of o.turns ≡ Some w → given_of p.turns ≡ given_of o.turns → length w ≡ length v
    → take (chunk_end (transfer_of p) (given_of p.turns)) w ≡ take (chunk_end (transfer_of p) (given_of p.turns)) v → chunk_answer p handle (given_of p.turns) ≡ chunk_answer o handle (given_of p.turns)
chunk_same p o v w handle transfer one two given size same =
    let n : ℕ = given_of p.turns in
    let t : ℕ = transfer_of p in
    let count : nat_lt n (chunk_count t v) ≡ nat_lt n (chunk_count t w) = ap (λ (k : ℕ). nat_lt n (div_ceil (k + 4) (unit_of t))) (sym size) in
    ap (λ (l : List ℕ). ChunkResponse (nth_chunk t handle l n)) (given_whole t n (large_of p.turns) v one)
    ∙ ap ChunkResponse (either_chunk t handle n v w (nat_lt n (chunk_count t v)) (sym (same_chunk t handle n w v size same)))
    ∙ ap (λ (b : Bool). ChunkResponse (nth_chunk t handle (cond b w []) n)) count
    ∙ ap (λ (l : List ℕ). ChunkResponse (nth_chunk t handle l n)) (sym (given_whole t n (large_of o.turns) w two))
    ∙ ap (λ (k : ℕ). ChunkResponse (nth_chunk t handle (unwrap_or (still_pending t k (large_of o.turns)) []) n)) given
    ∙ ap (λ (k : ℕ). ChunkResponse (nth_chunk k handle (unwrap_or (still_pending k (given_of o.turns) (large_of o.turns)) []) n)) transfer

-- Where these bytes are pending at both places, and begin alike.
pub chunk_at : (p o : Place) (at : Option ℕ) (h : History) (v w : List ℕ) → transfer_of p ≡ transfer_of o → is_some (large_of p.turns) ≡ is_some (large_of o.turns) → given_of p.turns ≡ given_of o.turns → Chunked p at v h → Chunked o at w h → length w ≡ length v
    → take (chunk_end (transfer_of p) (gets_of at h)) w ≡ take (chunk_end (transfer_of p) (gets_of at h)) v → (handle : ℕ) → chunk_answer p handle (given_of p.turns) ≡ chunk_answer o handle (given_of p.turns)
chunk_at p o at h v w transfer some counts (Given large given parts) (Given other gave bytes) size same handle =
    chunk_same p o v w handle transfer large other counts size (ap (λ (n : ℕ). take (chunk_end (transfer_of p) n) w) given ∙ same ∙ sym (ap (λ (n : ℕ). take (chunk_end (transfer_of p) n) v) given))
chunk_at p o at h v w transfer some counts (Gone none) (Gone nor) size same handle =
    let n : ℕ = given_of p.turns in
    ap (λ (x : Option (List ℕ)). ChunkResponse (nth_chunk (transfer_of p) handle (unwrap_or (still_pending (transfer_of p) n x) []) n)) none
    ∙ ap (λ (t : ℕ). ChunkResponse (nth_chunk t handle [] n)) transfer
    ∙ sym (ap (λ (x : Option (List ℕ)). ChunkResponse (nth_chunk (transfer_of o) handle (unwrap_or (still_pending (transfer_of o) (given_of o.turns) x) []) n)) nor)
chunk_at p o at h v w transfer some counts (Gone none) (Given other gave bytes) size same handle = absurd (false≢true (sym (ap is_some none) ∙ some ∙ ap is_some other))
chunk_at p o at h v w transfer some counts (Given large given parts) (Gone nor) size same handle = absurd (false≢true (sym (ap is_some nor) ∙ sym some ∙ ap is_some large))

second_same : (a b : Bool) → (not a || not b) ≡ false → b ≡ true
second_same true b is = not-false b is
second_same false b is = absurd (false≢true (sym is))

-- CHUNK_GET that is not refused takes effect.
pub got_takes : (r : RspSetup) (p : Place) (m : List ℕ) (f : Free) (handle number : ℕ) → request_at p m ≡ Some (ChunkGet handle number) → refusal r p m f ≡ None → takes CHUNK_GET (turn_of r p m f) ≡ true
unfolding turn_of
got_takes r p m f handle number is none =
    ap (λ (x : Option ErrorCode). takes CHUNK_GET (turn_by r p m f x (chunk_in (request_at p m)))) none
    ∙ ap (λ (q : Option RequestMessage). takes CHUNK_GET (turn_by r p m f None (chunk_in q))) is
    ∙ ap (λ (q : Option RequestMessage). code_in (effect_of q m (answer_bytes r p m f) (handle_for p f (answer_bytes r p m f))) == CHUNK_GET) is

-- CHUNK_GET that is not refused takes the next chunk.
pub got_next : (r : RspSetup) (p o : Place) (m : List ℕ) (f : Free) → (takes CHUNK_GET (turn_of r p m f) ≡ true → (handle : ℕ) → chunk_answer p handle (given_of p.turns) ≡ chunk_answer o handle (given_of p.turns)) → (handle number : ℕ) → request_at p m ≡ Some (ChunkGet handle number) → refusal r p m f ≡ None
    → chunk_answer p handle number ≡ chunk_answer o handle number
got_next r p o m f chunk handle number is none =
    let right : is_get_refused p (Some (ChunkGet handle number)) ≡ false = ap (is_get_refused p) (sym is) ∙ contents_shown r p m f none 9 in
    let next : number ≡ given_of p.turns = eqb-true number (given_of p.turns) (second_same _ _ right) in
    ap (chunk_answer p handle) next ∙ chunk (got_takes r p m f handle number is none) handle ∙ sym (ap (chunk_answer o handle) next)

-- ---- The tests.

module _ (r : RspSetup) (s u : Events) (a : EventsAlike s u) (m : List ℕ) where
  abbrev p : Place
  p = session_place s

  abbrev o : Place
  o = session_place u

  negotiation : session_negotiation s ≡ session_negotiation u
  negotiation = negotiation_alike s u a

  asked_same : request_at (session_place s) m ≡ request_at (session_place u) m
  asked_same = ap (λ (n : Negotiation). request_in (hash_len (terms_of n)) m) (negotiation_alike s u a)

  exchange_by : (q : Option RequestMessage) → is_exchange_refused r p q ≡ is_exchange_refused r o q
  exchange_by q = ap (λ (n : Negotiation). is_exchange_refused r (record (session_place s) { negotiation = n }) q) (negotiation_alike s u a) ∙ by_kind q
    where
      by_kind : (q : Option RequestMessage) → is_exchange_refused r (record (session_place s) { negotiation = session_negotiation u }) q ≡ is_exchange_refused r o q
      by_kind None = refl
      by_kind (Some (PskExchange x)) = refl
      by_kind (Some GetVersion) = refl
      by_kind (Some (GetCapabilities caps)) = refl
      by_kind (Some (NegotiateAlgorithms offer)) = refl
      by_kind (Some (GetMeasurements op)) = refl
      by_kind (Some (PskFinish verify)) = refl
      by_kind (Some Heartbeat) = refl
      by_kind (Some (KeyUpdate op tag)) = refl
      by_kind (Some EndSession) = refl
      by_kind (Some (ChunkSend c)) = refl
      by_kind (Some (ChunkGet handle number)) = refl

  verify_by : (q : Option RequestMessage) → is_verify_wrong r p m q ≡ is_verify_wrong r o m q
  verify_by None = refl
  verify_by (Some (PskFinish verify)) =
      let n = negotiation_alike s u a in
      let exchange = exchange_alike s u a in
      let answer = answer_alike s u a in
      cc
  verify_by (Some (PskExchange x)) = refl
  verify_by (Some GetVersion) = refl
  verify_by (Some (GetCapabilities caps)) = refl
  verify_by (Some (NegotiateAlgorithms offer)) = refl
  verify_by (Some (GetMeasurements op)) = refl
  verify_by (Some Heartbeat) = refl
  verify_by (Some (KeyUpdate op tag)) = refl
  verify_by (Some EndSession) = refl
  verify_by (Some (ChunkSend c)) = refl
  verify_by (Some (ChunkGet handle number)) = refl

  update_by : (q : Option RequestMessage) → is_update_misplaced p q ≡ is_update_misplaced o q
  update_by (Some (KeyUpdate op tag)) = ap (λ (x : Stage). not (fits_stage x op)) (stage_alike s u a)
  update_by None = refl
  update_by (Some (PskExchange x)) = refl
  update_by (Some GetVersion) = refl
  update_by (Some (GetCapabilities caps)) = refl
  update_by (Some (NegotiateAlgorithms offer)) = refl
  update_by (Some (GetMeasurements op)) = refl
  update_by (Some (PskFinish verify)) = refl
  update_by (Some Heartbeat) = refl
  update_by (Some EndSession) = refl
  update_by (Some (ChunkSend c)) = refl
  update_by (Some (ChunkGet handle number)) = refl

  fault_by : (q : Option RequestMessage) → chunk_fault r p q ≡ chunk_fault r o q
  fault_by (Some (ChunkSend c)) = ap (λ (l : List ChunkMessage). broken_rule r.max (under_way l) c) (chunks_alike s u a)
  fault_by None = refl
  fault_by (Some (PskExchange x)) = refl
  fault_by (Some GetVersion) = refl
  fault_by (Some (GetCapabilities caps)) = refl
  fault_by (Some (NegotiateAlgorithms offer)) = refl
  fault_by (Some (GetMeasurements op)) = refl
  fault_by (Some (PskFinish verify)) = refl
  fault_by (Some Heartbeat) = refl
  fault_by (Some (KeyUpdate op tag)) = refl
  fault_by (Some EndSession) = refl
  fault_by (Some (ChunkGet handle number)) = refl

  get_by : (q : Option RequestMessage) → is_get_refused p q ≡ is_get_refused o q
  get_by (Some (ChunkGet handle number)) =
      ap (λ (n : ℕ). not (handle == n) || not (number == given_of (turns_of s))) (handle_alike s u a) ∙ ap (λ (n : ℕ). not (handle == handle_of (turns_of u)) || not (number == n)) (given_alike s u a)
  get_by None = refl
  get_by (Some (PskExchange x)) = refl
  get_by (Some GetVersion) = refl
  get_by (Some (GetCapabilities caps)) = refl
  get_by (Some (NegotiateAlgorithms offer)) = refl
  get_by (Some (GetMeasurements op)) = refl
  get_by (Some (PskFinish verify)) = refl
  get_by (Some Heartbeat) = refl
  get_by (Some (KeyUpdate op tag)) = refl
  get_by (Some EndSession) = refl
  get_by (Some (ChunkSend c)) = refl

  pub near : has_pending (session_place s) ≡ has_pending (session_place u) → Near r (session_place s) (session_place u) m
  near pending = record {
    at = refl;
    phase = refl;
    asked = asked_same;
    common = ap (λ (n : Negotiation). (terms_of n).common) (negotiation_alike s u a);
    allowed = ap (λ (x : Stage). stage_allows x (has_pending (session_place s)) (code_of m)) (stage_alike s u a) ∙ ap (λ (b : Bool). stage_allows (stage_of u) b (code_of m)) pending;
    lacks = ap (λ (n : Negotiation). lacks_flag (terms_of n) (code_of m)) (negotiation_alike s u a);
    exchange = exchange_by (request_at (session_place s) m) ∙ ap (is_exchange_refused r (session_place u)) asked_same;
    verify = verify_by (request_at (session_place s) m) ∙ ap (is_verify_wrong r (session_place u) m) asked_same;
    update = update_by (request_at (session_place s) m) ∙ ap (is_update_misplaced (session_place u)) asked_same;
    fault = fault_by (request_at (session_place s) m) ∙ ap (chunk_fault r (session_place u)) asked_same;
    get = get_by (request_at (session_place s) m) ∙ ap (is_get_refused (session_place u)) asked_same;
    full = refl;
  }
