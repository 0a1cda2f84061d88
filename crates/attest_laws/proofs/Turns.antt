-- What a session of the responder makes of GET_MEASUREMENTS and of CHUNK_GET.
use Rattle.std.proofs.Common.{◌≡◌, ◌≢◌, ◌⊎◌, ◌∙◌, ℕ, ◌<◌, ◌≤◌, ◌+◌, List, [], ◌∷◌, length, Bool, true, false, ◌||◌, ◌-◌, nat_lt, Option, Some, None, refl, sym, ap, subst, inl, inr, arith}
use Rattle.std.specs.Prelude.{unwrap_or, ◌^◌}
use Rattle.std.proofs.lemmas.Bool.{false≢true, ltb-false, ltb-true, lt-ltb}
use Rattle.spdm_basis.proofs.Bools.{lt_false}
use Rattle.capture_machine.proofs.SmallGets.{get_fits}
use Rattle.capture_machine.proofs.TurnsAlike.{refusal_other}
use Rattle.chunking.specs.Cutting.{IsCollectable, chunk_count, nth_chunk}
use Rattle.responder_machine.proofs.Tests.{contents_shown}
use Rattle.responder_machine.proofs.Turns.{turn_of-refused}
use Rattle.responder_machine.specs.Answer.{Free, answer_of, request_at}
use Rattle.responder_machine.specs.Handling.{chunk_in, goes_large, large_response, refused_turn}
use Rattle.responder_machine.specs.LargeMessages.{large_of, pending_of, still_pending}
use Rattle.responder_machine.specs.Place.{Place, place_terms, session_place}
use Rattle.responder_machine.specs.Refusal.{is_answer_too_long, refusal}
use Rattle.responder_machine.specs.Responder.{inner_refusal, inner_reply, session_turn}
use Rattle.responder_machine.specs.Session.{Events, session_negotiation, stage_of, turns_of}
use Rattle.responder_machine.specs.Setup.{RspSetup}
use Rattle.responder_machine.specs.SizeLaws.{HasSizes}
use Rattle.responder_machine.specs.Turn.{Turn}
use Rattle.spdm_agreement.proofs.Responder.Negotiation.{answered}
use Rattle.spdm_grammar.proofs.Spellings.{read_iff}
use Rattle.spdm_grammar.specs.Message.{RequestMessage}
use Rattle.spdm_grammar.specs.Message.RequestMessage.{ChunkGet, GetMeasurements}
use Rattle.spdm_grammar.specs.Message.ResponseMessage.{ChunkResponse}
use Rattle.spdm_grammar.specs.Requests.{IsRequestSpelling, get_measurements_layout, request_body, request_layout}
use Rattle.spdm_grammar.specs.Responses.{canonical_response}
use Rattle.spdm_grammar.specs.declared.messages.error_code.ErrorCode.{ErrorCode}
use Rattle.spdm_grammar.specs.declared.messages.error_code.ErrorCode.TheVariants.{LargeResponse}
use Rattle.spdm_grammar.specs.declared.names.TheConstants.{MAX_MESSAGE_SIZE, MIN_DATA_TRANSFER_SIZE}
use Rattle.spdm_grammar.specs.declared.names.request_code.TheConstants.{GET_MEASUREMENTS}
use Rattle.spdm_grammar.specs.declared.names.spdm_version.TheConstants.{V1_2}
use Rattle.spdm_machine.specs.Terms.{hash_len, terms_of}
use Rattle.spdm_progress.proofs.ChunkCounts.{some_of}
use Rattle.spdm_progress.proofs.ChunkRules.{fits_chunk}
use Rattle.spdm_progress.proofs.ClearFetch.{IsPending, chunk_response, get_chunk, some_if, transfer_in}
use Rattle.spdm_progress.proofs.MeasureStages.{get_measurements, measurements}
use Rattle.spdm_progress.proofs.ResponderTurns.{read_at, taken_somehow, turn_with}
use Rattle.spdm_progress.proofs.SessionTurns.{read_inside}
use Rattle.transcript.specs.Transcripts.{Negotiation}

-- ---- A request of a session is refused, or taken.

-- An ERROR answers it, and no LargeResponse.
pub record IsRefused (r : RspSetup) (s : Events) (m : List ℕ) (f : Free) (t : Turn) : Type 0 where
  pub error : ErrorCode
  pub other : error ≢ LargeResponse
  pub is : t ≡ refused_turn r (session_place s) m f error

-- Its answer, whole or by LargeResponse, is one that the requester can take.
pub record IsTaken (r : RspSetup) (s : Events) (m : List ℕ) (f : Free) (v : RequestMessage) (t : Turn) : Type 0 where
  pub is : t ≡ turn_with m f (Some v) (canonical_response (answer_of r (session_place s) m f v)) (goes_large (session_place s) (canonical_response (answer_of r (session_place s) m f v)))
  pub fits : is_answer_too_long (session_place s) (canonical_response (answer_of r (session_place s) m f v)) ≡ false

module _ (r : RspSetup) (s : Events) (m : List ℕ) (f : Free) (v : RequestMessage) (sound : inner_refusal (stage_of s) (5 ∷ m) ≡ None) (single : chunk_in (Some v) ≡ None) (only : request_at (session_place s) m ≡ Some v) where
  turn_by : (o : Option ErrorCode) → refusal r (session_place s) m f ≡ o → IsRefused r s m f (session_turn r s (5 ∷ m) f) ⊎ IsTaken r s m f v (session_turn r s (5 ∷ m) f)
  turn_by (Some e) is = inl (record {
    error = e;
    other = refusal_other r (session_place s) m f e is;
    is = read_inside r s m f sound ∙ turn_of-refused r (session_place s) m f e is;
  })
  turn_by None is = inr (record {
    is = read_inside r s m f sound ∙ taken_somehow r (session_place s) m f v only single is;
    fits = ap (is_answer_too_long (session_place s)) (sym (answered r (session_place s) m f v only)) ∙ contents_shown r (session_place s) m f is 10;
  })

  pub turn_case : IsRefused r s m f (session_turn r s (5 ∷ m) f) ⊎ IsTaken r s m f v (session_turn r s (5 ∷ m) f)
  turn_case = turn_by (refusal r (session_place s) m f) refl

-- ---- GET_MEASUREMENTS.

measure_spelled : (len op : ℕ) → IsRequestSpelling len (GetMeasurements op) (get_measurements op)
unfolding request_body get_measurements_layout
measure_spelled len op = (
  V1_2 ∷ [],
  GET_MEASUREMENTS ∷ 0 ∷ op ∷ [],
  refl,
  refl,
  refl,
  (
    GET_MEASUREMENTS ∷ [],
    0 ∷ op ∷ [],
    refl,
    refl,
    refl,
    (
      0 ∷ [],
      op ∷ [],
      refl,
      refl,
      refl,
      (op ∷ [], [], refl, refl, refl, (ap GetMeasurements (omega arith), refl)),
    ),
  ),
)

pub measure_read : (p : Place) (op : ℕ) → request_at p (get_measurements op) ≡ Some (GetMeasurements op)
measure_read p op = (read_iff (request_layout (hash_len (place_terms p))) (GetMeasurements op) (get_measurements op)).1 (measure_spelled (hash_len (place_terms p)) op)

-- A large answer under way in a session: MEASUREMENTS of the operation, of which so many chunks were given.
pub record IsUnderWay (r : RspSetup) (n : Negotiation) (op handle k : ℕ) (turns : List Turn) : Type 0 where
  pub nonce : List ℕ
  pub whole : length nonce ≡ 32
  pub few : length (measurements r op nonce) ≤ MAX_MESSAGE_SIZE
  pub small : handle < 256
  pub low : MIN_DATA_TRANSFER_SIZE ≤ transfer_in n
  pub large : transfer_in n < length (measurements r op nonce)
  pub within : k < chunk_count (transfer_in n) (measurements r op nonce)
  pub pending : IsPending (measurements r op nonce) handle k turns

-- What answers GET_MEASUREMENTS, if it is not refused: MEASUREMENTS; or LargeResponse, behind which they are under way.
pub record AnswersWhole (r : RspSetup) (op : ℕ) (t : Turn) : Type 0 where
  pub nonce : List ℕ
  pub whole : length nonce ≡ 32
  pub few : length (measurements r op nonce) ≤ MAX_MESSAGE_SIZE
  pub inner : inner_reply t ≡ 5 ∷ measurements r op nonce

pub record AnswersLarge (r : RspSetup) (n : Negotiation) (op : ℕ) (t : Turn) (before : List Turn) : Type 0 where
  pub handle : ℕ
  pub small : handle < 256
  pub inner : inner_reply t ≡ 5 ∷ large_response handle
  pub under : IsUnderWay r n op handle 0 (t ∷ before)

either_false : (a b : Bool) → (a || b) ≡ false → a ≡ false
either_false false b is = refl
either_false true b is = absurd (false≢true (sym is))

-- What is known of a session and of the values that are chosen for a turn of it.
pub record IsSettled (r : RspSetup) (n : Negotiation) (s : Events) (f : Free) (before : List Turn) : Type 0 where
  pub negotiation : session_negotiation s ≡ n
  pub sizes : HasSizes r (terms_of n).common
  pub turns : turns_of s ≡ before
  pub nonce : length f.nonce ≡ 32
  pub opaque : f.measured_opaque ≡ []
  pub handle : f.handle < 256

module _ (r : RspSetup) (n : Negotiation) (s : Events) (f : Free) (before : List Turn) (k : IsSettled r n s f before) where
  abbrev place : Place
  place = session_place s

  transfer_is : (place_terms place).common.to_requester.transfer ≡ transfer_in n
  transfer_is = ap transfer_in k.negotiation

  -- An answer that can be taken has at most 4,096 bytes.
  short : (answer : List ℕ) → is_answer_too_long place answer ≡ false → length answer ≤ MAX_MESSAGE_SIZE
  short answer fits =
      let most = k.sizes.most in
      let within : length answer ≤ (place_terms place).common.to_requester.max = ltb-false (place_terms place).common.to_requester.max (length answer) (either_false (nat_lt (place_terms place).common.to_requester.max (length answer)) _ fits) in
      let same : (place_terms place).common.to_requester.max ≡ (terms_of n).common.to_requester.max = ap (λ (x : Negotiation). (terms_of x).common.to_requester.max) k.negotiation in
      omega (arith, within, same, most)

  -- ---- GET_MEASUREMENTS.

  module _ (op : ℕ) where
    abbrev m : List ℕ
    m = get_measurements op

    abbrev w : List ℕ
    w = measurements r op f.nonce

    abbrev answer : List ℕ
    answer = canonical_response (answer_of r place m f (GetMeasurements op))

    answer_is : answer ≡ w
    answer_is = ap (λ (l : List ℕ). canonical_response (answer_of r place m (record f { measured_opaque = l }) (GetMeasurements op))) k.opaque

    begun : (handle : ℕ) → handle ≡ f.handle → IsPending w handle 0 (turn_with m f (Some (GetMeasurements op)) answer true ∷ before)
    begun handle is = record { large = ap (λ (l : List ℕ). let o : Option (List ℕ) = Some l in o) answer_is; given = refl; handle_is = sym is }

    some_chunks : 0 < chunk_count (transfer_in n) w
    some_chunks = (let low = k.sizes.least in some_of (length w + 4) (transfer_in n - 12) (omega arith) (omega (arith, low)))

    taken_by : (b : Bool) → goes_large place answer ≡ b → is_answer_too_long place answer ≡ false → (t : Turn) → t ≡ turn_with m f (Some (GetMeasurements op)) answer b → AnswersWhole r op t ⊎ AnswersLarge r n op t before
    taken_by false goes fits t is = inl (record {
      nonce = f.nonce;
      whole = k.nonce;
      few = subst (λ (l : List ℕ). length l ≤ MAX_MESSAGE_SIZE) answer_is (short answer fits);
      inner = ap inner_reply is ∙ ap (λ (l : List ℕ). 5 ∷ l) answer_is;
    })
    taken_by true goes fits t is = inr (record {
      handle = f.handle;
      small = k.handle;
      inner = ap inner_reply is;
      under = subst (λ (u : Turn). IsUnderWay r n op f.handle 0 (u ∷ before)) (sym is) (record {
        nonce = f.nonce;
        whole = k.nonce;
        few = subst (λ (l : List ℕ). length l ≤ MAX_MESSAGE_SIZE) answer_is (short answer fits);
        small = k.handle;
        low = k.sizes.least;
        large = (let more : (place_terms place).common.to_requester.transfer < 0 + length answer = ltb-true (place_terms place).common.to_requester.transfer (0 + length answer) goes in let same = transfer_is in let long = ap length answer_is in omega (arith, more, same, long));
        within = some_chunks;
        pending = begun f.handle refl;
      });
    })

    pub measure_answered : (t : Turn) → t ≡ session_turn r s (5 ∷ m) f → IsRefused r s m f t ⊎ (AnswersWhole r op t ⊎ AnswersLarge r n op t before)
    measure_answered t is = elim (turn_case r s m f (GetMeasurements op) refl refl (measure_read place op)) [
      | inl x ↦ inl (record { error = x.error; other = x.other; is = is ∙ x.is })
      | inr x ↦ inr (taken_by (goes_large place answer) refl x.fits t (is ∙ x.is))
    ]

  -- ---- CHUNK_GET, for the chunk that comes next.

  -- It is refused, or answered by the chunk.
  pub record GivesChunk (op handle j : ℕ) (x : IsUnderWay r n op handle j before) (t : Turn) : Type 0 where
    pub inner : inner_reply t ≡ 5 ∷ chunk_response (transfer_in n) handle (measurements r op x.nonce) j
    pub pending : IsPending (measurements r op x.nonce) handle (j + 1) (t ∷ before)

  module _ (op handle j : ℕ) (x : IsUnderWay r n op handle j before) where
    abbrev whole : List ℕ
    whole = measurements r op x.nonce

    abbrev get : List ℕ
    get = get_chunk handle j

    abbrev chunk : List ℕ
    chunk = canonical_response (answer_of r place get f (ChunkGet handle j))

    pub collects : IsCollectable MAX_MESSAGE_SIZE (transfer_in n) whole
    collects = (let large = x.large in record { low = x.low; large = omega (arith, large); fits = x.few; short = x.few })

    number_small : j < 2 ^ 16
    number_small = (fits_chunk MAX_MESSAGE_SIZE (transfer_in n) handle whole collects j x.small x.within).number

    read : request_at place get ≡ Some (ChunkGet handle j)
    read = read_at place (ChunkGet handle j) (x.small, number_small) tt

    is_pending : pending_of (transfer_in n) (turns_of s) ≡ Some whole
    is_pending =
        ap (pending_of (transfer_in n)) k.turns
        ∙ ap (λ (z : ℕ). still_pending (transfer_in n) z (large_of before)) x.pending.given
        ∙ ap (still_pending (transfer_in n) j) x.pending.large
        ∙ some_if (nat_lt j (chunk_count (transfer_in n) whole)) whole (lt-ltb _ _ x.within)

    gives : chunk ≡ chunk_response (transfer_in n) handle whole j
    gives =
        ap (λ (z : ℕ). canonical_response (ChunkResponse (nth_chunk z handle (unwrap_or (pending_of z (turns_of s)) []) j))) transfer_is
        ∙ ap (λ (o : Option (List ℕ)). canonical_response (ChunkResponse (nth_chunk (transfer_in n) handle (unwrap_or o []) j))) is_pending

    not_large : goes_large place chunk ≡ false
    not_large =
        let few = get_fits (transfer_in n) handle j whole x.low in
        let long = ap length gives in
        let same = transfer_is in
        lt_false (place_terms place).common.to_requester.transfer (0 + length chunk) (omega (arith, few, long, same))

    given : (t : Turn) → t ≡ turn_with get f (Some (ChunkGet handle j)) chunk false → GivesChunk op handle j x t
    given t is = record {
      inner = ap inner_reply is ∙ ap (λ (l : List ℕ). 5 ∷ l) gives;
      pending = subst (λ (u : Turn). IsPending whole handle (j + 1) (u ∷ before)) (sym is) (record { large = x.pending.large; given = ap (λ (z : ℕ). z + 1) x.pending.given; handle_is = x.pending.handle_is });
    }

    pub chunk_answered : (t : Turn) → t ≡ session_turn r s (5 ∷ get) f → IsRefused r s get f t ⊎ GivesChunk op handle j x t
    chunk_answered t is = elim (turn_case r s get f (ChunkGet handle j) refl refl read) [
      | inl y ↦ inl (record { error = y.error; other = y.other; is = is ∙ y.is })
      | inr y ↦ inr (given t (is ∙ y.is ∙ ap (turn_with get f (Some (ChunkGet handle j)) chunk) not_large))
    ]
