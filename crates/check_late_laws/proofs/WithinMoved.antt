-- A record that is answered so with some bytes of a large response of its session is answered so with others.
use Rattle.std.proofs.Common.{◌≡◌, ◌+◌, ◌≤◌, ◌==◌, ◌&&◌, ◌||◌, ℕ, zero, suc, List, [], refl, sym, ap, ◌∙◌, subst, drop, length, arith, Bool, true, false, Option, Some, None, cond, is_some}
use Rattle.std.specs.Prelude.{not, nat_lt, slice_index, unwrap_or}
use Rattle.std.specs.Option.{option_map}
use Rattle.std.specs.Int.{div_ceil}
use Rattle.std.proofs.lemmas.Bool.{false≢true}
use Rattle.chunking.specs.Cutting.{chunk_count, unit_of}
use Rattle.responder_machine.specs.Answer.{Free, answer_bytes, answer_of, answer_to, request_at}
use Rattle.responder_machine.specs.History.{Entry, History, clear_turns, ended_of, phase_of}
use Rattle.responder_machine.specs.LargeMessages.{given_of, large_of, pending_of, still_pending}
use Rattle.responder_machine.specs.May.{IsAllowed}
use Rattle.responder_machine.specs.Place.{Place, clear_place, held_of, is_held, session_place}
use Rattle.responder_machine.specs.Records.{opened}
use Rattle.responder_machine.specs.Refusal.{has_pending}
use Rattle.responder_machine.specs.Responder.{Outcome, kept_record, on_clear, on_record, repeats, to_session}
use Rattle.responder_machine.specs.Responder.Outcome.{Same, Adds}
use Rattle.responder_machine.specs.Session.{Events, id_in_record, is_live, session_of, stage_of, turns_of}
use Rattle.responder_machine.specs.Session.Event.{Began, Heard, Waited}
use Rattle.responder_machine.specs.Setup.{RspSetup}
use Rattle.responder_machine.specs.Turn.{Turn, is_taken, large_in, takes}
use Rattle.spdm_grammar.specs.Message.{RequestMessage}
use Rattle.spdm_grammar.specs.Message.RequestMessage.{GetVersion, GetCapabilities, NegotiateAlgorithms, GetMeasurements, PskExchange, PskFinish, Heartbeat, KeyUpdate, EndSession, ChunkSend, ChunkGet}
use Rattle.spdm_grammar.specs.Responses.{canonical_response}
use Rattle.spdm_grammar.specs.declared.names.request_code.TheConstants.{CHUNK_GET}
use Rattle.spdm_grammar.specs.declared.names.TheConstants.{MAX_MESSAGE_SIZE}
use Rattle.spdm_machine.specs.Bodies.{record_body}
use Rattle.spdm_grammar.specs.declared.told.phase.Stage.{Stage}
use Rattle.spdm_grammar.specs.Requests.{request_in}
use Rattle.spdm_machine.specs.Sessions.{is_past_handshake}
use Rattle.spdm_machine.specs.Terms.{hash_len, terms_of}
use Rattle.transcript.specs.Transcripts.{Negotiation}
use Rattle.capture_machine.proofs.ChunksGiven.{Chunked, gets_of}
use Rattle.capture_machine.proofs.ChunksGiven.Chunked.{Gone, Given}
use Rattle.capture_machine.proofs.EventsAlike.{EventsAlike, answered, live_alike, negotiation_alike, opened_alike, stage_alike}
use Rattle.capture_machine.proofs.EventsAlike.EventsAlike.{NoEvent, Behind, Here}
use Rattle.capture_machine.proofs.GetTells.{transfer_of}
use Rattle.capture_machine.specs.CapturedAnswers.{MayLeadTo, clear_answer, record_answer}
use Rattle.capture_machine.specs.LargeAnswers.{takes_get}
use Rattle.capture_machine.specs.Rounds.{no_draw}
use Rattle.check_late_laws.proofs.RecordMoved.{ChunkSame, to_session_moved}
use Rattle.check_late_laws.proofs.Sized.{chunk_few, some_more, transfer_few}

-- ---- Two histories of which all sessions are alike.

pub record Beside (h g : History) : Type 0 where
  pub turns : clear_turns h ≡ clear_turns g
  pub ended : ended_of h ≡ ended_of g
  pub events : (id : ℕ) → EventsAlike (session_of id h) (session_of id g)

-- ---- What is allowed.

held_same : (h g : History) (id : ℕ) → Beside h g → is_held h id ≡ is_held g id
held_same h g id b =
    ap (λ (x : Bool). x && is_past_handshake (stage_of (session_of id h))) (live_alike (session_of id h) (session_of id g) (b.events id))
    ∙ ap (λ (x : Stage). is_live (session_of id g) && is_past_handshake x) (stage_alike (session_of id h) (session_of id g) (b.events id))

count_same : (h g : History) → Beside h g → held_of h ≡ held_of g
count_same h g b =
    let one = held_same h g 1 b in
    let two = held_same h g 2 b in
    let three = held_same h g 3 b in
    let four = held_same h g 4 b in
    cc

allowed_moved : (h g : History) (s u : Events) (f : Free) → Beside h g → EventsAlike s u → IsAllowed h (session_place s) f → IsAllowed g (session_place u) f
allowed_moved h g s u f b a fits = record {
  least = fits.least;
  most = fits.most;
  unused = λ room. sym (held_same h g f.id b) ∙ fits.unused (λ four. room (sym (count_same h g b) ∙ four));
  context = subst (λ (n : Negotiation). hash_len (terms_of n) ≤ length f.context) (negotiation_alike s u a) fits.context;
  exchange_opaque = fits.exchange_opaque;
  nonce = fits.nonce;
  measured_opaque = fits.measured_opaque;
  handle = fits.handle;
  reply = fits.reply;
  pad = fits.pad;
}

-- ---- What is pending.

some_cond : (b : Bool) (x y v w : Option (List ℕ)) → is_some x ≡ is_some y → is_some v ≡ is_some w → is_some (cond b x v) ≡ is_some (cond b y w)
some_cond true x y v w one two = one
some_cond false x y v w one two = two

some_large : (large : Option ℕ) (v w : List ℕ) → is_some (option_map (λ (n : ℕ). v) large) ≡ is_some (option_map (λ (n : ℕ). w) large)
some_large None v w = refl
some_large (Some n) v w = refl

pub large_alike : (s u : Events) → EventsAlike s u → is_some (large_of (turns_of s)) ≡ is_some (large_of (turns_of u))
large_alike _ _ NoEvent = refl
large_alike _ _ (Behind (Began n x y) s u a) = large_alike s u a
large_alike _ _ (Behind (Heard sealed t reply) s u a) = some_cond (not (is_taken t) || takes CHUNK_GET t) (large_of (turns_of s)) (large_of (turns_of u)) (large_in t.effect) (large_in t.effect) (large_alike s u a) refl
large_alike _ _ (Behind (Waited n) s u a) = large_alike s u a
large_alike _ _ (Here sealed t x m large w v reply s u not_finish a) =
    some_cond (not (is_taken (answered t x m large w)) || takes CHUNK_GET (answered t x m large w)) (large_of (turns_of s)) (large_of (turns_of u)) (option_map (λ (n : ℕ). w) large) (option_map (λ (n : ℕ). v) large) (large_alike s u a) (some_large large w v)

more_by : (t n : ℕ) (v : List ℕ) → is_some (still_pending t n (Some v)) ≡ nat_lt n (chunk_count t v)
more_by t n v = by_more (nat_lt n (chunk_count t v))
  where
    by_more : (b : Bool) → is_some (cond b (Some v) None) ≡ b
    by_more true = refl
    by_more false = refl

count_by : (t n : ℕ) (v w : List ℕ) → ((n ≡ 0 → ⊥) → length w ≡ length v) → nat_lt n (chunk_count t v) ≡ nat_lt n (chunk_count t w)
count_by t zero v w same = some_more (length v) (length w) (unit_of t)
count_by t (suc n) v w same = ap (λ (k : ℕ). nat_lt (suc n) (div_ceil (k + 4) (unit_of t))) (sym (same (λ none. absurd (omega (arith, none)))))

-- At both places a chunk is pending, or at neither.
pub pending_at : (p o : Place) (at : Option ℕ) (h : History) (v w : List ℕ) → transfer_of p ≡ transfer_of o → is_some (large_of p.turns) ≡ is_some (large_of o.turns) → Chunked p at v h → Chunked o at w h → ((gets_of at h ≡ 0 → ⊥) → length w ≡ length v)
    → has_pending p ≡ has_pending o
pending_at p o at h v w transfer large (Gone none) (Gone nor) same = ap (λ (x : Option (List ℕ)). is_some (still_pending (transfer_of p) (given_of p.turns) x)) none ∙ sym (ap (λ (x : Option (List ℕ)). is_some (still_pending (transfer_of o) (given_of o.turns) x)) nor)
pending_at p o at h v w transfer large (Given one given parts) (Given two gave bytes) same =
    let count : given_of p.turns ≡ given_of o.turns = given ∙ sym gave in
    ap (λ (x : Option (List ℕ)). is_some (still_pending (transfer_of p) (given_of p.turns) x)) one
    ∙ more_by (transfer_of p) (given_of p.turns) v
    ∙ count_by (transfer_of p) (given_of p.turns) v w (λ some. same (λ none. some (given ∙ none)))
    ∙ sym (more_by (transfer_of p) (given_of p.turns) w)
    ∙ ap (λ (t : ℕ). is_some (still_pending t (given_of p.turns) (Some w))) transfer
    ∙ ap (λ (n : ℕ). is_some (still_pending (transfer_of o) n (Some w))) count
    ∙ sym (ap (λ (x : Option (List ℕ)). is_some (still_pending (transfer_of o) (given_of o.turns) x)) two)
pending_at p o at h v w transfer large (Gone none) (Given two gave bytes) same = absurd (false≢true (sym (ap is_some none) ∙ large ∙ ap is_some two))
pending_at p o at h v w transfer large (Given one given parts) (Gone nor) same = absurd (false≢true (sym (ap is_some nor) ∙ sym large ∙ ap is_some one))

-- ---- No answer is too long.

module _ (r : RspSetup) (s u : Events) (a : EventsAlike s u) (m : List ℕ) (f : Free) (few : length (answer_bytes r (session_place s) m f) ≤ MAX_MESSAGE_SIZE) where
  same_size : (q : Option RequestMessage) → request_at (session_place s) m ≡ q → answer_to r (session_place s) m f q ≡ answer_to r (session_place u) m f q → length (answer_bytes r (session_place u) m f) ≤ MAX_MESSAGE_SIZE
  unfolding answer_bytes
  same_size q is same =
      let asked : request_at (session_place s) m ≡ request_at (session_place u) m = ap (λ (n : Negotiation). request_in (hash_len (terms_of n)) m) (negotiation_alike s u a) in
      subst (λ (l : List ℕ). length l ≤ MAX_MESSAGE_SIZE) (ap (answer_to r (session_place s) m f) is ∙ same ∙ ap (answer_to r (session_place u) m f) (sym is ∙ asked)) few

  by_kind : (q : Option RequestMessage) → request_at (session_place s) m ≡ q → length (answer_bytes r (session_place u) m f) ≤ MAX_MESSAGE_SIZE
  unfolding answer_bytes
  by_kind (Some (ChunkGet handle number)) is =
      let asked : request_at (session_place s) m ≡ request_at (session_place u) m = ap (λ (n : Negotiation). request_in (hash_len (terms_of n)) m) (negotiation_alike s u a) in
      let t : ℕ = transfer_of (session_place u) in
      subst (λ (q : Option RequestMessage). length (answer_to r (session_place u) m f q) ≤ MAX_MESSAGE_SIZE) (sym is ∙ asked) (chunk_few t handle (unwrap_or (pending_of t (turns_of u)) []) number (transfer_few (session_place u)))
  by_kind (Some (PskExchange x)) is =
      same_size (Some (PskExchange x)) is (ap (λ (n : Negotiation). canonical_response (answer_of r (record (session_place s) { negotiation = n }) m f (PskExchange x))) (negotiation_alike s u a))
  by_kind None is = same_size None is refl
  by_kind (Some GetVersion) is = same_size (Some GetVersion) is refl
  by_kind (Some (GetCapabilities caps)) is = same_size (Some (GetCapabilities caps)) is refl
  by_kind (Some (NegotiateAlgorithms offer)) is = same_size (Some (NegotiateAlgorithms offer)) is refl
  by_kind (Some (GetMeasurements op)) is = same_size (Some (GetMeasurements op)) is refl
  by_kind (Some (PskFinish verify)) is = same_size (Some (PskFinish verify)) is refl
  by_kind (Some Heartbeat) is = same_size (Some Heartbeat) is refl
  by_kind (Some (KeyUpdate op tag)) is = same_size (Some (KeyUpdate op tag)) is refl
  by_kind (Some EndSession) is = same_size (Some EndSession) is refl
  by_kind (Some (ChunkSend c)) is = same_size (Some (ChunkSend c)) is refl

  pub answer_short : length (answer_bytes r (session_place u) m f) ≤ MAX_MESSAGE_SIZE
  answer_short = by_kind (request_at (session_place s) m) refl

-- ---- A record.

module _ (r : RspSetup) (h g : History) (b : Beside h g) (tag : ℕ) (body : List ℕ) where
  abbrev sealed : List ℕ
  sealed = drop 1 body

  abbrev s : Events
  s = session_of (id_in_record (drop 1 body)) h

  abbrev u : Events
  u = session_of (id_in_record (drop 1 body)) g

  -- A chunk that the outcome gives is the same in both.
  abbrev pub Gives : Outcome → Type 0
  Gives o = (e : Entry) → o ≡ Adds e → takes_get e ≡ true → ChunkSame (session_of (id_in_record (drop 1 body)) h) (session_of (id_in_record (drop 1 body)) g)

  module _ (pending : has_pending (session_place (session_of (id_in_record (drop 1 body)) h)) ≡ has_pending (session_place (session_of (id_in_record (drop 1 body)) g))) where
    record_by : (f : Free) (x : Bool) → Gives (cond x (Same (record_body (kept_record (ended_of h)))) (to_session r (phase_of (clear_turns h)) s f tag sealed no_draw))
        → cond x (Same (record_body (kept_record (ended_of h)))) (to_session r (phase_of (clear_turns h)) s f tag sealed no_draw) ≡ cond x (Same (record_body (kept_record (ended_of h)))) (to_session r (phase_of (clear_turns h)) u f tag sealed no_draw)
    record_by f true gives = refl
    record_by f false gives = to_session_moved r (phase_of (clear_turns h)) f tag sealed s u (b.events (id_in_record (drop 1 body))) pending gives

    record_moved : (f : Free) → Gives (on_record r h tag sealed f no_draw) → on_record r h tag sealed f no_draw ≡ on_record r g tag sealed f no_draw
    unfolding on_record
    record_moved f gives =
        record_by f (repeats (ended_of h) sealed) gives
        ∙ ap (λ k. cond (repeats k sealed) (Same (record_body (kept_record k))) (to_session r (phase_of (clear_turns h)) u f tag sealed no_draw)) b.ended
        ∙ ap (λ (l : List Turn). cond (repeats (ended_of g) sealed) (Same (record_body (kept_record (ended_of g)))) (to_session r (phase_of l) u f tag sealed no_draw)) b.turns

    pub within_moved : (o : Outcome) → (slice_index body 0 == 5) ≡ false → Gives o → MayLeadTo r h tag body o → MayLeadTo r g tag body o
    unfolding MayLeadTo
    within_moved o type gives may =
        let f : Free = may.0 in
        let A : Bool → History → Type 0 = λ x l. IsAllowed l (cond x (clear_place l) (session_place (session_of (id_in_record sealed) l))) f in
        let L : Bool → History → Type 0 = λ x l. length (cond x (clear_answer r (clear_place l) sealed f) (record_answer r (session_of (id_in_record sealed) l) sealed f)) ≤ MAX_MESSAGE_SIZE in
        let O : Bool → History → Type 0 = λ x l. cond x (on_clear r l tag sealed f no_draw) (on_record r l tag sealed f no_draw) ≡ o in
        let leads : on_record r h tag sealed f no_draw ≡ o = subst (λ (x : Bool). O x h) type may.3 in
        let fits = allowed_moved h g s u f b (b.events (id_in_record sealed)) (subst (λ (x : Bool). A x h) type may.1) in
        let few : length (record_answer r s sealed f) ≤ MAX_MESSAGE_SIZE = subst (λ (x : Bool). L x h) type may.2 in
        let text : List ℕ = drop 1 (opened r.psk s sealed) in
        let short = answer_short r s u (b.events (id_in_record sealed)) text f few in
        let shorter : length (record_answer r u sealed f) ≤ MAX_MESSAGE_SIZE = subst (λ (l : List ℕ). length (answer_bytes r (session_place u) (drop 1 l) f) ≤ MAX_MESSAGE_SIZE) (opened_alike r.psk s u sealed (b.events (id_in_record sealed))) short in
        let moved : on_record r g tag sealed f no_draw ≡ o = sym (record_moved f (λ e is. gives e (sym leads ∙ is))) ∙ leads in
        (f, subst (λ (x : Bool). A x g) (sym type) fits, subst (λ (x : Bool). L x g) (sym type) shorter, subst (λ (x : Bool). O x g) (sym type) moved)
