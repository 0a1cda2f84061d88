-- In a session: what an answer to a record leads to with some bytes as the large response that is fetched, it leads to
-- with any others that give the same chunk.
use Rattle.std.proofs.Common.{◌≡◌, ◌≤◌, ◌==◌, ◌&&◌, ◌||◌, ℕ, List, [], ◌∷◌, refl, sym, ap, ◌∙◌, subst, drop, length, Bool, true, false, Option, Some, None, is_none, cond, inl, inr}
use Rattle.std.specs.Prelude.{not, slice_index}
use Rattle.std.proofs.lemmas.Bool.{false≢true}
use Rattle.chunking.specs.Cutting.{nth_chunk}
use Rattle.spdm_basis.specs.declared.causes.record_fault.RecordFault.{RecordFault}
use Rattle.spdm_grammar.specs.Requests.{request_in}
use Rattle.spdm_grammar.specs.declared.names.TheConstants.{MAX_MESSAGE_SIZE}
use Rattle.spdm_grammar.specs.declared.names.request_code.TheConstants.{CHUNK_GET}
use Rattle.spdm_grammar.specs.declared.told.phase.Phase.{Phase}
use Rattle.spdm_machine.specs.Bodies.{clear_body, record_body}
use Rattle.spdm_machine.specs.Sessions.{is_past_handshake, one_if}
use Rattle.spdm_machine.specs.Terms.{hash_len, terms_of}
use Rattle.transcript.specs.Transcripts.{Negotiation}
use Rattle.responder_machine.specs.Answer.{Free, answer_bytes}
use Rattle.responder_machine.specs.History.{Entry, History, KeptRecord, clear_turns, ended_of, phase_of}
use Rattle.responder_machine.specs.History.Entry.{Clear, Sealed, Queued, Ticked, Dropped}
use Rattle.responder_machine.specs.LargeMessages.{given_of}
use Rattle.responder_machine.specs.May.{IsAllowed, place_for}
use Rattle.responder_machine.specs.Place.{Place, clear_place, held_of, is_held, place_terms, session_place}
use Rattle.responder_machine.specs.Records.{opened, opening_fault, reply_record}
use Rattle.responder_machine.specs.Refusal.{has_pending}
use Rattle.responder_machine.specs.Responder.{Outcome, in_session, in_session_by, inner_reply, kept_record, on_clear, on_record, repeats, sealed_entry, session_turn, to_session}
use Rattle.responder_machine.specs.Responder.Outcome.{Same, Unopened, Adds}
use Rattle.responder_machine.specs.Session.{Events, id_in_record, is_live, last_of, session_of, stage_of}
use Rattle.responder_machine.specs.Setup.{RspSetup}
use Rattle.responder_machine.specs.Turn.{Turn, takes}
use Rattle.check_laws.specs.AnswersShown.{least_values}
use Rattle.check_fetched_laws.proofs.ClearAlike.{no_get}
use Rattle.check_fetched_laws.proofs.ClearTurns.{get_bytes}
use Rattle.check_fetched_laws.proofs.SealedTurns.{session_places, session_same, short_same}
use Rattle.check_fetched_laws.specs.AlikeAnswers.{gives_chunk}
use Rattle.capture_machine.proofs.ChunksGiven.{Chunked}
use Rattle.capture_machine.proofs.EventsAlike.{EventsAlike, answer_alike, exchange_alike, fault_alike, finish_alike, finish_answer_alike, last_alike, live_alike, negotiation_alike, opened_alike, response_epoch_alike, response_number_alike, stage_alike}
use Rattle.capture_machine.proofs.EventsAlike.EventsAlike.{NoEvent, Behind, Here}
use Rattle.capture_machine.proofs.DropsTell.{record_shown}
use Rattle.capture_machine.proofs.FetchStates.{Fetch, Getting, asks_type, served}
use Rattle.capture_machine.proofs.FetchStates.Getting.{Asks, Repeats, Seals}
use Rattle.capture_machine.proofs.FetchedSessions.{InSession, ended_fetched, sessions_fetched, timed_alike}
use Rattle.capture_machine.proofs.FetchedTold.{Stands}
use Rattle.capture_machine.proofs.GetTells.{session_get}
use Rattle.capture_machine.proofs.PlacesServed.{named_session, place_type}
use Rattle.capture_machine.proofs.PlainTells.{form_of, led_record}
use Rattle.capture_machine.proofs.UnseenStands.{UnseenStand}
use Rattle.capture_machine.specs.CapturedAnswers.{AreShown, MayLeadAfter, MayLeadTo, belongs_to, clear_answer, is_plain, record_answer, shows}
use Rattle.capture_machine.specs.LargeAnswers.{gives_last, is_large, is_unseen_in, place_named, seen, takes_get, with_large}
use Rattle.capture_machine.specs.Rounds.{no_draw}
use Rattle.capture_machine.proofs.FetchedSessions.{turns_by}

-- ---- One record.

-- Under one turn both sessions answer with one record.
reply_same : (psk : List ℕ) (s u : Events) (t : Turn) (text pad : List ℕ) → EventsAlike s u → reply_record psk s t text pad ≡ reply_record psk u t text pad
unfolding reply_record
reply_same psk s u t text pad a =
    let negotiation = negotiation_alike s u a in
    let exchange = exchange_alike s u a in
    let answer = answer_alike s u a in
    let stage = stage_alike s u a in
    let epoch = response_epoch_alike s u a in
    let number = response_number_alike s u a in
    let finish = finish_alike s u a in
    let finished = finish_answer_alike s u a in
    cc

module _ (r : RspSetup) (tag : ℕ) (sealed : List ℕ) (f : Free) (s u : Events) (e : EventsAlike s u) (pending : has_pending (session_place s) ≡ has_pending (session_place u)) where
  abbrev turn_in : Events → Turn
  turn_in x = session_turn r x (opened r.psk x sealed) f

  -- The answers of CHUNK_GET are the same.
  abbrev SameGet : Type 0
  SameGet =
      takes CHUNK_GET (session_turn r s (opened r.psk s sealed) f) ≡ true
      → answer_bytes r (session_place s) (drop 1 (opened r.psk s sealed)) f ≡ answer_bytes r (session_place u) (drop 1 (opened r.psk s sealed)) f

  entry_same : SameGet → sealed_entry r s f tag sealed no_draw (turn_in s) ≡ sealed_entry r u f tag sealed no_draw (turn_in u)
  entry_same same =
      let turns : turn_in s ≡ turn_in u = session_same r s u (opened r.psk s sealed) f e pending same ∙ ap (λ (l : List ℕ). session_turn r u l f) (opened_alike r.psk s u sealed e) in
      ap (sealed_entry r s f tag sealed no_draw) turns
      ∙ ap (λ (l : List ℕ). Sealed tag sealed (turn_in u) l no_draw) (reply_same r.psk s u (turn_in u) (inner_reply (turn_in u)) f.pad e)

  by_fault : (phase : Phase) (x : Outcome) (y : Option RecordFault) → (gives_chunk x ≡ true → SameGet) → in_session_by r phase s f tag sealed no_draw y ≡ x → in_session_by r phase u f tag sealed no_draw y ≡ x
  by_fault phase x (Some fault) same is = is
  by_fault phase x None same is = sym (ap Adds (entry_same (λ gets. same (ap gives_chunk (sym is) ∙ gets) gets))) ∙ is

  in_same : (phase : Phase) (x : Outcome) → (gives_chunk x ≡ true → SameGet) → in_session r phase s f tag sealed no_draw ≡ x → in_session r phase u f tag sealed no_draw ≡ x
  unfolding in_session
  in_same phase x same is =
      ap (in_session_by r phase u f tag sealed no_draw) (sym (fault_alike r.psk s u sealed e)) ∙ by_fault phase x (opening_fault r.psk s sealed) same is

  abbrev taken_by : (phase : Phase) → Events → Option KeptRecord → Outcome
  taken_by phase x k = cond (repeats k sealed) (Same (record_body (kept_record k))) (in_session r phase x f tag sealed no_draw)

  -- A live session.
  taken_same : (phase : Phase) (x : Outcome) → (gives_chunk x ≡ true → SameGet) → taken_by phase s (last_of s) ≡ x → taken_by phase u (last_of u) ≡ x
  taken_same phase x same is = ap (taken_by phase u) (sym (last_alike s u e)) ∙ by_again (repeats (last_of s) sealed) refl
    where
      by_again : (b : Bool) → repeats (last_of s) sealed ≡ b → taken_by phase u (last_of s) ≡ x
      by_again true again =
          let to : (y : Events) → taken_by phase y (last_of s) ≡ Same (record_body (kept_record (last_of s))) =
          λ y. ap (λ (b : Bool). cond b (Same (record_body (kept_record (last_of s)))) (in_session r phase y f tag sealed no_draw)) again in
          to u ∙ sym (to s) ∙ is
      by_again false again =
          let to : (y : Events) → taken_by phase y (last_of s) ≡ in_session r phase y f tag sealed no_draw =
          λ y. ap (λ (b : Bool). cond b (Same (record_body (kept_record (last_of s)))) (in_session r phase y f tag sealed no_draw)) again in
          to u ∙ in_same phase x same (sym (to s) ∙ is)

to_same : (r : RspSetup) (tag : ℕ) (sealed : List ℕ) (f : Free) (phase : Phase) (x : Outcome) (s u : Events) (e : EventsAlike s u) (pending : has_pending (session_place s) ≡ has_pending (session_place u)) → (gives_chunk x ≡ true → SameGet r tag sealed f s u e pending)
    → to_session r phase s f tag sealed no_draw ≡ x → to_session r phase u f tag sealed no_draw ≡ x
to_same r tag sealed f phase x _ _ NoEvent pending same is = is
to_same r tag sealed f phase x _ _ (Behind y s u a) pending same is = taken_same r tag sealed f (y ∷ s) (y ∷ u) (Behind y s u a) pending phase x same is
to_same r tag sealed f phase x _ _ (Here m t q n large w v reply s u not a) pending same is = taken_same r tag sealed f _ _ (Here m t q n large w v reply s u not a) pending phase x same is

-- Two histories that are alike for a record.
module _ (r : RspSetup) (tag : ℕ) (sealed : List ℕ) (f : Free) (g k : History) (ended : ended_of g ≡ ended_of k) (phase : phase_of (clear_turns g) ≡ phase_of (clear_turns k))
    (e : EventsAlike (session_of (id_in_record sealed) g) (session_of (id_in_record sealed) k))
    (pending : has_pending (session_place (session_of (id_in_record sealed) g)) ≡ has_pending (session_place (session_of (id_in_record sealed) k))) where
  abbrev s : Events
  s = session_of (id_in_record sealed) g

  abbrev u : Events
  u = session_of (id_in_record sealed) k

  abbrev on_by : Option KeptRecord → Phase → Events → Outcome
  on_by y z x = cond (repeats y sealed) (Same (record_body (kept_record y))) (to_session r z x f tag sealed no_draw)

  record_same : (x : Outcome) → (gives_chunk x ≡ true → SameGet r tag sealed f s u e pending) → on_record r g tag sealed f no_draw ≡ x → on_record r k tag sealed f no_draw ≡ x
  unfolding on_record
  record_same x same is = ap (λ y. on_by y (phase_of (clear_turns k)) u) (sym ended) ∙ ap (λ (z : Phase). on_by (ended_of g) z u) (sym phase) ∙ by_again (repeats (ended_of g) sealed) refl
    where
      by_again : (b : Bool) → repeats (ended_of g) sealed ≡ b → on_by (ended_of g) (phase_of (clear_turns g)) u ≡ x
      by_again true again =
          let to : (y : Events) → on_by (ended_of g) (phase_of (clear_turns g)) y ≡ Same (record_body (kept_record (ended_of g))) =
          λ y. ap (λ (b : Bool). cond b (Same (record_body (kept_record (ended_of g)))) (to_session r (phase_of (clear_turns g)) y f tag sealed no_draw)) again in
          to u ∙ sym (to s) ∙ is
      by_again false again =
          let to : (y : Events) → on_by (ended_of g) (phase_of (clear_turns g)) y ≡ to_session r (phase_of (clear_turns g)) y f tag sealed no_draw =
          λ y. ap (λ (b : Bool). cond b (Same (record_body (kept_record (ended_of g)))) (to_session r (phase_of (clear_turns g)) y f tag sealed no_draw)) again in
          to u ∙ to_same r tag sealed f (phase_of (clear_turns g)) x s u e pending same (sym (to s) ∙ is)

-- ---- What is allowed.

module _ (g k : History) (all : (i : ℕ) → EventsAlike (session_of i g) (session_of i k)) where
  held_same : (i : ℕ) → is_held g i ≡ is_held k i
  held_same i =
      ap (λ (b : Bool). b && is_past_handshake (stage_of (session_of i g))) (live_alike (session_of i g) (session_of i k) (all i))
      ∙ ap (λ x. is_live (session_of i k) && is_past_handshake x) (stage_alike (session_of i g) (session_of i k) (all i))

  count_same : held_of g ≡ held_of k
  count_same =
      let one = ap one_if (held_same 1) in
      let two = ap one_if (held_same 2) in
      let three = ap one_if (held_same 3) in
      let four = ap one_if (held_same 4) in
      cc

  allowed_same : (i : ℕ) (f : Free) → IsAllowed g (session_place (session_of i g)) f → IsAllowed k (session_place (session_of i k)) f
  allowed_same i f fits = record {
    least = fits.least;
    most = fits.most;
    unused = λ room. sym (held_same f.id) ∙ fits.unused (λ four. room (sym count_same ∙ four));
    context = subst (λ (n : Negotiation). hash_len (terms_of n) ≤ length f.context) (negotiation_alike (session_of i g) (session_of i k) (all i)) fits.context;
    exchange_opaque = fits.exchange_opaque;
    nonce = fits.nonce;
    measured_opaque = fits.measured_opaque;
    handle = fits.handle;
    reply = fits.reply;
    pad = fits.pad;
  }

turns_within : (id : ℕ) (w : List ℕ) (h : History) → clear_turns (with_large (Some id) w h) ≡ clear_turns h
turns_within id w [] = refl
turns_within id w (e ∷ h) = turns_by id w e h (is_unseen_in (Some id) e) refl (turns_within id w h)

-- ---- The session.

-- The large response that is fetched is one of the session that the record names.
module _ (h : History) (w : List ℕ) (tag : ℕ) (body : List ℕ) (type : (slice_index body 0 == 5) ≡ false) where
  stand : Getting h tag body → UnseenStand h
  stand (Asks handle number is since) = absurd (false≢true (sym type ∙ asks_type handle number body is))
  stand (Repeats clear again since) = absurd (false≢true (sym type ∙ clear))
  stand (Seals sealed within) = within

  pub session_within : Stands h w tag body → InSession (place_named body) h
  session_within (inl is) = absurd (false≢true (sym type ∙ ap (λ (l : List ℕ). slice_index l 0 == 5) is))
  session_within (inr fetch) = record { id = id_in_record (drop 1 body); at = named_session body type; stand = stand fetch.how }

-- ---- An answer.

module _ (r : RspSetup) (few : (h : History) (p : Place) (m : List ℕ) → length (answer_bytes r p m (least_values h p)) ≤ MAX_MESSAGE_SIZE)
    (h : History) (w v : List ℕ) (tag : ℕ) (body : List ℕ) (type : (slice_index body 0 == 5) ≡ false) (one : Stands h w tag body) (other : Stands h v tag body) where
  abbrev m : List ℕ
  m = drop 1 body

  abbrev id : ℕ
  id = id_in_record (drop 1 body)

  abbrev large : List ℕ → History
  large x = with_large (place_named body) x h

  abbrev events : List ℕ → Events
  events x = session_of (id_in_record (drop 1 body)) (with_large (place_named body) x h)

  -- Both give the same chunk, if any.
  abbrev SameChunk : Type 0
  SameChunk =
      (length w ≡ length v) × ((nth_chunk (place_terms (session_place (events w))).common.to_requester.transfer 0 w (given_of (session_place (events w)).turns)).chunk
      ≡ (nth_chunk (place_terms (session_place (events v))).common.to_requester.transfer 0 v (given_of (session_place (events v)).turns)).chunk)

  fetched : (x : List ℕ) → Stands h x tag body → Fetch h x tag body
  fetched x (inl is) = absurd (false≢true (sym type ∙ ap (λ (l : List ℕ). slice_index l 0 == 5) is))
  fetched x (inr fetch) = fetch

  within : InSession (place_named body) h
  within = session_within h w tag body type one

  all : (i : ℕ) → EventsAlike (session_of i (large w)) (session_of i (large v))
  all i = sessions_fetched i (place_named body) w v h within

  ended : ended_of (large w) ≡ ended_of (large v)
  ended = ended_fetched (place_named body) w h ∙ sym (ended_fetched (place_named body) v h)

  phase : phase_of (clear_turns (large w)) ≡ phase_of (clear_turns (large v))
  phase =
      let at : (x : List ℕ) → clear_turns (large x) ≡ clear_turns h = λ x. ap (λ (o : Option ℕ). clear_turns (with_large o x h)) (named_session body type) ∙ turns_within id x h in
      ap phase_of (at w ∙ sym (at v))

  place_is : (g : History) → place_for g body ≡ session_place (session_of (id_in_record (drop 1 body)) g)
  place_is g = place_type g body false type

  chunked : (x : List ℕ) → Stands h x tag body → Chunked (session_place (events x)) (place_named body) x h
  chunked x stands = subst (λ (p : Place). Chunked p (place_named body) x h) (place_is (large x)) (fetched x stands).chunked

  module _ (pending : has_pending (session_place (events w)) ≡ has_pending (session_place (events v))) where
    -- CHUNK_GET is answered by the same bytes.
    get_same : (f : Free) → SameChunk → SameGet r tag m f (events w) (events v) (all id) pending
    get_same f same gets =
        let s : Events = events w in
        let u : Events = events v in
        let text : List ℕ = drop 1 (opened r.psk s m) in
        get_bytes r text (session_place s) (session_place u) f f (place_named body) w v h (session_places s u (all id) pending)
        (ap (λ (n : Negotiation). request_in (hash_len (terms_of n)) text) (negotiation_alike s u (all id))) (chunked w one) (chunked v other) (session_turn r s (opened r.psk s m) f)
        (session_get r s (opened r.psk s m) f gets) same.0 same.1

    -- Where the request may lead to an outcome after some drops, by histories that are alike.
    leads_by : (g k : History) (x : Outcome) → ended_of g ≡ ended_of k → phase_of (clear_turns g) ≡ phase_of (clear_turns k) → (alike : (i : ℕ) → EventsAlike (session_of i g) (session_of i k))
        → (waits : has_pending (session_place (session_of id g)) ≡ has_pending (session_place (session_of id k)))
        → ((f : Free) → gives_chunk x ≡ true → SameGet r tag m f (session_of id g) (session_of id k) (alike id) waits) → MayLeadTo r g tag body x → MayLeadTo r k tag body x
    unfolding MayLeadTo
    leads_by g k x ends phases alike waits same may =
        let f : Free = may.0 in
        let s : Events = session_of id g in
        let u : Events = session_of id k in
        let text : List ℕ = drop 1 (opened r.psk s m) in
        let here : on_record r g tag m f no_draw ≡ x = sym (ap (λ (b : Bool). cond b (on_clear r g tag m f no_draw) (on_record r g tag m f no_draw)) type) ∙ may.3 in
        let short : length (record_answer r s m f) ≤ MAX_MESSAGE_SIZE = subst (λ (b : Bool). length (cond b (clear_answer r (clear_place g) m f) (record_answer r s m f)) ≤ MAX_MESSAGE_SIZE) type may.2 in
        let brief : length (answer_bytes r (session_place u) text f) ≤ MAX_MESSAGE_SIZE = short_same r s u text f (alike id) waits (least_values k (session_place u)) short (few k (session_place u) text) in
        let answer : length (record_answer r u m f) ≤ MAX_MESSAGE_SIZE = subst (λ (l : List ℕ). length (answer_bytes r (session_place u) (drop 1 l) f) ≤ MAX_MESSAGE_SIZE) (opened_alike r.psk s u m (alike id)) brief in (
          f,
          subst (λ (p : Place). IsAllowed k p f) (sym (place_is k)) (allowed_same g k alike id f (subst (λ (p : Place). IsAllowed g p f) (place_is g) may.1)),
          subst (λ (b : Bool). length (cond b (clear_answer r (clear_place k) m f) (record_answer r u m f)) ≤ MAX_MESSAGE_SIZE) (sym type) answer,
          ap (λ (b : Bool). cond b (on_clear r k tag m f no_draw) (on_record r k tag m f no_draw)) type ∙ record_same r tag m f g k ends phases (alike id) waits x (same f) here,
        )

    -- ---- Behind a drop.

    gone_by : (b : Bool) (s u : Events) → EventsAlike s u → EventsAlike (cond b [] s) (cond b [] u)
    gone_by true s u e = NoEvent
    gone_by false s u e = e

    gone : (i j : ℕ) → EventsAlike (session_of j (Dropped i ∷ large w)) (session_of j (Dropped i ∷ large v))
    unfolding session_of
    gone i j = gone_by (i == j) (session_of j (large w)) (session_of j (large v)) (all j)

    gone_waits : (i : ℕ) → has_pending (session_place (session_of id (Dropped i ∷ large w))) ≡ has_pending (session_place (session_of id (Dropped i ∷ large v)))
    unfolding session_of
    gone_waits i = by_id (i == id)
      where
        by_id : (b : Bool) → has_pending (session_place (cond b [] (session_of id (large w)))) ≡ has_pending (session_place (cond b [] (session_of id (large v))))
        by_id true = refl
        by_id false = pending

    belongs_same : (i : ℕ) → belongs_to r (session_of i (large w)) m ≡ belongs_to r (session_of i (large v)) m
    belongs_same i =
        let s : Events = session_of i (large w) in
        let u : Events = session_of i (large v) in
        ap (λ y. repeats y m || is_none (opening_fault r.psk s m)) (last_alike s u (all i)) ∙ ap (λ (y : Option RecordFault). repeats (last_of u) m || is_none y) (fault_alike r.psk s u m (all i))

    -- The history with these bytes and these drops leads to the same.
    pub sealed_leads : (ids : List ℕ) (x : Outcome) → (gives_chunk x ≡ true → SameChunk) → MayLeadAfter r (large w) ids tag body x → AreShown r (large w) body x ids
        → MayLeadAfter r (large v) ids tag body x × AreShown r (large v) body x ids
    sealed_leads [] x same may shown =
        ((tt, leads_by (large w) (large v) x ended phase all pending (λ f gives. get_same f (same gives)) may.1), tt)
    sealed_leads (i ∷ other ∷ others) x same may shown = absurd shown
    sealed_leads (i ∷ []) x same may shown =
        let led = led_record r (Dropped i ∷ large w) tag body x type may.1 in
        let known = record_shown r (large w) (Dropped i ∷ large w) tag body i x (form_of r (Dropped i ∷ large w) tag body x led) shown in
        let s : Events = session_of i (large w) in
        let u : Events = session_of i (large v) in
        let none : gives_chunk x ≡ true → ⊥ = λ gives. false≢true (sym (ap gives_chunk known.0.1) ∙ gives) in (
          (
            (sym (live_alike s u (all i)) ∙ may.0.0, sym (timed_alike s u (all i)) ∙ may.0.1, tt),
            leads_by (Dropped i ∷ large w) (Dropped i ∷ large v) x ended phase (gone i) (gone_waits i) (λ f gives. absurd (none gives)) may.1,
          ),
          shown_too x (clear_body known.0.0) known.0.1 shown,
        )
      where
        shown_too : (y : Outcome) (b : List ℕ) → y ≡ Unopened b → shows r (large w) body i y ≡ true → shows r (large v) body i y ≡ true
        shown_too y b is shown =
            subst (λ (z : Outcome). shows r (large v) body i z ≡ true) (sym is)
            (ap (λ (c : Bool). (id_in_record m == i) && c) (sym (belongs_same i)) ∙ subst (λ (z : Outcome). shows r (large w) body i z ≡ true) is shown)

  -- ---- Whether it is the last chunk.

  lasts : (e : Entry) → MayLeadTo r (large w) tag body (Adds e) → MayLeadTo r (large v) tag body (Adds e) → gives_last (large w) e ≡ gives_last (large v) e
  lasts e may might = by_get (takes_get e) refl
    where
      by_get : (b : Bool) → takes_get e ≡ b → gives_last (large w) e ≡ gives_last (large v) e
      by_get true gets = (served r h w tag body e (fetched w one) may).last gets ∙ sym ((served r h v tag body e (fetched v other) might).last gets)
      by_get false gets = no_get (large w) e gets ∙ sym (no_get (large v) e gets)

  plain_too : (x : Outcome) → MayLeadTo r (large w) tag body x → MayLeadTo r (large v) tag body x → is_plain (large w) x ≡ true → is_plain (large v) x ≡ true
  plain_too (Same b) may might plain = plain
  plain_too (Unopened b) may might plain = plain
  plain_too (Adds e) may might plain = ap (λ (b : Bool). not (is_large e) && not b) (sym (lasts e may might)) ∙ plain

  -- The same is led to, after the same drops.
  pub sealed_alike : (pending : has_pending (session_place (events w)) ≡ has_pending (session_place (events v))) (ids : List ℕ) (x : Outcome) → (gives_chunk x ≡ true → SameChunk) → MayLeadAfter r (large w) ids tag body x → AreShown r (large w) body x ids → is_plain (large w) x ≡ true
      → MayLeadAfter r (large v) ids tag body x × AreShown r (large v) body x ids × (is_plain (large v) x ≡ true)
  sealed_alike pending [] x same may shown plain =
      let there = sealed_leads pending [] x same may shown in (there.0, there.1, plain_too x may.1 there.0.1 plain)
  sealed_alike pending (i ∷ other ∷ others) x same may shown plain = absurd shown
  sealed_alike pending (i ∷ []) x same may shown plain =
      let there = sealed_leads pending (i ∷ []) x same may shown in
      let led = led_record r (Dropped i ∷ large w) tag body x type may.1 in
      let known = record_shown r (large w) (Dropped i ∷ large w) tag body i x (form_of r (Dropped i ∷ large w) tag body x led) shown in
      (there.0, there.1, ap (is_plain (large v)) known.0.1)
