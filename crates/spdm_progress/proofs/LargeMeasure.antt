-- A clear measure whose answer is sent in chunks: one round for each chunk after the first, and it leaves quiet ends
-- quiet.
use Rattle.std.proofs.Common.{◌≡◌, ◌⊎◌, ◌∙◌, ℕ, suc, ◌<◌, ◌≤◌, ◌+◌, ◌*◌, ◌-◌, ◌==◌, List, [], ◌∷◌, ◌++◌, length, Bool, true, false, Some, None, refl, sym, ap, subst, inl, inr, arith, add-one}
use Rattle.std.specs.Int.{div_ceil}
use Rattle.std.specs.Prelude.{slice_index}
use Rattle.std.proofs.lemmas.Bool.{eqb-false}
use Rattle.chunking.specs.Cutting.{chunk_count, chunks_before, nth_chunk}
use Rattle.requester_machine.specs.Answers.{goes_on}
use Rattle.requester_machine.specs.Asking.{Outcome}
use Rattle.requester_machine.specs.Asking.Outcome.{Adds}
use Rattle.requester_machine.specs.Does as asking_does
use Rattle.requester_machine.specs.Does.{requester_asks, requester_hears}
use Rattle.requester_machine.specs.History as asked
use Rattle.requester_machine.specs.History.{outstanding}
use Rattle.requester_machine.specs.History.Effect.{Nothing}
use Rattle.requester_machine.specs.History.Entry.{Told, TookClear}
use Rattle.requester_machine.specs.Message.Command.{Measure}
use Rattle.requester_machine.specs.RequesterLog as asked_log
use Rattle.requester_machine.specs.Sending.{get_sent, plain_sent}
use Rattle.requester_machine.specs.Session as steps
use Rattle.requester_machine.specs.Setup.{ReqSetup}
use Rattle.requester_machine.specs.Shown.{last_data}
use Rattle.responder_machine.specs.Does.{clear_chosen, clear_does, responder_does}
use Rattle.responder_machine.specs.Handling.{large_response}
use Rattle.responder_machine.specs.History as served
use Rattle.responder_machine.specs.History.Entry.{Clear}
use Rattle.responder_machine.specs.Place.{clear_place}
use Rattle.responder_machine.specs.Responder as answering
use Rattle.responder_machine.specs.Responder.Outcome.{Adds as AddsThere}
use Rattle.responder_machine.specs.ResponderLog as served_log
use Rattle.responder_machine.specs.Session as events
use Rattle.responder_machine.specs.Setup.{RspSetup}
use Rattle.responder_machine.specs.Turn.{Turn}
use Rattle.spdm_grammar.specs.Message.{ChunkMessage, ExchangeMessage}
use Rattle.spdm_grammar.specs.Message.RequestMessage.{ChunkGet, GetMeasurements, PskExchange}
use Rattle.spdm_grammar.specs.Requests.{canonical_request}
use Rattle.spdm_grammar.specs.declared.told.event.Event.{Event}
use Rattle.spdm_grammar.specs.declared.told.event.Event.TheVariants as event
use Rattle.spdm_grammar.specs.declared.told.event.Finished.TheVariants as finished
use Rattle.spdm_grammar.specs.declared.names.TheConstants.{MAX_MESSAGE_SIZE}
use Rattle.spdm_grammar.specs.declared.told.phase.Phase.TheVariants.{Negotiated}
use Rattle.spdm_machine.specs.Bodies.{clear_body}
use Rattle.spdm_machine.specs.Keys.{Draw}
use Rattle.spdm_machine.specs.TagLog.{Log}
use Rattle.spdm_machine.proofs.Members.{some_same}
use Rattle.transcript.specs.Transcripts.{Negotiation}
use Rattle.world_machine.specs.Chance.{NoChance}
use Rattle.spdm_progress.specs.InStep.{AreQuiet, TookEarlier}
use Rattle.spdm_progress.specs.Measuring.{measurements_size, number_for, record_for}
use Rattle.spdm_progress.proofs.ChunkCounts.{not_zero, some_of}
use Rattle.spdm_progress.proofs.ClearFetch.{IsPending, chunk_is_few, chunk_response, fetching, get_chunk, gives_chunk, heard_large, heard_more, heard_whole, pending_next, served_chunk, transfer_in}
use Rattle.spdm_progress.proofs.LargeAlgorithms.{get_no_exchange}
use Rattle.spdm_progress.proofs.LargeAnswers.{GoesLarge, LargeAgain, again_at, before_differs, before_get, heard_last, served_large}
use Rattle.spdm_progress.proofs.ManyPackets.{before_it, clear_is_body}
use Rattle.spdm_progress.proofs.MeasureStages.{asks_measure, get_measurements, measured_led, measurements, measurements_are, record_taken, some_turn}
use Rattle.spdm_progress.proofs.PacketSteps.{Pair}
use Rattle.spdm_progress.proofs.RecordRounds.{quiet_longer, quiet_moved, quiet_still, quiet_there}
use Rattle.spdm_progress.proofs.RequesterStages.{Asks as AsksRequest, next_small}
use Rattle.spdm_progress.proofs.ResponderStages.{LastTook}
use Rattle.spdm_progress.proofs.ResponderTurns.{taken_turn}
use Rattle.spdm_progress.proofs.StillKept.{AreAlike}
use Rattle.spdm_progress.proofs.Talk.{AreShort, Further, IsSendable, IsTalk, Leads, Over}

-- GET_MEASUREMENTS and CHUNK_GET are no PSK_EXCHANGE.
no_exchange : (op : ℕ) (x : ExchangeMessage) → get_measurements op ≡ canonical_request (PskExchange x) → ⊥
no_exchange op x e = (let code : slice_index (get_measurements op) 1 ≡ slice_index (canonical_request (PskExchange x)) 1 = ap (λ (l : List ℕ). slice_index l 1) e in omega (arith, code))

pub last_on : (m : List ℕ) (g later : served.History) → served.kept_of later ≡ served.kept_of g → LastTook m g → LastTook m later
last_on m g later same last = record { kept = last.kept; is = same ∙ last.is; message = last.message }

module _ (p : Pair) (op : ℕ) (h0 : asked.History) (d0 : Draw) (can : GoesLarge p.requester p.responder op (asked.negotiation_of h0)) (phase : asked.phase_of h0 ≡ Negotiated)
    (asks : requester_asks false p.requester h0 (Measure None op) d0 ≡ Adds (Told (Measure None op) (plain_sent h0 (GetMeasurements op)) d0)) where
  abbrev q : ReqSetup
  q = p.requester

  abbrev r : RspSetup
  r = p.responder

  abbrev m : List ℕ
  m = get_measurements op

  abbrev n : Negotiation
  n = asked.negotiation_of h0

  abbrev transfer : ℕ
  transfer = transfer_in n

  abbrev h1 : asked.History
  h1 = Told (Measure None op) (plain_sent h0 (GetMeasurements op)) d0 ∷ h0

  abbrev told : Event
  told = event.Done (finished.Measured (number_for r op))

  -- How many chunks there are, whatever the nonce.
  abbrev pub count : ℕ
  count = div_ceil (measurements_size r op + 4) (transfer - 12)

  count_is : (nonce : List ℕ) → length nonce ≡ 32 → chunk_count transfer (measurements r op nonce) ≡ count
  count_is nonce whole = ap (λ (size : ℕ). div_ceil (size + 4) (transfer - 12)) (measurements_are r op nonce whole)

  some_chunks : 0 < count
  some_chunks = (let least = can.fetch.least in let is = can.fetch.transfer in some_of (measurements_size r op + 4) (transfer - 12) (omega arith) (omega (arith, least, is)))

  -- The requester, since the command: it took nothing that counts.
  pub record Since (h : asked.History) : Type 0 where
    pub made : asking_does.IsMade q h
    pub phase_is : asked.phase_of h ≡ asked.phase_of h0
    pub negotiation : asked.negotiation_of h ≡ n
    pub draws : asked.draws_of q h0 ≤ asked.draws_of q h
    pub sessions : (j : ℕ) → steps.session_of j h ≡ steps.session_of j h0

  -- GET_MEASUREMENTS is on its way, and LargeResponse on its way back.
  pub record FirstAsked (more tag : ℕ) (body : List ℕ) (log : Log) (h : asked.History) (g : served.History) : Type 0 where
    pub more_is : more ≡ count
    pub h_is : h ≡ h1
    pub tag_is : tag ≡ asked.next_tag h0
    pub body_is : body ≡ clear_body m
    pub quiet : AreQuiet q r p.first log h0 g
    pub again : LargeAgain r op g

  pub record FirstAnswered (more tag : ℕ) (body : List ℕ) (log : Log) (h : asked.History) (g : served.History) : Type 0 where
    pub more_is : more ≡ count
    pub h_is : h ≡ h1
    pub tag_is : tag ≡ asked.next_tag h0
    pub nonce : List ℕ
    pub whole : length nonce ≡ 32
    pub handle : ℕ
    pub small : handle < 256
    pub body_is : body ≡ clear_body (large_response handle)
    pub quiet : AreQuiet q r p.first log h0 g
    pub pending : IsPending (measurements r op nonce) handle 0 (served.clear_turns g)
    pub last : LastTook m g

  -- CHUNK_GET for one of the chunks is on its way, and that chunk on its way back.
  pub record ChunkAsked (more tag : ℕ) (body : List ℕ) (log : Log) (h : asked.History) (g : served.History) : Type 0 where
    pub k : ℕ
    pub left : more + suc k ≡ count
    pub nonce : List ℕ
    pub whole : length nonce ≡ 32
    pub handle : ℕ
    pub small : handle < 256
    pub low : tag < 8
    pub since : Since h
    pub waits : outstanding h ≡ Some (fetching (GetMeasurements op) tag handle k (chunks_before transfer handle (measurements r op nonce) k))
    pub body_is : body ≡ clear_body (get_chunk handle k)
    pub quiet : AreQuiet q r p.first log h0 g
    pub pending : IsPending (measurements r op nonce) handle k (served.clear_turns g)
    pub last : LastTook (before_get op handle k) g

  pub record ChunkAnswered (more tag : ℕ) (body : List ℕ) (log : Log) (h : asked.History) (g : served.History) : Type 0 where
    pub k : ℕ
    pub left : more + suc k ≡ count
    pub nonce : List ℕ
    pub whole : length nonce ≡ 32
    pub handle : ℕ
    pub small : handle < 256
    pub low : tag < 8
    pub since : Since h
    pub waits : outstanding h ≡ Some (fetching (GetMeasurements op) tag handle k (chunks_before transfer handle (measurements r op nonce) k))
    pub body_is : body ≡ clear_body (chunk_response transfer handle (measurements r op nonce) k)
    pub quiet : AreQuiet q r p.first log h0 g
    pub pending : IsPending (measurements r op nonce) handle (k + 1) (served.clear_turns g)
    pub last : LastTook (get_chunk handle k) g

  abbrev pub MeasureAsked : ℕ → ℕ → List ℕ → Log → asked.History → served.History → Type 0
  MeasureAsked more tag body log h g = FirstAsked more tag body log h g ⊎ ChunkAsked more tag body log h g

  abbrev pub MeasureAnswered : ℕ → ℕ → List ℕ → Log → asked.History → served.History → Type 0
  MeasureAnswered more tag body log h g = FirstAnswered more tag body log h g ⊎ ChunkAnswered more tag body log h g

  -- It is over: the two are quiet, and the record was taken.
  abbrev pub Quiet : Log → asked.History → served.History → Type 0
  Quiet log h g = AreQuiet q r p.first log h g × (last_data h ≡ record_for r op)

  within_by : (more k : ℕ) → more + suc k ≡ count → k < count
  within_by more k left = omega (arith, left)

  within : (more k : ℕ) (nonce : List ℕ) → length nonce ≡ 32 → more + suc k ≡ count → k < chunk_count transfer (measurements r op nonce)
  within more k nonce whole left = subst (λ (z : ℕ). k < z) (sym (count_is nonce whole)) (within_by more k left)

  few_bytes : (more k handle : ℕ) (nonce : List ℕ) → length nonce ≡ 32 → handle < 256 → more + suc k ≡ count → length (chunk_response transfer handle (measurements r op nonce) k) ≤ transfer
  few_bytes more k handle nonce whole small left = chunk_is_few q r (measurements_size r op) n can.fetch (measurements r op nonce) (measurements_are r op nonce whole) handle k small (within more k nonce whole left)

  transfer_most : transfer < MAX_MESSAGE_SIZE
  transfer_most =
      let most = can.fetch.most in
      let fits = can.fetch.fits_max in
      let max = can.fetch.max in
      let large = can.fetch.large in
      omega (arith, most, fits, max, large)

  -- ---- Each body can be sent.

  sendable : (tag : ℕ) (message : List ℕ) (body : List ℕ) → tag < 8 → length message < 4161 → body ≡ clear_body message → IsSendable tag body
  sendable tag message body low short is = subst (IsSendable tag) (sym is) (record { small = low; whole = clear_is_body message short; typed = refl })

  first_tag : (tag : ℕ) → tag ≡ asked.next_tag h0 → tag < 8
  first_tag tag is = subst (λ (t : ℕ). t < 8) (sym is) (next_small h0)

  asked_sent : (more tag : ℕ) (body : List ℕ) (log : Log) (h : asked.History) (g : served.History) → MeasureAsked more tag body log h g → IsSendable tag body
  asked_sent more tag body log h g (inl y) = sendable tag m body (first_tag tag y.tag_is) (omega arith) y.body_is
  asked_sent more tag body log h g (inr y) = sendable tag (get_chunk y.handle y.k) body y.low (omega arith) y.body_is

  answered_sent : (more tag : ℕ) (body : List ℕ) (log : Log) (h : asked.History) (g : served.History) → MeasureAnswered more tag body log h g → IsSendable tag body
  answered_sent more tag body log h g (inl y) = sendable tag (large_response y.handle) body (first_tag tag y.tag_is) (omega arith) y.body_is
  answered_sent more tag body log h g (inr y) =
      let few = few_bytes more y.k y.handle y.nonce y.whole y.small y.left in
      sendable tag (chunk_response transfer y.handle (measurements r op y.nonce) y.k) body y.low (omega (arith, few, transfer_most)) y.body_is

  body_size : (message body : List ℕ) (size : ℕ) → body ≡ clear_body message → length message + 1 ≤ size → length body ≤ size
  body_size message body size is few = subst (λ (l : List ℕ). length l ≤ size) (sym is) (omega (arith, few))

  pub are_short : (each : ℕ) → transfer + 28 ≤ 64 * each → AreShort (λ more. 1) (λ more. each) MeasureAsked MeasureAnswered
  are_short each fits = record { asks = asks_short; answers = answers_short }
    where
      asks_short : (more tag : ℕ) (body : List ℕ) (log : Log) (h : asked.History) (g : served.History) → MeasureAsked more tag body log h g → length body ≤ 64 * 1
      asks_short more tag body log h g (inl y) = body_size m body (64 * 1) y.body_is (omega arith)
      asks_short more tag body log h g (inr y) = body_size (get_chunk y.handle y.k) body (64 * 1) y.body_is (omega arith)

      answers_short : (more tag : ℕ) (body : List ℕ) (log : Log) (h : asked.History) (g : served.History) → MeasureAnswered more tag body log h g → length body ≤ 64 * each
      answers_short more tag body log h g (inl y) = body_size (large_response y.handle) body (64 * each) y.body_is (omega (arith, fits))
      answers_short more tag body log h g (inr y) =
          let few = few_bytes more y.k y.handle y.nonce y.whole y.small y.left in
          body_size (chunk_response transfer y.handle (measurements r op y.nonce) y.k) body (64 * each) y.body_is (omega (arith, few, fits))

  -- ---- The responder.

  module _ (tag : ℕ) (log : Log) (g : served.History) (d : Draw) (quiet : AreQuiet q r p.first log h0 g) where
    under : served.negotiation_of (served.clear_turns g) ≡ n
    under = sym quiet.negotiation

    negotiated : served.phase_of (served.clear_turns g) ≡ Negotiated
    negotiated = sym quiet.phase ∙ phase

    large_earlier : TookEarlier q p.first h0 (Clear tag (some_turn r g d op true) d ∷ g)
    large_earlier = record { kept = λ k is x e fits sound context whole above below same. no_exchange op x (ap (λ (z : served.Kept). z.message) (some_same _ k is) ∙ same) }

    quiet_large : (acts : Log) → (answering.after g (clear_does r g tag m d) ≡ g) ⊎ (clear_does r g tag m d ≡ AddsThere (Clear tag (some_turn r g d op true) d)) → AreQuiet q r p.first (acts ++ log) h0 (answering.after g (clear_does r g tag m d))
    unfolding events.session_of
    quiet_large acts (inl same) = subst (AreQuiet q r p.first (acts ++ log) h0) (sym same) (quiet_longer q r p.first acts log h0 g quiet)
    quiet_large acts (inr adds) =
        subst (λ (z : answering.Outcome). AreQuiet q r p.first (acts ++ log) h0 (answering.after g z)) (sym adds)
        (quiet_there q r p.first acts log h0 g (Clear tag (some_turn r g d op true) d ∷ g) (adds, quiet.made_there) refl refl large_earlier (λ j. refl) quiet)

    first_served : (more : ℕ) → more ≡ count → tag ≡ asked.next_tag h0 → length d.bytes ≡ 32 → LargeAgain r op g
        → FirstAnswered more tag (answering.body_of (clear_does r g tag m d)) (served_log.acts_of r g (clear_body m) (clear_does r g tag m d) ++ log) h1 (answering.after g (clear_does r g tag m d))
    first_served more more_is tag_is drawn again =
        let o = served_large q r op n can g tag d drawn under negotiated again in record {
          more_is = more_is;
          h_is = refl;
          tag_is = tag_is;
          nonce = o.nonce;
          whole = o.whole;
          handle = o.handle;
          small = o.small;
          body_is = o.body;
          quiet = quiet_large (served_log.acts_of r g (clear_body m) (clear_does r g tag m d)) o.outcome;
          pending = o.pending;
          last = o.last;
        }

    module _ (h : asked.History) (more k handle : ℕ) (nonce : List ℕ) (whole : length nonce ≡ 32) (small : handle < 256) (left : more + suc k ≡ count) (pending : IsPending (measurements r op nonce) handle k (served.clear_turns g)) (last : LastTook (before_get op handle k) g) where
      abbrev w : List ℕ
      w = measurements r op nonce

      abbrev t : Turn
      t = taken_turn r (clear_place g) (get_chunk handle k) (clear_chosen r g d) (ChunkGet handle k)

      long : length w ≡ measurements_size r op
      long = measurements_are r op nonce whole

      does : clear_does r g tag (get_chunk handle k) d ≡ AddsThere (Clear tag t d)
      does = served_chunk q r (measurements_size r op) n can.fetch w long handle k small (within more k nonce whole left) g d under negotiated pending tag (before_get op handle k) (before_differs op handle k) last

      get_earlier : TookEarlier q p.first h0 (Clear tag t d ∷ g)
      get_earlier = record { kept = λ z is x e fits sound context has above below same. get_no_exchange handle k x (ap (λ (y : served.Kept). y.message) (some_same _ z is) ∙ same) }

      chunk_served : tag < 8 → Since h → outstanding h ≡ Some (fetching (GetMeasurements op) tag handle k (chunks_before transfer handle w k))
          → ChunkAnswered more tag (answering.body_of (clear_does r g tag (get_chunk handle k) d)) (served_log.acts_of r g (clear_body (get_chunk handle k)) (clear_does r g tag (get_chunk handle k) d) ++ log) h (answering.after g (clear_does r g tag (get_chunk handle k) d))
      unfolding events.session_of
      chunk_served low since waits =
          let acts = served_log.acts_of r g (clear_body (get_chunk handle k)) (clear_does r g tag (get_chunk handle k) d) in
          subst (λ (o : answering.Outcome). ChunkAnswered more tag (answering.body_of o) (acts ++ log) h (answering.after g o)) (sym does)
          (record {
            k = k;
            left = left;
            nonce = nonce;
            whole = whole;
            handle = handle;
            small = small;
            low = low;
            since = since;
            waits = waits;
            body_is = ap clear_body (gives_chunk q r (measurements_size r op) n can.fetch w long handle k small (within more k nonce whole left) (clear_place g) (clear_chosen r g d) under pending);
            quiet = quiet_there q r p.first acts log h0 g (Clear tag t d ∷ g) (does, quiet.made_there) refl refl get_earlier (λ j. refl) quiet;
            pending = pending_next q r (measurements_size r op) n can.fetch w long handle k small (within more k nonce whole left) g d under negotiated pending;
            last = record { kept = record { tag = tag; message = get_chunk handle k; reply = t.reply }; is = refl; message = refl };
          })

  serves : (more tag : ℕ) (body : List ℕ) (log : Log) (h : asked.History) (g : served.History) (d : Draw) → length d.bytes ≡ 32 → NoChance log → MeasureAsked more tag body log h g
      → MeasureAnswered more tag (answering.body_of (responder_does r g tag body d)) (served_log.acts_of r g body (responder_does r g tag body d) ++ log) h (answering.after g (responder_does r g tag body d))
  serves more tag body log h g d drawn chance (inl y) =
      subst (λ (k : asked.History). MeasureAnswered more tag (answering.body_of (responder_does r g tag body d)) (served_log.acts_of r g body (responder_does r g tag body d) ++ log) k (answering.after g (responder_does r g tag body d))) (sym y.h_is)
      (subst (λ (b : List ℕ). MeasureAnswered more tag (answering.body_of (responder_does r g tag b d)) (served_log.acts_of r g b (responder_does r g tag b d) ++ log) h1 (answering.after g (responder_does r g tag b d))) (sym y.body_is)
      (inl (first_served tag log g d y.quiet more y.more_is y.tag_is drawn y.again)))
  serves more tag body log h g d drawn chance (inr y) =
      subst (λ (b : List ℕ). MeasureAnswered more tag (answering.body_of (responder_does r g tag b d)) (served_log.acts_of r g b (responder_does r g tag b d) ++ log) h (answering.after g (responder_does r g tag b d))) (sym y.body_is)
      (inr (chunk_served tag log g d y.quiet h more y.k y.handle y.nonce y.whole y.small y.left y.pending y.last y.low y.since y.waits))

  -- ---- The requester.

  -- An entry that calls for a chunk.
  goes_since : (h : asked.History) (tag : ℕ) (message : List ℕ) (handle k : ℕ) (before : List ChunkMessage) (d : Draw) → requester_hears q h false tag (clear_body message) d ≡ Adds (TookClear tag message (goes_on Nothing (get_sent h (GetMeasurements op) handle k before)) d) → Since h
      → Since (TookClear tag message (goes_on Nothing (get_sent h (GetMeasurements op) handle k before)) d ∷ h)
  unfolding steps.session_of
  goes_since h tag message handle k before d is since = record {
    made = (is, since.made);
    phase_is = since.phase_is;
    negotiation = since.negotiation;
    draws = since.draws;
    sessions = since.sessions;
  }

  told_since : asking_does.IsMade q h0 → Since h1
  unfolding steps.session_of
  told_since made = record { made = (asks, made); phase_is = refl; negotiation = refl; draws = omega arith; sessions = λ j. refl }

  first_heard : (more tag : ℕ) (log : Log) (g : served.History) (d : Draw) (nonce : List ℕ) (handle : ℕ) → more ≡ count → length nonce ≡ 32 → handle < 256 → tag ≡ asked.next_tag h0 → Since h1 → AreQuiet q r p.first log h0 g → IsPending (measurements r op nonce) handle 0 (served.clear_turns g) → LastTook m g
      → Leads p MeasureAsked Quiet told more (requester_hears q h1 false tag (clear_body (large_response handle)) d) (asked_log.acts_of q h1 (clear_body (large_response handle)) (requester_hears q h1 false tag (clear_body (large_response handle)) d) ++ log) h1 g
  first_heard more tag log g d nonce handle more_is whole small tag_is since quiet pending last =
      let asks_it = subst (λ (z : ℕ). AsksRequest q z (GetMeasurements op) m n h1) (sym tag_is) (asks_measure q h0 d0 op n refl) in
      let is = heard_large q r (measurements_size r op) n can.fetch (GetMeasurements op) m h1 tag handle d refl asks_it in
      let next = get_sent h1 (GetMeasurements op) handle 0 [] in
      let made = TookClear tag (large_response handle) (goes_on Nothing next) d in
      let acts = asked_log.acts_of q h1 (clear_body (large_response handle)) (Adds made) in
      let fewer = before_it more (subst (λ (z : ℕ). 0 < z) (sym more_is) some_chunks) in
      subst (λ (o : Outcome). Leads p MeasureAsked Quiet told more o (asked_log.acts_of q h1 (clear_body (large_response handle)) o ++ log) h1 g) (sym is)
      (Further next fewer.0 (sym fewer.1) refl (inr (record {
        k = 0;
        left = omega (arith, fewer.1, more_is);
        nonce = nonce;
        whole = whole;
        handle = handle;
        small = small;
        low = next_small h1;
        since = goes_since h1 tag (large_response handle) handle 0 [] d is since;
        waits = refl;
        body_is = refl;
        quiet = quiet_longer q r p.first acts log h0 g quiet;
        pending = pending;
        last = last;
      })))

  module _ (more tag : ℕ) (log : Log) (h : asked.History) (g : served.History) (d : Draw) (k handle : ℕ) (nonce : List ℕ) (left : more + suc k ≡ count) (whole : length nonce ≡ 32) (small : handle < 256) (low : tag < 8) (since : Since h)
      (waits : outstanding h ≡ Some (fetching (GetMeasurements op) tag handle k (chunks_before transfer handle (measurements r op nonce) k))) (quiet : AreQuiet q r p.first log h0 g) (pending : IsPending (measurements r op nonce) handle (k + 1) (served.clear_turns g)) (last : LastTook (get_chunk handle k) g) where
    abbrev text : List ℕ
    text = measurements r op nonce

    abbrev reply_body : List ℕ
    reply_body = clear_body (chunk_response transfer handle text k)

    size : length text ≡ measurements_size r op
    size = measurements_are r op nonce whole

    abbrev LeadsTo : Outcome → Type 0
    LeadsTo o = Leads p MeasureAsked Quiet told more o (asked_log.acts_of q h reply_body o ++ log) h g

    next_heard : (k + 1 == chunk_count transfer text) ≡ false → LeadsTo (requester_hears q h false tag reply_body d)
    next_heard again =
        let is = heard_more q r (measurements_size r op) n can.fetch text size handle k small (within more k nonce whole left) (GetMeasurements op) h tag d waits again in
        let before = nth_chunk transfer handle text k ∷ chunks_before transfer handle text k in
        let next = get_sent h (GetMeasurements op) handle (k + 1) before in
        let made = TookClear tag (chunk_response transfer handle text k) (goes_on Nothing next) d in
        let acts = asked_log.acts_of q h reply_body (Adds made) in
        let other = eqb-false (k + 1) (chunk_count transfer text) again in
        let fewer = before_it more (not_zero more (λ none. other (omega (arith, none, left) ∙ sym (count_is nonce whole)))) in
        let so = sym (add-one k) in
        subst LeadsTo (sym is)
        (Further next fewer.0 (sym fewer.1) refl (inr (record {
          k = k + 1;
          left = omega (arith, fewer.1, left);
          nonce = nonce;
          whole = whole;
          handle = handle;
          small = small;
          low = next_small h;
          since = goes_since h tag (chunk_response transfer handle text k) handle (k + 1) before d is since;
          waits = ap (λ (l : List ChunkMessage). Some (fetching (GetMeasurements op) (asked.next_tag h) handle (k + 1) l)) (ap (chunks_before transfer handle text) so);
          body_is = refl;
          quiet = quiet_longer q r p.first acts log h0 g quiet;
          pending = pending;
          last = subst (λ (z : ℕ). LastTook (before_get op handle z) g) so last;
        })))

    last_heard : (k + 1 == chunk_count transfer text) ≡ true → LeadsTo (requester_hears q h false tag reply_body d)
    unfolding steps.session_of
    last_heard ends =
        let is = heard_last q r op n can h tag (chunk_response transfer handle text k) d nonce whole (heard_whole q r (measurements_size r op) n can.fetch text size handle k small (within more k nonce whole left) (GetMeasurements op) h tag d waits ends) in
        let made = TookClear tag (chunk_response transfer handle text k) (measured_led r op nonce) d in
        let acts = asked_log.acts_of q h reply_body (Adds made) in
        let most = can.fetch.most in
        let fits = can.fetch.fits_max in
        let max = can.fetch.max in
        subst LeadsTo (sym is)
        (Over refl refl (
          quiet_moved q r p.first acts log h0 (made ∷ h) g (is, since.made) refl since.phase_is since.negotiation since.draws since.sessions quiet,
          record_taken r h tag op (chunk_response transfer handle text k) nonce d whole (omega (arith, most, fits, max)),
        ))

    chunk_heard : (b : Bool) → (k + 1 == chunk_count transfer text) ≡ b → LeadsTo (requester_hears q h false tag reply_body d)
    chunk_heard true is = last_heard is
    chunk_heard false is = next_heard is

  hears : (more tag : ℕ) (body : List ℕ) (log : Log) (h : asked.History) (g : served.History) (d : Draw) → NoChance log → MeasureAnswered more tag body log h g
      → Leads p MeasureAsked Quiet told more (requester_hears q h false tag body d) (asked_log.acts_of q h body (requester_hears q h false tag body d) ++ log) h g
  hears more tag body log h g d chance (inl y) =
      subst (λ (k : asked.History). Leads p MeasureAsked Quiet told more (requester_hears q k false tag body d) (asked_log.acts_of q k body (requester_hears q k false tag body d) ++ log) k g) (sym y.h_is)
      (subst (λ (b : List ℕ). Leads p MeasureAsked Quiet told more (requester_hears q h1 false tag b d) (asked_log.acts_of q h1 b (requester_hears q h1 false tag b d) ++ log) h1 g) (sym y.body_is)
      (first_heard more tag log g d y.nonce y.handle y.more_is y.whole y.small y.tag_is (told_since y.quiet.made) y.quiet y.pending y.last))
  hears more tag body log h g d chance (inr y) =
      subst (λ (b : List ℕ). Leads p MeasureAsked Quiet told more (requester_hears q h false tag b d) (asked_log.acts_of q h b (requester_hears q h false tag b d) ++ log) h g) (sym y.body_is)
      (chunk_heard more tag log h g d y.k y.handle y.nonce y.left y.whole y.small y.low y.since y.waits y.quiet y.pending y.last (y.k + 1 == chunk_count transfer (measurements r op y.nonce)) refl)

  pub large_talk : IsTalk p MeasureAsked MeasureAnswered Quiet told
  large_talk = record {
    asks_sent = asked_sent;
    answers_sent = answered_sent;
    serves = serves;
    hears = hears;
    asks_still = asks_still;
    answers_still = answers_still;
    done_still = λ log h g later alike y. (quiet_still q r p.first log h g later alike y.0, y.1);
  }
    where
      asks_still : (more tag : ℕ) (body : List ℕ) (log : Log) (h : asked.History) (g later : served.History) → AreAlike r g later → MeasureAsked more tag body log h g → MeasureAsked more tag body log h later
      asks_still more tag body log h g later alike (inl y) = inl (record {
        more_is = y.more_is;
        h_is = y.h_is;
        tag_is = y.tag_is;
        body_is = y.body_is;
        quiet = quiet_still q r p.first log h0 g later alike y.quiet;
        again = again_at r op g later alike.clear.kept alike.turns y.again;
      })
      asks_still more tag body log h g later alike (inr y) = inr (record {
        k = y.k;
        left = y.left;
        nonce = y.nonce;
        whole = y.whole;
        handle = y.handle;
        small = y.small;
        low = y.low;
        since = y.since;
        waits = y.waits;
        body_is = y.body_is;
        quiet = quiet_still q r p.first log h0 g later alike y.quiet;
        pending = subst (IsPending (measurements r op y.nonce) y.handle y.k) (sym alike.turns) y.pending;
        last = last_on (before_get op y.handle y.k) g later alike.clear.kept y.last;
      })

      answers_still : (more tag : ℕ) (body : List ℕ) (log : Log) (h : asked.History) (g later : served.History) → AreAlike r g later → MeasureAnswered more tag body log h g → MeasureAnswered more tag body log h later
      answers_still more tag body log h g later alike (inl y) = inl (record {
        more_is = y.more_is;
        h_is = y.h_is;
        tag_is = y.tag_is;
        nonce = y.nonce;
        whole = y.whole;
        handle = y.handle;
        small = y.small;
        body_is = y.body_is;
        quiet = quiet_still q r p.first log h0 g later alike y.quiet;
        pending = subst (IsPending (measurements r op y.nonce) y.handle 0) (sym alike.turns) y.pending;
        last = last_on m g later alike.clear.kept y.last;
      })
      answers_still more tag body log h g later alike (inr y) = inr (record {
        k = y.k;
        left = y.left;
        nonce = y.nonce;
        whole = y.whole;
        handle = y.handle;
        small = y.small;
        low = y.low;
        since = y.since;
        waits = y.waits;
        body_is = y.body_is;
        quiet = quiet_still q r p.first log h0 g later alike y.quiet;
        pending = subst (IsPending (measurements r op y.nonce) y.handle (y.k + 1)) (sym alike.turns) y.pending;
        last = last_on (get_chunk y.handle y.k) g later alike.clear.kept y.last;
      })
