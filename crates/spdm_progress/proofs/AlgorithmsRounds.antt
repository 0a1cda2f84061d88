-- The last rounds of a connect: NEGOTIATE_ALGORITHMS and its answer, each of which goes whole or in chunks.
use Rattle.std.proofs.Common.{◌≡◌, ◌⊎◌, ◌∙◌, ℕ, suc, ◌<◌, ◌≤◌, ◌+◌, ◌-◌, ◌==◌, List, [], ◌∷◌, ◌++◌, length, Bool, true, false, Some, None, refl, sym, ap, subst, inl, inr, arith, add-one, eqb-true}
use Rattle.std.specs.Prelude.{bytes_eq, slice_index}
use Rattle.std.proofs.lemmas.Bool.{eqb-false}
use Rattle.chunking.specs.Cutting.{chunk_count, chunks_before, nth_chunk}
use Rattle.requester_machine.specs.Does.{requester_hears}
use Rattle.requester_machine.specs.History as asked
use Rattle.requester_machine.specs.RequesterLog as asked_log
use Rattle.requester_machine.specs.Sending.{get_sent, piece_sent}
use Rattle.requester_machine.specs.Setup.{ReqSetup}
use Rattle.responder_machine.specs.Does.{clear_chosen, responder_does}
use Rattle.responder_machine.specs.Handling.{large_response}
use Rattle.responder_machine.specs.History as served
use Rattle.responder_machine.specs.Responder as answering
use Rattle.responder_machine.specs.ResponderLog as served_log
use Rattle.responder_machine.specs.Setup.{RspSetup}
use Rattle.negotiate.specs.declared.shared.Common.{Common}
use Rattle.spdm_machine.specs.Terms.{terms_of}
use Rattle.spdm_grammar.specs.Message.{ChunkMessage, ExchangeMessage, OfferMessage}
use Rattle.spdm_grammar.specs.Message.RequestMessage.{NegotiateAlgorithms, PskExchange}
use Rattle.spdm_grammar.specs.Requests.{canonical_request}
use Rattle.spdm_grammar.specs.declared.messages.choice.Choice.{Choice}
use Rattle.spdm_grammar.specs.declared.told.event.Event.{Event}
use Rattle.spdm_grammar.specs.declared.told.event.Event.TheVariants as event
use Rattle.spdm_grammar.specs.declared.told.event.Finished.TheVariants as finished
use Rattle.spdm_grammar.specs.declared.told.phase.Phase.TheVariants.{Negotiated}
use Rattle.spdm_machine.specs.Bodies.{clear_body}
use Rattle.spdm_machine.specs.Keys.{Draw}
use Rattle.spdm_machine.specs.TagLog.{Log}
use Rattle.world_machine.specs.Chance.{NoChance}
use Rattle.spdm_progress.proofs.ChunkCounts.{chunks_within, next_below, not_zero, some_of}
use Rattle.spdm_progress.proofs.ClearFetch.{CanFetchIn, chunk_is_few, chunk_response, get_chunk, gets_differ, transfer_in}
use Rattle.spdm_progress.proofs.ClearSend.{ack_of, few_bytes, piece_here_at, pieces_differ, send_chunk, transfer_there}
use Rattle.spdm_progress.proofs.SentAlgorithms as sent
use Rattle.spdm_progress.proofs.SentAlgorithms.{HasPieces, Sends}
use Rattle.spdm_progress.proofs.ClearRounds.{ClearOver, ClearWay, way_answered, way_ends, way_kept, way_leads, way_sent, way_still}
use Rattle.spdm_progress.proofs.LargeAlgorithms.{Fetches, Holds, asks_differ, chunk_answered, get_no_exchange, holds_still, large_answered, large_heard, last_heard, next_heard, own_handle, send_no_exchange}
use Rattle.spdm_progress.proofs.ManyPackets.{before_it}
use Rattle.spdm_progress.proofs.PacketSteps.{Pair}
use Rattle.spdm_progress.proofs.RequesterStages.{Asks as AsksRequest, Hears, IsOver, algorithms_heard, next_small}
use Rattle.spdm_progress.proofs.ResponderStages.{HasCapabilities, Stands, algorithms, algorithms_answered, negotiate_algorithms, three_pairs, two_pairs}
use Rattle.spdm_progress.proofs.SetUps.{AnswerGoes, AsksByChunks, AsksWhole, CanMeet, algorithms_size, takes_whole}
use Rattle.spdm_progress.proofs.ResponderBegins.{stands_on}
use Rattle.spdm_progress.proofs.StillKept.{AreAlike}
use Rattle.spdm_progress.proofs.Talk.{Further, IsSendable, IsTalk, Leads, Stage}
use Rattle.spdm_progress.proofs.TwoRounds.{LeadsTo}

module _ (p : Pair) (offer : OfferMessage) (choice : Choice) (can : CanMeet p.requester p.responder offer choice) where
  abbrev q : ReqSetup
  q = p.requester

  abbrev r : RspSetup
  r = p.responder

  abbrev m : List ℕ
  m = negotiate_algorithms offer

  abbrev w : List ℕ
  w = algorithms r offer

  abbrev told : Event
  told = event.Done finished.Connected

  abbrev transfer : ℕ
  transfer = transfer_in (two_pairs q r)

  abbrev count : ℕ
  count = chunk_count transfer w

  abbrev Way : Type 0
  Way = AsksWhole q r offer ⊎ AsksByChunks q r offer

  -- How many rounds follow the one that the request ends in.
  abbrev rest_of : (round : ℕ) → AnswerGoes round q r offer → ℕ
  rest_of round (inl whole) = 0
  rest_of round (inr fetch) = count

  -- How many chunks the request has.
  abbrev pieces : ℕ
  pieces = chunk_count (transfer_there (two_pairs q r)) m

  -- How many rounds follow the first.
  abbrev pub rounds_of : Way → ℕ
  rounds_of (inl whole) = rest_of 0 whole.answer
  rounds_of (inr chunks) = pieces - 1 + rest_of 6 chunks.answer

  -- ---- The stages.

  abbrev pub AsksAlgorithms : ℕ → asked.History → Type 0
  AsksAlgorithms tag h = AsksRequest q tag (NegotiateAlgorithms offer) m (two_pairs q r) h

  abbrev pub Capable : served.History → Type 0
  Capable g = HasCapabilities q r g

  abbrev pub Ended : asked.History → Type 0
  Ended h = IsOver (three_pairs q r offer) h

  abbrev Any : ℕ → asked.History → Type 0
  Any tag h = Unit {0}

  -- The responder holds the whole negotiation, and took no PSK_EXCHANGE last.
  pub record HasAgreed (g : served.History) : Type 0 where
    pub last : List ℕ
    pub stands : Stands Negotiated (three_pairs q r offer) last g
    pub other : (x : ExchangeMessage) → last ≡ canonical_request (PskExchange x) → ⊥

  -- NEGOTIATE_ALGORITHMS is on its way, whole.
  pub record WholeAsked (more tag : ℕ) (body : List ℕ) (log : Log) (h : asked.History) (g : served.History) : Type 0 where
    pub way : AsksWhole q r offer
    pub more_is : more ≡ rest_of 0 way.answer
    pub is : ClearWay p m AsksAlgorithms Capable tag body log h g

  -- CHUNK_SEND with one of its chunks is on its way, and the acknowledgement of one that is not the last on its way back.
  pub record PieceAsked (more tag : ℕ) (body : List ℕ) (log : Log) (h : asked.History) (g : served.History) : Type 0 where
    pub way : AsksByChunks q r offer
    pub handle : ℕ
    pub small : handle < 256
    pub j : ℕ
    pub left : more + suc j ≡ pieces + rest_of 6 way.answer
    pub within : j < pieces
    pub last : List ℕ
    pub other : bytes_eq last (send_chunk (nth_chunk (transfer_there (two_pairs q r)) handle m j)) ≡ false
    pub is : ClearWay p (send_chunk (nth_chunk (transfer_there (two_pairs q r)) handle m j)) (Sends q r offer way.send handle small j) (HasPieces q r offer way.send handle small j last) tag body log h g

  pub record PieceAnswered (more tag : ℕ) (body : List ℕ) (log : Log) (h : asked.History) (g : served.History) : Type 0 where
    pub way : AsksByChunks q r offer
    pub handle : ℕ
    pub small : handle < 256
    pub j : ℕ
    pub left : more + suc j ≡ pieces + rest_of 6 way.answer
    pub within : j < pieces
    pub again : (j + 1 == pieces) ≡ false
    pub is : ClearWay p (ack_of (nth_chunk (transfer_there (two_pairs q r)) handle m j) []) (Sends q r offer way.send handle small j) (HasPieces q r offer way.send handle small (suc j) (send_chunk (nth_chunk (transfer_there (two_pairs q r)) handle m j))) tag body log h g

  -- A message with ALGORITHMS in it is on its way.
  pub record WholeAnswered (more tag : ℕ) (body : List ℕ) (log : Log) (h : asked.History) (g : served.History) : Type 0 where
    pub text : List ℕ
    pub short : length text ≤ 63
    pub carries : (d : Draw) → Hears q h tag text d told None Ended
    pub is : ClearWay p text Any HasAgreed tag body log h g

  -- A message with LargeResponse in it is on its way.
  pub record LargeTold (more tag : ℕ) (body : List ℕ) (log : Log) (h : asked.History) (g : served.History) : Type 0 where
    pub round : ℕ
    pub fetch : CanFetchIn round q r (length w) (two_pairs q r)
    pub more_is : more ≡ count
    pub handle : ℕ
    pub small : handle < 256
    pub text : List ℕ
    pub short : length text ≤ 63
    pub carries : (d : Draw) → Hears q h tag text d event.Progress (Some (get_sent h (NegotiateAlgorithms offer) handle 0 [])) (Fetches q r offer handle 0 (asked.next_tag h))
    pub last : List ℕ
    pub other : bytes_eq last (get_chunk handle 0) ≡ false
    pub is : ClearWay p text Any (Holds q r offer handle 0 last) tag body log h g

  -- CHUNK_GET for one of the chunks is on its way, and that chunk on its way back.
  pub record ChunkAsked (more tag : ℕ) (body : List ℕ) (log : Log) (h : asked.History) (g : served.History) : Type 0 where
    pub round : ℕ
    pub fetch : CanFetchIn round q r (length w) (two_pairs q r)
    pub handle : ℕ
    pub small : handle < 256
    pub k : ℕ
    pub left : more + suc k ≡ count
    pub last : List ℕ
    pub other : bytes_eq last (get_chunk handle k) ≡ false
    pub is : ClearWay p (get_chunk handle k) (Fetches q r offer handle k) (Holds q r offer handle k last) tag body log h g

  pub record ChunkAnswered (more tag : ℕ) (body : List ℕ) (log : Log) (h : asked.History) (g : served.History) : Type 0 where
    pub round : ℕ
    pub fetch : CanFetchIn round q r (length w) (two_pairs q r)
    pub handle : ℕ
    pub small : handle < 256
    pub k : ℕ
    pub left : more + suc k ≡ count
    pub is : ClearWay p (chunk_response transfer handle w k) (Fetches q r offer handle k) (Holds q r offer handle (k + 1) (get_chunk handle k)) tag body log h g

  abbrev pub AlgorithmsAsks : Stage
  AlgorithmsAsks more tag body log h g = WholeAsked more tag body log h g ⊎ (PieceAsked more tag body log h g ⊎ ChunkAsked more tag body log h g)

  abbrev pub AlgorithmsAnswers : Stage
  AlgorithmsAnswers more tag body log h g = PieceAnswered more tag body log h g ⊎ (WholeAnswered more tag body log h g ⊎ (LargeTold more tag body log h g ⊎ ChunkAnswered more tag body log h g))

  abbrev pub AlgorithmsDone : Log → asked.History → served.History → Type 0
  AlgorithmsDone = ClearOver p Ended HasAgreed

  -- ---- Sizes.

  few_there : length m ≡ 48
  few_there = can.own.size

  few_back : length w ≤ 52
  few_back = algorithms_size r offer

  long : 4 ≤ length m
  long = omega (arith, few_there)

  within_by : (more k : ℕ) → more + suc k ≡ count → k < count
  within_by more k left = omega (arith, left)

  few_chunk : {round : ℕ} (fetch : CanFetchIn round q r (length w) (two_pairs q r)) (more k handle : ℕ) → handle < 256 → more + suc k ≡ count → length (chunk_response transfer handle w k) ≤ 63
  few_chunk fetch more k handle small left =
      let few = chunk_is_few q r (length w) (two_pairs q r) fetch w refl handle k small (within_by more k left) in
      let large = fetch.large in
      let round = fetch.few in
      omega (arith, few, large, round, few_back)

  few_piece : (way : AsksByChunks q r offer) (handle : ℕ) → handle < 256 → (j : ℕ) → length (send_chunk (nth_chunk (transfer_there (two_pairs q r)) handle m j)) ≤ 63
  few_piece way handle small j =
      let few = few_bytes q r (NegotiateAlgorithms offer) (two_pairs q r) way.send handle small j in
      let large = way.send.large in
      let transfer_is = way.send.transfer in
      omega (arith, few, large, transfer_is, few_there)

  some_chunks : {round : ℕ} → CanFetchIn round q r (length w) (two_pairs q r) → 1 ≤ count
  some_chunks fetch = (let least = fetch.least in let is = fetch.transfer in some_of (length w + 4) (transfer - 12) (omega arith) (omega (arith, least, is)))

  pub some_pieces : AsksByChunks q r offer → 1 ≤ pieces
  some_pieces way = (let least = way.send.least in let is = way.send.transfer in some_of (length m + 4) (transfer_there (two_pairs q r) - 12) (omega arith) (omega (arith, least, is)))

  few_rest : (round : ℕ) (goes : AnswerGoes round q r offer) → rest_of round goes ≤ 42
  few_rest round (inl whole) = omega arith
  few_rest round (inr fetch) =
      let least = fetch.least in
      let is = fetch.transfer in
      chunks_within transfer (length w) (omega (arith, least, is)) (omega (arith, few_back))

  pub few_rounds : (way : Way) → rounds_of way ≤ 84
  few_rounds (inl whole) = (let few = few_rest 0 whole.answer in omega (arith, few))
  few_rounds (inr chunks) =
      let few = few_rest 6 chunks.answer in
      let least = chunks.send.least in
      let is = chunks.send.transfer in
      let pieces_few = chunks_within (transfer_there (two_pairs q r)) (length m) (omega (arith, least, is)) (omega (arith, few_there)) in
      omega (arith, few, pieces_few)

  body_size : (message body : List ℕ) → body ≡ clear_body message → length message ≤ 63 → length body ≤ 64
  body_size message body is few = subst (λ (l : List ℕ). length l ≤ 64) (sym is) (omega (arith, few))

  pub asks_short : (more tag : ℕ) (body : List ℕ) (log : Log) (h : asked.History) (g : served.History) → AlgorithmsAsks more tag body log h g → length body ≤ 64
  asks_short more tag body log h g (inl y) = body_size m body y.is.body_is (omega (arith, few_there))
  asks_short more tag body log h g (inr (inl y)) = body_size _ body y.is.body_is (few_piece y.way y.handle y.small y.j)
  asks_short more tag body log h g (inr (inr y)) = body_size (get_chunk y.handle y.k) body y.is.body_is (omega arith)

  pub answers_short : (more tag : ℕ) (body : List ℕ) (log : Log) (h : asked.History) (g : served.History) → AlgorithmsAnswers more tag body log h g → length body ≤ 64
  answers_short more tag body log h g (inl y) = body_size (ack_of (nth_chunk (transfer_there (two_pairs q r)) y.handle m y.j) []) body y.is.body_is (omega arith)
  answers_short more tag body log h g (inr (inl y)) = body_size y.text body y.is.body_is y.short
  answers_short more tag body log h g (inr (inr (inl y))) = body_size y.text body y.is.body_is y.short
  answers_short more tag body log h g (inr (inr (inr y))) = body_size (chunk_response transfer y.handle w y.k) body y.is.body_is (few_chunk y.fetch more y.k y.handle y.small y.left)

  sendable : (message : List ℕ) (Asked : ℕ → asked.History → Type 0) (Served : served.History → Type 0) (tag : ℕ) (body : List ℕ) (log : Log) (h : asked.History) (g : served.History) → length message ≤ 63 → ClearWay p message Asked Served tag body log h g → IsSendable tag body
  sendable message Asked Served tag body log h g few y = way_sent p message Asked Served (omega (arith, few)) tag body log h g y

  asks_sent : (more tag : ℕ) (body : List ℕ) (log : Log) (h : asked.History) (g : served.History) → AlgorithmsAsks more tag body log h g → IsSendable tag body
  asks_sent more tag body log h g (inl y) = sendable m AsksAlgorithms Capable tag body log h g (omega (arith, few_there)) y.is
  asks_sent more tag body log h g (inr (inl y)) = sendable _ (Sends q r offer y.way.send y.handle y.small y.j) (HasPieces q r offer y.way.send y.handle y.small y.j y.last) tag body log h g (few_piece y.way y.handle y.small y.j) y.is
  asks_sent more tag body log h g (inr (inr y)) = sendable (get_chunk y.handle y.k) (Fetches q r offer y.handle y.k) (Holds q r offer y.handle y.k y.last) tag body log h g (omega arith) y.is

  answers_sent : (more tag : ℕ) (body : List ℕ) (log : Log) (h : asked.History) (g : served.History) → AlgorithmsAnswers more tag body log h g → IsSendable tag body
  answers_sent more tag body log h g (inl y) =
      sendable (ack_of (nth_chunk (transfer_there (two_pairs q r)) y.handle m y.j) []) (Sends q r offer y.way.send y.handle y.small y.j) (HasPieces q r offer y.way.send y.handle y.small (suc y.j) (send_chunk (nth_chunk (transfer_there (two_pairs q r)) y.handle m y.j))) tag body log h g (omega arith) y.is
  answers_sent more tag body log h g (inr (inl y)) = sendable y.text Any HasAgreed tag body log h g y.short y.is
  answers_sent more tag body log h g (inr (inr (inl y))) = sendable y.text Any (Holds q r offer y.handle 0 y.last) tag body log h g y.short y.is
  answers_sent more tag body log h g (inr (inr (inr y))) =
      sendable (chunk_response transfer y.handle w y.k) (Fetches q r offer y.handle y.k) (Holds q r offer y.handle (y.k + 1) (get_chunk y.handle y.k)) tag body log h g (few_chunk y.fetch more y.k y.handle y.small y.left) y.is

  -- ---- The responder.

  abbrev Serving : ℕ → ℕ → List ℕ → Log → asked.History → served.History → Draw → Type 0
  Serving more tag body log h g d = AlgorithmsAnswers more tag (answering.body_of (responder_does r g tag body d)) (served_log.acts_of r g body (responder_does r g tag body d) ++ log) h (answering.after g (responder_does r g tag body d))

  no_exchange : (x : ExchangeMessage) → m ≡ canonical_request (PskExchange x) → ⊥
  no_exchange x e = (let code : slice_index m 1 ≡ slice_index (canonical_request (PskExchange x)) 1 = ap (λ (l : List ℕ). slice_index l 1) e in omega (arith, code))

  agreed_by : (last : List ℕ) → ((x : ExchangeMessage) → last ≡ canonical_request (PskExchange x) → ⊥) → (message : List ℕ) (Asked : ℕ → asked.History → Type 0) (tag : ℕ) (body : List ℕ) (log : Log) (h : asked.History) (g : served.History)
      → ClearWay p message Asked (λ k. Stands Negotiated (three_pairs q r offer) last k) tag body log h g → ClearWay p message Any HasAgreed tag body log h g
  agreed_by last other message Asked tag body log h g y = record {
    small = y.small;
    body_is = y.body_is;
    asks = tt;
    serves = record { last = last; stands = y.serves; other = other };
    made = y.made;
    made_there = y.made_there;
    bare = y.bare;
  }

  unasked : (message : List ℕ) (Asked : ℕ → asked.History → Type 0) (Served : served.History → Type 0) (tag : ℕ) (body : List ℕ) (log : Log) (h : asked.History) (g : served.History) → ClearWay p message Asked Served tag body log h g → ClearWay p message Any Served tag body log h g
  unasked message Asked Served tag body log h g y = record { small = y.small; body_is = y.body_is; asks = tt; serves = y.serves; made = y.made; made_there = y.made_there; bare = y.bare }

  whole_served : (more tag : ℕ) (body : List ℕ) (log : Log) (h : asked.History) (g : served.History) (d : Draw) (way : AsksWhole q r offer) (answer : AnswerGoes 0 q r offer) → more ≡ rest_of 0 answer → ClearWay p m AsksAlgorithms Capable tag body log h g → Serving more tag body log h g d
  whole_served more tag body log h g d way (inl whole) more_is y = inr (inl (record {
    text = w;
    short = omega (arith, few_back);
    carries = λ e. (let fits = whole.answer_fits in algorithms_heard q r h tag e offer choice (omega (arith, fits)) can.chosen y.asks);
    is = agreed_by m no_exchange w AsksAlgorithms tag _ _ h _
        (way_answered p m w AsksAlgorithms Capable (λ k. Stands Negotiated (three_pairs q r offer) m k) tag body log h g d (algorithms_answered q r g tag d offer choice long way.request_fits can.own.fits can.own.sound can.chosen (takes_whole q r offer choice g can whole y.serves) y.serves) y);
  }))
  whole_served more tag body log h g d way (inr fetch) more_is y = inr (inr (inl (record {
    round = 0;
    fetch = fetch;
    more_is = more_is;
    handle = (clear_chosen r g d).handle;
    small = own_handle q r offer fetch choice long way.request_fits can.own.fits can.own.sound can.chosen g d;
    text = large_response (clear_chosen r g d).handle;
    short = omega arith;
    carries = λ e. large_heard q r offer fetch (clear_chosen r g d).handle h tag e y.asks;
    last = m;
    other = asks_differ q r offer (clear_chosen r g d).handle;
    is = unasked (large_response (clear_chosen r g d).handle) AsksAlgorithms (Holds q r offer (clear_chosen r g d).handle 0 m) tag _ _ h _
        (way_answered p m (large_response (clear_chosen r g d).handle) AsksAlgorithms Capable (Holds q r offer (clear_chosen r g d).handle 0 m) tag body log h g d
        (large_answered q r offer fetch choice long way.request_fits can.own.fits can.own.sound can.chosen g tag d y.serves) y);
  })))

  answer_max : AsksByChunks q r offer → length w ≤ (terms_of (two_pairs q r)).common.to_requester.max
  answer_max way = subst (λ (c : Common). length w ≤ c.to_requester.max) (sym can.common_is) way.answer_max

  -- The last chunk of the request.
  last_served : (more tag : ℕ) (body : List ℕ) (log : Log) (h : asked.History) (g : served.History) (d : Draw) (y : PieceAsked more tag body log h g) (answer : AnswerGoes 6 q r offer) → more ≡ rest_of 6 answer → (y.j + 1 == pieces) ≡ true → Serving more tag body log h g d
  last_served more tag body log h g d y (inl whole) more_is ends =
      let takes = whole.answer_takes in
      let there = subst (λ (c : Common). 6 + length w ≤ c.to_requester.transfer) (sym can.common_is) takes.1 in
      let c = nth_chunk (transfer_there (two_pairs q r)) y.handle m y.j in
      inr (inl (record {
        text = ack_of c w;
        short = omega (arith, few_back);
        carries = λ e. sent.whole_heard q r offer y.way.send y.handle y.small y.j y.within h tag e y.is.asks choice can.chosen whole.answer_fits ends;
        is = agreed_by (send_chunk c) (send_no_exchange c) (ack_of c w) (Sends q r offer y.way.send y.handle y.small y.j) tag _ _ h _
            (way_answered p (send_chunk c) (ack_of c w) (Sends q r offer y.way.send y.handle y.small y.j) (HasPieces q r offer y.way.send y.handle y.small y.j y.last) (λ k. Stands Negotiated (three_pairs q r offer) (send_chunk c) k) tag body log h g d
            (sent.whole_answered q r offer y.way.send y.handle y.small y.j y.within y.last y.other g tag d y.is.serves choice long can.own.fits can.own.sound can.chosen (answer_max y.way) ends there) y.is);
      }))
  last_served more tag body log h g d y (inr fetch) more_is ends =
      let c = nth_chunk (transfer_there (two_pairs q r)) y.handle m y.j in
      let given = (clear_chosen r g d).handle in
      inr (inr (inl (record {
        round = 6;
        fetch = fetch;
        more_is = more_is;
        handle = given;
        small = sent.own_handle q r offer y.way.send y.handle y.small y.j y.within y.last y.other g tag d y.is.serves choice long can.own.fits can.own.sound can.chosen (answer_max y.way) ends;
        text = ack_of c (large_response given);
        short = omega arith;
        carries = λ e. sent.large_heard q r offer y.way.send y.handle y.small y.j y.within h tag e y.is.asks given ends;
        last = send_chunk c;
        other = sent.send_differs q r offer y.way.send y.handle y.small y.j y.within y.last y.other g tag d y.is.serves given;
        is = unasked (ack_of c (large_response given)) (Sends q r offer y.way.send y.handle y.small y.j) (Holds q r offer given 0 (send_chunk c)) tag _ _ h _
            (way_answered p (send_chunk c) (ack_of c (large_response given)) (Sends q r offer y.way.send y.handle y.small y.j) (HasPieces q r offer y.way.send y.handle y.small y.j y.last) (Holds q r offer given 0 (send_chunk c)) tag body log h g d
            (sent.large_answered q r offer y.way.send y.handle y.small y.j y.within y.last y.other g tag d y.is.serves choice long can.own.fits can.own.sound can.chosen (answer_max y.way) ends fetch) y.is);
      })))

  piece_served : (more tag : ℕ) (body : List ℕ) (log : Log) (h : asked.History) (g : served.History) (d : Draw) (y : PieceAsked more tag body log h g) (b : Bool) → (y.j + 1 == pieces) ≡ b → Serving more tag body log h g d
  piece_served more tag body log h g d y true ends =
      let one = eqb-true (y.j + 1) pieces ends in
      let left = y.left in
      last_served more tag body log h g d y y.way.answer (omega (arith, one, left)) ends
  piece_served more tag body log h g d y false again =
      let c = nth_chunk (transfer_there (two_pairs q r)) y.handle m y.j in
      inl (record {
        way = y.way;
        handle = y.handle;
        small = y.small;
        j = y.j;
        left = y.left;
        within = y.within;
        again = again;
        is = way_answered p (send_chunk c) (ack_of c []) (Sends q r offer y.way.send y.handle y.small y.j) (HasPieces q r offer y.way.send y.handle y.small y.j y.last) (HasPieces q r offer y.way.send y.handle y.small (suc y.j) (send_chunk c)) tag body log h g d
            (sent.piece_answered q r offer y.way.send y.handle y.small y.j y.within y.last y.other g tag d y.is.serves again) y.is;
      })

  serves : (more tag : ℕ) (body : List ℕ) (log : Log) (h : asked.History) (g : served.History) (d : Draw) → length d.bytes ≡ 32 → NoChance log → AlgorithmsAsks more tag body log h g → Serving more tag body log h g d
  serves more tag body log h g d drawn chance (inl y) = whole_served more tag body log h g d y.way y.way.answer y.more_is y.is
  serves more tag body log h g d drawn chance (inr (inl y)) = piece_served more tag body log h g d y (y.j + 1 == pieces) refl
  serves more tag body log h g d drawn chance (inr (inr y)) =
      inr (inr (inr (record {
        round = y.round;
        fetch = y.fetch;
        handle = y.handle;
        small = y.small;
        k = y.k;
        left = y.left;
        is = way_answered p (get_chunk y.handle y.k) (chunk_response transfer y.handle w y.k) (Fetches q r offer y.handle y.k) (Holds q r offer y.handle y.k y.last) (Holds q r offer y.handle (y.k + 1) (get_chunk y.handle y.k)) tag body log h g d
            (chunk_answered q r offer y.fetch y.handle y.k y.small (within_by more y.k y.left) y.last y.other g tag d y.is.serves) y.is;
      })))

  -- ---- The requester.

  abbrev Leading : ℕ → ℕ → List ℕ → Log → asked.History → served.History → Draw → Type 0
  Leading more tag body log h g d = Leads p AlgorithmsAsks AlgorithmsDone told more (requester_hears q h false tag body d) (asked_log.acts_of q h body (requester_hears q h false tag body d) ++ log) h g

  fetches_on : {round : ℕ} (more fewer k handle tag : ℕ) (body : List ℕ) (log : Log) (h : asked.History) (g : served.History) (d : Draw) (fetch : CanFetchIn round q r (length w) (two_pairs q r)) → handle < 256 → (last : List ℕ) → bytes_eq last (get_chunk handle k) ≡ false → more ≡ suc fewer → fewer + suc k ≡ count
      → LeadsTo (ClearWay p (get_chunk handle k) (Fetches q r offer handle k) (Holds q r offer handle k last)) (requester_hears q h false tag body d) (asked_log.acts_of q h body (requester_hears q h false tag body d) ++ log) h g → Leading more tag body log h g d
  fetches_on {round} more fewer k handle tag body log h g d fetch small last other one_less left x = Further x.next fewer one_less x.sends (inr (inr (record { round = round; fetch = fetch; handle = handle; small = small; k = k; left = left; last = last; other = other; is = x.asks })))

  chunk_heard : (more tag : ℕ) (body : List ℕ) (log : Log) (h : asked.History) (g : served.History) (d : Draw) (y : ChunkAnswered more tag body log h g) (b : Bool) → (y.k + 1 == count) ≡ b → Leading more tag body log h g d
  chunk_heard more tag body log h g d y true last =
      way_ends p (chunk_response transfer y.handle w y.k) (Fetches q r offer y.handle y.k) Ended (Holds q r offer y.handle (y.k + 1) (get_chunk y.handle y.k)) HasAgreed told AlgorithmsAsks more tag body log h g d
      (λ holds. record { last = get_chunk y.handle y.k; stands = holds.stands; other = get_no_exchange y.handle y.k })
      (last_heard q r offer y.fetch y.handle y.k y.small (within_by more y.k y.left) h tag d y.is.asks choice can.chosen last) y.is
  chunk_heard more tag body log h g d y false again =
      let left = y.left in
      let other = eqb-false (y.k + 1) count again in
      let fewer = before_it more (not_zero more (λ none. other (omega (arith, none, left)))) in
      let before = nth_chunk transfer y.handle w y.k ∷ chunks_before transfer y.handle w y.k in
      fetches_on more fewer.0 (y.k + 1) y.handle tag body log h g d y.fetch y.small (get_chunk y.handle y.k) (ap (λ (k : ℕ). bytes_eq (get_chunk y.handle y.k) (get_chunk y.handle k)) (add-one y.k) ∙ gets_differ y.handle y.k) (sym fewer.1) (omega (arith, fewer.1, left))
      (way_leads p (chunk_response transfer y.handle w y.k) (get_chunk y.handle (y.k + 1)) (Fetches q r offer y.handle y.k) (Fetches q r offer y.handle (y.k + 1)) (Holds q r offer y.handle (y.k + 1) (get_chunk y.handle y.k)) event.Progress tag body log h g d (get_sent h (NegotiateAlgorithms offer) y.handle (y.k + 1) before)
      (next_small h, refl) (next_heard q r offer y.fetch y.handle y.k y.small (within_by more y.k y.left) h tag d y.is.asks again) y.is)

  piece_heard : (more tag : ℕ) (body : List ℕ) (log : Log) (h : asked.History) (g : served.History) (d : Draw) → PieceAnswered more tag body log h g → Leading more tag body log h g d
  piece_heard more tag body log h g d y =
      let left = y.left in
      let within = y.within in
      let other = eqb-false (y.j + 1) pieces y.again in
      let next_within : suc y.j < pieces = next_below y.j pieces within other in
      let fewer = before_it more (not_zero more (λ none. (absurd (omega (arith, none, left, next_within))))) in
      let at = transfer_there (two_pairs q r) in
      let c = nth_chunk at y.handle m y.j in
      let following = piece_sent (asked.connection_terms h).common h (NegotiateAlgorithms offer) y.handle (y.j + 1) in
      let there : nth_chunk (asked.connection_terms h).common.to_responder.transfer y.handle m (y.j + 1) ≡ nth_chunk at y.handle m (suc y.j) =
      piece_here_at q r (NegotiateAlgorithms offer) (two_pairs q r) y.way.send y.handle y.small h y.is.asks.negotiation (y.j + 1) ∙ ap (nth_chunk at y.handle m) (add-one y.j) in
      let x = way_leads p (ack_of c []) (send_chunk (nth_chunk at y.handle m (suc y.j))) (Sends q r offer y.way.send y.handle y.small y.j) (Sends q r offer y.way.send y.handle y.small (suc y.j)) (HasPieces q r offer y.way.send y.handle y.small (suc y.j) (send_chunk c)) event.Progress tag body log h g d following
      (next_small h, ap (λ (k : ChunkMessage). clear_body (send_chunk k)) there) (sent.ack_heard q r offer y.way.send y.handle y.small y.j y.within h tag d y.is.asks y.again) y.is in
      Further x.next fewer.0 (sym fewer.1) x.sends (inr (inl (record {
        way = y.way;
        handle = y.handle;
        small = y.small;
        j = suc y.j;
        left = omega (arith, fewer.1, left);
        within = next_within;
        last = send_chunk c;
        other = pieces_differ q r (NegotiateAlgorithms offer) (two_pairs q r) y.way.send y.handle y.small y.j;
        is = x.asks;
      })))

  hears : (more tag : ℕ) (body : List ℕ) (log : Log) (h : asked.History) (g : served.History) (d : Draw) → NoChance log → AlgorithmsAnswers more tag body log h g → Leading more tag body log h g d
  hears more tag body log h g d chance (inl y) = piece_heard more tag body log h g d y
  hears more tag body log h g d chance (inr (inl y)) = way_ends p y.text Any Ended HasAgreed HasAgreed told AlgorithmsAsks more tag body log h g d (λ agreed. agreed) (y.carries d) y.is
  hears more tag body log h g d chance (inr (inr (inl y))) =
      let one = y.more_is in
      let some = some_chunks y.fetch in
      let fewer = before_it more (omega (arith, one, some)) in
      fetches_on more fewer.0 0 y.handle tag body log h g d y.fetch y.small y.last y.other (sym fewer.1) (omega (arith, fewer.1, one))
      (way_leads p y.text (get_chunk y.handle 0) Any (Fetches q r offer y.handle 0) (Holds q r offer y.handle 0 y.last) event.Progress tag body log h g d (get_sent h (NegotiateAlgorithms offer) y.handle 0 [])
      (next_small h, refl) (y.carries d) y.is)
  hears more tag body log h g d chance (inr (inr (inr y))) = chunk_heard more tag body log h g d y (y.k + 1 == count) refl

  -- ---- All rounds.

  agreed_still : (g later : served.History) → AreAlike r g later → HasAgreed g → HasAgreed later
  agreed_still g later alike y = record { last = y.last; stands = stands_on _ _ _ g later alike.clear y.stands; other = y.other }

  pub algorithms_talk : IsTalk p AlgorithmsAsks AlgorithmsAnswers AlgorithmsDone told
  algorithms_talk = record {
    asks_sent = asks_sent;
    answers_sent = answers_sent;
    serves = serves;
    hears = hears;
    asks_still = asks_still;
    answers_still = answers_still;
    done_still = λ log h g later alike z. record {
      asks = z.asks;
      serves = agreed_still g later alike z.serves;
      made = z.made;
      made_there = alike.made z.made_there;
      bare = z.bare;
    };
  }
    where
      asks_still : (more tag : ℕ) (body : List ℕ) (log : Log) (h : asked.History) (g later : served.History) → AreAlike r g later → AlgorithmsAsks more tag body log h g → AlgorithmsAsks more tag body log h later
      asks_still more tag body log h g later alike (inl y) = inl (record { way = y.way; more_is = y.more_is; is = way_still p m AsksAlgorithms Capable (stands_on _ _ _) tag body log h g later alike y.is })
      asks_still more tag body log h g later alike (inr (inl y)) = inr (inl (record { way = y.way; handle = y.handle; small = y.small; j = y.j; left = y.left; within = y.within; last = y.last; other = y.other; is = way_kept p _ (Sends q r offer y.way.send y.handle y.small y.j) (HasPieces q r offer y.way.send y.handle y.small y.j y.last) (sent.pieces_still q r offer y.way.send y.handle y.small y.j y.last) tag body log h g later alike y.is }))
      asks_still more tag body log h g later alike (inr (inr y)) = inr (inr (record { round = y.round; fetch = y.fetch; handle = y.handle; small = y.small; k = y.k; left = y.left; last = y.last; other = y.other; is = way_kept p (get_chunk y.handle y.k) (Fetches q r offer y.handle y.k) (Holds q r offer y.handle y.k y.last) (holds_still q r offer y.handle y.k y.last) tag body log h g later alike y.is }))

      answers_still : (more tag : ℕ) (body : List ℕ) (log : Log) (h : asked.History) (g later : served.History) → AreAlike r g later → AlgorithmsAnswers more tag body log h g → AlgorithmsAnswers more tag body log h later
      answers_still more tag body log h g later alike (inl y) = inl (record { way = y.way; handle = y.handle; small = y.small; j = y.j; left = y.left; within = y.within; again = y.again; is = way_kept p _ (Sends q r offer y.way.send y.handle y.small y.j) (HasPieces q r offer y.way.send y.handle y.small (suc y.j) _) (sent.pieces_still q r offer y.way.send y.handle y.small (suc y.j) _) tag body log h g later alike y.is })
      answers_still more tag body log h g later alike (inr (inl y)) = inr (inl (record { text = y.text; short = y.short; carries = y.carries; is = way_kept p y.text Any HasAgreed agreed_still tag body log h g later alike y.is }))
      answers_still more tag body log h g later alike (inr (inr (inl y))) = inr (inr (inl (record { round = y.round; fetch = y.fetch; more_is = y.more_is; handle = y.handle; small = y.small; text = y.text; short = y.short; carries = y.carries; last = y.last; other = y.other; is = way_kept p y.text Any (Holds q r offer y.handle 0 y.last) (holds_still q r offer y.handle 0 y.last) tag body log h g later alike y.is })))
      answers_still more tag body log h g later alike (inr (inr (inr y))) = inr (inr (inr (record { round = y.round; fetch = y.fetch; handle = y.handle; small = y.small; k = y.k; left = y.left; is = way_kept p (chunk_response transfer y.handle w y.k) (Fetches q r offer y.handle y.k) (Holds q r offer y.handle (y.k + 1) (get_chunk y.handle y.k)) (holds_still q r offer y.handle (y.k + 1) (get_chunk y.handle y.k)) tag body log h g later alike y.is })))
