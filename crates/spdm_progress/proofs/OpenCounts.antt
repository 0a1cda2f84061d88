-- How many packets an open takes.
use Rattle.std.proofs.Common.{◌≡◌, ◌∙◌, ℕ, zero, suc, ◌<◌, ◌≤◌, ◌+◌, ◌-◌, ◌*◌, ◌==◌, nat_lt, List, length, Bool, true, false, refl, sym, ap, subst, inl, inr, arith}
use Rattle.std.specs.Prelude.{if◌then◌else◌}
use Rattle.std.proofs.lemmas.Bool.{eqb-false, lt-ltb}
use Rattle.std.specs.Int.{div_ceil}
use Rattle.requester_machine.specs.History as asked
use Rattle.responder_machine.specs.History as served
use Rattle.spdm_agreement.specs.Configured.{IsRequester, IsResponder}
use Rattle.spdm_basis.proofs.Bools.{lt_false}
use Rattle.spdm_basis.specs.Sizes.{hash_size}
use Rattle.spdm_grammar.specs.Message.{ExchangeMessage}
use Rattle.spdm_grammar.specs.Message.RequestMessage.{PskExchange}
use Rattle.spdm_machine.specs.Keys.{Draw}
use Rattle.spdm_machine.specs.TagLog.{Log}
use Rattle.spdm_machine.specs.Bodies.{clear_body}
use Rattle.transcript.specs.Transcripts.{Negotiation}
use Rattle.spdm_progress.proofs.ChunkCounts.{InFewChunks, in_few, next_below, some_of}
use Rattle.spdm_progress.proofs.ClearFetch.{CanFetchIn}
use Rattle.spdm_progress.proofs.ClearSend.{transfer_there}
use Rattle.spdm_progress.proofs.ExchangeStages.{hash_few}
use Rattle.spdm_progress.proofs.FinishRound.{finish_asking}
use Rattle.spdm_progress.proofs.ManyPackets.{before_it}
use Rattle.spdm_progress.proofs.OpenRounds as opens
use Rattle.spdm_progress.proofs.OpenStages as stages
use Rattle.spdm_progress.proofs.OpenStages.{AnswerGoes, CanExchange, SendsChunks}
use Rattle.spdm_progress.proofs.PacketSteps.{Pair}
use Rattle.spdm_progress.proofs.SessionCompletes.{AreFew}
use Rattle.spdm_progress.proofs.SessionRounds.{answer_length}
use Rattle.spdm_progress.proofs.Talk.{AreShort, sum_to}

-- ---- A last round, so many like one another before it, and the first ones.

abbrev pub pieces : (last middle first count : ℕ) → ℕ → ℕ
pieces last middle first count zero = last
pieces last middle first count (suc k) = if nat_lt k count then middle else first

middle_is : (last middle first count k : ℕ) → k < count → pieces last middle first count (suc k) ≡ middle
middle_is last middle first count k within = ap (λ (b : Bool). if b then middle else first) (lt-ltb k count within)

first_is : (last middle first count k : ℕ) → count ≤ k → pieces last middle first count (suc k) ≡ first
first_is last middle first count k past = ap (λ (b : Bool). if b then middle else first) (lt_false k count past)

middle_at : (last middle first count more : ℕ) → 1 ≤ more → more ≤ count → pieces last middle first count more ≡ middle
middle_at last middle first count zero some within = absurd (omega (arith, some))
middle_at last middle first count (suc k) some within = middle_is last middle first count k (omega (arith, within))

first_at : (last middle first count more : ℕ) → count < more → pieces last middle first count more ≡ first
first_at last middle first count zero past = absurd (omega (arith, past))
first_at last middle first count (suc k) past = first_is last middle first count k (omega (arith, past))

sum_pieces : (last middle first count k : ℕ) → k ≤ count → sum_to (pieces last middle first count) (suc k) ≡ last + middle * k
sum_pieces last middle first count zero within = omega arith
sum_pieces last middle first count (suc k) within =
    let before = sum_pieces last middle first count k (omega (arith, within)) in
    let this = middle_is last middle first count k (omega (arith, within)) in
    let times : middle * suc k ≡ middle * k + middle = omega arith in
    omega (arith, before, this, times)

sum_all : (last middle first count more k : ℕ) → k ≡ count + more → sum_to (pieces last middle first count) (suc k) ≡ last + middle * count + first * more
sum_all last middle first count zero k is =
    let same : k ≡ count = omega (arith, is) in
    let before = sum_pieces last middle first count k (omega (arith, same)) in
    let times : middle * k ≡ middle * count = ap (λ (z : ℕ). middle * z) same in
    omega (arith, before, times)
sum_all last middle first count (suc more) zero is = absurd (omega (arith, is))
sum_all last middle first count (suc more) (suc k) is =
    let before = sum_all last middle first count more k (omega (arith, is)) in
    let this = first_is last middle first count k (omega (arith, is)) in
    let times : first * suc more ≡ first * more + first = omega arith in
    omega (arith, before, this, times)

no_more : (b : Bool) (n : ℕ) → (if b then 0 else n) ≤ n
no_more true n = omega arith
no_more false n = omega arith

module _ (p : Pair) (same_key : p.requester.psk ≡ p.responder.psk) (asker : IsRequester p.requester) (server : IsResponder p.responder) (summary : ℕ) (h0 : asked.History) (d0 : Draw) (x : ExchangeMessage) (rid : ℕ) (can : CanExchange p.requester p.responder p.first summary h0 d0 x) where
  abbrev n : Negotiation
  n = asked.negotiation_of h0

  abbrev size : ℕ
  size = (stages.size p same_key asker server summary h0 d0 x rid can)

  abbrev transfer : ℕ
  transfer = (stages.transfer p same_key asker server summary h0 d0 x rid can)

  abbrev count : ℕ
  count = (stages.count p same_key asker server summary h0 d0 x rid can)

  abbrev sends : ℕ
  sends = (stages.pieces p same_key asker server summary h0 d0 x rid can)

  abbrev Answering : (round : ℕ) → Type 0
  Answering round = AnswerGoes round p.requester p.responder n size

  abbrev OfWay : Type 0
  OfWay = (stages.OfWay p same_key asker server summary h0 d0 x rid can)

  abbrev gets_in : {round : ℕ} → Answering round → ℕ
  gets_in answer = (stages.gets_in p same_key asker server summary h0 d0 x rid can) answer

  abbrev gets_of : OfWay → ℕ
  gets_of way = (stages.gets_of p same_key asker server summary h0 d0 x rid can) way

  abbrev rounds_of : OfWay → ℕ
  rounds_of way = (stages.rounds_of p same_key asker server summary h0 d0 x rid can) way

  -- So many packets of a chunk of the answer, and of one of the request.
  abbrev each_get : ℕ
  each_get = div_ceil (transfer + 1) 64

  abbrev each_send : ℕ
  each_send = div_ceil (transfer_there n + 1) 64

  abbrev first_of : OfWay → ℕ
  first_of (inl whole) = 19
  first_of (inr chunks) = each_send

  abbrev pub there_by : OfWay → ℕ → ℕ
  there_by way = pieces 2 1 (first_of way) (gets_of way)

  abbrev each_in : {round : ℕ} → Answering round → ℕ → ℕ
  each_in (inl whole) = pieces 1 66 1 1
  each_in (inr fetch) = pieces 1 each_get 1 count

  abbrev pub each_by : OfWay → ℕ → ℕ
  each_by (inl whole) = each_in whole.answer
  each_by (inr chunks) = each_in chunks.answer

  abbrev Asks : ℕ → ℕ → List ℕ → Log → asked.History → served.History → Type 0
  Asks = opens.OpenTalkAsks p same_key asker server summary h0 d0 x rid can

  abbrev Answers : ℕ → ℕ → List ℕ → Log → asked.History → served.History → Type 0
  Answers = opens.OpenTalkAnswers p same_key asker server summary h0 d0 x rid can

  -- ---- Sizes.

  exchange_most : length (stages.m p same_key asker server summary h0 d0 x rid can) ≤ 1215
  exchange_most = (stages.exchange_most p same_key asker server summary h0 d0 x rid can)

  size_few : size ≤ 1228
  size_few =
      let few = hash_few (stages.terms p same_key asker server summary h0 d0 x rid can).choice.hash in
      let summed = no_more (x.summary == 0) (hash_size (stages.terms p same_key asker server summary h0 d0 x rid can).choice.hash) in
      let opaque = server.opaque in
      omega (arith, few.1, summed, opaque)

  some_chunks : {round : ℕ} → CanFetchIn round p.requester p.responder size n → 1 ≤ count
  some_chunks fetch = opens.some_chunks p same_key asker server summary h0 d0 x rid can fetch

  get_packets : {round : ℕ} → CanFetchIn round p.requester p.responder size n → InFewChunks transfer size
  get_packets fetch =
      let least = fetch.least in
      let is = fetch.transfer in
      let large = fetch.large in
      let round_few = fetch.few in
      in_few transfer size (omega (arith, least, is)) (omega (arith, large, round_few, size_few)) size_few

  send_packets : SendsChunks p.requester p.responder n (PskExchange x) size → InFewChunks (transfer_there n) (length (stages.m p same_key asker server summary h0 d0 x rid can))
  send_packets way =
      let least = way.send.least in
      let is = way.send.transfer in
      let large = way.send.large in
      in_few (transfer_there n) (length (stages.m p same_key asker server summary h0 d0 x rid can)) (omega (arith, least, is)) (omega (arith, large, exchange_most)) (omega (arith, exchange_most))

  body_size : (message body : List ℕ) (most : ℕ) → body ≡ clear_body message → length message + 1 ≤ most → length body ≤ most
  body_size message body most is few = subst (λ (l : List ℕ). length l ≤ most) (sym is) (omega (arith, few))

  -- ---- The requests.

  asks_short : (more tag : ℕ) (body : List ℕ) (log : Log) (h : asked.History) (g : served.History) → Asks more tag body log h g → length body ≤ 64 * there_by can.way more
  asks_short more tag body log h g (inl y) =
      let is = y.more_is in
      let so : there_by can.way more ≡ 19 = ap (λ (w : OfWay). there_by w more) y.way_is ∙ first_at 2 1 19 (gets_in y.way.answer) more (omega (arith, is)) in
      body_size _ body (64 * there_by can.way more) y.body_is (omega (arith, exchange_most, so))
  asks_short more tag body log h g (inr (inl y)) =
      let left = y.left in
      let within = y.within in
      let so : there_by can.way more ≡ each_send = ap (λ (w : OfWay). there_by w more) y.way_is ∙ first_at 2 1 each_send (gets_in y.way.answer) more (omega (arith, left, within)) in
      let few = (stages.few_piece p same_key asker server summary h0 d0 x rid can) y.way y.handle y.handle_small y.j in
      let own = y.way.send.transfer in
      let fits = (send_packets y.way).fits in
      body_size _ body (64 * there_by can.way more) y.body_is (omega (arith, few, so, own, fits))
  asks_short more tag body log h g (inr (inr (inl y))) =
      let left = y.left in
      let are = y.gets_are in
      let so : there_by can.way more ≡ 1 = middle_at 2 1 (first_of can.way) (gets_of can.way) more y.some (omega (arith, left, are)) in
      body_size _ body (64 * there_by can.way more) y.body_is (omega (arith, so))
  asks_short more tag body log h g (inr (inr (inr y))) =
      let few = y.few in
      let so : there_by can.way more ≡ 2 = ap (there_by can.way) y.none in
      omega (arith, few, so)

  -- ---- The answers.

  last_in : {round : ℕ} (answer : Answering round) → each_in answer 0 ≡ 1
  last_in (inl whole) = refl
  last_in (inr fetch) = refl

  last_one : (way : OfWay) → each_by way 0 ≡ 1
  last_one (inl whole) = last_in whole.answer
  last_one (inr chunks) = last_in chunks.answer

  whole_in : {round : ℕ} (answer : Answering round) → p.requester.transfer + 1 ≤ 64 * each_in answer 1
  whole_in (inl whole) =
      let so = middle_at 1 66 1 1 1 (omega arith) (omega arith) in
      let most = asker.sizes.most in
      let ordered = asker.sizes.ordered in
      omega (arith, so, most, ordered)
  whole_in (inr fetch) =
      let some = some_chunks fetch in
      let so = middle_at 1 each_get 1 count 1 (omega arith) some in
      let own = fetch.transfer in
      let fits = (get_packets fetch).fits in
      omega (arith, so, own, fits)

  whole_one : (way : OfWay) → p.requester.transfer + 1 ≤ 64 * each_by way 1
  whole_one (inl whole) = whole_in whole.answer
  whole_one (inr chunks) = whole_in chunks.answer

  early_in : {round : ℕ} (answer : Answering round) (more : ℕ) → gets_in answer + 1 < more → each_in answer more ≡ 1
  early_in (inl whole) more past = first_at 1 66 1 1 more (omega (arith, past))
  early_in (inr fetch) more past = first_at 1 each_get 1 count more (omega (arith, past))

  large_in : {round : ℕ} (answer : Answering round) → gets_in answer ≡ count → 1 ≤ count → (more : ℕ) → count < more → each_in answer more ≡ 1
  large_in (inl whole) are some more past = absurd (omega (arith, are, some))
  large_in (inr fetch) are some more past = first_at 1 each_get 1 count more past

  large_one : (way : OfWay) → gets_of way ≡ count → 1 ≤ count → (more : ℕ) → count < more → each_by way more ≡ 1
  large_one (inl whole) are some more past = large_in whole.answer are some more past
  large_one (inr chunks) are some more past = large_in chunks.answer are some more past

  chunk_in : {round : ℕ} (answer : Answering round) → gets_in answer ≡ count → (more : ℕ) → 1 ≤ more → more ≤ count → each_in answer more ≡ each_get
  chunk_in (inl whole) are more some within = absurd (omega (arith, are, some, within))
  chunk_in (inr fetch) are more some within = middle_at 1 each_get 1 count more some within

  chunk_one : (way : OfWay) → gets_of way ≡ count → (more : ℕ) → 1 ≤ more → more ≤ count → each_by way more ≡ each_get
  chunk_one (inl whole) are more some within = chunk_in whole.answer are more some within
  chunk_one (inr chunks) are more some within = chunk_in chunks.answer are more some within

  answers_short : (more tag : ℕ) (body : List ℕ) (log : Log) (h : asked.History) (g : served.History) → Answers more tag body log h g → length body ≤ 64 * each_by can.way more
  answers_short more tag body log h g (inl y) =
      let few = y.few in
      let so : each_by can.way more ≡ each_by can.way 1 = ap (each_by can.way) y.more_is in
      let fits = whole_one can.way in
      body_size _ body (64 * each_by can.way more) y.body_is (omega (arith, few, so, fits))
  answers_short more tag body log h g (inr (inl y)) =
      let left = y.left in
      let within = next_below y.j sends y.within (eqb-false (y.j + 1) sends y.again) in
      let so : each_by can.way more ≡ 1 = ap (λ (w : OfWay). each_by w more) y.way_is ∙ early_in y.way.answer more (omega (arith, left, within)) in
      body_size _ body (64 * each_by can.way more) y.body_is (omega (arith, so))
  answers_short more tag body log h g (inr (inr (inl y))) =
      let is = y.more_is in
      let few = y.short in
      let so : each_by can.way more ≡ 1 = large_one can.way y.gets_are (some_chunks y.fetch) more (omega (arith, is)) in
      body_size _ body (64 * each_by can.way more) y.body_is (omega (arith, few, so))
  answers_short more tag body log h g (inr (inr (inr (inl y)))) =
      let few = (stages.few_bytes p same_key asker server summary h0 d0 x rid can) more y.k y.handle y.reply y.fetch y.long y.handle_small y.left y.some in
      let left = y.left in
      let so : each_by can.way more ≡ each_get = chunk_one can.way y.gets_are more y.some (omega (arith, left)) in
      let own = y.fetch.transfer in
      let fits = (get_packets y.fetch).fits in
      body_size _ body (64 * each_by can.way more) y.body_is (omega (arith, few, so, own, fits))
  answers_short more tag body log h g (inr (inr (inr (inr y)))) =
      let z = y.is.is in
      let long = answer_length p.requester p.responder p.first x.req_id (finish_asking p.requester.psk) z.s z.t in
      let inner = ap length z.good.inner in
      let so : each_by can.way more ≡ 1 = ap (each_by can.way) y.none ∙ last_one can.way in
      subst (λ (b : List ℕ). length b ≤ 64 * each_by can.way more) (sym z.body_is) (omega (arith, long, inner, so))

  pub open_short : AreShort (there_by can.way) (each_by can.way) Asks Answers
  open_short = record { asks = asks_short; answers = answers_short }

  -- ---- All of them.

  gets_few : {round : ℕ} (answer : Answering round) → gets_in answer ≤ 42
  gets_few (inl whole) = omega arith
  gets_few (inr fetch) = (get_packets fetch).chunks

  each_few : {round : ℕ} (answer : Answering round) (before : ℕ) → 1 ≤ before → before ≤ 42 → sum_to (each_in answer) (suc (gets_in answer + before)) ≤ 127
  each_few (inl whole) before some few =
      let one = before_it before some in
      let all = sum_all 1 66 1 1 one.0 (0 + before) (omega (arith, one.1)) in
      omega (arith, all, one.1, few)
  each_few (inr fetch) before some few =
      let all = sum_all 1 each_get 1 count before (count + before) refl in
      let packets = (get_packets fetch).few in
      omega (arith, all, packets, few)

  few_by : (way : OfWay) → AreFew (there_by way) (each_by way) (rounds_of way)
  few_by (inl whole) =
      let there = sum_all 2 1 19 (gets_in whole.answer) 1 (gets_in whole.answer + 1) refl in
      let gets = gets_few whole.answer in
      let each = each_few whole.answer 1 (omega arith) (omega arith) in
      (omega (arith, each), omega (arith, there, gets), omega (arith, each, there, gets))
  few_by (inr chunks) =
      let there = sum_all 2 1 each_send (gets_in chunks.answer) sends (gets_in chunks.answer + sends) refl in
      let gets = gets_few chunks.answer in
      let packets = send_packets chunks in
      let least = chunks.send.least in
      let is = chunks.send.transfer in
      let some = some_of (length (stages.m p same_key asker server summary h0 d0 x rid can) + 4) (transfer_there n - 12) (omega arith) (omega (arith, least, is)) in
      let each = each_few chunks.answer sends some packets.chunks in
      let sent = packets.few in
      (omega (arith, each), omega (arith, there, gets, sent), omega (arith, each, there, gets, sent))

  pub open_few : AreFew (there_by can.way) (each_by can.way) (rounds_of can.way)
  open_few = few_by can.way
