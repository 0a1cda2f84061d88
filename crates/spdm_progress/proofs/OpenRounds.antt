-- An open takes two rounds: PSK_EXCHANGE in the clear, and then PSK_FINISH in the session that it begins.
use Rattle.std.proofs.Common.{◌≡◌, ◌≢◌, ◌⊎◌, ◌∙◌, ℕ, suc, ◌<◌, ◌≤◌, ◌+◌, ◌-◌, ◌==◌, List, [], ◌∷◌, ◌++◌, length, Bool, true, false, not, Some, Result, Ok, Err, refl, sym, ap, ap₂, subst, inl, inr, arith, add-one, eq-eqb}
use Rattle.std.specs.Prelude.{bytes_eq, if◌then◌else◌}
use Rattle.std.proofs.lemmas.Bool.{eqb-false, eqb-true, ne_eqb}
use Rattle.std.specs.Int.{div_ceil}
use Rattle.chunking.specs.Cutting.{chunk_count, chunks_before, nth_chunk}
use Rattle.std.proofs.lemmas.Slice.Eq.{bytes_eq-Decides}
use Rattle.key_schedule.specs.declared.direction.Direction.TheVariants as direction
use Rattle.requester_machine.specs.Answers.{goes_on, with_answer}
use Rattle.requester_machine.specs.Asking.{Outcome}
use Rattle.requester_machine.specs.Asking.Outcome.{Adds}
use Rattle.requester_machine.specs.ClearAnswers.{read_led, reading_of}
use Rattle.requester_machine.specs.Does.{body_chosen, chosen, requester_hears}
use Rattle.requester_machine.specs.Hearing.{clear_outcome}
use Rattle.requester_machine.specs.History as asked
use Rattle.requester_machine.specs.History.{Led, outstanding}
use Rattle.requester_machine.specs.History.Effect.{Answers, Nothing}
use Rattle.requester_machine.specs.History.Entry.{Told, TookClear}
use Rattle.requester_machine.specs.Message.{Sent}
use Rattle.requester_machine.specs.Message.Command.{Open}
use Rattle.requester_machine.specs.Records.{request_purpose, sealed_next}
use Rattle.requester_machine.specs.RequesterLog as asked_log
use Rattle.requester_machine.specs.Sending.{finish_input, finish_sent, get_sent, piece_sent, record_sent}
use Rattle.requester_machine.specs.Session as steps
use Rattle.requester_machine.specs.Session.{Steps}
use Rattle.requester_machine.specs.Session.Step.{Accepted, Asked, Started}
use Rattle.requester_machine.specs.Setup.{ReqSetup}
use Rattle.responder_machine.proofs.VerifyLength.{length_verify}
use Rattle.responder_machine.specs.Does.{responder_does}
use Rattle.responder_machine.specs.History as served
use Rattle.responder_machine.specs.History.Entry.{Clear}
use Rattle.responder_machine.specs.Place.{free_id, held_of}
use Rattle.responder_machine.specs.Responder as answering
use Rattle.responder_machine.specs.Responder.{is_repeat}
use Rattle.responder_machine.specs.Responder.Outcome.{Adds as AddsThere}
use Rattle.responder_machine.specs.ResponderLog as served_log
use Rattle.responder_machine.specs.Session as events
use Rattle.responder_machine.specs.Session.{Events}
use Rattle.responder_machine.specs.Session.Event.{Began}
use Rattle.responder_machine.specs.Setup.{RspSetup}
use Rattle.responder_machine.specs.Turn.{Turn}
use Rattle.spdm_agreement.specs.Configured.{IsRequester, IsResponder}
use Rattle.spdm_basis.specs.Sizes.{hash_size}
use Rattle.spdm_basis.specs.declared.values.session_id.SessionId.{SessionId}
use Rattle.spdm_grammar.specs.Message.{ChunkMessage, ExchangeMessage, ResponseMessage}
use Rattle.spdm_grammar.specs.Message.RequestMessage.{PskExchange}
use Rattle.spdm_grammar.specs.Message.ResponseMessage.{PskExchangeRsp, PskFinishRsp}
use Rattle.spdm_grammar.specs.Responses.{canonical_response}
use Rattle.spdm_grammar.specs.Responses.{response_reading}
use Rattle.spdm_grammar.specs.declared.told.event.Event.{Event}
use Rattle.spdm_grammar.specs.declared.told.event.Event.TheVariants as event
use Rattle.spdm_grammar.specs.declared.told.event.Finished.TheVariants as finished
use Rattle.spdm_grammar.specs.declared.told.event.ReqIgnored.{ReqIgnored}
use Rattle.spdm_grammar.specs.declared.told.event.ReqIgnored.TheVariants as ignored
use Rattle.spdm_grammar.specs.declared.messages.malformed.Malformed.{Malformed}
use Rattle.spdm_machine.specs.Bodies.{clear_body, record_body}
use Rattle.spdm_machine.specs.Keys.{Draw, verify_data}
use Rattle.spdm_machine.proofs.Members.{none_some}
use Rattle.spdm_machine.specs.TagLog.{Log, made_record}
use Rattle.spdm_machine.specs.Terms.{Terms, terms_of}
use Rattle.transcript.specs.Transcripts.{Negotiation}
use Rattle.world_machine.specs.Chance.{NoChance}
use Rattle.spdm_progress.specs.InStep.{AreInStep, AreQuiet}
use Rattle.spdm_progress.specs.Opening.{exchange_rsp_size}
use Rattle.spdm_progress.proofs.ChunkCounts.{next_below, not_zero, some_of}
use Rattle.spdm_progress.proofs.AskedOnce.{IsSpdm}
use Rattle.spdm_progress.proofs.ClearFetch.{CanFetchIn, chunk_response, fetching, get_chunk, gets_differ, heard_more, transfer_in}
use Rattle.spdm_progress.proofs.ClearSend.{ack_of, heard_more as ack_more, piece_here_at, send_chunk, sending, transfer_there}
use Rattle.spdm_progress.proofs.ExchangeStages.{exchange_bytes, hash_few, request_id}
use Rattle.spdm_progress.proofs.FinishRound.{CanFinish, finish_asking, finish_last}
use Rattle.spdm_progress.proofs.ManyPackets.{before_it}
use Rattle.spdm_progress.proofs.PacketSteps.{Pair}
use Rattle.spdm_progress.proofs.RecordRounds.{Beside, beside_on, earlier_on}
use Rattle.spdm_progress.proofs.RequesterStages.{next_small}
use Rattle.spdm_progress.proofs.SessionRounds.{Asking, IsAsked, sealed_length}
use Rattle.spdm_progress.proofs.StillKept.{AreAlike}
use Rattle.spdm_progress.proofs.Talk.{Further, IsSendable, IsTalk, Leads, Over, Stage}
use Rattle.spdm_progress.proofs.SingleRound.{AnswersOnce, AsksOnce, Quiet, once_talk}
use Rattle.spdm_progress.proofs.OpenServed as there
use Rattle.spdm_progress.proofs.OpenStages as stages
use Rattle.spdm_progress.proofs.OpenStages.{AnswerGoes, CanExchange, SendsWhole, exchange_sent}

module _ (p : Pair) (same_key : p.requester.psk ≡ p.responder.psk) (asker : IsRequester p.requester) (server : IsResponder p.responder) (summary : ℕ) (h0 : asked.History) (d0 : Draw) (x : ExchangeMessage) (rid : ℕ) (can : CanExchange p.requester p.responder p.first summary h0 d0 x) where
  abbrev q : ReqSetup
  q = p.requester

  abbrev r : RspSetup
  r = p.responder

  abbrev first : ℕ
  first = p.first

  abbrev id : ℕ
  id = x.req_id

  abbrev m : List ℕ
  m = exchange_bytes x

  abbrev n : Negotiation
  n = asked.negotiation_of h0

  abbrev terms : Terms
  terms = asked.connection_terms h0

  abbrev h1 : asked.History
  h1 = Told (Open summary) (exchange_sent h0 x) d0 ∷ h0

  abbrev size : ℕ
  size = exchange_rsp_size r terms x.summary

  abbrev transfer : ℕ
  transfer = transfer_in n

  abbrev count : ℕ
  count = div_ceil (size + 4) (transfer - 12)

  abbrev pieces : ℕ
  pieces = chunk_count (transfer_there n) m

  abbrev piece : (handle j : ℕ) → ChunkMessage
  piece handle j = nth_chunk (transfer_there n) handle m j

  -- ---- The requester takes the answer.

  abbrev finish_x : Asking
  finish_x = finish_asking q.psk

  -- The session as it stands with the answer.
  abbrev accepted : List ℕ → Steps
  accepted reply = Accepted reply ∷ Started n m ∷ []

  abbrev sid : SessionId
  sid = record { req = id; rsp = rid }

  abbrev next : asked.History → List ℕ → Sent
  next h reply = record_sent q h id (accepted reply) finish_x.ask (finish_x.inner (accepted reply)) []

  abbrev led : asked.History → List ℕ → Led
  led h reply = goes_on (Answers (PskExchange x) reply) (next h reply)

  no_pad : (h : asked.History) (d : Draw) → (body_chosen q h d).pad ≡ []
  unfolding chosen
  no_pad h d = refl

  abbrev pub told : Event
  told = event.Done (finished.Opened sid)

  abbrev FinishGood : Steps → Turn → Type 0
  FinishGood = IsSpdm p same_key id sid asker server (canonical_response PskFinishRsp)

  abbrev FinishAsks : Stage
  FinishAsks = AsksOnce p same_key id finish_x (CanFinish p same_key id sid asker server) FinishGood told

  abbrev FinishAnswers : Stage
  FinishAnswers = AnswersOnce p same_key id finish_x (CanFinish p same_key id sid asker server) FinishGood told

  abbrev pub OpenDone : Log → asked.History → served.History → Type 0
  OpenDone = Quiet p same_key id finish_x (CanFinish p same_key id sid asker server) FinishGood told

  -- PSK_FINISH is on its way.
  pub record FinishAsked (more tag : ℕ) (body : List ℕ) (log : Log) (h : asked.History) (g : served.History) : Type 0 where
    pub none : more ≡ 0
    pub few : length body ≤ 128
    pub is : FinishAsks more tag body log h g

  pub record FinishAnswered (more tag : ℕ) (body : List ℕ) (log : Log) (h : asked.History) (g : served.History) : Type 0 where
    pub none : more ≡ 0
    pub is : FinishAnswers more tag body log h g

  abbrev pub OpenTalkAsks : ℕ → ℕ → List ℕ → Log → asked.History → served.History → Type 0
  OpenTalkAsks more tag body log h g = (stages.OpenAsked p same_key asker server summary h0 d0 x rid can) more tag body log h g ⊎ ((stages.PieceAsked p same_key asker server summary h0 d0 x rid can) more tag body log h g ⊎ ((stages.ChunkAsked p same_key asker server summary h0 d0 x rid can) more tag body log h g ⊎ FinishAsked more tag body log h g))

  abbrev pub OpenTalkAnswers : ℕ → ℕ → List ℕ → Log → asked.History → served.History → Type 0
  OpenTalkAnswers more tag body log h g = (stages.OpenAnswered p same_key asker server summary h0 d0 x rid can) more tag body log h g ⊎ ((stages.PieceAnswered p same_key asker server summary h0 d0 x rid can) more tag body log h g ⊎ ((stages.LargeTold p same_key asker server summary h0 d0 x rid can) more tag body log h g ⊎ ((stages.ChunkAnswered p same_key asker server summary h0 d0 x rid can) more tag body log h g ⊎ FinishAnswered more tag body log h g)))

  abbrev Leading : ℕ → List ℕ → Log → asked.History → served.History → Outcome → Type 0
  Leading more body log h g o = Leads p OpenTalkAsks OpenDone told more o (asked_log.acts_of q h body o ++ log) h g

  module _ (more tag : ℕ) (body : List ℕ) (log : Log) (h : asked.History) (g : served.History) (d : Draw) (y : (stages.OpenAnswered p same_key asker server summary h0 d0 x rid can) more tag body log h g) where
    abbrev reply : List ℕ
    reply = y.reply

    abbrev message : List ℕ
    message = y.message

    accepts : with_answer h x reply ≡ accepted reply
    accepts = ap (λ (z : Steps). steps.when_live z (Accepted reply)) y.made.since.begun

    reads_now : reading_of h (PskExchange x) reply ≡ Ok (PskExchangeRsp y.made.value)
    reads_now = subst (λ (t : Terms). response_reading (hash_size t.choice.hash) (not (x.summary == 0)) reply ≡ Ok (PskExchangeRsp y.made.value)) (sym (ap terms_of y.made.since.negotiation)) y.made.reads

    leads : read_led q h (body_chosen q h d) y.at (PskExchange x) reply (reading_of h (PskExchange x) reply) ≡ Ok (led h reply)
    leads =
        let f = body_chosen q h d in
        ap (λ (z : Result ResponseMessage Malformed). read_led q h f y.at (PskExchange x) reply z) reads_now
        ∙ ap (λ (z : Steps). let right : Bool = bytes_eq y.made.value.verify (verify_data (steps.session_terms z).choice q.psk (steps.t1_of z) direction.Response (steps.t1_of z)) in
        let o : Result Led ReqIgnored = if right then Ok (goes_on (Answers (PskExchange x) reply) (finish_sent q h id z f.pad)) else Err ignored.BadVerify in o) accepts
        ∙ ap (λ (b : Bool). let o : Result Led ReqIgnored = if b then Ok (goes_on (Answers (PskExchange x) reply) (finish_sent q h id (accepted reply) f.pad)) else Err ignored.BadVerify in o)
        ((bytes_eq-Decides y.made.value.verify (verify_data terms.choice q.psk (steps.t1_of (accepted reply)) direction.Response (steps.t1_of (accepted reply)))).1 y.made.verify)
        ∙ ap (λ (pad : List ℕ). let o : Result Led ReqIgnored = Ok (goes_on (Answers (PskExchange x) reply) (finish_sent q h id (accepted reply) pad)) in o) (no_pad h d)

    abbrev entry : asked.Entry
    entry = TookClear tag message (led h reply) d

    hears_reply : requester_hears q h false tag (clear_body message) d ≡ Adds entry
    hears_reply = y.carries d ∙ ap (clear_outcome tag message d) leads

    abbrev h2 : asked.History
    h2 = entry ∷ h

    abbrev sealed : List ℕ
    sealed = sealed_next q.psk (accepted reply) (finish_x.inner (accepted reply)) []

    session_two : steps.session_of id h2 ≡ Asked finish_x.ask (finish_x.inner (accepted reply)) sealed ∷ accepted reply
    unfolding steps.session_of
    session_two =
        ap (λ (z : Steps). steps.with_sent id (Some (next h reply)) (steps.after_clear id (Answers (PskExchange x) reply) z)) y.made.since.begun
        ∙ ap (λ (b : Bool). steps.with_sent id (Some (next h reply)) (if b then accepted reply else Started n m ∷ [])) (eq-eqb id id refl)
        ∙ ap (λ (b : Bool). if b then Asked finish_x.ask (finish_x.inner (accepted reply)) sealed ∷ accepted reply else accepted reply) (eq-eqb id id refl)

    others_two : (j : ℕ) → j ≢ id → steps.session_of j h2 ≡ steps.session_of j h
    unfolding steps.session_of
    others_two j other =
        ap (λ (b : Bool). steps.with_sent j (Some (next h reply)) (if b then steps.when_live (steps.session_of j h) (Accepted reply) else steps.session_of j h)) (ne_eqb id j (λ same. other (sym same)))
        ∙ ap (λ (b : Bool). if b then steps.when_live (steps.session_of j h) (Asked finish_x.ask (finish_x.inner (accepted reply)) sealed) else steps.session_of j h) (ne_eqb id j (λ same. other (sym same)))

    abbrev acts : Log
    acts = asked_log.acts_of q h (clear_body message) (Adds entry)

    abbrev behind_made : Log
    behind_made = asked_log.finish_made q.psk (accepted reply) ∷ asked_log.clear_check q h message (outstanding h)

    acts_are : acts ++ log ≡ made_record terms.choice (request_purpose q.psk (accepted reply)) 0 sealed ∷ (behind_made ++ log)
    acts_are = ap (λ (z : Steps). ((asked_log.sent_made q.psk z (Some (next h reply)) ++ asked_log.finish_made q.psk z ∷ []) ++ asked_log.clear_check q h message (outstanding h)) ++ log) accepts

    named : steps.session_id (accepted reply) ≡ sid
    named = ap₂ (λ (a b : ℕ). let s : SessionId = record { req = a; rsp = b } in s) (request_id x can.sound.req_id) y.made.id_told

    inner_few : length (finish_x.inner (accepted reply)) ≤ 69
    inner_few =
        let few = hash_few terms.choice.hash in
        let long = length_verify terms.choice q.psk (steps.t1_of (accepted reply)) direction.Request (finish_input (accepted reply)) in
        omega (arith, long, few.1)

    asked_two : IsAsked q r first id finish_x (CanFinish p same_key id sid asker server) (asked.next_tag h) (record_body sealed) (acts ++ log) h2 g
    asked_two =
        let small = y.made.small in record {
          s = accepted reply;
          pad = [];
          fit = record { named = named; fits = can.finish_fits };
          short = omega (arith, inner_few);
          small = next_small h;
          body_is = refl;
          waits = refl;
          steps_are = session_two;
          at = refl;
          in_step = subst (λ (k : ℕ). AreInStep (accepted reply) (events.session_of k g)) (sym y.made.id_told) y.made.in_step;
          two_bytes = subst (λ (k : ℕ). k < 65536) (sym y.made.id_told) (omega arith);
          older = behind_made ++ log;
          log_is = acts_are;
          last = λ k is. absurd (none_some k (sym y.made.last ∙ ap (λ (i : ℕ). events.last_of (events.session_of i g)) (sym y.made.id_told) ∙ is));
          known = tt;
          queued = tt;
          beside = subst (λ (k : ℕ). Beside q r first id k (acts ++ log) h2 g) (sym y.made.id_told) (beside_on q r first id rid acts log h h2 g g (record {
            made = (hears_reply, y.made.beside.made);
            made_there = y.made.beside.made_there;
            phase = refl;
            phase_there = refl;
            negotiation = refl;
            negotiation_there = refl;
            earlier = earlier_on q first h h2 g g refl refl (omega arith);
            same = others_two;
            same_there = λ j other past. inl refl;
          }) y.made.beside);
        }

    leads_two : Leading more (clear_body message) log h g (requester_hears q h false tag (clear_body message) d)
    leads_two =
        let long = sealed_length q r first id finish_x (accepted reply) [] in
        subst (Leading more (clear_body message) log h g) (sym hears_reply)
        (Further (next h reply) 0 y.more_is refl (inr (inr (inr (record { none = refl; few = omega (arith, long, inner_few); is = record { is = asked_two } })))))

  -- ---- The requester asks for a chunk.

  -- An entry that calls for one.
  calls_made : (reply : List ℕ) (acts log : Log) (h : asked.History) (g : served.History) (tag : ℕ) (message : List ℕ) (handle k : ℕ) (before : List ChunkMessage) (d : Draw) → requester_hears q h false tag (clear_body message) d ≡ Adds (TookClear tag message (goes_on Nothing (get_sent h (PskExchange x) handle k before)) d)
      → (stages.IsMadeThere p same_key asker server summary h0 d0 x rid can) reply log h g → (stages.IsMadeThere p same_key asker server summary h0 d0 x rid can) reply (acts ++ log) (TookClear tag message (goes_on Nothing (get_sent h (PskExchange x) handle k before)) d ∷ h) g
  unfolding steps.session_of
  calls_made reply acts log h g tag message handle k before d is y = record {
    since = record { phase = y.since.phase; negotiation = y.since.negotiation; begun = y.since.begun };
    value = y.value;
    reads = y.reads;
    verify = y.verify;
    id_told = y.id_told;
    small = y.small;
    in_step = y.in_step;
    last = y.last;
    beside = beside_on q r first id rid acts log h (TookClear tag message (goes_on Nothing (get_sent h (PskExchange x) handle k before)) d ∷ h) g g (record {
      made = (is, y.beside.made);
      made_there = y.beside.made_there;
      phase = refl;
      phase_there = refl;
      negotiation = refl;
      negotiation_there = refl;
      earlier = earlier_on q first h _ g g refl refl (omega arith);
      same = λ j other. refl;
      same_there = λ j other past. inl refl;
    }) y.beside;
  }

  pub some_chunks : {round : ℕ} → CanFetchIn round q r size n → 1 ≤ count
  some_chunks fetch = (let least = fetch.least in let is = fetch.transfer in some_of (size + 4) (transfer - 12) (omega arith) (omega (arith, least, is)))

  large_heard : (more tag : ℕ) (body : List ℕ) (log : Log) (h : asked.History) (g : served.History) (d : Draw) (y : (stages.LargeTold p same_key asker server summary h0 d0 x rid can) more tag body log h g) → Leading more (clear_body y.message) log h g (requester_hears q h false tag (clear_body y.message) d)
  large_heard more tag body log h g d y =
      let is = y.carries d in
      let after = get_sent h (PskExchange x) y.handle 0 [] in
      let acts = asked_log.acts_of q h (clear_body y.message) (Adds (TookClear tag y.message (goes_on Nothing after) d)) in
      subst (Leading more (clear_body y.message) log h g) (sym is)
      (Further after count y.more_is refl (inr (inr (inl (record {
        round = y.round;
        fetch = y.fetch;
        gets_are = y.gets_are;
        k = 0;
        left = omega arith;
        some = some_chunks y.fetch;
        reply = y.reply;
        long = y.long;
        handle = y.handle;
        handle_small = y.handle_small;
        low = next_small h;
        waits = refl;
        body_is = refl;
        made = calls_made y.reply acts log h g tag y.message y.handle 0 [] d is y.made;
        pending = y.pending;
        last = y.last;
        other = y.other;
        took = y.took;
      })))))

  chunk_heard : (more tag : ℕ) (body : List ℕ) (log : Log) (h : asked.History) (g : served.History) (d : Draw) (y : (stages.ChunkAnswered p same_key asker server summary h0 d0 x rid can) more tag body log h g) → Leading more (clear_body (chunk_response transfer y.handle y.reply y.k)) log h g (requester_hears q h false tag (clear_body (chunk_response transfer y.handle y.reply y.k)) d)
  chunk_heard more tag body log h g d y =
      let text = chunk_response transfer y.handle y.reply y.k in
      let there = ap (λ (z : ℕ). div_ceil (z + 4) (transfer - 12)) y.long in
      let is = heard_more q r size n y.fetch y.reply y.long y.handle y.k y.handle_small ((stages.within p same_key asker server summary h0 d0 x rid can) more y.k y.reply y.long y.left y.some) (PskExchange x) h tag d y.waits (ap (λ (z : ℕ). y.k + 1 == z) there ∙ y.again) in
      let before = nth_chunk transfer y.handle y.reply y.k ∷ chunks_before transfer y.handle y.reply y.k in
      let after = get_sent h (PskExchange x) y.handle (y.k + 1) before in
      let acts = asked_log.acts_of q h (clear_body text) (Adds (TookClear tag text (goes_on Nothing after) d)) in
      let some = y.some in
      let left = y.left in
      let fewer = before_it more (omega (arith, some)) in
      let other = eqb-false (y.k + 1) count y.again in
      let so = sym (add-one y.k) in
      subst (Leading more (clear_body text) log h g) (sym is)
      (Further after fewer.0 (sym fewer.1) refl (inr (inr (inl (record {
        round = y.round;
        fetch = y.fetch;
        gets_are = y.gets_are;
        k = y.k + 1;
        left = omega (arith, fewer.1, left);
        some = not_zero fewer.0 (λ none. other (omega (arith, none, fewer.1, left)));
        reply = y.reply;
        long = y.long;
        handle = y.handle;
        handle_small = y.handle_small;
        low = next_small h;
        waits = ap (λ (l : List ChunkMessage). Some (fetching (PskExchange x) (asked.next_tag h) y.handle (y.k + 1) l)) (ap (chunks_before transfer y.handle y.reply) so);
        body_is = refl;
        made = calls_made y.reply acts log h g tag text y.handle (y.k + 1) before d is y.made;
        pending = y.pending;
        last = get_chunk y.handle y.k;
        other = subst (λ (z : ℕ). bytes_eq (get_chunk y.handle y.k) (get_chunk y.handle z) ≡ false) so (gets_differ y.handle y.k);
        took = y.took;
      })))))

  -- ---- The requester sends a further chunk.

  ready_on : (acts log : Log) (h : asked.History) (g : served.History) (tag handle k : ℕ) (message : List ℕ) (d : Draw) → requester_hears q h false tag (clear_body message) d ≡ Adds (TookClear tag message (goes_on Nothing (piece_sent (asked.connection_terms h).common h (PskExchange x) handle k)) d)
      → (stages.IsReady p same_key asker server summary h0 d0 x rid can) log h g → (stages.IsReady p same_key asker server summary h0 d0 x rid can) (acts ++ log) (TookClear tag message (goes_on Nothing (piece_sent (asked.connection_terms h).common h (PskExchange x) handle k)) d ∷ h) g
  unfolding steps.session_of
  ready_on acts log h g tag handle k message d is y = record {
    since = record { phase = y.since.phase; negotiation = y.since.negotiation; begun = y.since.begun };
    beside = beside_on q r first id rid acts log h (TookClear tag message (goes_on Nothing (piece_sent (asked.connection_terms h).common h (PskExchange x) handle k)) d ∷ h) g g (record {
      made = (is, y.beside.made);
      made_there = y.beside.made_there;
      phase = refl;
      phase_there = refl;
      negotiation = refl;
      negotiation_there = refl;
      earlier = earlier_on q first h _ g g refl refl (omega arith);
      same = λ j other. refl;
      same_there = λ j other past. inl refl;
    }) y.beside;
    id_is = y.id_is;
    limit = y.limit;
  }

  piece_heard : (more tag : ℕ) (body : List ℕ) (log : Log) (h : asked.History) (g : served.History) (d : Draw) (y : (stages.PieceAnswered p same_key asker server summary h0 d0 x rid can) more tag body log h g) → Leading more (clear_body (ack_of (piece y.handle y.j) [])) log h g (requester_hears q h false tag (clear_body (ack_of (piece y.handle y.j) [])) d)
  piece_heard more tag body log h g d y =
      let text = ack_of (piece y.handle y.j) [] in
      let room = y.way.send.room in
      let is = ack_more q r (PskExchange x) n y.way.send y.handle y.handle_small h tag y.j d y.ready.since.negotiation y.within y.waits (omega (arith, room)) y.again in
      let after = piece_sent (asked.connection_terms h).common h (PskExchange x) y.handle (y.j + 1) in
      let acts = asked_log.acts_of q h (clear_body text) (Adds (TookClear tag text (goes_on Nothing after) d)) in
      let left = y.left in
      let within = next_below y.j pieces y.within (eqb-false (y.j + 1) pieces y.again) in
      let fewer = before_it more (not_zero more (λ none. absurd (omega (arith, none, left, within)))) in
      let there : nth_chunk (asked.connection_terms h).common.to_responder.transfer y.handle m (y.j + 1) ≡ piece y.handle (suc y.j) =
      piece_here_at q r (PskExchange x) n y.way.send y.handle y.handle_small h y.ready.since.negotiation (y.j + 1) ∙ ap (piece y.handle) (add-one y.j) in
      subst (Leading more (clear_body text) log h g) (sym is)
      (Further after fewer.0 (sym fewer.1) refl (inr (inl (record {
        way = y.way;
        way_is = y.way_is;
        handle = y.handle;
        handle_small = y.handle_small;
        j = suc y.j;
        left = omega (arith, fewer.1, left);
        within = within;
        low = next_small h;
        waits =
            ap (λ (c : ChunkMessage). Some (sending (PskExchange x) (asked.next_tag h) y.handle (y.j + 1) c)) there
            ∙ ap (λ (k : ℕ). Some (sending (PskExchange x) (asked.next_tag h) y.handle k (piece y.handle (suc y.j)))) (add-one y.j);
        body_is = ap (λ (c : ChunkMessage). clear_body (send_chunk c)) there;
        ready = ready_on acts log h g tag y.handle (y.j + 1) text d is y.ready;
        kept = y.kept;
        held = y.held;
      }))))

  -- ---- All rounds.

  finish_talk : IsTalk p FinishAsks FinishAnswers OpenDone told
  finish_talk = once_talk p same_key id finish_x (CanFinish p same_key id sid asker server) FinishGood told (finish_last p same_key id sid asker server)

  asks_sent : (more tag : ℕ) (body : List ℕ) (log : Log) (h : asked.History) (g : served.History) → OpenTalkAsks more tag body log h g → IsSendable tag body
  asks_sent more tag body log h g (inl y) = (let few = (stages.exchange_most p same_key asker server summary h0 d0 x rid can) in (stages.sendable p same_key asker server summary h0 d0 x rid can) tag m body ((stages.first_tag p same_key asker server summary h0 d0 x rid can) tag y.tag_is) (omega (arith, few)) y.body_is)
  asks_sent more tag body log h g (inr (inl y)) = (let few = (stages.few_piece p same_key asker server summary h0 d0 x rid can) y.way y.handle y.handle_small y.j in let most = (stages.their_most p same_key asker server summary h0 d0 x rid can) in (stages.sendable p same_key asker server summary h0 d0 x rid can) tag (send_chunk (piece y.handle y.j)) body y.low (omega (arith, few, most)) y.body_is)
  asks_sent more tag body log h g (inr (inr (inl y))) = (stages.sendable p same_key asker server summary h0 d0 x rid can) tag (get_chunk y.handle y.k) body y.low (omega arith) y.body_is
  asks_sent more tag body log h g (inr (inr (inr y))) = finish_talk.asks_sent more tag body log h g y.is

  answers_sent : (more tag : ℕ) (body : List ℕ) (log : Log) (h : asked.History) (g : served.History) → OpenTalkAnswers more tag body log h g → IsSendable tag body
  answers_sent more tag body log h g (inl y) = (let few = y.few in (stages.sendable p same_key asker server summary h0 d0 x rid can) tag y.message body y.low (omega (arith, few, (stages.own_most p same_key asker server summary h0 d0 x rid can))) y.body_is)
  answers_sent more tag body log h g (inr (inl y)) = (stages.sendable p same_key asker server summary h0 d0 x rid can) tag (ack_of (piece y.handle y.j) []) body y.low (omega arith) y.body_is
  answers_sent more tag body log h g (inr (inr (inl y))) = (let few = y.short in (stages.sendable p same_key asker server summary h0 d0 x rid can) tag y.message body y.low (omega (arith, few)) y.body_is)
  answers_sent more tag body log h g (inr (inr (inr (inl y)))) =
      (let few = (stages.few_bytes p same_key asker server summary h0 d0 x rid can) more y.k y.handle y.reply y.fetch y.long y.handle_small y.left y.some in (stages.sendable p same_key asker server summary h0 d0 x rid can) tag (chunk_response transfer y.handle y.reply y.k) body y.low (omega (arith, few, (stages.own_most p same_key asker server summary h0 d0 x rid can))) y.body_is)
  answers_sent more tag body log h g (inr (inr (inr (inr y)))) = finish_talk.answers_sent more tag body log h g y.is

  abbrev Serving : ℕ → ℕ → List ℕ → Log → asked.History → served.History → Draw → Type 0
  Serving more tag body log h g d = OpenTalkAnswers more tag (answering.body_of (responder_does r g tag body d)) (served_log.acts_of r g body (responder_does r g tag body d) ++ log) h (answering.after g (responder_does r g tag body d))

  first_served : (more tag : ℕ) (log : Log) (g : served.History) (d : Draw) → length d.bytes ≡ 32 → tag ≡ asked.next_tag h0 → AreQuiet q r first log h0 g → free_id g ≡ rid → (held_of g == 4) ≡ false → (way : SendsWhole q r n (PskExchange x) size) → can.way ≡ inl way
      → (answer : AnswerGoes 0 q r n size) → way.answer ≡ answer → more ≡ (stages.gets_in p same_key asker server summary h0 d0 x rid can) answer + 1 → Serving more tag (clear_body m) log h1 g d
  first_served more tag log g d drawn tag_is quiet id_is limit way way_is (inl whole) answer_is more_is = inl ((there.serves_whole p same_key asker server summary h0 d0 x rid can) tag log g d drawn quiet id_is limit way more more_is tag_is whole)
  first_served more tag log g d drawn tag_is quiet id_is limit way way_is (inr fetch) answer_is more_is =
      inr (inr (inl ((there.serves_large p same_key asker server summary h0 d0 x rid can) tag log g d drawn quiet id_is limit way more (omega (arith, more_is)) tag_is fetch (ap (stages.gets_of p same_key asker server summary h0 d0 x rid can) way_is ∙ ap (stages.gets_in p same_key asker server summary h0 d0 x rid can) answer_is))))

  abbrev PieceServing : (more tag : ℕ) (body : List ℕ) (log : Log) (h : asked.History) (g : served.History) → (stages.PieceAsked p same_key asker server summary h0 d0 x rid can) more tag body log h g → Draw → Type 0
  PieceServing more tag body log h g y d = Serving more tag (clear_body (send_chunk (piece y.handle y.j))) log h g d

  last_served : (more tag : ℕ) (body : List ℕ) (log : Log) (h : asked.History) (g : served.History) (d : Draw) → length d.bytes ≡ 32 → (y : (stages.PieceAsked p same_key asker server summary h0 d0 x rid can) more tag body log h g) → is_repeat (served.kept_of g) tag (send_chunk (piece y.handle y.j)) ≡ false → (y.j + 1 == pieces) ≡ true
      → (answer : AnswerGoes 6 q r n size) → y.way.answer ≡ answer → more ≡ (stages.gets_in p same_key asker server summary h0 d0 x rid can) answer + 1 → PieceServing more tag body log h g y d
  last_served more tag body log h g d drawn y new ends (inl whole) answer_is more_is = inl ((there.serves_last_whole p same_key asker server summary h0 d0 x rid can) more tag body log h g d drawn y new ends more_is whole)
  last_served more tag body log h g d drawn y new ends (inr fetch) answer_is more_is =
      inr (inr (inl ((there.serves_last_large p same_key asker server summary h0 d0 x rid can) more tag body log h g d drawn y new ends (omega (arith, more_is)) fetch (ap (stages.gets_of p same_key asker server summary h0 d0 x rid can) y.way_is ∙ ap (stages.gets_in p same_key asker server summary h0 d0 x rid can) answer_is))))

  piece_served : (more tag : ℕ) (body : List ℕ) (log : Log) (h : asked.History) (g : served.History) (d : Draw) → length d.bytes ≡ 32 → (y : (stages.PieceAsked p same_key asker server summary h0 d0 x rid can) more tag body log h g) → (a b : Bool) → is_repeat (served.kept_of g) tag (send_chunk (piece y.handle y.j)) ≡ a → (y.j + 1 == pieces) ≡ b
      → PieceServing more tag body log h g y d
  piece_served more tag body log h g d drawn y true b repeats last = inr (inl ((there.serves_again p same_key asker server summary h0 d0 x rid can) more tag body log h g d drawn y repeats))
  piece_served more tag body log h g d drawn y false true new ends =
      let one = eqb-true (y.j + 1) pieces ends in
      let left = y.left in
      last_served more tag body log h g d drawn y new ends y.way.answer refl (omega (arith, one, left))
  piece_served more tag body log h g d drawn y false false new again = inr (inl ((there.serves_piece p same_key asker server summary h0 d0 x rid can) more tag body log h g d drawn y new again))

  chunk_or_whole : (more tag : ℕ) (body : List ℕ) (log : Log) (h : asked.History) (g : served.History) → (stages.OpenAnswered p same_key asker server summary h0 d0 x rid can) more tag body log h g ⊎ (stages.ChunkAnswered p same_key asker server summary h0 d0 x rid can) more tag body log h g → OpenTalkAnswers more tag body log h g
  chunk_or_whole more tag body log h g (inl z) = inl z
  chunk_or_whole more tag body log h g (inr z) = inr (inr (inr (inl z)))

  serves : (more tag : ℕ) (body : List ℕ) (log : Log) (h : asked.History) (g : served.History) (d : Draw) → length d.bytes ≡ 32 → NoChance log → OpenTalkAsks more tag body log h g → Serving more tag body log h g d
  serves more tag body log h g d drawn chance (inl y) =
      subst (λ (k : asked.History). Serving more tag body log k g d) (sym y.h_is) (subst (λ (b : List ℕ). Serving more tag b log h1 g d) (sym y.body_is)
      (first_served more tag log g d drawn y.tag_is y.quiet y.id_is y.limit y.way y.way_is y.way.answer refl y.more_is))
  serves more tag body log h g d drawn chance (inr (inl y)) = subst (λ (b : List ℕ). Serving more tag b log h g d) (sym y.body_is) (piece_served more tag body log h g d drawn y (is_repeat (served.kept_of g) tag (send_chunk (piece y.handle y.j))) (y.j + 1 == pieces) refl refl)
  serves more tag body log h g d drawn chance (inr (inr (inl y))) =
      subst (λ (b : List ℕ). Serving more tag b log h g d) (sym y.body_is)
      (chunk_or_whole more tag _ _ h _ ((there.get_served p same_key asker server summary h0 d0 x rid can) more tag log h g d y.fetch y.gets_are y.k y.left y.some y.reply y.long y.handle y.handle_small y.low y.waits y.made y.pending y.last y.other y.took))
  serves more tag body log h g d drawn chance (inr (inr (inr y))) = inr (inr (inr (inr (record { none = y.none; is = finish_talk.serves more tag body log h g d drawn chance y.is }))))

  finish_leads : (more : ℕ) (o : Outcome) (log : Log) (h : asked.History) (g : served.History) → more ≡ 0 → Leads p FinishAsks OpenDone told more o log h g → Leads p OpenTalkAsks OpenDone told more o log h g
  finish_leads more o log h g none (Further after fewer one_less sends asks) = absurd (omega (arith, none, one_less))
  finish_leads more o log h g none (Over sends tells done) = Over sends tells done

  hears : (more tag : ℕ) (body : List ℕ) (log : Log) (h : asked.History) (g : served.History) (d : Draw) → NoChance log → OpenTalkAnswers more tag body log h g → Leading more body log h g (requester_hears q h false tag body d)
  hears more tag body log h g d chance (inl y) = subst (λ (b : List ℕ). Leading more b log h g (requester_hears q h false tag b d)) (sym y.body_is) (leads_two more tag body log h g d y)
  hears more tag body log h g d chance (inr (inl y)) = subst (λ (b : List ℕ). Leading more b log h g (requester_hears q h false tag b d)) (sym y.body_is) (piece_heard more tag body log h g d y)
  hears more tag body log h g d chance (inr (inr (inl y))) = subst (λ (b : List ℕ). Leading more b log h g (requester_hears q h false tag b d)) (sym y.body_is) (large_heard more tag body log h g d y)
  hears more tag body log h g d chance (inr (inr (inr (inl y)))) = subst (λ (b : List ℕ). Leading more b log h g (requester_hears q h false tag b d)) (sym y.body_is) (chunk_heard more tag body log h g d y)
  hears more tag body log h g d chance (inr (inr (inr (inr y)))) = finish_leads more _ _ h g y.none (finish_talk.hears more tag body log h g d chance y.is)

  pub open_talk : IsTalk p OpenTalkAsks OpenTalkAnswers OpenDone told
  open_talk = record { asks_sent = asks_sent; answers_sent = answers_sent; serves = serves; hears = hears; asks_still = asks_on; answers_still = answers_on; done_still = finish_talk.done_still }
    where
      asks_on : (more tag : ℕ) (body : List ℕ) (log : Log) (h : asked.History) (g later : served.History) → AreAlike r g later → OpenTalkAsks more tag body log h g → OpenTalkAsks more tag body log h later
      asks_on more tag body log h g later alike (inl y) = inl ((stages.asked_still p same_key asker server summary h0 d0 x rid can) more tag body log h g later alike y)
      asks_on more tag body log h g later alike (inr (inl y)) = inr (inl ((stages.piece_still p same_key asker server summary h0 d0 x rid can) more tag body log h g later alike y))
      asks_on more tag body log h g later alike (inr (inr (inl y))) = inr (inr (inl ((stages.get_still p same_key asker server summary h0 d0 x rid can) more tag body log h g later alike y)))
      asks_on more tag body log h g later alike (inr (inr (inr y))) = inr (inr (inr (record { none = y.none; few = y.few; is = finish_talk.asks_still more tag body log h g later alike y.is })))

      answers_on : (more tag : ℕ) (body : List ℕ) (log : Log) (h : asked.History) (g later : served.History) → AreAlike r g later → OpenTalkAnswers more tag body log h g → OpenTalkAnswers more tag body log h later
      answers_on more tag body log h g later alike (inl y) = inl ((stages.answered_still p same_key asker server summary h0 d0 x rid can) more tag body log h g later alike y)
      answers_on more tag body log h g later alike (inr (inl y)) = inr (inl ((stages.ack_still p same_key asker server summary h0 d0 x rid can) more tag body log h g later alike y))
      answers_on more tag body log h g later alike (inr (inr (inl y))) = inr (inr (inl ((stages.told_still p same_key asker server summary h0 d0 x rid can) more tag body log h g later alike y)))
      answers_on more tag body log h g later alike (inr (inr (inr (inl y)))) = inr (inr (inr (inl ((stages.chunk_still p same_key asker server summary h0 d0 x rid can) more tag body log h g later alike y))))
      answers_on more tag body log h g later alike (inr (inr (inr (inr y)))) = inr (inr (inr (inr (record { none = y.none; is = finish_talk.answers_still more tag body log h g later alike y.is }))))
