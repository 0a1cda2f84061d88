-- An open at the responder: PSK_EXCHANGE is taken, and its answer given whole or in chunks.
use Rattle.std.proofs.Common.{◌≡◌, ◌≢◌, ◌⊎◌, ◌∙◌, ℕ, suc, nat_lt, ◌<◌, ◌≤◌, ◌+◌, ◌-◌, ◌==◌, ◌&&◌, List, [], ◌∷◌, ◌++◌, length, Bool, true, false, not, Option, Some, None, Ok, refl, sym, ap, ap₂, subst, inl, inr, arith}
use Rattle.std.specs.Prelude.{bytes_eq, if◌then◌else◌, slice_index}
use Rattle.std.proofs.lemmas.Bool.{eqb-true, false≢true, ne_eqb}
use Rattle.std.proofs.lemmas.Slice.Eq.{bytes_eq-Decides}
use Rattle.std.specs.Int.{div_ceil}
use Rattle.chunking.specs.Cutting.{chunk_count, chunks_before, nth_chunk}
use Rattle.key_schedule.specs.declared.direction.Direction.TheVariants as direction
use Rattle.requester_machine.specs.ClearAnswers.{read_led, reading_of}
use Rattle.requester_machine.specs.Does.{body_chosen, requester_hears}
use Rattle.requester_machine.specs.Hearing.{clear_outcome}
use Rattle.requester_machine.specs.History as asked
use Rattle.requester_machine.specs.History.{Led, outstanding}
use Rattle.requester_machine.specs.History.Effect.{Answers, Nothing}
use Rattle.requester_machine.specs.History.Entry.{Told, TookClear}
use Rattle.requester_machine.specs.Message.Command.{Open}
use Rattle.requester_machine.specs.Message.Content.{Clear as ClearContent}
use Rattle.requester_machine.specs.Session as steps
use Rattle.requester_machine.specs.Session.{Steps}
use Rattle.requester_machine.specs.Session.Step.{Accepted, Asked, Started}
use Rattle.requester_machine.specs.Setup.{ReqSetup}
use Rattle.responder_machine.proofs.Ids.{free_id-range, free_id-unheld}
use Rattle.responder_machine.proofs.Sizes.{sizes_set_up}
use Rattle.responder_machine.specs.Answer.{Free}
use Rattle.responder_machine.specs.Does.{clear_chosen, clear_does}
use Rattle.responder_machine.specs.Handling.{goes_large, large_response, request_reply, taken_chunk, turn_of}
use Rattle.responder_machine.specs.Refusal.{is_answer_too_long, phase_allows, sizes_are_known}
use Rattle.responder_machine.specs.History as served
use Rattle.responder_machine.specs.History.Entry.{Clear}
use Rattle.responder_machine.specs.Place.{clear_place, free_id, held_of, inside, is_held}
use Rattle.responder_machine.specs.Responder as answering
use Rattle.responder_machine.specs.Responder.{is_repeat}
use Rattle.responder_machine.specs.Responder.Outcome.{Adds as AddsThere, Same as SameThere}
use Rattle.responder_machine.specs.ResponderLog as served_log
use Rattle.responder_machine.specs.Session as events
use Rattle.responder_machine.proofs.GivenIds.{gives_other, gives_some}
use Rattle.responder_machine.specs.Session.{Events, gives_id}
use Rattle.responder_machine.specs.Session.Event.{Began}
use Rattle.responder_machine.specs.Setup.{RspSetup}
use Rattle.responder_machine.specs.Turn.{Effect, Turn}
use Rattle.responder_machine.specs.Turn.Effect.{NoEffect, Took}
use Rattle.running_hash.specs.Hash.{hash_of}
use Rattle.spdm_agreement.specs.Configured.{IsRequester, IsResponder}
use Rattle.spdm_agreement.proofs.Messages.Beginnings.{context_number}
use Rattle.spdm_agreement.proofs.Requester.ExchangeMoves.{context_told, exchange_read}
use Rattle.spdm_basis.proofs.Bools.{and_second, lt_false}
use Rattle.spdm_basis.specs.Sizes.{hash_size}
use Rattle.spdm_grammar.specs.Message.{ChunkMessage, ExchangeMessage}
use Rattle.spdm_grammar.specs.Message.RequestMessage.{ChunkGet, PskExchange}
use Rattle.spdm_grammar.specs.Message.ResponseMessage.{PskExchangeRsp}
use Rattle.spdm_grammar.specs.Requests.{canonical_request, request_in}
use Rattle.spdm_grammar.specs.Responses.{response_reading}
use Rattle.spdm_grammar.specs.declared.names.request_code.TheConstants.{CHUNK_SEND}
use Rattle.spdm_grammar.specs.declared.told.phase.Phase.{Phase}
use Rattle.spdm_grammar.specs.declared.told.phase.Phase.TheVariants.{Negotiated}
use Rattle.spdm_machine.specs.Bodies.{clear_body}
use Rattle.spdm_machine.specs.Keys.{Draw, verify_data}
use Rattle.spdm_machine.proofs.Members.{some_same}
use Rattle.spdm_machine.specs.Sessions.{id_in_exchange, is_past_handshake}
use Rattle.spdm_machine.specs.TagLog.{Log}
use Rattle.spdm_machine.specs.Terms.{Terms, hash_len, terms_of}
use Rattle.transcript.specs.Transcripts.{Negotiation, vca_of, without_verify}
use Rattle.spdm_progress.specs.InStep.{AreInStep, AreQuiet, TookEarlier, rsp_id}
use Rattle.spdm_progress.specs.Opening.{exchange_rsp_size}
use Rattle.spdm_progress.proofs.AtRequester.{heard_plain}
use Rattle.spdm_progress.proofs.ClearFetch.{CanFetchIn, IsPending, chunk_response, chunked_fits, differ, fetching, get_chunk, gives_chunk, heard_large, heard_whole, large_fits, large_goes, large_read, pending_next, served_chunk, transfer_in}
use Rattle.spdm_progress.proofs.ClearSend.{ack_of, heard_whole as heard_ack_whole, held_next, last_turn, piece_turn, pieces_other, send_chunk, transfer_there}
use Rattle.spdm_progress.proofs.FirstAgain.{next_right}
use Rattle.spdm_progress.proofs.ExchangeStages as exchange
use Rattle.spdm_progress.proofs.ExchangeStages.{IsExchange, answer, answer_id, answer_length, answer_reads, exchange_bytes, exchange_fits, exchange_inside, exchange_taken, inside_leads, rsp, turn_as, verify_is}
use Rattle.spdm_progress.proofs.PacketSteps.{Pair}
use Rattle.spdm_progress.proofs.RecordRounds.{beside_on, earlier_on}
use Rattle.spdm_progress.proofs.ResponderStages.{LastTook, Takes, adds, not_large, not_too_long, same_by}
use Rattle.spdm_progress.proofs.ResponderTurns.{taken_turn}
use Rattle.spdm_progress.proofs.LargeAlgorithms.{get_no_exchange, send_no_exchange}
use Rattle.spdm_progress.proofs.OpenStages as stages
use Rattle.spdm_progress.proofs.OpenStages.{CanExchange, GoesWhole, SendsWhole, exchange_sent, own_handle, plainly, resting_held, same_context}

module _ (p : Pair) (same_key : p.requester.psk ≡ p.responder.psk) (asker : IsRequester p.requester) (server : IsResponder p.responder) (summary : ℕ) (h0 : asked.History) (d0 : Draw) (x : ExchangeMessage) (rid : ℕ) (can : CanExchange p.requester p.responder p.first summary h0 d0 x) where
  abbrev q : ReqSetup
  q = p.requester

  abbrev r : RspSetup
  r = p.responder

  abbrev first : ℕ
  first = p.first

  abbrev id : ℕ
  id = x.req_id

  abbrev m : List ℕ
  m = exchange_bytes x

  abbrev n : Negotiation
  n = asked.negotiation_of h0

  abbrev terms : Terms
  terms = asked.connection_terms h0

  abbrev h1 : asked.History
  h1 = Told (Open summary) (exchange_sent h0 x) d0 ∷ h0

  abbrev size : ℕ
  size = exchange_rsp_size r terms x.summary

  abbrev transfer : ℕ
  transfer = transfer_in n

  abbrev count : ℕ
  count = div_ceil (size + 4) (transfer - 12)

  abbrev pieces : ℕ
  pieces = chunk_count (transfer_there n) m

  abbrev piece : (handle j : ℕ) → ChunkMessage
  piece handle j = nth_chunk (transfer_there n) handle m j

  abbrev Ready : Log → asked.History → served.History → Type 0
  Ready log h g = stages.IsReady p same_key asker server summary h0 d0 x rid can log h g

  -- ---- Right behind the command.

  -- No session that rests has the id.
  unheld : (log : Log) (g : served.History) → AreQuiet q r first log h0 g → free_id g ≡ rid → (held_of g == 4) ≡ false → (j : ℕ) → steps.is_live (steps.session_of j h0) ≡ true → rsp_id (steps.session_of j h0) ≢ rid
  unheld log g quiet id_is limit j live = λ same. false≢true (sym (free_id-unheld g limit) ∙ ap (is_held g) (id_is ∙ sym same) ∙ resting_held q.psk log (steps.session_of j h0) g (quiet.sessions j live))

  pub ready_at : (log : Log) (g : served.History) → AreQuiet q r first log h0 g → free_id g ≡ rid → (held_of g == 4) ≡ false → Ready log h1 g
  ready_at log g quiet id_is limit = record {
    since = record { phase = can.phase; negotiation = refl; begun = (stages.begun_here p same_key asker server summary h0 d0 x rid can) };
    beside = beside_on q r first id rid [] log h0 h1 g g (record {
      made = (can.asks, quiet.made);
      made_there = quiet.made_there;
      phase = refl;
      phase_there = refl;
      negotiation = refl;
      negotiation_there = refl;
      earlier = earlier_on q first h0 h1 g g refl refl (omega arith);
      same = (stages.others_same p same_key asker server summary h0 d0 x rid can);
      same_there = λ j other past. inl refl;
    }) (record {
      made = quiet.made;
      made_there = quiet.made_there;
      phase = quiet.phase;
      negotiation = quiet.negotiation;
      earlier = quiet.earlier;
      sessions = λ j other live. quiet.sessions j live;
      own = λ j other live. unheld log g quiet id_is limit j live;
      apart = λ i j differ i_other j_other live_i live_j. quiet.apart i j differ live_i live_j;
    });
    id_is = id_is;
    limit = limit;
  }

  -- ---- The responder's turn.

  module _ (log : Log) (h : asked.History) (g : served.History) (d : Draw) (drawn : length d.bytes ≡ 32) (ready : Ready log h g) where
    under : served.negotiation_of (served.clear_turns g) ≡ n
    under = sym ready.beside.negotiation ∙ ready.since.negotiation

    phase_there : served.phase_of (served.clear_turns g) ≡ Negotiated
    phase_there = sym ready.beside.phase ∙ ready.since.phase

    same_terms : exchange.terms r g d x ≡ terms
    same_terms = ap terms_of under

    sound : IsExchange (exchange.hash r g d x) x
    sound = subst (λ (t : Terms). IsExchange t.choice.hash x) (sym same_terms) can.sound

    answer_size : length (answer r g d x) ≡ size
    answer_size = answer_length r g d x server drawn sound ∙ ap (λ (t : Terms). exchange_rsp_size r t x.summary) same_terms

    measures : (not (x.summary == 0) && not (exchange.terms r g d x).choice.measure) ≡ false
    measures = ap (λ (t : Terms). not (x.summary == 0) && not t.choice.measure) same_terms ∙ can.measures

    -- It takes the exchange, in this message.
    module _ (tag : ℕ) (text : List ℕ) (chunk : Option ChunkMessage) (large : Option ℕ) (reply : List ℕ) where
      abbrev turn : Turn
      turn = record { message = text; refused = None; chunk = chunk; effect = Took (PskExchange x) m (answer r g d x) large; reply = reply }

      abbrev pub later : served.History
      later = Clear tag turn d ∷ g

      session_later : (j : ℕ) → events.session_of j later ≡ (if gives_id j (answer r g d x) then Began (served.negotiation_of (served.clear_turns g)) m (answer r g d x) ∷ [] else (if is_past_handshake (events.stage_of (events.session_of j g)) then events.session_of j g else []))
      unfolding events.session_of
      session_later j = refl

      told_id : id_in_exchange (answer r g d x) ≡ rid
      told_id = answer_id r g d x server drawn sound ∙ ready.id_is

      began_there : events.session_of rid later ≡ Began (served.negotiation_of (served.clear_turns g)) m (answer r g d x) ∷ []
      began_there = session_later rid ∙ ap (λ (b : Bool). if b then Began (served.negotiation_of (served.clear_turns g)) m (answer r g d x) ∷ [] else (if is_past_handshake (events.stage_of (events.session_of rid g)) then events.session_of rid g else [])) (gives_some rid (answer r g d x) told_id (subst (λ (k : ℕ). 1 ≤ k) ready.id_is (free_id-range g).0))

      others_there : (j : ℕ) → j ≢ rid → is_past_handshake (events.stage_of (events.session_of j g)) ≡ true → events.session_of j later ≡ events.session_of j g
      others_there j other past =
          session_later j
          ∙ ap (λ (b : Bool). if b then Began (served.negotiation_of (served.clear_turns g)) m (answer r g d x) ∷ [] else (if is_past_handshake (events.stage_of (events.session_of j g)) then events.session_of j g else [])) (gives_other j (answer r g d x) (ne_eqb (id_in_exchange (answer r g d x)) j (λ same. other (sym same ∙ told_id))))
          ∙ ap (λ (b : Bool). if b then events.session_of j g else []) past

      begun_step : AreInStep (Accepted (answer r g d x) ∷ Started n m ∷ []) (Began (served.negotiation_of (served.clear_turns g)) m (answer r g d x) ∷ [])
      begun_step = record {
        accepted = refl;
        live = refl;
        negotiation = sym under;
        exchange = refl;
        answer = refl;
        finish = refl;
        finish_answer = refl;
        stage = refl;
        request_epoch = refl;
        response_epoch = refl;
        request_next = refl;
        response_next = refl;
      }

      pub made_now : clear_does r g tag text d ≡ AddsThere (Clear tag turn d) → TookEarlier q first h later → (acts : Log) → (stages.IsMadeThere p same_key asker server summary h0 d0 x rid can) (answer r g d x) (acts ++ log) h later
      made_now does earlier acts = record {
        since = ready.since;
        value = rsp r g d x;
        reads = subst (λ (t : Terms). response_reading (hash_size t.choice.hash) (not (x.summary == 0)) (answer r g d x) ≡ Ok (PskExchangeRsp (rsp r g d x))) same_terms (answer_reads r g d x server drawn sound);
        verify =
            verify_is r g d x server drawn sound
            ∙ ap₂ (λ (t : Terms) (k : Negotiation). verify_data t.choice r.psk (vca_of k ++ m ++ without_verify (hash_of t.choice.hash) (answer r g d x)) direction.Response (vca_of k ++ m ++ without_verify (hash_of t.choice.hash) (answer r g d x))) same_terms under
            ∙ ap (λ (psk : List ℕ). verify_data terms.choice psk (vca_of n ++ m ++ without_verify (hash_of terms.choice.hash) (answer r g d x)) direction.Response (vca_of n ++ m ++ without_verify (hash_of terms.choice.hash) (answer r g d x))) (sym same_key);
        id_told = told_id;
        small = subst (λ (k : ℕ). k ≤ 4) ready.id_is (free_id-range g).1;
        in_step = subst (AreInStep (Accepted (answer r g d x) ∷ Started n m ∷ [])) (sym began_there) begun_step;
        last = ap events.last_of began_there;
        beside = beside_on q r first id rid acts log h h g later (record {
          made = ready.beside.made;
          made_there = (does, ready.beside.made_there);
          phase = refl;
          phase_there = refl;
          negotiation = refl;
          negotiation_there = refl;
          earlier = λ e. earlier;
          same = λ j other. refl;
          same_there = λ j other past. inl (others_there j other past);
        }) ready.beside;
      }

  -- ---- The whole request.

  module _ (tag : ℕ) (log : Log) (g : served.History) (d : Draw) (drawn : length d.bytes ≡ 32) (quiet : AreQuiet q r first log h0 g) (id_is : free_id g ≡ rid) (limit : (held_of g == 4) ≡ false) (way : SendsWhole q r n (PskExchange x) size) where
    new : (k : served.Kept) → served.kept_of g ≡ Some k → k.message ≢ m
    new k is =
        let spelled = exchange_fits terms.choice.hash x can.sound in
        let number = can.number in
        quiet.earlier.kept k is x d0 spelled.0 spelled.1 can.context can.drawn (omega arith) can.small

    ready : Ready log h1 g
    ready = ready_at log g quiet id_is limit

    abbrev taken : (large : Bool) → answering.Outcome
    taken large = AddsThere (Clear tag (turn_as r g d x server drawn (sound log h1 g d drawn ready) large) d)

    taken_as : is_answer_too_long (clear_place g) (answer r g d x) ≡ false → (large : Bool) → goes_large (clear_place g) (answer r g d x) ≡ large → clear_does r g tag m d ≡ taken large
    taken_as short large goes =
        exchange_taken r g d x server drawn (sound log h1 g d drawn ready) tag (phase_there log h1 g d drawn ready) way.request_fits can.hint (measures log h1 g d drawn ready) short limit new large goes

    takes : GoesWhole 0 q n size → Takes (clear_place g) (length (answer r g d x))
    takes whole = record {
      both = λ known.
          (let sizes = sizes_set_up r g quiet.made_there server.sizes.ordered server.sizes.most known in
          let crossed = sizes.crossed in
          let enough = whole.fits in
          let long = answer_size log h1 g d drawn ready in
          let fits : length (answer r g d x) ≤ (exchange.terms r g d x).common.to_requester.transfer =
          subst (λ (t : Terms). length (answer r g d x) ≤ t.common.to_requester.transfer) (sym (same_terms log h1 g d drawn ready)) (omega (arith, enough, long)) in
          ((omega (arith, fits, crossed)), fits));
    }

    taken_whole : GoesWhole 0 q n size → clear_does r g tag m d ≡ taken false
    taken_whole whole = taken_as (not_too_long g (answer r g d x) (takes whole)) false (not_large g (answer r g d x) (takes whole))

    taken_large : CanFetchIn 0 q r size n → clear_does r g tag m d ≡ taken true
    taken_large fetch =
        taken_as (large_fits q r size n fetch (clear_place g) (answer r g d x) (answer_size log h1 g d drawn ready) (under log h1 g d drawn ready)) true
        (large_goes q r size n fetch (clear_place g) (answer r g d x) (answer_size log h1 g d drawn ready) (under log h1 g d drawn ready) (ap sizes_are_known (phase_there log h1 g d drawn ready)) refl)

    -- The exchange that was just taken has the number of a draw that was just taken.
    taken_earlier : (large : Option ℕ) (reply : List ℕ) → TookEarlier q first h1 (later log h1 g d drawn ready tag m None large reply)
    taken_earlier large reply = record {
      kept = λ k is y e fits told context whole above below message.
          (let same : m ≡ canonical_request (PskExchange y) = ap (λ (z : served.Kept). z.message) (some_same _ k is) ∙ message in
          let spelled = exchange_fits terms.choice.hash x can.sound in
          let read : request_in (hash_len terms) m ≡ Some (PskExchange x) = exchange_read (hash_len terms) (PskExchange x) spelled.0 spelled.1 in
          let read_y : request_in (hash_len terms) m ≡ Some (PskExchange y) = ap (request_in (hash_len terms)) same ∙ exchange_read (hash_len terms) (PskExchange y) fits told in
          let contexts : x.context ≡ y.context = same_context x y (some_same (PskExchange x) (PskExchange y) (sym read ∙ read_y)) in
          let numbers : d0.number ≡ e.number =
          sym (context_told terms.choice.hash d0 can.small can.drawn) ∙ ap (context_number terms.choice.hash) (sym can.context ∙ contexts ∙ context) ∙ context_told terms.choice.hash e below whole in
          let number = can.number in
          omega arith);
    }

    abbrev acts_for : answering.Outcome → Log
    acts_for o = served_log.acts_of r g (clear_body m) o

    pub serves_whole : (more : ℕ) → more ≡ 1 → tag ≡ asked.next_tag h0 → (whole : GoesWhole 0 q n size) → (stages.OpenAnswered p same_key asker server summary h0 d0 x rid can) more tag (answering.body_of (clear_does r g tag m d)) (acts_for (clear_does r g tag m d) ++ log) h1 (answering.after g (clear_does r g tag m d))
    serves_whole more more_is tag_is whole =
        let is = taken_whole whole in
        let own = whole.own in
        let long = answer_size log h1 g d drawn ready in
        let few : length (answer r g d x) ≤ q.transfer = omega (arith, own, long) in
        subst (λ (o : answering.Outcome). (stages.OpenAnswered p same_key asker server summary h0 d0 x rid can) more tag (answering.body_of o) (acts_for o ++ log) h1 (answering.after g o)) (sym is) (record {
          more_is = more_is;
          low = (stages.first_tag p same_key asker server summary h0 d0 x rid can) tag tag_is;
          reply = answer r g d x;
          made = made_now log h1 g d drawn ready tag m None None (answer r g d x) is (taken_earlier None (answer r g d x)) (acts_for (taken false));
          message = answer r g d x;
          body_is = refl;
          few = few;
          at = 0;
          carries = λ e.
              heard_plain q h1 (body_chosen q h1 e) tag (ClearContent m) (PskExchange x) (answer r g d x) e ((stages.sent_whole p same_key asker server summary h0 d0 x rid can) tag way.whole tag_is) few
              ∙ ap (clear_outcome tag (answer r g d x) e) (plainly q h1 (body_chosen q h1 e) (PskExchange x) (answer r g d x));
        })

    pub serves_large : (more : ℕ) → more ≡ suc count → tag ≡ asked.next_tag h0 → (fetch : CanFetchIn 0 q r size n) → (stages.gets_of p same_key asker server summary h0 d0 x rid can) can.way ≡ count → (stages.LargeTold p same_key asker server summary h0 d0 x rid can) more tag (answering.body_of (clear_does r g tag m d)) (acts_for (clear_does r g tag m d) ++ log) h1 (answering.after g (clear_does r g tag m d))
    serves_large more more_is tag_is fetch gets_are =
        let is = taken_large fetch in
        let handle = (clear_chosen r g d).handle in
        subst (λ (o : answering.Outcome). (stages.LargeTold p same_key asker server summary h0 d0 x rid can) more tag (answering.body_of o) (acts_for o ++ log) h1 (answering.after g o)) (sym is) (record {
          round = 0;
          fetch = fetch;
          gets_are = gets_are;
          more_is = more_is;
          low = (stages.first_tag p same_key asker server summary h0 d0 x rid can) tag tag_is;
          reply = answer r g d x;
          long = answer_size log h1 g d drawn ready;
          handle = handle;
          handle_small = own_handle r g d;
          message = large_response handle;
          short = omega arith;
          body_is = refl;
          carries = λ e. heard_large q r size n fetch (PskExchange x) m h1 tag handle e refl
              (record { waits = (stages.sent_whole p same_key asker server summary h0 d0 x rid can) tag way.whole tag_is; negotiation = refl; small = (stages.first_tag p same_key asker server summary h0 d0 x rid can) tag tag_is });
          made = made_now log h1 g d drawn ready tag m None (Some handle) (large_response handle) is (taken_earlier (Some handle) (large_response handle)) (acts_for (taken true));
          pending = record { large = refl; given = refl; handle_is = refl };
          last = m;
          other = differ m (get_chunk handle 0) (bytes_eq m (get_chunk handle 0)) refl (λ e. (let code : slice_index m 1 ≡ slice_index (get_chunk handle 0) 1 = ap (λ (l : List ℕ). slice_index l 1) e in omega (arith, code)));
          took = record { kept = record { tag = tag; message = m; reply = large_response handle }; is = refl; message = refl };
        })

  -- ---- One of its chunks.

  module _ (more tag : ℕ) (body : List ℕ) (log : Log) (h : asked.History) (g : served.History) (d : Draw) (drawn : length d.bytes ≡ 32) (y : (stages.PieceAsked p same_key asker server summary h0 d0 x rid can) more tag body log h g) where
    abbrev c : ChunkMessage
    c = piece y.handle y.j

    abbrev text : List ℕ
    text = send_chunk c

    abbrev f : Free
    f = clear_chosen r g d

    abbrev reply : List ℕ
    reply = answer r g d x

    under_chunk : served.negotiation_of (served.clear_turns g) ≡ n
    under_chunk = under log h g d drawn y.ready

    phase_chunk : served.phase_of (served.clear_turns g) ≡ Negotiated
    phase_chunk = phase_there log h g d drawn y.ready

    allows : (pending : Bool) → phase_allows (served.phase_of (served.clear_turns g)) pending CHUNK_SEND ≡ true
    allows pending = ap (λ (z : Phase). phase_allows z pending CHUNK_SEND) phase_chunk

    does_by : is_repeat (served.kept_of g) tag text ≡ false → (t : Turn) → turn_of r (clear_place g) text f ≡ t → clear_does r g tag text d ≡ AddsThere (Clear tag t d)
    does_by new t is = adds r g tag text d t new is

    abbrev acts_on : answering.Outcome → Log
    acts_on o = served_log.acts_of r g (clear_body text) o

    abbrev Further : answering.Outcome → Type 0
    Further o = (stages.PieceAnswered p same_key asker server summary h0 d0 x rid can) more tag (answering.body_of o) (acts_on o ++ log) h (answering.after g o)

    -- Where it is the first one, and looks like a repeat, it is answered from memory.
    repeats_so : (o : Option served.Kept) → served.kept_of g ≡ o → is_repeat o tag text ≡ true → (k : served.Kept) × (served.kept_of g ≡ Some k) × (k.message ≡ text)
    repeats_so None is repeats = absurd (false≢true repeats)
    repeats_so (Some k) is repeats = (k, is, (bytes_eq-Decides k.message text).0 (and_second (k.tag == tag) (bytes_eq k.message text) repeats))

    pub serves_again : is_repeat (served.kept_of g) tag text ≡ true → Further (clear_does r g tag text d)
    serves_again repeats =
        let k = repeats_so (served.kept_of g) refl repeats in
        let found = y.kept k.0 k.1 k.2 in
        let same = same_by r g tag text d k.0 k.1 repeats in
        subst Further (sym same) (record {
          way = y.way;
          way_is = y.way_is;
          handle = y.handle;
          handle_small = y.handle_small;
          j = y.j;
          left = y.left;
          within = y.within;
          again = found.again;
          low = y.low;
          waits = y.waits;
          body_is = ap clear_body found.reply;
          ready = record {
            since = y.ready.since;
            beside = beside_on q r first id rid (acts_on (SameThere (clear_body k.0.reply))) log h h g g (record {
              made = y.ready.beside.made;
              made_there = y.ready.beside.made_there;
              phase = refl;
              phase_there = refl;
              negotiation = refl;
              negotiation_there = refl;
              earlier = λ e. e;
              same = λ j other. refl;
              same_there = λ j other past. inl refl;
            }) y.ready.beside;
            id_is = y.ready.id_is;
            limit = y.ready.limit;
          };
          kept = λ z is message. absurd (pieces_other q r (PskExchange x) n y.way.send y.handle y.handle_small y.j (sym k.2 ∙ ap (λ (e : served.Kept). e.message) (some_same _ z (sym k.1 ∙ is)) ∙ message));
          held = found.held;
        })

    -- One that is not the last is acknowledged.
    abbrev further : Turn
    further = taken_chunk text c NoEffect []

    further_does : is_repeat (served.kept_of g) tag text ≡ false → (y.j + 1 == pieces) ≡ false → clear_does r g tag text d ≡ AddsThere (Clear tag further d)
    further_does new again = does_by new further (piece_turn q r (PskExchange x) n y.way.send y.handle y.handle_small g f under_chunk allows y.j y.within y.held again)

    ready_next : is_repeat (served.kept_of g) tag text ≡ false → (y.j + 1 == pieces) ≡ false → (acts : Log) → Ready (acts ++ log) h (Clear tag further d ∷ g)
    unfolding events.session_of
    ready_next new again acts = record {
      since = y.ready.since;
      beside = beside_on q r first id rid acts log h h g (Clear tag further d ∷ g) (record {
        made = y.ready.beside.made;
        made_there = (further_does new again, y.ready.beside.made_there);
        phase = refl;
        phase_there = refl;
        negotiation = refl;
        negotiation_there = refl;
        earlier = λ e. record { kept = λ k is z w fits told context whole above below message. send_no_exchange c z (ap (λ (o : served.Kept). o.message) (some_same _ k is) ∙ message) };
        same = λ j other. refl;
        same_there = λ j other past. inl refl;
      }) y.ready.beside;
      id_is = y.ready.id_is;
      limit = y.ready.limit;
    }

    pub serves_piece : is_repeat (served.kept_of g) tag text ≡ false → (y.j + 1 == pieces) ≡ false → Further (clear_does r g tag text d)
    serves_piece new again =
        subst Further (sym (further_does new again)) (record {
          way = y.way;
          way_is = y.way_is;
          handle = y.handle;
          handle_small = y.handle_small;
          j = y.j;
          left = y.left;
          within = y.within;
          again = again;
          low = y.low;
          waits = y.waits;
          body_is = refl;
          ready = ready_next new again (acts_on (AddsThere (Clear tag further d)));
          kept = next_right q r (PskExchange x) n y.way.send y.handle y.handle_small y.j tag (ack_of c []) (Clear tag further d ∷ g) refl;
          held = held_next q r (PskExchange x) n y.way.send y.handle y.handle_small y.j text (served.clear_turns g) again y.held;
        })

    -- The last one is answered as the request that it completes.
    module _ (new : is_repeat (served.kept_of g) tag text ≡ false) (ends : (y.j + 1 == pieces) ≡ true) where
      long : length reply ≡ size
      long = answer_size log h g d drawn y.ready

      short_inside : is_answer_too_long (inside (clear_place g)) reply ≡ false
      short_inside =
          let most = y.way.answer_max in
          chunked_fits (sizes_are_known (served.phase_of (served.clear_turns g))) _ _ _
          (lt_false _ _ (subst (λ (z : Negotiation). length reply ≤ (terms_of z).common.to_requester.max) (sym under_chunk) (omega (arith, most, long))))
          (ap (λ (z : Negotiation). (terms_of z).common.chunk) under_chunk ∙ y.way.send.chunk)

      abbrev large_in : Bool → Option ℕ
      large_in large = if large then Some f.handle else None

      abbrev sent_in : Bool → List ℕ
      sent_in large = if large then large_response f.handle else reply

      abbrev carried : Bool → Turn
      carried large = taken_chunk text c (Took (PskExchange x) m reply (large_in large)) (sent_in large)

      last_does : (large : Bool) → goes_large (inside (clear_place g)) reply ≡ large → clear_does r g tag text d ≡ AddsThere (Clear tag (carried large) d)
      last_does large goes =
          let sound_chunk = sound log h g d drawn y.ready in
          let lead = inside_leads r g d x server drawn sound_chunk large goes in
          does_by new (carried large)
          (last_turn q r (PskExchange x) n y.way.send y.handle y.handle_small g f under_chunk allows y.j y.within y.held ends
          (exchange_inside r g d x server drawn sound_chunk phase_chunk y.way.send.fits can.hint (measures log h g d drawn y.ready) short_inside y.ready.limit)
          ∙ ap (λ (e : Effect). taken_chunk text c e (request_reply r (inside (clear_place g)) m f)) lead.0
          ∙ ap (taken_chunk text c (Took (PskExchange x) m reply (large_in large))) lead.1)

      goes_whole : GoesWhole 6 q n size → goes_large (inside (clear_place g)) reply ≡ false
      goes_whole whole =
          let fits = whole.fits in
          ap (λ (z : Phase). sizes_are_known z && nat_lt (terms_of (served.negotiation_of (served.clear_turns g))).common.to_requester.transfer (6 + length reply)) phase_chunk
          ∙ lt_false _ _ (subst (λ (z : Negotiation). 6 + length reply ≤ (terms_of z).common.to_requester.transfer) (sym under_chunk) (omega (arith, fits, long)))

      goes_by_chunks : CanFetchIn 6 q r size n → goes_large (inside (clear_place g)) reply ≡ true
      goes_by_chunks fetch = large_goes q r size n fetch (inside (clear_place g)) reply long under_chunk (ap sizes_are_known phase_chunk) refl

      abbrev behind : Bool → served.History
      behind large = later log h g d drawn y.ready tag text (Some c) (large_in large) (ack_of c (sent_in large))

      taken_chunk_earlier : (large : Bool) → TookEarlier q first h (behind large)
      taken_chunk_earlier large = record { kept = λ k is z e fits told context whole above below message. send_no_exchange c z (ap (λ (o : served.Kept). o.message) (some_same _ k is) ∙ message) }

      made_behind : (large : Bool) → goes_large (inside (clear_place g)) reply ≡ large → (acts : Log) → (stages.IsMadeThere p same_key asker server summary h0 d0 x rid can) reply (acts ++ log) h (behind large)
      made_behind large goes acts = made_now log h g d drawn y.ready tag text (Some c) (large_in large) (ack_of c (sent_in large)) (last_does large goes) (taken_chunk_earlier large) acts

      hears_last : (response : List ℕ) → length (ack_of c response) ≤ q.transfer → (e : Draw)
          → requester_hears q h false tag (clear_body (ack_of c response)) e ≡ clear_outcome tag (ack_of c response) e (read_led q h (body_chosen q h e) 6 (PskExchange x) response (reading_of h (PskExchange x) response))
      hears_last response fits e = heard_ack_whole q r (PskExchange x) n y.way.send y.handle y.handle_small h tag y.j e y.ready.since.negotiation y.within y.waits response fits ends

      pub serves_last_whole : more ≡ 1 → GoesWhole 6 q n size → (stages.OpenAnswered p same_key asker server summary h0 d0 x rid can) more tag (answering.body_of (clear_does r g tag text d)) (acts_on (clear_does r g tag text d) ++ log) h (answering.after g (clear_does r g tag text d))
      serves_last_whole more_is whole =
          let goes = goes_whole whole in
          let own = whole.own in
          let few : length (ack_of c reply) ≤ q.transfer = omega (arith, own, long) in
          subst (λ (o : answering.Outcome). (stages.OpenAnswered p same_key asker server summary h0 d0 x rid can) more tag (answering.body_of o) (acts_on o ++ log) h (answering.after g o)) (sym (last_does false goes)) (record {
            more_is = more_is;
            low = y.low;
            reply = reply;
            made = made_behind false goes (acts_on (AddsThere (Clear tag (carried false) d)));
            message = ack_of c reply;
            body_is = refl;
            few = few;
            at = 6;
            carries = λ e. hears_last reply few e;
          })

      pub serves_last_large : more ≡ suc count → (fetch : CanFetchIn 6 q r size n) → (stages.gets_of p same_key asker server summary h0 d0 x rid can) can.way ≡ count → (stages.LargeTold p same_key asker server summary h0 d0 x rid can) more tag (answering.body_of (clear_does r g tag text d)) (acts_on (clear_does r g tag text d) ++ log) h (answering.after g (clear_does r g tag text d))
      serves_last_large more_is fetch gets_are =
          let goes = goes_by_chunks fetch in
          let room = y.way.send.room in
          let handle = f.handle in
          let last_message = ack_of c (large_response handle) in
          subst (λ (o : answering.Outcome). (stages.LargeTold p same_key asker server summary h0 d0 x rid can) more tag (answering.body_of o) (acts_on o ++ log) h (answering.after g o)) (sym (last_does true goes)) (record {
            round = 6;
            fetch = fetch;
            gets_are = gets_are;
            more_is = more_is;
            low = y.low;
            reply = reply;
            long = long;
            handle = handle;
            handle_small = own_handle r g d;
            message = last_message;
            short = omega arith;
            body_is = refl;
            carries = λ e.
                hears_last (large_response handle) (omega (arith, room)) e
                ∙ ap (clear_outcome tag last_message e) (large_read q h (body_chosen q h e) 6 (PskExchange x) handle refl (ap (λ (z : Negotiation). (terms_of z).common.chunk) y.ready.since.negotiation ∙ y.way.send.chunk));
            made = made_behind true goes (acts_on (AddsThere (Clear tag (carried true) d)));
            pending = record { large = refl; given = refl; handle_is = refl };
            last = text;
            other = differ text (get_chunk handle 0) (bytes_eq text (get_chunk handle 0)) refl (λ e. (let code : slice_index text 1 ≡ slice_index (get_chunk handle 0) 1 = ap (λ (l : List ℕ). slice_index l 1) e in omega (arith, code)));
            took = record { kept = record { tag = tag; message = text; reply = last_message }; is = refl; message = refl };
          })

  -- ---- The responder, of CHUNK_GET.

  module _ (more tag : ℕ) (log : Log) (h : asked.History) (g : served.History) (d : Draw) {round : ℕ} (fetch : CanFetchIn round q r size n) (gets_are : (stages.gets_of p same_key asker server summary h0 d0 x rid can) can.way ≡ count) (k : ℕ) (left : more + k ≡ count) (some : 1 ≤ more) (reply : List ℕ) (long : length reply ≡ size) (handle : ℕ) (small : handle < 256) (low : tag < 8)
      (waits : outstanding h ≡ Some (fetching (PskExchange x) tag handle k (chunks_before transfer handle reply k))) (made : (stages.IsMadeThere p same_key asker server summary h0 d0 x rid can) reply log h g) (pending : IsPending reply handle k (served.clear_turns g)) (last : List ℕ) (other : bytes_eq last (get_chunk handle k) ≡ false) (took : LastTook last g) where
    get_under : served.negotiation_of (served.clear_turns g) ≡ n
    get_under = sym made.beside.negotiation ∙ made.since.negotiation

    get_phase : served.phase_of (served.clear_turns g) ≡ Negotiated
    get_phase = sym made.beside.phase ∙ made.since.phase

    abbrev get_turn : Turn
    get_turn = taken_turn r (clear_place g) (get_chunk handle k) (clear_chosen r g d) (ChunkGet handle k)

    get_does : clear_does r g tag (get_chunk handle k) d ≡ AddsThere (Clear tag get_turn d)
    get_does = served_chunk q r size n fetch reply long handle k small ((stages.within p same_key asker server summary h0 d0 x rid can) more k reply long left some) g d get_under get_phase pending tag last other took

    get_made : (acts : Log) → (stages.IsMadeThere p same_key asker server summary h0 d0 x rid can) reply (acts ++ log) h (Clear tag get_turn d ∷ g)
    unfolding events.session_of
    get_made acts = record {
      since = made.since;
      value = made.value;
      reads = made.reads;
      verify = made.verify;
      id_told = made.id_told;
      small = made.small;
      in_step = made.in_step;
      last = made.last;
      beside = beside_on q r first id rid acts log h h g (Clear tag get_turn d ∷ g) (record {
        made = made.beside.made;
        made_there = (get_does, made.beside.made_there);
        phase = refl;
        phase_there = refl;
        negotiation = refl;
        negotiation_there = refl;
        earlier = λ earlier. record { kept = λ z is y e fits sound context whole above below same. get_no_exchange handle k y (ap (λ (o : served.Kept). o.message) (some_same _ z is) ∙ same) };
        same = λ j other. refl;
        same_there = λ j other past. inl refl;
      }) made.beside;
    }

    abbrev get_acts : answering.Outcome → Log
    get_acts o = served_log.acts_of r g (clear_body (get_chunk handle k)) o

    gives : answering.body_of (AddsThere (Clear tag get_turn d)) ≡ clear_body (chunk_response transfer handle reply k)
    gives = ap clear_body (gives_chunk q r size n fetch reply long handle k small ((stages.within p same_key asker server summary h0 d0 x rid can) more k reply long left some) (clear_place g) (clear_chosen r g d) get_under pending)

    abbrev GetServed : answering.Outcome → Type 0
    GetServed o = (stages.OpenAnswered p same_key asker server summary h0 d0 x rid can) more tag (answering.body_of o) (get_acts o ++ log) h (answering.after g o) ⊎ (stages.ChunkAnswered p same_key asker server summary h0 d0 x rid can) more tag (answering.body_of o) (get_acts o ++ log) h (answering.after g o)

    chunks_are : chunk_count transfer reply ≡ count
    chunks_are = ap (λ (z : ℕ). div_ceil (z + 4) (transfer - 12)) long

    get_served_by : (b : Bool) → (k + 1 == count) ≡ b → GetServed (AddsThere (Clear tag get_turn d))
    get_served_by true ends =
        let one = eqb-true (k + 1) count ends in
        inl (record {
          more_is = omega (arith, one, left);
          low = low;
          reply = reply;
          made = get_made (get_acts (AddsThere (Clear tag get_turn d)));
          message = chunk_response transfer handle reply k;
          body_is = gives;
          few = (stages.few_bytes p same_key asker server summary h0 d0 x rid can) more k handle reply fetch long small left some;
          at = 0;
          carries = λ e. heard_whole q r size n fetch reply long handle k small ((stages.within p same_key asker server summary h0 d0 x rid can) more k reply long left some) (PskExchange x) h tag e waits (ap (λ (z : ℕ). k + 1 == z) chunks_are ∙ ends);
        })
    get_served_by false again = inr (record {
      round = round;
      fetch = fetch;
      gets_are = gets_are;
      k = k;
      left = left;
      again = again;
      some = some;
      reply = reply;
      long = long;
      handle = handle;
      handle_small = small;
      low = low;
      waits = waits;
      body_is = gives;
      made = get_made (get_acts (AddsThere (Clear tag get_turn d)));
      pending = pending_next q r size n fetch reply long handle k small ((stages.within p same_key asker server summary h0 d0 x rid can) more k reply long left some) g d get_under get_phase pending;
      took = record { kept = record { tag = tag; message = get_chunk handle k; reply = get_turn.reply }; is = refl; message = refl };
    })

    pub get_served : GetServed (clear_does r g tag (get_chunk handle k) d)
    get_served = subst GetServed (sym get_does) (get_served_by (k + 1 == count) refl)
