-- An open that is told to a quiet requester ends with an open session.
use Rattle.std.proofs.Common.{◌≡◌, ◌≢◌, ◌∙◌, ℕ, nat_le, nat_lt, ◌<◌, ◌≤◌, ◌+◌, ◌-◌, ◌^◌, ◌==◌, ◌&&◌, ◌||◌, List, [], ◌∷◌, length, Bool, true, false, not, None, refl, sym, ap, subst, inl, inr, arith, eq-eqb}
use Rattle.spdm_basis.proofs.Bools.{lt_false}
use Rattle.std.proofs.lemmas.Bool.{false≢true, leb-false, leb-true, lt-ltb, ltb-false, not-false}
use Rattle.negotiate.specs.declared.shared.Common.{Common}
use Rattle.negotiate.specs.declared.shared.Sizes.{Sizes}
use Rattle.spdm_basis.specs.Sizes.{hash_size}
use Rattle.spdm_grammar.specs.Message.{ExchangeMessage}
use Rattle.spdm_grammar.specs.Message.RequestMessage.{PskExchange}
use Rattle.spdm_grammar.specs.Requests.{canonical_request}
use Rattle.spdm_grammar.specs.declared.told.event.Finished.TheVariants as finished
use Rattle.spdm_grammar.specs.declared.told.phase.Phase.TheVariants.{Negotiated}
use Rattle.spdm_machine.specs.Keys.{Draw, context_of}
use Rattle.spdm_machine.specs.Terms.{terms_of}
use Rattle.transcript.specs.Transcripts.{Negotiation}
use Rattle.requester_machine.proofs.Choosing.{context-length, free_id-free, free_id-in_range}
use Rattle.requester_machine.proofs.Entries.{test_at, test_is_false}
use Rattle.requester_machine.proofs.HoldsMade.{sizes}
use Rattle.requester_machine.proofs.HoldsTold.{connected}
use Rattle.requester_machine.specs.Asking.Outcome.{Adds}
use Rattle.requester_machine.specs.Commands.{Free, command_fault, command_tests, live_count}
use Rattle.requester_machine.specs.Does.{chosen, command_chosen, free_id, requester_asks}
use Rattle.requester_machine.specs.History as asked
use Rattle.requester_machine.specs.History.Entry.{Told as WasTold}
use Rattle.requester_machine.specs.Message.Command.{Open}
use Rattle.requester_machine.specs.Requesting as asking
use Rattle.requester_machine.specs.Requesting.{Requesting, commanded_by, requester_told}
use Rattle.requester_machine.specs.Message.{Sent, body_of}
use Rattle.requester_machine.specs.Sending.{plain_sent, request_sent}
use Rattle.requester_machine.specs.RequesterLog as asked_log
use Rattle.requester_machine.specs.Session as steps
use Rattle.requester_machine.specs.UnderWay.{IsCommon, is_capable}
use Rattle.responder_machine.proofs.Ids.{not_four}
use Rattle.responder_machine.proofs.Sizes.{sizes_set_up}
use Rattle.responder_machine.specs.History as served
use Rattle.responder_machine.specs.Place as serving
use Rattle.responder_machine.specs.Refusal.{sizes_are_known}
use Rattle.responder_machine.specs.Responding.{Connection}
use Rattle.spdm_agreement.proofs.Worlds.AllEvents.{requester_in}
use Rattle.spdm_agreement.proofs.Worlds.Happens.{draw_length}
use Rattle.world_machine.specs.Chance.{NoChance}
use Rattle.world_machine.specs.Happenings.{Entry}
use Rattle.world_machine.specs.Happenings.Happening.{Told}
use Rattle.world_machine.specs.Setup.{WorldSetup}
use Rattle.world_machine.specs.Trace.{lines_from, world_after, world_from}
use Rattle.world_machine.specs.World.{World}
use Rattle.spdm_machine.specs.TagLog.{Log}
use Rattle.spdm_progress.specs.InStep.{AreQuiet}
use Rattle.spdm_progress.specs.Fitting.{CanGo}
use Rattle.spdm_progress.specs.Honest.{AreHonest, HaveNoCommand}
use Rattle.spdm_progress.specs.Opening.{CanOpen, OpenCompletes, exchange_rsp_size}
use Rattle.spdm_progress.specs.SessionCommands.{IsDoneQuietly, IsToldQuietly, commanding}
use Rattle.spdm_progress.proofs.Accepted.{told_so}
use Rattle.spdm_progress.proofs.OpenRounds.{OpenDone, OpenTalkAnswers, OpenTalkAsks, open_talk}
use Rattle.spdm_progress.proofs.ChosenHash.{has_room}
use Rattle.spdm_progress.proofs.ChunkCounts.{some_of}
use Rattle.spdm_progress.proofs.ClearSend.{transfer_there}
use Rattle.spdm_progress.proofs.FirstAgain.{first_right}
use Rattle.spdm_progress.proofs.OpenServed.{ready_at}
use Rattle.spdm_progress.proofs.OpenStages.{AnswerGoes, CanExchange, Way, exchange_sent, outstanding_first, rounds_of, sent_first, sent_plain}
use Rattle.spdm_progress.proofs.RecordRounds.{quiet_longer}
use Rattle.spdm_progress.proofs.SessionBegins.{told_view}
use Rattle.spdm_progress.proofs.RequesterStages.{handle_few, next_small}
use Rattle.spdm_progress.proofs.OpenCounts.{each_by, open_few, open_short, there_by}
use Rattle.spdm_progress.proofs.PacketSteps.{Pair}
use Rattle.spdm_progress.proofs.SessionCompletes.{Idle, Rests, completes_within, fresh, no_chance_from, placed}
use Rattle.spdm_progress.proofs.Aside.{IsAside, nothing_aside}
use Rattle.spdm_progress.proofs.Told.{ArePlaced, fits_always, pair_of}
use Rattle.requester_machine.proofs.Telling.{fresh_told}

-- The next unused draw has 32 bytes.
draws_next : (a : Requesting) → length (asking.next_draw a).bytes ≡ 32
unfolding asking.next_draw
draws_next a = draw_length a.seed (a.first + asked.draws_of a.setup a.history)

-- Where a summary that is asked for needs measurements, it needs that they were chosen.
needs_choice : (none common chosen : Bool) → (not none && not (common && chosen)) ≡ false → (not none && not chosen) ≡ false
needs_choice true common chosen fine = refl
needs_choice false true chosen fine = fine
needs_choice false false true fine = refl
needs_choice false false false fine = fine

not_long : (over chunk more : Bool) → (over || (not chunk && more)) ≡ false → (over ≡ false) × (chunk ≡ false → more ≡ false)
not_long true chunk more is = absurd (false≢true (sym is))
not_long false true more is = (refl, λ none. absurd (false≢true (sym none)))
not_long false false more is = (refl, λ none. is)

module _ (w : WorldSetup) (before : List Entry) (n : ℕ) (a : Requesting) (c : Connection) (summary : ℕ) (is_told : IsToldQuietly w before n a c (Open summary)) (can : CanOpen a c summary) (line : ℕ) (behind : List Entry) (none : HaveNoCommand behind)
    (honest : AreHonest (commanding (world_after w before) line n (Open summary)) behind) (still : Rests n (commanding (world_after w before) line n (Open summary)) behind)
    (chance : NoChance (world_from (commanding (world_after w before) line n (Open summary)) behind).log)
    (Aside : World → Type 0) (aside : IsAside (pair_of n a c) Aside) (beside : Aside (world_after w before)) where
  abbrev d : Draw
  d = asking.next_draw a

  abbrev f : Free
  f = command_chosen a.setup a.history d

  abbrev x : ExchangeMessage
  x = record { summary = summary; req_id = f.id; hint = a.setup.hint; context = f.context; opaque = f.opaque }

  abbrev p : Pair
  p = pair_of n a c

  here : ArePlaced (world_after w before) n a c
  here = placed w before n a c (Open summary) is_told.now line behind none honest still chance Aside aside beside

  accepted : (command_fault false a.setup a.history (Open summary) f ≡ None) × (requester_asks false a.setup a.history (Open summary) d ≡ Adds (WasTold (Open summary) (request_sent (asked.connection_terms a.history).common a.history (PskExchange x)) d))
  accepted = told_so a (Open summary) (fresh w before n a c (Open summary) is_told.now line behind none honest still chance Aside aside beside) is_told.accepted

  passed : (k : ℕ) → test_at k (command_tests a.setup a.history (Open summary) f) ≡ false
  passed k = test_is_false false a.setup a.history (Open summary) f accepted.0 k

  phase : asked.phase_of a.history ≡ Negotiated
  phase = connected a.setup a.history (Open summary) f accepted.0 refl

  own_id : f.id ≡ free_id a.history
  unfolding chosen
  own_id = refl

  context_long : length f.context ≡ hash_size (asked.connection_terms a.history).choice.hash
  unfolding chosen
  context_long = context-length (asked.connection_terms a.history).choice.hash d (draws_next a)

  own_opaque : f.opaque ≡ a.setup.opaque
  unfolding chosen
  own_opaque = refl

  their_sizes : (asked.connection_terms a.history).common.to_responder ≡ record { transfer = c.setup.transfer; max = c.setup.max }
  their_sizes =
      let known : sizes_are_known (served.phase_of (served.clear_turns c.history)) ≡ true = ap sizes_are_known (sym is_told.quiet.phase ∙ phase) in
      let s = sizes_set_up c.setup c.history is_told.quiet.made_there here.responder.sizes.ordered here.responder.sizes.most known in
      ap (λ (k : Negotiation). (terms_of k).common.to_responder) is_told.quiet.negotiation ∙ s.own

  there : (asked.connection_terms a.history).common.to_responder.transfer ≡ c.setup.transfer
  there = ap (λ (z : Sizes). z.transfer) their_sizes

  there_max : (asked.connection_terms a.history).common.to_responder.max ≡ c.setup.max
  there_max = ap (λ (z : Sizes). z.max) their_sizes

  own_sizes : IsCommon a.setup (asked.connection_terms a.history).common
  own_sizes =
      let most = here.requester.sizes.most in
      let ordered = here.requester.sizes.ordered in
      sizes a.setup a.history (record { transfer = omega arith; max = most }) is_told.quiet.made (ap is_capable phase)

  abbrev answer_size : ℕ
  answer_size = exchange_rsp_size c.setup (asked.connection_terms a.history) summary

  abbrev n_now : Negotiation
  n_now = asked.negotiation_of a.history

  abbrev common : Common
  common = (asked.connection_terms a.history).common

  chunks_where : {size limit : ℕ} (b : Bool) → common.chunk ≡ b → (common.chunk ≡ false → size ≤ limit) → limit < size → b ≡ true
  chunks_where true is fits large = refl
  chunks_where false is fits large = (let few = fits is in absurd (omega (arith, few, large)))

  -- The command was not refused as too long.
  request_goes : CanGo common common.to_responder (length (canonical_request (PskExchange x)))
  request_goes =
      let k = not_long (nat_lt common.to_responder.max (length (canonical_request (PskExchange x)))) common.chunk (nat_lt common.to_responder.transfer (length (canonical_request (PskExchange x)))) (passed 8) in
      (ltb-false _ _ k.0, λ none. ltb-false _ _ (k.1 none))

  -- The answer goes whole, or in chunks.
  answer_way : (round : ℕ) → round ≤ 6 → (common.to_requester.transfer < round + answer_size → common.chunk ≡ true) → AnswerGoes round a.setup c.setup n_now answer_size
  answer_way round few chunks = by_size (nat_le (round + answer_size) common.to_requester.transfer) refl
    where
      by_size : (b : Bool) → nat_le (round + answer_size) common.to_requester.transfer ≡ b → AnswerGoes round a.setup c.setup n_now answer_size
      by_size true is = inl (record { fits = leb-true _ _ is; own = subst (λ (k : ℕ). round + answer_size ≤ k) own_sizes.transfer (leb-true _ _ is) })
      by_size false is = inr (record {
        room = here.responder.sizes.least;
        chunk = chunks (leb-false _ _ is);
        large = leb-false _ _ is;
        few = few;
        fits_max = can.answer_goes.0;
        transfer = own_sizes.transfer;
        max = own_sizes.max;
        least = here.requester.sizes.least;
        ordered = here.requester.sizes.ordered;
        most = here.requester.sizes.most;
      })

  -- And so does the request.
  way : Way a.setup c.setup n_now (PskExchange x) answer_size
  way = by_size (nat_le (length (canonical_request (PskExchange x))) common.to_responder.transfer) refl
    where
      by_size : (b : Bool) → nat_le (length (canonical_request (PskExchange x))) common.to_responder.transfer ≡ b → Way a.setup c.setup n_now (PskExchange x) answer_size
      by_size true is = inl (record {
        request_fits = subst (λ (k : ℕ). length (canonical_request (PskExchange x)) ≤ k) there (leb-true _ _ is);
        whole = lt_false _ _ (leb-true _ _ is);
        answer = answer_way 0 (omega arith) (λ large. chunks_where common.chunk refl can.answer_goes.1 (omega (arith, large)));
      })
      by_size false is =
          let more = leb-false _ _ is in
          let chunks = chunks_where common.chunk refl request_goes.1 more in
          let least = here.requester.sizes.least in
          let ordered = here.requester.sizes.ordered in
          let own = own_sizes.transfer in
          let own_max = own_sizes.max in
          inr (record {
            send = record {
              chunk = chunks;
              large = more;
              transfer = there;
              fits = subst (λ (k : ℕ). length (canonical_request (PskExchange x)) ≤ k) there_max request_goes.0;
              least = here.responder.sizes.least;
              most = here.responder.sizes.most;
              room = least;
              room_there = omega (arith, least, own);
              room_max = omega (arith, least, ordered, own_max);
            };
            split = lt-ltb _ _ more;
            answer_max = can.answer_goes.0;
            answer = answer_way 6 (omega arith) (λ large. chunks);
          })

  room : live_count a.history ≢ 4
  room = λ e. false≢true (sym (passed 4) ∙ eq-eqb (live_count a.history) 4 e)

  own_context : f.context ≡ context_of (asked.connection_terms a.history).choice.hash d
  unfolding chosen
  own_context = refl

  own_number : d.number ≡ a.first + asked.draws_of a.setup a.history
  unfolding asking.next_draw
  own_number = refl

  few_draws : d.number < 2 ^ 64
  few_draws =
      let fits = (fits_always w is_told.now.configured before (no_chance_from (world_after w before) (record { line = line; happening = Told n (Open summary) } ∷ behind) chance)).asks a (requester_in n (world_after w before) a is_told.now.is_requester) in
      let draws = fits.draws in
      let wear = fits.wear in
      let life = is_told.now.life.requester in
      omega (arith, own_number)

  finish_room : 4 + hash_size (asked.connection_terms a.history).choice.hash ≤ c.setup.transfer
  finish_room =
      subst (λ (k : Negotiation). 4 + hash_size (terms_of k).choice.hash ≤ c.setup.transfer) (sym is_told.quiet.negotiation)
      (has_room c.setup c.history here.responder.sizes.least is_told.quiet.made_there (sym is_told.quiet.phase ∙ phase))

  ready : CanExchange a.setup c.setup a.first summary a.history d x
  ready = record {
    is_x = refl;
    phase = phase;
    sound = record {
      summary = not-false _ (passed 6);
      req_id = subst (λ (k : ℕ). k ≤ 4) (sym own_id) (free_id-in_range a.history).1;
      hint = here.requester.key.hint_most;
      context = context_long;
      opaque = subst (λ (o : List ℕ). length o ≤ 1024) (sym own_opaque) here.requester.opaque;
    };
    measures = needs_choice (summary == 0) (asked.connection_terms a.history).common.measure (asked.connection_terms a.history).choice.measure (passed 5);
    hint = sym here.hint;
    way = way;
    finish_fits = finish_room;
    asks = accepted.1;
    free = ap (λ (i : ℕ). steps.is_live (steps.session_of i a.history)) own_id ∙ free_id-free a.history room;
    context = own_context;
    drawn = draws_next a;
    number = own_number;
    small = few_draws;
  }

  abbrev rid : ℕ
  rid = serving.free_id c.history

  no_limit : (serving.held_of c.history == 4) ≡ false
  no_limit = not_four (serving.held_of c.history) can.limit

  -- The command sends PSK_EXCHANGE, or its first chunk.
  abbrev told_log : Log
  told_log = (told_view (world_after w before) a c (Open summary) (exchange_sent a.history x)).log

  abbrev told_history : asked.History
  told_history = WasTold (Open summary) (exchange_sent a.history x) d ∷ a.history

  quiet_told : AreQuiet a.setup c.setup a.first told_log a.history c.history
  quiet_told = quiet_longer a.setup c.setup a.first (asked_log.acts_of a.setup a.history [] (Adds (WasTold (Open summary) (exchange_sent a.history x) d))) (world_after w before).log a.history c.history is_told.quiet

  begins : (found : Way a.setup c.setup n_now (PskExchange x) answer_size) → ready.way ≡ found
      → OpenTalkAsks p here.key here.requester here.responder summary a.history d x rid ready (rounds_of p here.key here.requester here.responder summary a.history d x rid ready found) (exchange_sent a.history x).tag (body_of (exchange_sent a.history x).content) told_log told_history c.history
  begins (inl whole) is =
      let sent : exchange_sent a.history x ≡ plain_sent a.history (PskExchange x) = sent_plain p here.key here.requester here.responder summary a.history d x rid ready whole.whole in
      inl (record {
        way = whole;
        way_is = is;
        more_is = refl;
        h_is = refl;
        tag_is = ap (λ (s : Sent). s.tag) sent;
        body_is = ap (λ (s : Sent). body_of s.content) sent;
        quiet = quiet_told;
        id_is = refl;
        limit = no_limit;
      })
  begins (inr chunks) is =
      let handle = asked.next_handle a.history in
      let sent = sent_first p here.key here.requester here.responder summary a.history d x rid ready chunks.split in
      let least = chunks.send.least in
      let transfer_is = chunks.send.transfer in
      inr (inl (record {
        way = chunks;
        way_is = is;
        handle = handle;
        handle_small = handle_few a.history;
        j = 0;
        left = omega arith;
        within = some_of (length (canonical_request (PskExchange x)) + 4) (transfer_there n_now - 12) (omega arith) (omega (arith, least, transfer_is));
        low = subst (λ (t : ℕ). t < 8) (sym (ap (λ (s : Sent). s.tag) sent)) (next_small a.history);
        waits = outstanding_first p here.key here.requester here.responder summary a.history d x rid ready chunks.split;
        body_is = ap (λ (s : Sent). body_of s.content) sent;
        ready = ready_at p here.key here.requester here.responder summary a.history d x rid ready told_log c.history quiet_told refl no_limit;
        kept = first_right a.setup c.setup (PskExchange x) n_now chunks.send handle (handle_few a.history) c.history is_told.quiet.made_there;
        held = tt;
      }))

  abbrev Result : ℕ → Type 0
  Result id = IsDoneQuietly n a.setup c.setup (finished.Opened (record { req = id; rsp = rid })) id true (world_from (commanding (world_after w before) line n (Open summary)) behind) (lines_from (commanding (world_after w before) line n (Open summary)) behind)
      × Idle (world_after w before) n a Aside (world_from (commanding (world_after w before) line n (Open summary)) behind)

  done_with : Result f.id
  done_with =
      completes_within w before n a c (Open summary) is_told.now line behind none honest still chance Aside aside beside (OpenTalkAsks p here.key here.requester here.responder summary a.history d x rid ready) (OpenTalkAnswers p here.key here.requester here.responder summary a.history d x rid ready)
      (OpenDone p here.key here.requester here.responder summary a.history d x rid ready) (finished.Opened (record { req = f.id; rsp = rid })) f.id true (λ log h g z. (z.quiet, z.session)) (open_talk p here.key here.requester here.responder summary a.history d x rid ready)
      (there_by p here.key here.requester here.responder summary a.history d x rid ready ready.way) (each_by p here.key here.requester here.responder summary a.history d x rid ready ready.way) (open_short p here.key here.requester here.responder summary a.history d x rid ready)
      (rounds_of p here.key here.requester here.responder summary a.history d x rid ready ready.way) (open_few p here.key here.requester here.responder summary a.history d x rid ready)
      (exchange_sent a.history x) (fresh_told a (Open summary) (fresh w before n a c (Open summary) is_told.now line behind none honest still chance Aside aside beside) ∙ ap (commanded_by a) accepted.1)
      (begins ready.way refl)

  pub opened : Result (free_id a.history)
  opened = subst Result own_id done_with

pub open_completes : OpenCompletes
open_completes w before n a c summary told can line behind none honest still chance = (opened w before n a c summary told can line behind none honest (inl still) chance (λ later. Unit {0}) (nothing_aside (pair_of n a c)) tt).0
