-- A connect takes three rounds, and one for each further chunk where NEGOTIATE_ALGORITHMS or ALGORITHMS is sent in
-- chunks; it leaves two quiet ends.
use Rattle.std.proofs.Common.{◌≡◌, ◌⊎◌, ◌∙◌, ℕ, suc, ◌≤◌, List, ◌∷◌, ◌++◌, length, Bool, false, Some, refl, sym, ap, subst, inl, inr, arith}
use Rattle.std.proofs.lemmas.Bool.{false≢true}
use Rattle.std.specs.Prelude.{if◌then◌else◌}
use Rattle.chunking.specs.Cutting.{nth_chunk}
use Rattle.negotiate.specs.declared.shared.Common.{Common}
use Rattle.spdm_grammar.specs.Message.{ChunkMessage, OfferMessage}
use Rattle.spdm_grammar.specs.Message.RequestMessage.{GetVersion, GetCapabilities, NegotiateAlgorithms}
use Rattle.spdm_grammar.specs.declared.messages.choice.Choice.{Choice}
use Rattle.spdm_grammar.specs.declared.told.event.Event.{Event}
use Rattle.spdm_grammar.specs.declared.told.event.Event.TheVariants as event
use Rattle.spdm_grammar.specs.declared.told.event.Finished.TheVariants as finished
use Rattle.spdm_machine.specs.Bodies.{clear_body}
use Rattle.spdm_machine.specs.Keys.{Draw}
use Rattle.spdm_machine.specs.TagLog.{Log}
use Rattle.spdm_machine.specs.Terms.{no_negotiation}
use Rattle.spdm_machine.proofs.Members.{some_same}
use Rattle.requester_machine.specs.History as asked
use Rattle.requester_machine.specs.History.Entry.{Told as WasTold}
use Rattle.requester_machine.specs.Message.Command.{Connect}
use Rattle.requester_machine.specs.Message.Content.{Clear}
use Rattle.requester_machine.specs.Requesting as asking
use Rattle.requester_machine.specs.Requesting.{Requesting}
use Rattle.requester_machine.specs.RequesterLog as asked_log
use Rattle.requester_machine.specs.Sending.{piece_of, piece_sent, plain_sent, request_sent}
use Rattle.requester_machine.specs.Session as steps
use Rattle.requester_machine.specs.Setup.{ReqSetup, requester_caps}
use Rattle.requester_machine.specs.Does as asking_does
use Rattle.requester_machine.specs.Does.{requester_asks, requester_hears}
use Rattle.requester_machine.specs.Asking.{asks}
use Rattle.requester_machine.specs.Asking.Outcome.{Adds}
use Rattle.requester_machine.specs.Commands.{command_fault}
use Rattle.responder_machine.specs.History as served
use Rattle.responder_machine.specs.Responding.{Connection}
use Rattle.responder_machine.specs.Setup.{RspSetup}
use Rattle.spdm_agreement.proofs.Worlds.AllEvents.{requester_in}
use Rattle.world_machine.specs.Chance.{NoChance}
use Rattle.world_machine.specs.Happenings.{Entry}
use Rattle.world_machine.specs.Happenings.Happening.{Told}
use Rattle.world_machine.specs.Setup.{WorldSetup}
use Rattle.world_machine.specs.Trace.{lines_from, world_after, world_from}
use Rattle.spdm_progress.specs.Connecting.{CanConnect, IsConnected}
use Rattle.spdm_machine.proofs.Settling.{algorithms_keep}
use Rattle.spdm_machine.specs.Packets.{wear_limit}
use Rattle.spdm_machine.specs.Terms.{terms_of}
use Rattle.transcript.specs.Transcripts.{Negotiation}
use Rattle.world_machine.specs.World.{World}
use Rattle.spdm_progress.specs.Honest.{AreHonest, HaveNoCommand}
use Rattle.spdm_progress.specs.InStep.{AreQuiet}
use Rattle.spdm_progress.specs.Scripts.{ConnectsQuietly}
use Rattle.spdm_progress.specs.SessionCommands.{IsDoneQuietly, IsTold, commanding}
use Rattle.spdm_progress.proofs.AtRequester.{asking as asks_for}
use Rattle.spdm_progress.proofs.AlgorithmsRounds.{AlgorithmsAnswers, AlgorithmsAsks, AlgorithmsDone, algorithms_talk, answers_short, asks_short, few_rounds, rounds_of, some_pieces}
use Rattle.spdm_progress.proofs.ClearSend.{send_chunk, sending, transfer_there}
use Rattle.spdm_progress.proofs.SentAlgorithms.{HasPieces, Sends}
use Rattle.spdm_progress.proofs.ClearRounds.{ClearWay, way_heard, way_leads, way_sent, way_served, way_still}
use Rattle.spdm_progress.proofs.PacketSteps.{Pair, asker, server}
use Rattle.spdm_progress.proofs.SessionBegins.{told_view}
use Rattle.spdm_progress.proofs.RequesterStages.{Asks as AsksRequest, asks_version, capabilities_sends, handle_few, next_small, told_connect, version_heard}
use Rattle.spdm_progress.proofs.ResponderBegins.{awaits_on, awaits_version, stands_on}
use Rattle.spdm_progress.proofs.ResponderStages.{AwaitsVersion, HasCapabilities, HasVersion, capabilities, capabilities_answered, first_pair, get_capabilities, get_version, negotiate_algorithms, two_pairs, version, version_answered}
use Rattle.spdm_progress.proofs.SessionCompletes.{AreFew, Idle, Rests, completes_within, fresh, no_chance_from, placed, runs, times_each}
use Rattle.spdm_progress.proofs.SetUps.{AsksByChunks, AsksWhole, CanMeet, can_meet, common_for}
use Rattle.spdm_progress.proofs.Talk.{AreShort, IsTalk, Stage}
use Rattle.spdm_progress.proofs.Aside.{IsAside, nothing_aside}
use Rattle.spdm_progress.proofs.Told.{ArePlaced, contained, fits_always, pair_of}
use Rattle.spdm_progress.proofs.TwoRounds.{Answers, Asks, IsFirst, LeadsTo, OneStage, two_talk}

module _ (p : Pair) (offer : OfferMessage) (choice : Choice) (can : CanMeet p.requester p.responder offer choice) where
  abbrev q : ReqSetup
  q = p.requester

  abbrev r : RspSetup
  r = p.responder

  abbrev told : Event
  told = event.Done finished.Connected

  -- How many rounds follow that of NEGOTIATE_ALGORITHMS.
  abbrev pub rounds : ℕ
  rounds = rounds_of p offer choice can can.way

  -- ---- The first rounds.

  abbrev AsksVersion : ℕ → asked.History → Type 0
  AsksVersion tag h = AsksRequest q tag GetVersion get_version no_negotiation h

  abbrev AsksCapabilities : ℕ → asked.History → Type 0
  AsksCapabilities tag h = AsksRequest q tag (GetCapabilities (requester_caps q)) (get_capabilities q) first_pair h

  abbrev AsksAlgorithms : ℕ → asked.History → Type 0
  AsksAlgorithms tag h = AsksRequest q tag (NegotiateAlgorithms offer) (negotiate_algorithms offer) (two_pairs q r) h

  abbrev Capable : served.History → Type 0
  Capable g = HasCapabilities q r g

  abbrev VersionAsked : OneStage
  VersionAsked = ClearWay p get_version AsksVersion AwaitsVersion

  abbrev VersionAnswered : OneStage
  VersionAnswered = ClearWay p version AsksVersion HasVersion

  abbrev CapabilitiesAsked : OneStage
  CapabilitiesAsked = ClearWay p (get_capabilities q) AsksCapabilities HasVersion

  abbrev CapabilitiesAnswered : OneStage
  CapabilitiesAnswered = ClearWay p (capabilities r) AsksCapabilities Capable

  abbrev AlgorithmsAsked : Stage
  AlgorithmsAsked = AlgorithmsAsks p offer choice can

  abbrev AlgorithmsAnswered : Stage
  AlgorithmsAnswered = AlgorithmsAnswers p offer choice can

  abbrev ConnectDone : Log → asked.History → served.History → Type 0
  ConnectDone = AlgorithmsDone p offer choice can

  -- The offer follows, whole or in chunks.
  after_capabilities : (tag : ℕ) (body : List ℕ) (log : Log) (h : asked.History) (g : served.History) (d : Draw) → CapabilitiesAnswered tag body log h g → (way : AsksWhole q r offer ⊎ AsksByChunks q r offer) → can.way ≡ way
      → LeadsTo (AlgorithmsAsked rounds) (requester_hears q h false tag body d) (asked_log.acts_of q h body (requester_hears q h false tag body d) ++ log) h g
  after_capabilities tag body log h g d y (inl whole) is =
      let common = common_for q r in
      let sent = plain_sent h (NegotiateAlgorithms offer) in
      let goes : request_sent common h (NegotiateAlgorithms offer) ≡ sent = ap (λ (b : Bool). if b then piece_sent common h (NegotiateAlgorithms offer) (asked.next_handle h) 0 else sent) whole.whole in
      let on = way_leads p (capabilities r) (negotiate_algorithms offer) AsksCapabilities AsksAlgorithms Capable event.Progress tag body log h g d sent (next_small h, refl)
      (capabilities_sends q r h tag d offer common sent (AsksAlgorithms (asked.next_tag h)) can.requester_room can.their_caps can.offers goes y.asks (λ k waits under. record { waits = waits; negotiation = under; small = next_small h })) y in
      record { next = on.next; sends = on.sends; asks = inl (record { way = whole; more_is = ap (rounds_of p offer choice can) is; is = on.asks }) }
  after_capabilities tag body log h g d y (inr chunks) is =
      let common = common_for q r in
      let v = NegotiateAlgorithms offer in
      let handle = asked.next_handle h in
      let sent = piece_sent common h v handle 0 in
      let goes : request_sent common h v ≡ sent = ap (λ (b : Bool). if b then sent else plain_sent h v) chunks.split in
      let same : piece_of common v handle 0 ≡ nth_chunk (transfer_there (two_pairs q r)) handle (negotiate_algorithms offer) 0 = ap (λ (c : Common). nth_chunk c.to_responder.transfer handle (negotiate_algorithms offer) 0) (sym can.common_is) in
      let small = handle_few h in
      let first = nth_chunk (transfer_there (two_pairs q r)) handle (negotiate_algorithms offer) 0 in
      let some = some_pieces p offer choice can chunks in
      let on = way_leads p (capabilities r) (send_chunk first) AsksCapabilities (Sends q r offer chunks.send handle small 0) (HasPieces q r offer chunks.send handle small 0 (get_capabilities q)) event.Progress tag body log h g d sent
      (next_small h, ap (λ (c : ChunkMessage). clear_body (send_chunk c)) same)
      (capabilities_sends q r h tag d offer common sent (Sends q r offer chunks.send handle small 0 (asked.next_tag h)) can.requester_room can.their_caps can.offers goes y.asks
      (λ k waits under. record { waits = waits ∙ ap (λ (c : ChunkMessage). Some (sending v (asked.next_tag h) handle 0 c)) same; negotiation = under; small_tag = next_small h }))
      (record { small = y.small; body_is = y.body_is; asks = y.asks; serves = record { stands = y.serves; held = tt }; made = y.made; made_there = y.made_there; bare = y.bare }) in
      record {
        next = on.next;
        sends = on.sends;
        asks = inr (inl (record {
          way = chunks;
          handle = handle;
          small = small;
          j = 0;
          left = (let all = ap (rounds_of p offer choice can) is in omega (arith, all, some));
          within = some;
          last = get_capabilities q;
          other = refl;
          is = on.asks;
        }));
      }

  second : IsFirst p CapabilitiesAsked CapabilitiesAnswered (AlgorithmsAsked rounds)
  second = record {
    asks_sent = way_sent p (get_capabilities q) AsksCapabilities HasVersion (omega arith);
    answers_sent = way_sent p (capabilities r) AsksCapabilities Capable (omega arith);
    serves = way_served p (get_capabilities q) (capabilities r) AsksCapabilities HasVersion Capable
        (λ tag g d drawn made has. capabilities_answered q r g tag d (common_for q r) can.responder_room can.own_caps can.together has);
    hears = λ tag body log h g d chance y. after_capabilities tag body log h g d y can.way refl;
    asks_still = way_still p (get_capabilities q) AsksCapabilities HasVersion (stands_on _ _ _);
    answers_still = way_still p (capabilities r) AsksCapabilities Capable (stands_on _ _ _);
  }

  abbrev SecondAsks : Stage
  SecondAsks = Asks p rounds CapabilitiesAsked CapabilitiesAnswered AlgorithmsAsked AlgorithmsAnswered ConnectDone told

  abbrev SecondAnswers : Stage
  SecondAnswers = Answers p rounds CapabilitiesAsked CapabilitiesAnswered AlgorithmsAsked AlgorithmsAnswered ConnectDone told

  first_round : IsFirst p VersionAsked VersionAnswered (SecondAsks (suc rounds))
  first_round = record {
    asks_sent = way_sent p get_version AsksVersion AwaitsVersion (omega arith);
    answers_sent = way_sent p version AsksVersion HasVersion (omega arith);
    serves = way_served p get_version version AsksVersion AwaitsVersion HasVersion (λ tag g d drawn made awaits. version_answered r g tag d can.responder_room awaits);
    hears = λ tag body log h g d chance y.
        let on = way_heard p version (get_capabilities q) AsksVersion AsksCapabilities HasVersion event.Progress (λ k. asks_for (asked.next_tag k) (Clear (get_capabilities q)) (GetCapabilities (requester_caps q))) (λ k. (next_small k, refl))
        (λ t k e asks. version_heard q k t e can.requester_room asks) tag body log h g d chance y in
        record { next = on.next; sends = on.sends; asks = inl (refl, on.asks) };
    asks_still = way_still p get_version AsksVersion AwaitsVersion awaits_on;
    answers_still = way_still p version AsksVersion HasVersion (stands_on _ _ _);
  }

  abbrev ConnectAsks : Stage
  ConnectAsks = Asks p (suc rounds) VersionAsked VersionAnswered SecondAsks SecondAnswers ConnectDone told

  abbrev ConnectAnswers : Stage
  ConnectAnswers = Answers p (suc rounds) VersionAsked VersionAnswered SecondAsks SecondAnswers ConnectDone told

  connect_talk : IsTalk p ConnectAsks ConnectAnswers ConnectDone told
  connect_talk = two_talk p (suc rounds) VersionAsked VersionAnswered SecondAsks SecondAnswers ConnectDone told first_round
      (two_talk p rounds CapabilitiesAsked CapabilitiesAnswered AlgorithmsAsked AlgorithmsAnswered ConnectDone told second (algorithms_talk p offer choice can))

  -- ---- Each message goes in one packet.

  body_size : (message body : List ℕ) → body ≡ clear_body message → length message ≤ 63 → length body ≤ 64
  body_size message body is few = subst (λ (l : List ℕ). length l ≤ 64) (sym is) (omega (arith, few))

  connect_short : AreShort (λ more. 1) (λ more. 1) ConnectAsks ConnectAnswers
  connect_short = record { asks = asks_few; answers = answers_few }
    where
      asks_few : (more tag : ℕ) (body : List ℕ) (log : Log) (h : asked.History) (g : served.History) → ConnectAsks more tag body log h g → length body ≤ 64
      asks_few more tag body log h g (inl y) = body_size get_version body y.1.body_is (omega arith)
      asks_few more tag body log h g (inr (inl y)) = body_size (get_capabilities q) body y.1.body_is (omega arith)
      asks_few more tag body log h g (inr (inr y)) = asks_short p offer choice can more tag body log h g y

      answers_few : (more tag : ℕ) (body : List ℕ) (log : Log) (h : asked.History) (g : served.History) → ConnectAnswers more tag body log h g → length body ≤ 64
      answers_few more tag body log h g (inl y) = body_size version body y.1.body_is (omega arith)
      answers_few more tag body log h g (inr (inl y)) = body_size (capabilities r) body y.1.body_is (omega arith)
      answers_few more tag body log h g (inr (inr y)) = answers_short p offer choice can more tag body log h g y

  connect_few : AreFew (λ more. 1) (λ more. 1) (suc (suc rounds))
  connect_few =
      let all = times_each 1 (suc (suc (suc rounds))) in
      let few = few_rounds p offer choice can can.way in
      (omega (arith, few, all), omega (arith, few, all), omega (arith, few, all))

  -- ---- Quiet ends.

  connected_quiet : (log : Log) (h : asked.History) (g : served.History) → ConnectDone log h g → (id : ℕ) → AreQuiet q r p.first log h g × (steps.is_live (steps.session_of id h) ≡ false)
  connected_quiet log h g z id = (
    record {
      made = z.made;
      made_there = z.made_there;
      none = z.asks.none;
      phase = z.asks.phase ∙ sym z.serves.stands.phase_is;
      negotiation = z.asks.negotiation ∙ sym z.serves.stands.negotiation;
      earlier = record {
        kept = λ k is x d fits sound context whole above below same.
            z.serves.other x (sym z.serves.stands.last.message ∙ ap (λ (o : served.Kept). o.message) (some_same z.serves.stands.last.kept k (sym z.serves.stands.last.is ∙ is)) ∙ same);
      };
      sessions = λ j live. absurd (false≢true (sym (z.bare j) ∙ live));
      apart = λ i j differ live_i live_j. absurd (false≢true (sym (z.bare i) ∙ live_i));
    },
    z.bare id,
  )

-- ---- The command.

module _ (w : WorldSetup) (before : List Entry) (n : ℕ) (a : Requesting) (c : Connection) (is_told : IsTold w before n a c) (can : CanConnect a c) (line : ℕ) (behind : List Entry) (none : HaveNoCommand behind)
    (honest : AreHonest (commanding (world_after w before) line n Connect) behind) (still : Rests n (commanding (world_after w before) line n Connect) behind)
    (chance : NoChance (world_from (commanding (world_after w before) line n Connect) behind).log)
    (Aside : World → Type 0) (aside : IsAside (pair_of n a c) Aside) (beside : Aside (world_after w before)) where
  here : ArePlaced (world_after w before) n a c
  here = placed w before n a c Connect is_told line behind none honest still chance Aside aside beside

  abbrev pair : Pair
  pair = pair_of n a c

  talks : CanMeet pair.requester pair.responder can.offer can.choice
  talks = can_meet a.setup c.setup can.offer can.choice here.requester here.responder can.offered can.chosen can.request_goes can.answer_goes

  asks_connect : requester_asks false a.setup a.history Connect (asking.next_draw a) ≡ Adds (WasTold Connect (plain_sent a.history GetVersion) (asking.next_draw a))
  unfolding asks command_fault
  asks_connect = refl

  made : asking_does.IsMade a.setup a.history
  made = ((fits_always w is_told.configured before (no_chance_from (world_after w before) (record { line = line; happening = Told n Connect } ∷ behind) chance)).asks a (requester_in n (world_after w before) a is_told.is_requester)).made

  all_fits : wear_limit ≤ wear_limit
  all_fits = omega arith

  -- GET_VERSION is on its way.
  first_asked : ConnectAsks pair can.offer can.choice talks (suc (suc (rounds pair can.offer can.choice talks))) (asked.next_tag a.history) (clear_body get_version) (told_view (world_after w before) a c Connect (plain_sent a.history GetVersion)).log (told_view (world_after w before) a c Connect (plain_sent a.history GetVersion)).asked c.history
  unfolding steps.session_of
  first_asked = inl (
    refl,
    record {
      small = next_small a.history;
      body_is = refl;
      asks = asks_version a.setup a.history (asking.next_draw a);
      serves = awaits_version c.setup c.history here.responder here.made;
      made = (asks_connect, made);
      made_there = here.made;
      bare = λ j. refl;
    },
  )

  pub connected : (id : ℕ) → IsDoneQuietly n a.setup c.setup finished.Connected id false (world_from (commanding (world_after w before) line n Connect) behind) (lines_from (commanding (world_after w before) line n Connect) behind)
      × Idle (world_after w before) n a Aside (world_from (commanding (world_after w before) line n Connect) behind)
  unfolding steps.session_of
  connected id =
      completes_within w before n a c Connect is_told line behind none honest still chance Aside aside beside (ConnectAsks pair can.offer can.choice talks) (ConnectAnswers pair can.offer can.choice talks) (ConnectDone pair can.offer can.choice talks) finished.Connected id false
      (λ log h g z. connected_quiet pair can.offer can.choice talks log h g z id) (connect_talk pair can.offer can.choice talks) (λ more. 1) (λ more. 1) (connect_short pair can.offer can.choice talks) (suc (suc (rounds pair can.offer can.choice talks))) (connect_few pair can.offer can.choice talks) (plain_sent a.history GetVersion) (told_connect a (fresh w before n a c Connect is_told line behind none honest still chance Aside aside beside))
      first_asked

  -- What both ends hold then.
  pub settled : IsConnected n a.setup c.setup can.choice (world_from (commanding (world_after w before) line n Connect) behind) (lines_from (commanding (world_after w before) line n Connect) behind)
  unfolding steps.session_of
  settled =
      let q = a.setup in
      let r = c.setup in
      let e = runs w before n a c Connect is_told line behind none honest still chance Aside aside beside wear_limit all_fits is_told.life.requester is_told.life.responder (ConnectAsks pair can.offer can.choice talks) (ConnectAnswers pair can.offer can.choice talks) (ConnectDone pair can.offer can.choice talks) finished.Connected
      (connect_talk pair can.offer can.choice talks) (λ more. 1) (λ more. 1) (connect_short pair can.offer can.choice talks) (suc (suc (rounds pair can.offer can.choice talks))) (connect_few pair can.offer can.choice talks) (plain_sent a.history GetVersion) (told_connect a (fresh w before n a c Connect is_told line behind none honest still chance Aside aside beside))
      first_asked in
      let z = e.0.done in
      let h = e.0.view.asked in
      let g = e.0.view.served in
      record {
        told = contained (lines_from (commanding (world_after w before) line n Connect) behind) _ e.1;
        requester = asker pair e.0.view.given e.0.view.commands h;
        is_requester = e.0.shows.is_requester;
        connection = server pair g;
        is_connection = e.0.shows.is_connection;
        requester_setup = refl;
        responder_setup = refl;
        none = z.asks.none;
        requester_phase = z.asks.phase;
        responder_phase = z.serves.stands.phase_is;
        same = z.asks.negotiation ∙ sym z.serves.stands.negotiation;
        chosen = ap (λ (x : Negotiation). (terms_of x).choice) z.asks.negotiation ∙ talks.choice_is;
        common = ap (λ (x : Negotiation). (terms_of x).common) z.asks.negotiation ∙ algorithms_keep (two_pairs q r) _ _ ∙ talks.common_is;
      }

pub connects_quietly : ConnectsQuietly
connects_quietly w before n a c told can = (
  λ id line behind none honest still chance. (connected w before n a c told can line behind none honest (inl still) chance (λ later. Unit {0}) (nothing_aside (pair_of n a c)) tt id).0,
  λ line behind none honest still chance. settled w before n a c told can line behind none honest (inl still) chance (λ later. Unit {0}) (nothing_aside (pair_of n a c)) tt,
)
