-- Each command that asks something of an open session comes to its result.
use Rattle.std.proofs.Common.{◌≡◌, ◌⊎◌, ◌∙◌, ℕ, zero, suc, ◌<◌, ◌≤◌, ◌+◌, ◌-◌, ◌*◌, nat_le, List, [], ◌∷◌, length, Bool, true, false, Some, None, is_some, refl, sym, ap, subst, inl, inr, arith, append-nil, append_assoc, ◌++◌}
use Rattle.std.proofs.Math.Nat.{min-le_left}
use Rattle.std.proofs.lemmas.Bool.{false≢true, leb-false, leb-true, ltb-false, not-false}
use Rattle.std.specs.Int.{div_ceil}
use Rattle.std.proofs.lemmas.List.{length-take}
use Rattle.spdm_basis.proofs.Bools.{and_second}
use Rattle.spdm_grammar.specs.Lines.{Line}
use Rattle.spdm_grammar.specs.declared.told.event.Event.TheVariants as event
use Rattle.spdm_grammar.specs.declared.told.event.Finished.{Finished}
use Rattle.spdm_grammar.specs.declared.told.event.Finished.TheVariants as finished
use Rattle.spdm_grammar.specs.declared.told.phase.Stage.TheVariants as stage
use Rattle.spdm_machine.specs.Packets.{wear_limit}
use Rattle.spdm_machine.specs.TagLog.{Log}
use Rattle.spdm_grammar.specs.Message.ResponseMessage.{EndSessionAck, HeartbeatAck}
use Rattle.spdm_grammar.specs.Responses.{canonical_response}
use Rattle.spdm_machine.proofs.Members.{IsIn, some_same}
use Rattle.requester_machine.specs.Asking.{done}
use Rattle.requester_machine.specs.Asking.Outcome.{Adds}
use Rattle.requester_machine.specs.Commands.{command_fault, command_tests, session_in}
use Rattle.requester_machine.specs.Does.{chosen, command_chosen, requester_asks}
use Rattle.requester_machine.specs.History as asked
use Rattle.requester_machine.specs.History.Entry.{Told as WasTold}
use Rattle.requester_machine.specs.Message.{Command, Sent, body_of}
use Rattle.requester_machine.specs.Message.Command.{Beat, Connect, End, Measure, Open, Retry, Send, Update}
use Rattle.requester_machine.specs.Order.{stage_for}
use Rattle.requester_machine.specs.Requesting as asking
use Rattle.requester_machine.specs.Requesting.{Requesting, commanded_by, requester_told}
use Rattle.requester_machine.specs.Session as steps
use Rattle.requester_machine.specs.UnderWay.{IsCommon}
use Rattle.spdm_basis.specs.declared.values.session_id.SessionId.{SessionId}
use Rattle.requester_machine.specs.Session.{Steps}
use Rattle.requester_machine.proofs.Entries.{test_at, test_is_false}
use Rattle.requester_machine.proofs.HoldsMade.{session_sizes}
use Rattle.requester_machine.proofs.HoldsTold.{somewhere}
use Rattle.responder_machine.specs.History as served
use Rattle.responder_machine.specs.Responding.{Connection}
use Rattle.responder_machine.specs.Turn.{Turn}
use Rattle.requester_machine.specs.History.Effect.{Grants}
use Rattle.requester_machine.specs.Message.Ask.{AskMeasure}
use Rattle.responder_machine.specs.Session as events
use Rattle.spdm_progress.specs.Measuring.{IsMeasured as IsTaken, measurements_size, number_for}
use Rattle.transcript.specs.Transcripts.{Negotiation}
use Rattle.world_machine.specs.Chance.{NoChance}
use Rattle.world_machine.specs.Happenings.{Entry}
use Rattle.world_machine.specs.Happenings.Happening.{Pump, Told}
use Rattle.world_machine.specs.Setup.{WorldSetup}
use Rattle.world_machine.specs.Trace.{lines_from, world_after, world_from}
use Rattle.world_machine.specs.World.{World, WorldStep, entry_step, happens, pumps, requester_of, told_by}
use Rattle.spdm_progress.specs.Honest.{AreHonest, HaveNoCommand, NothingWaits}
use Rattle.spdm_progress.specs.InStep.{AreQuiet, rsp_id}
use Rattle.spdm_progress.specs.Scripts.{HasNone}
use Rattle.spdm_progress.specs.SessionCommands.{AnswersAreQueued, AnswersWaitFirst, CanAsk, EndedAtBothEnds, IsDoneQuietly, IsGoneThere, IsTold, IsToldQuietly, OnlyWaits, SessionCommandsComplete, TookQueued, commanding, goes_on, most_asked, most_packets, most_served, result_of, session_at}
use Rattle.responder_machine.specs.Does.{first_queued}
use Rattle.responder_machine.specs.History.Entry.{Clear, Dropped, Queued, Sealed, Ticked}
use Rattle.spdm_progress.proofs.AlikeSessions.{is_kept}
use Rattle.spdm_progress.proofs.Accepted.{told_so}
use Rattle.spdm_progress.proofs.Aside.{IsAside, nothing_aside}
use Rattle.spdm_progress.proofs.AskedOnce.{CanBeat, CanMeasure, CanSend, IsData, IsMeasured, IsNamed, IsSpdm, beat_asking, beat_last, data_asking, data_last, end_asking, end_last, measure_asking, measure_last}
use Rattle.spdm_progress.proofs.ManyPackets.{waits_idle}
use Rattle.spdm_progress.proofs.PacketSteps.{Pair, asker, not_worn, server}
use Rattle.spdm_progress.proofs.SessionBegins.{AsksOfSession, asked_now, sends, sent_for, shows_at, shows_told, told_is, told_view}
use Rattle.spdm_progress.proofs.ChunkCounts.{InChunks, in_chunks}
use Rattle.spdm_progress.proofs.LargeAnswers.{GoesLarge}
use Rattle.spdm_progress.proofs.ClearFetch.{transfer_in}
use Rattle.spdm_progress.proofs.SessionLarge.{IsUnder, large_asking}
use Rattle.spdm_progress.proofs.SessionMeasure as by_chunks
use Rattle.responder_machine.specs.Responder.{inner_reply}
use Rattle.spdm_progress.proofs.MeasureStages.{granted_data, granted_record}
use Rattle.spdm_progress.proofs.SessionRounds.{Asking, IsAsked, sealed_length}
use Rattle.spdm_progress.proofs.SingleRound.{AnswersOnce, AsksOnce, IsLast, Quiet, once_talk}
use Rattle.spdm_progress.proofs.Talk as talk
use Rattle.spdm_progress.proofs.Between.{Goes, GoesOn, Ends}
use Rattle.spdm_progress.proofs.StillOut.{AnswersOut, AsksOut, out_short, out_talk}
use Rattle.spdm_progress.proofs.Talk.{AreShort, IsTalk, sum_to, Stage, all_short, begins, begins_with, enough, no_chance_earlier, talk_ends, talk_goes}
use Rattle.spdm_progress.proofs.Told.{ArePlaced, are_placed, contained, pair_of}
use Rattle.spdm_progress.proofs.UpdateRounds.{CanUpdate, UpdateDone, UpdateTalkAnswers, UpdateTalkAsks, update_asking, update_talk}
use Rattle.spdm_progress.proofs.Views.{Shows, View}
use Rattle.requester_machine.proofs.Telling.{fresh_told}

-- Nothing agreed by chance at the beginning of what an honest script says.
pub no_chance_from : (world : World) (entries : List Entry) → NoChance (world_from world entries).log → NoChance world.log
no_chance_from world [] chance = chance
no_chance_from world (entry ∷ entries) chance = no_chance_earlier world entry.happening (no_chance_from (entry_step world entry).after entries chance)

-- ---- A talk that a command begins.

-- A pump of enough packets, and nothing else.
abbrev pub IsLongPump : List Entry → Type 0
IsLongPump behind = (line : ℕ) × (count : ℕ) × (most_packets ≤ count) × (behind ≡ record { line = line; happening = Pump count } ∷ [])

-- So many packets in each round are few enough for each end, and for both.
abbrev pub AreFew : (there each : ℕ → ℕ) → (more : ℕ) → Type 0
AreFew there each more = (sum_to each (suc more) + 1 ≤ most_asked) × (sum_to there (suc more) ≤ most_served) × (sum_to there (suc more) + sum_to each (suc more) ≤ most_packets)

-- The same number in each round.
pub times_each : (each more : ℕ) → sum_to (λ k. each) more ≡ each * more
times_each each zero = omega arith
times_each each (suc more) = (let next = times_each each more in let one : each * suc more ≡ each * more + each = omega arith in omega (arith, next, one))

-- Three rounds of 66 packets each way.
pub three_few : (more : ℕ) → more ≤ 2 → AreFew (λ k. 66) (λ k. 66) more
three_few more few = (let all = times_each 66 (suc more) in (omega (arith, few, all), omega (arith, few, all), omega (arith, few, all)))

pub few_by_chunks : (transfer size : ℕ) (counts : InChunks transfer size) → AreFew (λ more. 1) (λ more. counts.each) (div_ceil (size + 4) (transfer - 12))
few_by_chunks transfer size counts =
    let all = counts.few in
    let rounds = counts.rounds in
    let count = div_ceil (size + 4) (transfer - 12) in
    let here = times_each counts.each (suc count) in
    let there = times_each 1 (suc count) in
    (omega (arith, all, here), omega (arith, rounds, there), omega (arith, rounds, all, here, there))

-- After these entries no packet waits, or no request of requester n is outstanding, or there was a pump long enough.
abbrev pub Rests : ℕ → World → List Entry → Type 0
Rests n world behind = NothingWaits (world_from world behind) ⊎ HasNone n (world_from world behind) ⊎ IsLongPump behind

-- Requester n and the responder took so many packets and commands at most.
abbrev pub HaveTakenAt : ℕ → (most : ℕ) → World → Type 0
HaveTakenAt n most world = ((b : Requesting) → requester_of n world ≡ Some b → length b.given + b.commands ≤ most) × (length world.responder.given ≤ most)

-- Each takes no more than a command leads to.
abbrev pub TakeFew : World → ℕ → Requesting → World → Type 0
TakeFew world n a later = (most : ℕ) → most ≤ wear_limit → length a.given + a.commands + most_asked ≤ most → length world.responder.given + most_served ≤ most → HaveTakenAt n most later

-- No packet waits, what stands aside holds, and few packets were taken.
pub record Idle (world : World) (n : ℕ) (a : Requesting) (Aside : World → Type 0) (later : World) : Type 0 where
  pub idle : NothingWaits later
  pub aside : Aside later
  pub takes : TakeFew world n a later

module _ (w : WorldSetup) (before : List Entry) (n : ℕ) (a : Requesting) (c : Connection) (command : Command) (is_told : IsTold w before n a c) (line : ℕ) (behind : List Entry) (none : HaveNoCommand behind)
    (honest : AreHonest (commanding (world_after w before) line n command) behind) (still : Rests n (commanding (world_after w before) line n command) behind) (chance : NoChance (world_from (commanding (world_after w before) line n command) behind).log)
    (Aside : World → Type 0) (aside : IsAside (pair_of n a c) Aside) (beside : Aside (world_after w before)) where
  abbrev world : World
  world = world_after w before

  chance_now : NoChance world.log
  chance_now = no_chance_from world (record { line = line; happening = Told n command } ∷ behind) chance

  pub placed : ArePlaced world n a c
  placed = are_placed w before n a c is_told.configured chance_now is_told.is_requester is_told.is_connection

  pub one_key : a.setup.psk ≡ c.setup.psk
  one_key = placed.key

  pub fresh : asking.is_worn a ≡ false
  fresh = (let life = is_told.life.requester in not_worn (length a.given + a.commands) wear_limit (omega arith))

  abbrev p : Pair
  p = pair_of n a c

  finished_so : (result : Finished) (id : ℕ) (left : Bool) (later : World) (lines : List Line) → (v : View) → Shows p Aside v [] later → AreQuiet a.setup c.setup a.first v.log v.asked v.served → steps.is_live (steps.session_of id v.asked) ≡ left → IsIn lines (Line.ToRequester n (event.Done result)) → TakeFew world n a later
      → IsDoneQuietly n a.setup c.setup result id left later lines × Idle world n a Aside later
  finished_so result id left later lines v s quiet live told takes = (
    record {
      told = contained lines _ told;
      requester = asker p v.given v.commands v.asked;
      is_requester = s.is_requester;
      connection = server p v.served;
      is_connection = s.is_connection;
      requester_setup = refl;
      responder_setup = refl;
      quiet = subst (λ (log : Log). AreQuiet a.setup c.setup a.first log v.asked v.served) (sym s.log) quiet;
      session = live;
    },
    record { idle = waits_idle later.sent s.waits; aside = s.aside; takes = takes },
  )

  -- ---- Once no request is outstanding.

  module _ (most : ℕ) (within : most ≤ wear_limit) (Asks Answers : Stage) (Done : Log → asked.History → served.History → Type 0) (result : Finished) (is_talk : IsTalk p Asks Answers Done (event.Done result)) (there each : ℕ → ℕ) (short : AreShort there each Asks Answers) where
    abbrev AsksSo : Stage
    AsksSo = AsksOut p Asks Answers Done (event.Done result)

    abbrev AnswersSo : Stage
    AnswersSo = AnswersOut p Asks Answers Done (event.Done result)

    so_talk : IsTalk p AsksSo AnswersSo Done (event.Done result)
    so_talk = out_talk p Asks Answers Done (event.Done result) is_talk

    so_short : AreShort there each AsksSo AnswersSo
    so_short = out_short p Asks Answers Done (event.Done result) there each short

    abbrev AskingSo : World → Type 0
    AskingSo = talk.Asking most within p placed.ends Aside aside AsksSo AnswersSo Done (event.Done result) so_talk there each so_short

    abbrev GoingSo : World → Type 0
    GoingSo = talk.IsUnderWay most within p placed.ends Aside aside AsksSo AnswersSo Done (event.Done result) so_talk there each so_short

    abbrev DoneSo : World → Type 0
    DoneSo = talk.IsDone most within p placed.ends Aside aside AsksSo AnswersSo Done (event.Done result) so_talk there each so_short

    abbrev line_so : Line
    line_so = Line.ToRequester n (event.Done result)

    -- A talk does not go on where none is.
    never_none : (later : World) → GoingSo later → HasNone n later → ⊥
    never_none later (inl x) nothing = false≢true (sym (ap is_some (nothing (asker p x.view.given x.view.commands x.view.asked) x.comes.shows.is_requester)) ∙ x.asks.1)
    never_none later (inr x) nothing = false≢true (sym (ap is_some (nothing (asker p x.view.given x.view.commands x.view.asked) x.comes.shows.is_requester)) ∙ x.answers.1)

    goes_by : (s : WorldStep) → Goes GoingSo DoneSo line_so s → HasNone n s.after → DoneSo s.after × IsIn s.lines line_so
    goes_by s (GoesOn u) nothing = absurd (never_none s.after u nothing)
    goes_by s (Ends d m) nothing = (d, m)

    pumped_rest : (sent : Sent) → requester_told a command ≡ sends a command sent → (begun : AskingSo (told_by world n (sends a command sent)).after) → sum_to there (suc begun.more) + sum_to each (suc begun.more) ≤ most_packets → IsLongPump behind → NothingWaits (world_from (commanding world line n command) behind)
    unfolding happens
    pumped_rest sent step begun few pump =
        let same = told_is world n a command sent is_told.is_requester step in
        let later = commanding world line n command in
        let count = pump.1 in
        subst (λ (entries : List Entry). NothingWaits (world_from later entries)) (sym pump.3)
        (subst (λ (s : WorldStep). NothingWaits (pumps count s.after).after) (sym same)
        (enough most within p placed.ends Aside aside AsksSo AnswersSo Done (event.Done result) so_talk there each so_short count (told_by world n (sends a command sent)).after begun (omega (arith, few, pump.2))
        (subst (λ (s : WorldStep). NoChance (pumps count s.after).after.log) same (subst (λ (entries : List Entry). NoChance (world_from later entries).log) pump.3 chance))))

    over_by : AskingSo (commanding world line n command) → (IsLongPump behind → NothingWaits (world_from (commanding world line n command) behind)) → Rests n (commanding world line n command) behind
        → DoneSo (world_from (commanding world line n command) behind) × IsIn (lines_from (commanding world line n command) behind) line_so
    over_by asking pumped (inl idle) = talk_ends most within p placed.ends Aside aside AsksSo AnswersSo Done (event.Done result) so_talk there each so_short (commanding world line n command) behind none honest chance asking idle
    over_by asking pumped (inr (inl nothing)) = goes_by _ (talk_goes most within p placed.ends Aside aside AsksSo AnswersSo Done (event.Done result) so_talk there each so_short (commanding world line n command) behind none honest chance asking) nothing
    over_by asking pumped (inr (inr pump)) = talk_ends most within p placed.ends Aside aside AsksSo AnswersSo Done (event.Done result) so_talk there each so_short (commanding world line n command) behind none honest chance asking (pumped pump)

  -- The talk that the message of the command begins, where no end takes more than so much.
  pub runs : (most : ℕ) (within : most ≤ wear_limit) → length a.given + a.commands + most_asked ≤ most → length world.responder.given + most_served ≤ most
      → (Asks Answers : Stage) (Done : Log → asked.History → served.History → Type 0) (result : Finished) (is_talk : IsTalk p Asks Answers Done (event.Done result)) (there each : ℕ → ℕ) (short : AreShort there each Asks Answers) (more : ℕ) → AreFew there each more → (sent : Sent) → requester_told a command ≡ sends a command sent
      → Asks more sent.tag (body_of sent.content) (told_view world a c command sent).log (told_view world a c command sent).asked c.history
      → talk.IsDone most within p placed.ends Aside aside Asks Answers Done (event.Done result) is_talk there each short (world_from (commanding world line n command) behind) × IsIn (lines_from (commanding world line n command) behind) (Line.ToRequester n (event.Done result))
  runs most within life responder_life Asks Answers Done result is_talk there each short more few sent step asks =
      let shown = shows_told Aside world n a c aside command sent (shows_at Aside world n a c placed is_told.is_requester is_told.is_connection is_told.idle beside) in
      let own_life : length (told_view world a c command sent).given + (told_view world a c command sent).commands + sum_to each (suc more) ≤ most = (let most_here = few.0 in omega (arith, life, most_here)) in
      let other_life : length (told_view world a c command sent).received + sum_to there (suc more) ≤ most = (let most_there = few.1 in omega (arith, responder_life, most_there)) in
      let asks_out = AsksSo most within Asks Answers Done result is_talk there each short in
      let answers_out = AnswersSo most within Asks Answers Done result is_talk there each short in
      let talk_out = so_talk most within Asks Answers Done result is_talk there each short in
      let short_out = so_short most within Asks Answers Done result is_talk there each short in
      let begun = begins most within p placed.ends Aside aside asks_out answers_out Done (event.Done result) talk_out there each short_out more sent (told_view world a c command sent) (told_by world n (sends a command sent)).after shown (asks, refl) own_life other_life in
      let rounds = begins_with most within p placed.ends Aside aside asks_out answers_out Done (event.Done result) talk_out there each short_out more sent (told_view world a c command sent) (told_by world n (sends a command sent)).after shown (asks, refl) own_life other_life in
      let asking_now = subst (λ (s : WorldStep). AskingSo most within Asks Answers Done result is_talk there each short s.after) (sym (told_is world n a command sent is_told.is_requester step)) begun in
      let x = over_by most within Asks Answers Done result is_talk there each short asking_now (pumped_rest most within Asks Answers Done result is_talk there each short sent step begun (subst (λ (k : ℕ). sum_to there (suc k) + sum_to each (suc k) ≤ most_packets) (sym rounds) few.2)) still in
      (record { view = x.0.view; shows = x.0.shows; done = x.0.done; life = x.0.life; responder_life = x.0.responder_life }, x.1)

  taken_so : (most : ℕ) (later : World) (v : View) → Shows p Aside v [] later → length v.given + v.commands ≤ most → length v.received ≤ most → HaveTakenAt n most later
  taken_so most later v s own other = (
    λ b is. subst (λ (x : Requesting). length x.given + x.commands ≤ most) (some_same _ b (sym s.is_requester ∙ is)) own,
    subst (λ (given : List (List ℕ)). length given ≤ most) (sym s.received) other,
  )

  pub all_lives : wear_limit ≤ wear_limit
  all_lives = omega arith

  -- A talk in which each body has so many packets at most.
  pub completes_within : (Asks Answers : Stage) (Done : Log → asked.History → served.History → Type 0) (result : Finished) (id : ℕ) (left : Bool) → ((log : Log) (h : asked.History) (g : served.History) → Done log h g → AreQuiet a.setup c.setup a.first log h g × (steps.is_live (steps.session_of id h) ≡ left))
      → IsTalk p Asks Answers Done (event.Done result) → (there each : ℕ → ℕ) → AreShort there each Asks Answers → (more : ℕ) → AreFew there each more → (sent : Sent) → requester_told a command ≡ sends a command sent
      → Asks more sent.tag (body_of sent.content) (told_view world a c command sent).log (told_view world a c command sent).asked c.history
      → IsDoneQuietly n a.setup c.setup result id left (world_from (commanding world line n command) behind) (lines_from (commanding world line n command) behind) × Idle world n a Aside (world_from (commanding world line n command) behind)
  completes_within Asks Answers Done result id left means is_talk there each short more few sent step asks =
      let later = world_from (commanding world line n command) behind in
      let e = runs wear_limit all_lives is_told.life.requester is_told.life.responder Asks Answers Done result is_talk there each short more few sent step asks in
      let d = means e.0.view.log e.0.view.asked e.0.view.served e.0.done in
      finished_so result id left later (lines_from (commanding world line n command) behind) e.0.view e.0.shows d.0 d.1 e.1
      (λ most within own other.
      let f = runs most within own other Asks Answers Done result is_talk there each short more few sent step asks in
      taken_so most later f.0.view f.0.shows f.0.life f.0.responder_life)

  -- A talk of three rounds or fewer.
  pub completes_by : (Asks Answers : Stage) (Done : Log → asked.History → served.History → Type 0) (result : Finished) (id : ℕ) (left : Bool) → ((log : Log) (h : asked.History) (g : served.History) → Done log h g → AreQuiet a.setup c.setup a.first log h g × (steps.is_live (steps.session_of id h) ≡ left))
      → IsTalk p Asks Answers Done (event.Done result) → (more : ℕ) → more ≤ 2 → (sent : Sent) → requester_told a command ≡ sends a command sent
      → Asks more sent.tag (body_of sent.content) (told_view world a c command sent).log (told_view world a c command sent).asked c.history
      → IsDoneQuietly n a.setup c.setup result id left (world_from (commanding world line n command) behind) (lines_from (commanding world line n command) behind) × Idle world n a Aside (world_from (commanding world line n command) behind)
  completes_by Asks Answers Done result id left means is_talk more few sent step asks = completes_within Asks Answers Done result id left means is_talk (λ more. 66) (λ more. 66) (all_short p Asks Answers Done (event.Done result) is_talk) more (three_few more few) sent step asks

  -- ---- What is asked of a session.

  module _ (quietly : IsToldQuietly w before n a c command) where
    pub pad_short : length (command_chosen a.setup a.history (asking.next_draw a)).pad ≤ 16
    unfolding chosen
    pad_short =
        let short = min-le_left a.setup.pad (length (asking.next_draw a).bytes) in
        let most = placed.requester.pad in
        omega (arith, length-take a.setup.pad (asking.next_draw a).bytes, short)

    module _ (id : ℕ) (x : Asking) (one : AsksOfSession command) (named : session_in command ≡ Some id) (plain : stage_for x.ask ≡ stage.Open) (small : length (x.inner (session_at a id)) ≤ 1025) (known : (turns : List Turn) → x.before turns)
        (asks : done a.setup a.history command (command_chosen a.setup a.history (asking.next_draw a)) (asking.next_draw a) ≡ Adds (WasTold command (sent_for a.setup a.history id x (command_chosen a.setup a.history (asking.next_draw a)).pad) (asking.next_draw a))) where
      abbrev sent : Sent
      sent = sent_for a.setup a.history id x (command_chosen a.setup a.history (asking.next_draw a)).pad

      asks_so : requester_asks false a.setup a.history command (asking.next_draw a) ≡ Adds (WasTold command sent (asking.next_draw a))
      asks_so = (told_so a command fresh quietly.accepted).1 ∙ asks

      pub step_so : requester_told a command ≡ sends a command sent
      step_so = fresh_told a command fresh ∙ ap (commanded_by a) asks_so

      pub live_so : steps.is_live (session_at a id) ≡ true
      live_so = somewhere a.setup a.history command (command_chosen a.setup a.history (asking.next_draw a)) id (told_so a command fresh quietly.accepted).0 named

      pub is_asked : (Fit : Steps → Type 0) → Fit (session_at a id) → x.there c.history → IsAsked a.setup c.setup a.first id x Fit sent.tag (body_of sent.content) (told_view world a c command sent).log (told_view world a c command sent).asked c.history
      is_asked Fit fit queued =
          asked_now a.setup c.setup a.first id x Fit command one world.log a.history c.history (asking.next_draw a) (command_chosen a.setup a.history (asking.next_draw a)).pad quietly.quiet live_so plain fit (omega (arith, pad_short, small)) asks_so known queued

      -- It takes one round.
      pub once_completes : (Fit : Steps → Type 0) (Good : Steps → Turn → Type 0) (result : Finished) → IsLast p one_key id x Fit Good (event.Done result) → Fit (session_at a id) → x.there c.history
          → IsDoneQuietly n a.setup c.setup result id (is_kept x.ask) (world_from (commanding world line n command) behind) (lines_from (commanding world line n command) behind) × Idle world n a Aside (world_from (commanding world line n command) behind)
      once_completes Fit Good result last fit queued =
          completes_by (AsksOnce p one_key id x Fit Good (event.Done result)) (AnswersOnce p one_key id x Fit Good (event.Done result)) (Quiet p one_key id x Fit Good (event.Done result)) result id (is_kept x.ask) (λ log h g z. (z.quiet, z.session)) (once_talk p one_key id x Fit Good (event.Done result) last) 0 (omega arith) sent step_so
          (record { is = is_asked Fit fit queued })

-- ---- Each command.

-- Such a command says nothing else of its session.
of_session : (command : Command) → ((j : ℕ) (n : Negotiation) (sent : Sent) (s : Steps) → steps.after_command j n command sent s ≡ steps.with_sent j (Some sent) s) → asked.is_connect command ≡ false → AsksOfSession command
of_session command by other = record { steps_by = by; no_connect = other }

module _ (w : WorldSetup) (before : List Entry) (n : ℕ) (a : Requesting) (c : Connection) (line : ℕ) (behind : List Entry) (none : HaveNoCommand behind) (Aside : World → Type 0) (aside : IsAside (pair_of n a c) Aside) (beside : Aside (world_after w before)) where
  abbrev pub After : Command → World
  After command = commanding (world_after w before) line n command

  -- What is known of what follows the command.
  pub record IsOver (command : Command) : Type 0 where
    pub told : IsToldQuietly w before n a c command
    pub honest : AreHonest (After command) behind
    pub still : Rests n (After command) behind
    pub chance : NoChance (world_from (After command) behind).log

  abbrev pub Result : Command → ℕ → Type 0
  Result command id = IsDoneQuietly n a.setup c.setup (result_of a c command) id (goes_on command) (world_from (After command) behind) (lines_from (After command) behind) × Idle (world_after w before) n a Aside (world_from (After command) behind)

  no_fault : (command : Command) → IsOver command → command_fault false a.setup a.history command (command_chosen a.setup a.history (asking.next_draw a)) ≡ None
  no_fault command o = (told_so a command (fresh w before n a c command o.told.now line behind none o.honest o.still o.chance Aside aside beside) o.told.accepted).0

  passed : (command : Command) → IsOver command → (k : ℕ) → test_at k (command_tests a.setup a.history command (command_chosen a.setup a.history (asking.next_draw a))) ≡ false
  passed command o k = test_is_false false a.setup a.history command (command_chosen a.setup a.history (asking.next_draw a)) (no_fault command o) k

  abbrev pair : Pair
  pair = pair_of n a c

  sent_data : (id : ℕ) (bytes : List ℕ) → IsOver (Send id bytes) → Result (Send id bytes) id
  sent_data id bytes o =
      let command = Send id bytes in
      let here = placed w before n a c command o.told.now line behind none o.honest o.still o.chance Aside aside beside in
      let key = one_key w before n a c command o.told.now line behind none o.honest o.still o.chance Aside aside beside in
      let short = ltb-false 1024 (length bytes) (passed command o 8) in
      let sid = steps.session_id (session_at a id) in
      once_completes w before n a c command o.told.now line behind none o.honest o.still o.chance Aside aside beside o.told id (data_asking c.history bytes) (of_session command (λ j n sent s. refl) refl) refl refl (omega arith) (λ turns. tt) refl
      (CanSend pair key id sid here.requester here.responder bytes) (IsData pair key id sid here.requester here.responder) (finished.Answered sid) (data_last pair key id sid here.requester here.responder c.history bytes) (record { named = refl; short = short }) ([], refl, tt)

  -- What was taken is what was first in the queue.
  pub queued_taken : (id : ℕ) (bytes : List ℕ) → IsOver (Send id bytes) → TookQueued n a.setup c bytes (world_from (After (Send id bytes)) behind)
  queued_taken id bytes o =
      let command = Send id bytes in
      let here = placed w before n a c command o.told.now line behind none o.honest o.still o.chance Aside aside beside in
      let key = one_key w before n a c command o.told.now line behind none o.honest o.still o.chance Aside aside beside in
      let short = ltb-false 1024 (length bytes) (passed command o 8) in
      let sid = steps.session_id (session_at a id) in
      let one = of_session command (λ j n sent s. refl) refl in
      let result = event.Done (finished.Answered sid) in
      let asks : Stage = AsksOnce pair key id (data_asking c.history bytes) (CanSend pair key id sid here.requester here.responder bytes) (IsData pair key id sid here.requester here.responder) result in
      let answers : Stage = AnswersOnce pair key id (data_asking c.history bytes) (CanSend pair key id sid here.requester here.responder bytes) (IsData pair key id sid here.requester here.responder) result in
      let is_talk = once_talk pair key id (data_asking c.history bytes) (CanSend pair key id sid here.requester here.responder bytes) (IsData pair key id sid here.requester here.responder) result (data_last pair key id sid here.requester here.responder c.history bytes) in
      let e = runs w before n a c command o.told.now line behind none o.honest o.still o.chance Aside aside beside wear_limit (all_lives w before n a c command o.told.now line behind none o.honest o.still o.chance Aside aside beside) o.told.now.life.requester o.told.now.life.responder asks answers (Quiet pair key id (data_asking c.history bytes) (CanSend pair key id sid here.requester here.responder bytes) (IsData pair key id sid here.requester here.responder) result)
      (finished.Answered sid) is_talk (λ more. 66) (λ more. 66)
      (all_short pair asks answers (Quiet pair key id (data_asking c.history bytes) (CanSend pair key id sid here.requester here.responder bytes) (IsData pair key id sid here.requester here.responder) result) result is_talk)
      0 (three_few 0 (omega arith)) (sent_for a.setup a.history id (data_asking c.history bytes) (command_chosen a.setup a.history (asking.next_draw a)).pad) (step_so w before n a c command o.told.now line behind none o.honest o.still o.chance Aside aside beside o.told id (data_asking c.history bytes) one refl refl (omega arith) (λ turns. tt) refl)
      (record { is = is_asked w before n a c command o.told.now line behind none o.honest o.still o.chance Aside aside beside o.told id (data_asking c.history bytes) one refl refl (omega arith) (λ turns. tt) refl (CanSend pair key id sid here.requester here.responder bytes) (record { named = refl; short = short }) ([], refl, tt) }) in
      let brought = e.0.done.brought in
      let came = e.0.done.came in
      record {
        requester = asker pair e.0.view.given e.0.view.commands e.0.view.asked;
        is_requester = e.0.shows.is_requester;
        connection = server pair e.0.view.served;
        is_connection = e.0.shows.is_connection;
        until = came.until;
        between = came.between;
        tag = came.tag;
        sealed = came.sealed;
        turn = brought.turn;
        reply = came.reply;
        draw = came.draw;
        since = came.since;
        brought = came.knows.0;
        taken = granted_data e.0.view.asked brought.turn.reply brought.newest ∙ came.knows.1;
      }

  sent_beat : (id : ℕ) → IsOver (Beat id) → Result (Beat id) id
  sent_beat id o =
      let command = Beat id in
      let here = placed w before n a c command o.told.now line behind none o.honest o.still o.chance Aside aside beside in
      let key = one_key w before n a c command o.told.now line behind none o.honest o.still o.chance Aside aside beside in
      let sid = steps.session_id (session_at a id) in
      once_completes w before n a c command o.told.now line behind none o.honest o.still o.chance Aside aside beside o.told id beat_asking (of_session command (λ j n sent s. refl) refl) refl refl (omega arith) (λ turns. tt) refl
      (CanBeat pair key id sid here.requester here.responder) (IsSpdm pair key id sid here.requester here.responder (canonical_response HeartbeatAck)) (finished.Alive sid) (beat_last pair key id sid here.requester here.responder)
      (record { named = refl; flag = not-false _ (passed command o 5) }) tt

  sent_end : (id : ℕ) → IsOver (End id) → Result (End id) id
  sent_end id o =
      let command = End id in
      let here = placed w before n a c command o.told.now line behind none o.honest o.still o.chance Aside aside beside in
      let key = one_key w before n a c command o.told.now line behind none o.honest o.still o.chance Aside aside beside in
      let sid = steps.session_id (session_at a id) in
      once_completes w before n a c command o.told.now line behind none o.honest o.still o.chance Aside aside beside o.told id end_asking (of_session command (λ j n sent s. refl) refl) refl refl (omega arith) (λ turns. tt) refl
      (IsNamed pair key id sid here.requester here.responder) (IsSpdm pair key id sid here.requester here.responder (canonical_response EndSessionAck)) (finished.Ended sid) (end_last pair key id sid here.requester here.responder) (record { named = refl }) tt

  -- And the responder holds it no more.
  pub gone_there : (id : ℕ) → IsOver (End id) → IsGoneThere a.setup (rsp_id (session_at a id)) (world_from (After (End id)) behind)
  gone_there id o =
      let command = End id in
      let here = placed w before n a c command o.told.now line behind none o.honest o.still o.chance Aside aside beside in
      let key = one_key w before n a c command o.told.now line behind none o.honest o.still o.chance Aside aside beside in
      let sid = steps.session_id (session_at a id) in
      let one = of_session command (λ j n sent s. refl) refl in
      let result = event.Done (finished.Ended sid) in
      let asks : Stage = AsksOnce pair key id end_asking (IsNamed pair key id sid here.requester here.responder) (IsSpdm pair key id sid here.requester here.responder (canonical_response EndSessionAck)) result in
      let answers : Stage = AnswersOnce pair key id end_asking (IsNamed pair key id sid here.requester here.responder) (IsSpdm pair key id sid here.requester here.responder (canonical_response EndSessionAck)) result in
      let is_talk = once_talk pair key id end_asking (IsNamed pair key id sid here.requester here.responder) (IsSpdm pair key id sid here.requester here.responder (canonical_response EndSessionAck)) result (end_last pair key id sid here.requester here.responder) in
      let e = runs w before n a c command o.told.now line behind none o.honest o.still o.chance Aside aside beside wear_limit (all_lives w before n a c command o.told.now line behind none o.honest o.still o.chance Aside aside beside) o.told.now.life.requester o.told.now.life.responder asks answers (Quiet pair key id end_asking (IsNamed pair key id sid here.requester here.responder) (IsSpdm pair key id sid here.requester here.responder (canonical_response EndSessionAck)) result)
      (finished.Ended sid) is_talk (λ more. 66) (λ more. 66)
      (all_short pair asks answers (Quiet pair key id end_asking (IsNamed pair key id sid here.requester here.responder) (IsSpdm pair key id sid here.requester here.responder (canonical_response EndSessionAck)) result) result is_talk)
      0 (three_few 0 (omega arith)) (sent_for a.setup a.history id end_asking (command_chosen a.setup a.history (asking.next_draw a)).pad) (step_so w before n a c command o.told.now line behind none o.honest o.still o.chance Aside aside beside o.told id end_asking one refl refl (omega arith) (λ turns. tt) refl)
      (record { is = is_asked w before n a c command o.told.now line behind none o.honest o.still o.chance Aside aside beside o.told id end_asking one refl refl (omega arith) (λ turns. tt) refl (IsNamed pair key id sid here.requester here.responder) (record { named = refl }) tt }) in
      record {
        connection = server pair e.0.view.served;
        is_connection = e.0.shows.is_connection;
        gone = subst (λ (rsp : ℕ). events.is_live (events.session_of rsp e.0.view.served) ≡ false) (ap (λ (i : SessionId). i.rsp) e.0.done.brought.fit.named) e.0.done.there;
      }

  module _ (id op : ℕ) (can : CanAsk a c (Measure (Some id) op)) (o : IsOver (Measure (Some id) op)) where
    abbrev measuring : Command
    measuring = Measure (Some id) op

    abbrev here : ArePlaced (world_after w before) n a c
    here = placed w before n a c measuring o.told.now line behind none o.honest o.still o.chance Aside aside beside

    abbrev key : a.setup.psk ≡ c.setup.psk
    key = one_key w before n a c measuring o.told.now line behind none o.honest o.still o.chance Aside aside beside

    abbrev sid : SessionId
    sid = steps.session_id (session_at a id)

    abbrev under : Negotiation
    under = steps.session_negotiation (session_at a id)

    live_now : steps.is_live (session_at a id) ≡ true
    live_now = somewhere a.setup a.history measuring (command_chosen a.setup a.history (asking.next_draw a)) id (no_fault measuring o) refl

    sizes : IsCommon a.setup (steps.session_terms (session_at a id)).common
    sizes = session_sizes a.setup a.history id (record { transfer = (let most = here.requester.sizes.most in let ordered = here.requester.sizes.ordered in omega arith); max = here.requester.sizes.most }) o.told.quiet.made live_now

    measure_chosen : (steps.session_terms (session_at a id)).choice.measure ≡ true
    measure_chosen = and_second _ _ (not-false _ (passed measuring o 5))

    measured_whole : measurements_size c.setup op ≤ (steps.session_terms (session_at a id)).common.to_requester.transfer → Result measuring id
    measured_whole fits =
        once_completes w before n a c measuring o.told.now line behind none o.honest o.still o.chance Aside aside beside o.told id (measure_asking op) (of_session measuring (λ j n sent s. refl) refl) refl refl (omega arith) (λ turns. tt) refl
        (CanMeasure pair key id sid here.requester here.responder op) (IsMeasured pair key id sid here.requester here.responder op) (finished.Measured (number_for c.setup op)) (measure_last pair key id sid here.requester here.responder op)
        (record { byte = can.0; block = can.1; chosen = measure_chosen; fits = fits; fits_own = subst (λ (size : ℕ). measurements_size c.setup op ≤ size) sizes.transfer fits }) tt

    -- The answer is sent in chunks.
    module _ (large : (steps.session_terms (session_at a id)).common.to_requester.transfer < measurements_size c.setup op) where
      in_common : (b : Bool) → (steps.session_terms (session_at a id)).common.chunk ≡ b → b ≡ true
      in_common true is = refl
      in_common false is = (let fits = can.2.1 is in absurd (omega (arith, fits, large)))

      goes : GoesLarge a.setup c.setup op under
      goes = record {
        byte = can.0;
        block = can.1;
        chosen = measure_chosen;
        fetch = record {
          room = here.responder.sizes.least;
          chunk = in_common (steps.session_terms (session_at a id)).common.chunk refl;
          large = omega (arith, large);
          few = omega arith;
          fits_max = can.2.0;
          transfer = sizes.transfer;
          max = sizes.max;
          least = here.requester.sizes.least;
          ordered = here.requester.sizes.ordered;
          most = here.requester.sizes.most;
        };
      }

      counts : InChunks (transfer_in under) (measurements_size c.setup op)
      counts =
          let least = here.requester.sizes.least in
          let transfer = sizes.transfer in
          let fits = can.2.0 in
          let max = sizes.max in
          let most = here.requester.sizes.most in
          in_chunks (transfer_in under) (measurements_size c.setup op) (omega (arith, least, transfer)) large (omega (arith, fits, max, most))

      abbrev x : Asking
      x = large_asking pair id op under goes

      abbrev first_sent : Sent
      first_sent = sent_for a.setup a.history id x (command_chosen a.setup a.history (asking.next_draw a)).pad

      one_packet : length (body_of first_sent.content) ≤ 64
      one_packet =
          let pad = pad_short w before n a c measuring o.told.now line behind none o.honest o.still o.chance Aside aside beside o.told in
          let long = sealed_length a.setup c.setup a.first id x (session_at a id) (command_chosen a.setup a.history (asking.next_draw a)).pad in
          omega (arith, pad, long)

      measured_by_chunks : Result measuring id
      measured_by_chunks =
          let one = of_session measuring (λ j n sent s. refl) refl in
          completes_within w before n a c measuring o.told.now line behind none o.honest o.still o.chance Aside aside beside (by_chunks.MeasureAsked pair key id op under goes) (by_chunks.MeasureAnswered pair key id op under goes) (by_chunks.Quiet pair key id op under goes) (finished.Measured (number_for c.setup op)) id true (λ log h g z. (z.quiet, z.session))
          (by_chunks.session_talk pair key id op under goes) (λ more. 1) (λ more. counts.each) (by_chunks.are_short pair key id op under goes counts.each counts.fits) (by_chunks.count pair key id op under goes) (few_by_chunks (transfer_in under) (measurements_size c.setup op) counts)
          first_sent (step_so w before n a c measuring o.told.now line behind none o.honest o.still o.chance Aside aside beside o.told id x one refl refl (omega arith) (λ turns. tt) refl)
          (inl (record {
            more_is = refl;
            few = one_packet;
            is = is_asked w before n a c measuring o.told.now line behind none o.honest o.still o.chance Aside aside beside o.told id x one refl refl (omega arith) (λ turns. tt) refl (IsUnder pair id op under goes) refl tt;
          }))

    -- ---- The record that is taken.

    abbrev Taken : Type 0
    Taken = IsTaken n c.setup op (world_from (After measuring) behind) (lines_from (After measuring) behind)

    reply_is : (t : Turn) (m : List ℕ) → inner_reply t ≡ 5 ∷ m → t.reply ≡ m
    reply_is t m is = cc

    record_whole : measurements_size c.setup op ≤ (steps.session_terms (session_at a id)).common.to_requester.transfer → Taken
    record_whole fits =
        let one = of_session measuring (λ j n sent s. refl) refl in
        let result = event.Done (finished.Measured (number_for c.setup op)) in
        let own : measurements_size c.setup op ≤ a.setup.transfer = subst (λ (size : ℕ). measurements_size c.setup op ≤ size) sizes.transfer fits in
        let is_talk = once_talk pair key id (measure_asking op) (CanMeasure pair key id sid here.requester here.responder op) (IsMeasured pair key id sid here.requester here.responder op) result (measure_last pair key id sid here.requester here.responder op) in
        let e = runs w before n a c measuring o.told.now line behind none o.honest o.still o.chance Aside aside beside wear_limit (all_lives w before n a c measuring o.told.now line behind none o.honest o.still o.chance Aside aside beside) o.told.now.life.requester o.told.now.life.responder (AsksOnce pair key id (measure_asking op) (CanMeasure pair key id sid here.requester here.responder op) (IsMeasured pair key id sid here.requester here.responder op) result)
        (AnswersOnce pair key id (measure_asking op) (CanMeasure pair key id sid here.requester here.responder op) (IsMeasured pair key id sid here.requester here.responder op) result) (Quiet pair key id (measure_asking op) (CanMeasure pair key id sid here.requester here.responder op) (IsMeasured pair key id sid here.requester here.responder op) result)
        (finished.Measured (number_for c.setup op)) is_talk (λ more. 66) (λ more. 66)
        (all_short pair (AsksOnce pair key id (measure_asking op) (CanMeasure pair key id sid here.requester here.responder op) (IsMeasured pair key id sid here.requester here.responder op) result)
        (AnswersOnce pair key id (measure_asking op) (CanMeasure pair key id sid here.requester here.responder op) (IsMeasured pair key id sid here.requester here.responder op) result) (Quiet pair key id (measure_asking op) (CanMeasure pair key id sid here.requester here.responder op) (IsMeasured pair key id sid here.requester here.responder op) result) result is_talk)
        0 (three_few 0 (omega arith)) (sent_for a.setup a.history id (measure_asking op) (command_chosen a.setup a.history (asking.next_draw a)).pad) (step_so w before n a c measuring o.told.now line behind none o.honest o.still o.chance Aside aside beside o.told id (measure_asking op) one refl refl (omega arith) (λ turns. tt) refl)
        (record {
          is = is_asked w before n a c measuring o.told.now line behind none o.honest o.still o.chance Aside aside beside o.told id (measure_asking op) one refl refl (omega arith) (λ turns. tt) refl (CanMeasure pair key id sid here.requester here.responder op)
              (record { byte = can.0; block = can.1; chosen = measure_chosen; fits = fits; fits_own = own }) tt;
        }) in
        let brought = e.0.done.brought in
        let good = brought.good in
        record {
          told = contained (lines_from (After measuring) behind) _ e.1;
          requester = asker pair e.0.view.given e.0.view.commands e.0.view.asked;
          is_requester = e.0.shows.is_requester;
          none = e.0.done.quiet.none;
          taken = granted_record c.setup op good.nonce e.0.view.asked (brought.newest ∙ ap (λ (m : List ℕ). Grants (AskMeasure op) m) (reply_is brought.turn _ good.inner)) good.whole
              (let most = here.requester.sizes.most in let ordered = here.requester.sizes.ordered in omega (arith, own, most, ordered));
        }

    record_by_chunks : (large : (steps.session_terms (session_at a id)).common.to_requester.transfer < measurements_size c.setup op) → Taken
    record_by_chunks large =
        let one = of_session measuring (λ j n sent s. refl) refl in
        let gone = goes large in
        let parts = counts large in
        let e = runs w before n a c measuring o.told.now line behind none o.honest o.still o.chance Aside aside beside wear_limit (all_lives w before n a c measuring o.told.now line behind none o.honest o.still o.chance Aside aside beside) o.told.now.life.requester o.told.now.life.responder (by_chunks.MeasureAsked pair key id op under gone) (by_chunks.MeasureAnswered pair key id op under gone) (by_chunks.Quiet pair key id op under gone) (finished.Measured (number_for c.setup op))
        (by_chunks.session_talk pair key id op under gone) (λ more. 1) (λ more. parts.each) (by_chunks.are_short pair key id op under gone parts.each parts.fits) (by_chunks.count pair key id op under gone) (few_by_chunks (transfer_in under) (measurements_size c.setup op) parts)
        (first_sent large) (step_so w before n a c measuring o.told.now line behind none o.honest o.still o.chance Aside aside beside o.told id (x large) one refl refl (omega arith) (λ turns. tt) refl)
        (inl (record {
          more_is = refl;
          few = one_packet large;
          is = is_asked w before n a c measuring o.told.now line behind none o.honest o.still o.chance Aside aside beside o.told id (x large) one refl refl (omega arith) (λ turns. tt) refl (IsUnder pair id op under gone) refl tt;
        })) in
        record {
          told = contained (lines_from (After measuring) behind) _ e.1;
          requester = asker pair e.0.view.given e.0.view.commands e.0.view.asked;
          is_requester = e.0.shows.is_requester;
          none = e.0.done.quiet.none;
          taken = e.0.done.taken;
        }

    pub recorded : Taken
    recorded = by_size (nat_le (measurements_size c.setup op) (steps.session_terms (session_at a id)).common.to_requester.transfer) refl
      where
        by_size : (b : Bool) → nat_le (measurements_size c.setup op) (steps.session_terms (session_at a id)).common.to_requester.transfer ≡ b → Taken
        by_size true is = record_whole (leb-true _ _ is)
        by_size false is = record_by_chunks (leb-false _ _ is)

    sent_measure : Result measuring id
    sent_measure = by_size (nat_le (measurements_size c.setup op) (steps.session_terms (session_at a id)).common.to_requester.transfer) refl
      where
        by_size : (b : Bool) → nat_le (measurements_size c.setup op) (steps.session_terms (session_at a id)).common.to_requester.transfer ≡ b → Result measuring id
        by_size true is = measured_whole (leb-true _ _ is)
        by_size false is = measured_by_chunks (leb-false _ _ is)

  sent_update : (id : ℕ) (all : Bool) → IsOver (Update id all) → Result (Update id all) id
  sent_update id all o =
      let command = Update id all in
      let here = placed w before n a c command o.told.now line behind none o.honest o.still o.chance Aside aside beside in
      let key = one_key w before n a c command o.told.now line behind none o.honest o.still o.chance Aside aside beside in
      let sid = steps.session_id (session_at a id) in
      let one = of_session command (λ j n sent s. refl) refl in
      completes_by w before n a c command o.told.now line behind none o.honest o.still o.chance Aside aside beside (UpdateTalkAsks pair key id sid here.requester here.responder all) (UpdateTalkAnswers pair key id sid here.requester here.responder all) (UpdateDone pair key id sid here.requester here.responder all) (finished.Updated sid) id true (λ log h g z. (z.quiet, z.session))
      (update_talk pair key id sid here.requester here.responder all) 1 (omega arith) _ (step_so w before n a c command o.told.now line behind none o.honest o.still o.chance Aside aside beside o.told id (update_asking all) one refl refl (omega arith) (λ turns. tt) refl)
      (inl (
        refl,
        is_asked w before n a c command o.told.now line behind none o.honest o.still o.chance Aside aside beside o.told id (update_asking all) one refl refl (omega arith) (λ turns. tt) refl (CanUpdate pair key id sid here.requester here.responder all)
            (record { named = refl; flag = not-false _ (passed command o 5) }) tt,
      ))

  pub each : (command : Command) (id : ℕ) → CanAsk a c command → session_in command ≡ Some id → IsOver command → Result command id
  each (Send i bytes) id can named o = subst (Result (Send i bytes)) (some_same i id named) (sent_data i bytes o)
  each (Beat i) id can named o = subst (Result (Beat i)) (some_same i id named) (sent_beat i o)
  each (Update i all) id can named o = subst (Result (Update i all)) (some_same i id named) (sent_update i all o)
  each (Measure (Some i) op) id can named o = subst (Result (Measure (Some i) op)) (some_same i id named) (sent_measure i op can o)
  each (End i) id can named o = subst (Result (End i)) (some_same i id named) (sent_end i o)
  each (Measure None op) id can named o = absurd can
  each Connect id can named o = absurd can
  each (Open summary) id can named o = absurd can
  each Retry id can named o = absurd can

pub session_commands_complete : SessionCommandsComplete
session_commands_complete w before n a c command id told can named line behind none honest still chance = (each w before n a c line behind none (λ later. Unit {0}) (nothing_aside (pair_of n a c)) tt command id can named (record { told = told; honest = honest; still = inl still; chance = chance })).0

pub ended_at_both_ends : EndedAtBothEnds
ended_at_both_ends w before n a c id told line behind none honest still chance = gone_there w before n a c line behind none (λ later. Unit {0}) (nothing_aside (pair_of n a c)) tt id (record { told = told; honest = honest; still = inl still; chance = chance })

pub answers_are_queued : AnswersAreQueued
answers_are_queued w before n a c id bytes told line behind none honest still chance = queued_taken w before n a c line behind none (λ later. Unit {0}) (nothing_aside (pair_of n a c)) tt id bytes (record { told = told; honest = honest; still = inl still; chance = chance })

-- Data that waited stay in front.
more_behind : (entries : List served.Entry) (h : served.History) → OnlyWaits entries → (more : List (List ℕ)) × (served.queue_of (entries ++ h) ≡ served.queue_of h ++ more)
more_behind [] h only = ([], sym (append-nil (served.queue_of h)))
more_behind (Queued bytes ∷ entries) h only = (let x = more_behind entries h only in (x.0 ++ bytes ∷ [], ap (λ (q : List (List ℕ)). q ++ bytes ∷ []) x.1 ∙ append_assoc (served.queue_of h) x.0 (bytes ∷ [])))
more_behind (Ticked seconds ∷ entries) h only = more_behind entries h only
more_behind (Clear tag t d ∷ entries) h only = absurd only
more_behind (Sealed tag m t reply d ∷ entries) h only = absurd only
more_behind (Dropped id ∷ entries) h only = absurd only

pub answers_wait_first : AnswersWaitFirst
answers_wait_first w before n a c id bytes told first others waits line behind none honest still chance =
    let x = answers_are_queued w before n a c id bytes told line behind none honest still chance in
    let more = more_behind x.between.0 c.history x.between.2 in
    record {
      requester = x.requester;
      is_requester = x.is_requester;
      taken = x.taken ∙ ap first_queued (ap served.queue_of x.between.1 ∙ more.1 ∙ ap (λ (q : List (List ℕ)). q ++ more.0) waits);
    }
