-- Each command of two quiet ends comes to its result, and leaves the others quiet.
use Rattle.std.proofs.Common.{◌≡◌, ◌∙◌, ℕ, ◌<◌, ◌≤◌, nat_le, List, [], ◌∷◌, Bool, true, false, is_none, Some, None, refl, sym, ap, subst, inl, inr, arith}
use Rattle.std.specs.Prelude.{if◌then◌else◌}
use Rattle.std.proofs.lemmas.Bool.{false≢true, leb-false, leb-true, not-false}
use Rattle.negotiate.specs.declared.shared.Sizes.{Sizes}
use Rattle.spdm_basis.proofs.Bools.{and_second, lt_false}
use Rattle.spdm_grammar.specs.Message.RequestMessage.{GetMeasurements}
use Rattle.spdm_grammar.specs.declared.told.event.Finished.{Finished}
use Rattle.spdm_grammar.specs.declared.told.event.Finished.TheVariants as finished
use Rattle.spdm_grammar.specs.declared.names.TheConstants.{MAX_MESSAGE_SIZE}
use Rattle.spdm_grammar.specs.declared.told.phase.Phase.TheVariants.{Negotiated}
use Rattle.spdm_machine.specs.Keys.{Draw}
use Rattle.spdm_machine.specs.Terms.{terms_of}
use Rattle.transcript.specs.Transcripts.{Negotiation}
use Rattle.requester_machine.proofs.Entries.{test_is_false}
use Rattle.requester_machine.proofs.HoldsMade.{sizes}
use Rattle.requester_machine.proofs.HoldsTold.{connected as is_connected}
use Rattle.requester_machine.specs.Asking.Outcome.{Adds}
use Rattle.requester_machine.specs.Commands.{Free, command_fault, session_in}
use Rattle.requester_machine.specs.Does.{command_chosen, requester_asks}
use Rattle.requester_machine.specs.History as asked
use Rattle.requester_machine.specs.History.Entry.{Told as WasTold}
use Rattle.requester_machine.specs.Message.{Command}
use Rattle.requester_machine.specs.Message.Command.{Beat, Connect, End, Measure, Open, Retry, Send, Update}
use Rattle.requester_machine.specs.Requesting as asking
use Rattle.requester_machine.specs.Requesting.{Requesting, commanded_by}
use Rattle.requester_machine.specs.Sending.{piece_sent, plain_sent, request_sent}
use Rattle.requester_machine.proofs.Ids.{few}
use Rattle.requester_machine.specs.Does.{IsMade, free_id}
use Rattle.requester_machine.specs.Session as steps
use Rattle.requester_machine.specs.UnderWay.{IsCommon, is_capable}
use Rattle.responder_machine.proofs.Sizes.{sizes_set_up}
use Rattle.responder_machine.specs.History as served
use Rattle.responder_machine.specs.Refusal.{sizes_are_known}
use Rattle.responder_machine.specs.Responding.{Connection}
use Rattle.world_machine.specs.Chance.{NoChance}
use Rattle.world_machine.specs.Happenings.{Entry}
use Rattle.world_machine.specs.Happenings.Happening.{Pump}
use Rattle.world_machine.specs.Setup.{WorldSetup}
use Rattle.world_machine.specs.Trace.{lines_from, world_after, world_from}
use Rattle.world_machine.specs.World.{World, happens}
use Rattle.spdm_machine.specs.Packets.{wear_limit}
use Rattle.spdm_grammar.specs.declared.told.event.Event.TheVariants as event
use Rattle.spdm_grammar.specs.Lines.{Line}
use Rattle.spdm_progress.proofs.Talk.{all_short}
use Rattle.spdm_progress.specs.Honest.{AreHonest, HaveNoCommand}
use Rattle.spdm_progress.specs.Measuring.{measurements_size, number_for, IsMeasured}
use Rattle.spdm_progress.specs.Scripts.{CanDo, Holds, IsDone, Means, PumpsAreEnough, QuietCommandsComplete, QuietMeasuresComplete, ResultsComeLast, result_for}
use Rattle.spdm_progress.specs.SessionCommands.{CanAsk, IsDoneQuietly, IsToldQuietly, commanding, goes_on, result_of}
use Rattle.spdm_progress.specs.Opening.{opened_id}
use Rattle.spdm_progress.proofs.Accepted.{told_so}
use Rattle.spdm_progress.proofs.Aside.{IsAside, nothing_aside}
use Rattle.spdm_progress.proofs.ConnectRounds as connects
use Rattle.spdm_progress.proofs.ChunkCounts.{InChunks, in_chunks}
use Rattle.spdm_progress.proofs.LargeAnswers.{GoesLarge, large_again}
use Rattle.spdm_progress.proofs.ClearFetch.{transfer_in}
use Rattle.spdm_progress.proofs.LargeMeasure as larges
use Rattle.spdm_progress.proofs.MeasureRound as measures
use Rattle.spdm_progress.proofs.MeasureStages.{CanServe, made_again}
use Rattle.spdm_progress.proofs.Opened as opens
use Rattle.spdm_progress.proofs.PacketSteps.{Pair, asker}
use Rattle.spdm_progress.proofs.SessionCompletes as sessions
use Rattle.spdm_progress.proofs.SessionCompletes.{Idle, Rests, completes_by, completes_within, few_by_chunks, fresh, placed, runs, three_few}
use Rattle.spdm_progress.proofs.Told.{ArePlaced, pair_of, contained}
use Rattle.requester_machine.proofs.Telling.{fresh_told}

module _ (w : WorldSetup) (before : List Entry) (n : ℕ) (a : Requesting) (c : Connection) (line : ℕ) (behind : List Entry) (none : HaveNoCommand behind) (Aside : World → Type 0) (aside : IsAside (pair_of n a c) Aside) (beside : Aside (world_after w before)) where
  abbrev After : Command → World
  After command = commanding (world_after w before) line n command

  abbrev pub Result : Command → Type 0
  Result command = IsDone n a.setup c.setup (result_for a c command) (world_from (After command) behind) (lines_from (After command) behind) × Idle (world_after w before) n a Aside (world_from (After command) behind)

  -- What is reported of a session is among it.
  plainly : (command : Command) (result : Finished) (id : ℕ) (left : Bool) → result ≡ result_for a c command
      → IsDoneQuietly n a.setup c.setup result id left (world_from (After command) behind) (lines_from (After command) behind) × Idle (world_after w before) n a Aside (world_from (After command) behind) → Result command
  plainly command result id left same x =
      subst (λ (f : Finished). IsDone n a.setup c.setup f (world_from (After command) behind) (lines_from (After command) behind) × Idle (world_after w before) n a Aside (world_from (After command) behind)) same
      ((
        record {
          told = x.0.told;
          requester = x.0.requester;
          is_requester = x.0.is_requester;
          connection = x.0.connection;
          is_connection = x.0.is_connection;
          requester_setup = x.0.requester_setup;
          responder_setup = x.0.responder_setup;
          quiet = x.0.quiet;
        },
        x.1,
      ))

  -- What is known of what follows the command.
  pub record IsOver (command : Command) : Type 0 where
    pub told : IsToldQuietly w before n a c command
    pub honest : AreHonest (After command) behind
    pub still : Rests n (After command) behind
    pub chance : NoChance (world_from (After command) behind).log

  in_session : (command : Command) (id : ℕ) → CanAsk a c command → session_in command ≡ Some id → result_of a c command ≡ result_for a c command → IsOver command → Result command
  in_session command id can named same o =
      plainly command (result_of a c command) id (goes_on command) same (sessions.each w before n a c line behind none Aside aside beside command id can named (record { told = o.told; honest = o.honest; still = o.still; chance = o.chance }))

  -- ---- A clear measure.

  module _ (op : ℕ) (can : CanDo a c (Measure None op)) (o : IsOver (Measure None op)) where
    abbrev command : Command
    command = Measure None op

    abbrev d : Draw
    d = asking.next_draw a

    abbrev f : Free
    f = command_chosen a.setup a.history d

    here : ArePlaced (world_after w before) n a c
    here = placed w before n a c command o.told.now line behind none o.honest o.still o.chance Aside aside beside

    unworn : asking.is_worn a ≡ false
    unworn = fresh w before n a c command o.told.now line behind none o.honest o.still o.chance Aside aside beside

    accepted : (command_fault false a.setup a.history command f ≡ None) × (requester_asks false a.setup a.history command d ≡ Adds (WasTold command (request_sent (asked.connection_terms a.history).common a.history (GetMeasurements op)) d))
    accepted = told_so a command unworn o.told.accepted

    phase : asked.phase_of a.history ≡ Negotiated
    phase = is_connected a.setup a.history command f accepted.0 refl

    known : sizes_are_known (served.phase_of (served.clear_turns c.history)) ≡ true
    known = ap sizes_are_known (sym o.told.quiet.phase ∙ phase)

    there : (asked.connection_terms a.history).common.to_responder.transfer ≡ c.setup.transfer
    there =
        let s = sizes_set_up c.setup c.history o.told.quiet.made_there here.responder.sizes.ordered here.responder.sizes.most known in
        ap (λ (k : Negotiation). (terms_of k).common.to_responder.transfer) o.told.quiet.negotiation ∙ ap (λ (z : Sizes). z.transfer) s.own

    own_sizes : IsCommon a.setup (asked.connection_terms a.history).common
    own_sizes =
        let most = here.requester.sizes.most in
        let ordered = here.requester.sizes.ordered in
        sizes a.setup a.history (record { transfer = omega arith; max = most }) o.told.quiet.made (ap is_capable phase)

    crossed : (asked.connection_terms a.history).common.to_requester.transfer ≤ (asked.connection_terms a.history).common.to_requester.max
    crossed =
        let s = sizes_set_up c.setup c.history o.told.quiet.made_there here.responder.sizes.ordered here.responder.sizes.most known in
        subst (λ (k : Negotiation). (terms_of k).common.to_requester.transfer ≤ (terms_of k).common.to_requester.max) (sym o.told.quiet.negotiation) s.crossed

    asks : requester_asks false a.setup a.history command d ≡ Adds (WasTold command (plain_sent a.history (GetMeasurements op)) d)
    asks =
        let least = here.responder.sizes.least in
        let room = there in
        accepted.1
        ∙ ap (λ (b : Bool). Adds (WasTold command (if b then piece_sent (asked.connection_terms a.history).common a.history (GetMeasurements op) (asked.next_handle a.history) 0 else plain_sent a.history (GetMeasurements op)) d))
        (lt_false (asked.connection_terms a.history).common.to_responder.transfer 4 (omega arith))

    abbrev pair : Pair
    pair = pair_of n a c

    -- No session has the id 0.
    zero_free : (h : asked.History) → IsMade a.setup h → (b : Bool) → steps.is_live (steps.session_of 0 h) ≡ b → b ≡ false
    zero_free h made true live = (let range = (few a.setup h 0 made live).0 in absurd (omega arith))
    zero_free h made false live = refl

    measure_chosen : (asked.connection_terms a.history).choice.measure ≡ true
    measure_chosen = and_second _ _ (not-false _ (test_is_false false a.setup a.history command f accepted.0 5))

    abbrev Taken : Type 0
    Taken = IsMeasured n c.setup op (world_from (After command) behind) (lines_from (After command) behind)

    all_fits : wear_limit ≤ wear_limit
    all_fits = omega arith

    -- Its answer goes whole.
    module _ (fits : measurements_size c.setup op ≤ (asked.connection_terms a.history).common.to_requester.transfer) where
      serves : CanServe a.setup c.setup op (asked.negotiation_of a.history)
      serves =
          let within = crossed in record {
            room = here.responder.sizes.least;
            byte = can.0;
            block = can.1;
            chosen = measure_chosen;
            fits = fits;
            fits_max = omega arith;
            fits_own = subst (λ (k : ℕ). measurements_size c.setup op ≤ k) own_sizes.transfer fits;
            most = (let most = here.requester.sizes.most in let ordered = here.requester.sizes.ordered in omega arith);
          }

      measured_whole : Result (Measure None op)
      measured_whole =
          plainly command (finished.Measured (number_for c.setup op)) 0 false refl
          (completes_by w before n a c command o.told.now line behind none o.honest o.still o.chance Aside aside beside (measures.MeasureAsked pair op a.history d serves phase asks) (measures.MeasureAnswered pair op a.history d serves phase asks)
          (measures.Quiet pair op a.history d serves phase asks) (finished.Measured (number_for c.setup op)) 0 false (λ log h g z. (z.0, zero_free h z.0.made (steps.is_live (steps.session_of 0 h)) refl)) (measures.measure_talk pair op a.history d serves phase asks) 0 (omega arith)
          (plain_sent a.history (GetMeasurements op)) (fresh_told a command unworn ∙ ap (commanded_by a) asks)
          (record {
            h_is = refl;
            tag_is = refl;
            body_is = refl;
            quiet = o.told.quiet;
            again = made_again a.setup c.setup op (asked.negotiation_of a.history) serves c.history here.made here.drawn (sym o.told.quiet.negotiation);
          }))

      record_whole : Taken
      record_whole =
          let talk = measures.measure_talk pair op a.history d serves phase asks in
          let e = runs w before n a c command o.told.now line behind none o.honest o.still o.chance Aside aside beside wear_limit all_fits o.told.now.life.requester o.told.now.life.responder (measures.MeasureAsked pair op a.history d serves phase asks) (measures.MeasureAnswered pair op a.history d serves phase asks)
          (measures.Quiet pair op a.history d serves phase asks) (finished.Measured (number_for c.setup op)) talk (λ more. 66) (λ more. 66)
          (all_short pair (measures.MeasureAsked pair op a.history d serves phase asks) (measures.MeasureAnswered pair op a.history d serves phase asks) (measures.Quiet pair op a.history d serves phase asks) (event.Done (finished.Measured (number_for c.setup op))) talk) 0 (three_few 0 (omega arith))
          (plain_sent a.history (GetMeasurements op)) (fresh_told a command unworn ∙ ap (commanded_by a) asks)
          (record {
            h_is = refl;
            tag_is = refl;
            body_is = refl;
            quiet = o.told.quiet;
            again = made_again a.setup c.setup op (asked.negotiation_of a.history) serves c.history here.made here.drawn (sym o.told.quiet.negotiation);
          }) in
          record {
            told = contained (lines_from (After command) behind) _ e.1;
            requester = asker pair e.0.view.given e.0.view.commands e.0.view.asked;
            is_requester = e.0.shows.is_requester;
            none = e.0.done.0.none;
            taken = e.0.done.1;
          }

    -- It is sent in chunks.
    module _ (large : (asked.connection_terms a.history).common.to_requester.transfer < measurements_size c.setup op) where
      in_common : (b : Bool) → (asked.connection_terms a.history).common.chunk ≡ b → b ≡ true
      in_common true is = refl
      in_common false is = (let fits = can.2.1 is in absurd (omega (arith, fits, large)))

      goes : GoesLarge a.setup c.setup op (asked.negotiation_of a.history)
      goes = record {
        byte = can.0;
        block = can.1;
        chosen = measure_chosen;
        fetch = record {
          room = here.responder.sizes.least;
          chunk = in_common (asked.connection_terms a.history).common.chunk refl;
          large = omega (arith, large);
          few = omega arith;
          fits_max = can.2.0;
          transfer = own_sizes.transfer;
          max = own_sizes.max;
          least = here.requester.sizes.least;
          ordered = here.requester.sizes.ordered;
          most = here.requester.sizes.most;
        };
      }

      most_bytes : measurements_size c.setup op ≤ MAX_MESSAGE_SIZE
      most_bytes =
          let fits = can.2.0 in
          let max = own_sizes.max in
          let most = here.requester.sizes.most in
          omega (arith, fits, max, most)

      counts : InChunks (transfer_in (asked.negotiation_of a.history)) (measurements_size c.setup op)
      counts =
          let least = here.requester.sizes.least in
          let transfer = own_sizes.transfer in
          in_chunks (transfer_in (asked.negotiation_of a.history)) (measurements_size c.setup op) (omega (arith, least, transfer)) large most_bytes

      measured_by_chunks : Result (Measure None op)
      measured_by_chunks =
          plainly command (finished.Measured (number_for c.setup op)) 0 false refl
          (completes_within w before n a c command o.told.now line behind none o.honest o.still o.chance Aside aside beside (larges.MeasureAsked pair op a.history d goes phase asks) (larges.MeasureAnswered pair op a.history d goes phase asks)
          (larges.Quiet pair op a.history d goes phase asks) (finished.Measured (number_for c.setup op)) 0 false (λ log h g z. (z.0, zero_free h z.0.made (steps.is_live (steps.session_of 0 h)) refl)) (larges.large_talk pair op a.history d goes phase asks)
          (λ more. 1) (λ more. counts.each) (larges.are_short pair op a.history d goes phase asks counts.each counts.fits) (larges.count pair op a.history d goes phase asks) (few_by_chunks (transfer_in (asked.negotiation_of a.history)) (measurements_size c.setup op) counts)
          (plain_sent a.history (GetMeasurements op)) (fresh_told a command unworn ∙ ap (commanded_by a) asks)
          (inl (record {
            more_is = refl;
            h_is = refl;
            tag_is = refl;
            body_is = refl;
            quiet = o.told.quiet;
            again = large_again a.setup c.setup op (asked.negotiation_of a.history) goes c.history here.made here.drawn (sym o.told.quiet.negotiation) (sym o.told.quiet.phase ∙ phase);
          })))

      record_by_chunks : Taken
      record_by_chunks =
          let e = runs w before n a c command o.told.now line behind none o.honest o.still o.chance Aside aside beside wear_limit all_fits o.told.now.life.requester o.told.now.life.responder (larges.MeasureAsked pair op a.history d goes phase asks) (larges.MeasureAnswered pair op a.history d goes phase asks)
          (larges.Quiet pair op a.history d goes phase asks) (finished.Measured (number_for c.setup op)) (larges.large_talk pair op a.history d goes phase asks)
          (λ more. 1) (λ more. counts.each) (larges.are_short pair op a.history d goes phase asks counts.each counts.fits) (larges.count pair op a.history d goes phase asks) (few_by_chunks (transfer_in (asked.negotiation_of a.history)) (measurements_size c.setup op) counts)
          (plain_sent a.history (GetMeasurements op)) (fresh_told a command unworn ∙ ap (commanded_by a) asks)
          (inl (record {
            more_is = refl;
            h_is = refl;
            tag_is = refl;
            body_is = refl;
            quiet = o.told.quiet;
            again = large_again a.setup c.setup op (asked.negotiation_of a.history) goes c.history here.made here.drawn (sym o.told.quiet.negotiation) (sym o.told.quiet.phase ∙ phase);
          })) in
          record {
            told = contained (lines_from (After command) behind) _ e.1;
            requester = asker pair e.0.view.given e.0.view.commands e.0.view.asked;
            is_requester = e.0.shows.is_requester;
            none = e.0.done.0.none;
            taken = e.0.done.1;
          }

    -- The record that was taken.
    pub recorded : Taken
    recorded = by_size (nat_le (measurements_size c.setup op) (asked.connection_terms a.history).common.to_requester.transfer) refl
      where
        by_size : (b : Bool) → nat_le (measurements_size c.setup op) (asked.connection_terms a.history).common.to_requester.transfer ≡ b → Taken
        by_size true is = record_whole (leb-true _ _ is)
        by_size false is = record_by_chunks (leb-false _ _ is)

    measured : Result (Measure None op)
    measured = by_size (nat_le (measurements_size c.setup op) (asked.connection_terms a.history).common.to_requester.transfer) refl
      where
        by_size : (b : Bool) → nat_le (measurements_size c.setup op) (asked.connection_terms a.history).common.to_requester.transfer ≡ b → Result (Measure None op)
        by_size true is = measured_whole (leb-true _ _ is)
        by_size false is = measured_by_chunks (leb-false _ _ is)

  -- ---- Each command.

  no_retry : IsOver Retry → Result Retry
  no_retry o =
      let unworn = fresh w before n a c Retry o.told.now line behind none o.honest o.still o.chance Aside aside beside in
      let step = told_so a Retry unworn o.told.accepted in
      absurd (false≢true (sym (test_is_false false a.setup a.history Retry (command_chosen a.setup a.history (asking.next_draw a)) step.0 0) ∙ ap is_none o.told.quiet.none))

  pub each : (command : Command) → CanDo a c command → IsOver command → Result command
  each Connect can o = plainly Connect finished.Connected 0 false refl (connects.connected w before n a c o.told.now can line behind none o.honest o.still o.chance Aside aside beside 0)
  each (Open summary) can o = plainly (Open summary) (finished.Opened (opened_id a c)) (free_id a.history) true refl (opens.opened w before n a c summary o.told can line behind none o.honest o.still o.chance Aside aside beside)
  each (Send id bytes) can o = in_session (Send id bytes) id can refl refl o
  each (Beat id) can o = in_session (Beat id) id can refl refl o
  each (Update id all) can o = in_session (Update id all) id can refl refl o
  each (Measure None op) can o = measured op can o
  each (Measure (Some id) op) can o = in_session (Measure (Some id) op) id can refl refl o
  each (End id) can o = in_session (End id) id can refl refl o
  each Retry can o = no_retry o

  -- ---- What each means.

  held : (result : Finished) (id : ℕ) (left : Bool) (world : World) (lines : List Line) → IsDoneQuietly n a.setup c.setup result id left world lines → Holds n id left world
  held result id left world lines x = record { requester = x.requester; is_requester = x.is_requester; session = x.session }

  over : (command : Command) → IsOver command → sessions.IsOver w before n a c line behind none Aside aside beside command
  over command o = record { told = o.told; honest = o.honest; still = o.still; chance = o.chance }

  in_session_held : (command : Command) (id : ℕ) → CanAsk a c command → session_in command ≡ Some id → IsOver command → Holds n id (goes_on command) (world_from (After command) behind)
  in_session_held command id can named o = held (result_of a c command) id (goes_on command) (world_from (After command) behind) (lines_from (After command) behind) (sessions.each w before n a c line behind none Aside aside beside command id can named (over command o)).0

  pub means : (command : Command) → CanDo a c command → IsOver command → Means n a c command (world_from (After command) behind) (lines_from (After command) behind)
  means Connect can o = (can.choice, connects.settled w before n a c o.told.now can line behind none o.honest o.still o.chance Aside aside beside)
  means (Open summary) can o =
      held (finished.Opened (opened_id a c)) (free_id a.history) true (world_from (After (Open summary)) behind) (lines_from (After (Open summary)) behind) (opens.opened w before n a c summary o.told can line behind none o.honest o.still o.chance Aside aside beside).0
  means (Send id bytes) can o = (in_session_held (Send id bytes) id can refl o, sessions.queued_taken w before n a c line behind none Aside aside beside id bytes (over (Send id bytes) o))
  means (Beat id) can o = in_session_held (Beat id) id can refl o
  means (Update id all) can o = in_session_held (Update id all) id can refl o
  means (Measure None op) can o = recorded op can o
  means (Measure (Some id) op) can o = (in_session_held (Measure (Some id) op) id can refl o, sessions.recorded w before n a c line behind none Aside aside beside id op can (over (Measure (Some id) op) o))
  means (End id) can o = (in_session_held (End id) id can refl o, sessions.gone_there w before n a c line behind none Aside aside beside id (over (End id) o))
  means Retry can o = tt

pub quiet_commands_complete : QuietCommandsComplete
quiet_commands_complete w before n a c command told can line behind none honest still chance = (
  (each w before n a c line behind none (λ later. Unit {0}) (nothing_aside (pair_of n a c)) tt command can (record { told = told; honest = honest; still = inl still; chance = chance })).0,
  means w before n a c line behind none (λ later. Unit {0}) (nothing_aside (pair_of n a c)) tt command can (record { told = told; honest = honest; still = inl still; chance = chance }),
)

pub quiet_measures_complete : QuietMeasuresComplete
quiet_measures_complete w before n a c None op told can line behind none honest still chance =
    recorded w before n a c line behind none (λ later. Unit {0}) (nothing_aside (pair_of n a c)) tt op can (record { told = told; honest = honest; still = inl still; chance = chance })
quiet_measures_complete w before n a c (Some id) op told can line behind none honest still chance =
    sessions.recorded w before n a c line behind none (λ later. Unit {0}) (nothing_aside (pair_of n a c)) tt id op can (record { told = told; honest = honest; still = inl still; chance = chance })

pub pumps_are_enough : PumpsAreEnough
unfolding happens
pumps_are_enough w before n a c command told can line count most chance =
    (each w before n a c line (record { line = line; happening = Pump count } ∷ []) (refl, tt) (λ later. Unit {0}) (nothing_aside (pair_of n a c)) tt command can (record { told = told; honest = (tt, tt); still = inr (inr (line, count, most, refl)); chance = chance })).1.idle

pub results_come_last : ResultsComeLast
results_come_last w before n a c command told can line behind none honest nothing chance =
    (each w before n a c line behind none (λ later. Unit {0}) (nothing_aside (pair_of n a c)) tt command can (record { told = told; honest = honest; still = inr (inl nothing); chance = chance })).1.idle
