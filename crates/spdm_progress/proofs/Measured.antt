-- A clear measure that is told where no packet waits is in progress, so honest delivery completes it.
use Rattle.std.proofs.Common.{◌≡◌, ◌∙◌, ℕ, ◌+◌, List, [], ◌∷◌, length, true, false, Some, None, refl, sym, ap, subst, inl, arith}
use Rattle.spdm_grammar.specs.Lines.{Line}
use Rattle.spdm_machine.specs.Packets.{packets_to, wear_limit}
use Rattle.spdm_machine.proofs.Members.{IsIn}
use Rattle.requester_machine.specs.Asking.Outcome.{Adds}
use Rattle.requester_machine.specs.History as asked
use Rattle.requester_machine.specs.History.Entry.{Told as WasTold}
use Rattle.requester_machine.specs.Requesting as asking
use Rattle.requester_machine.specs.Requesting.{Requesting, CommandStep, requester_told, commanded_by}
use Rattle.requester_machine.specs.Sending.{plain_sent}
use Rattle.responder_machine.specs.Responding.{Connection}
use Rattle.transcript.specs.Transcripts.{Negotiation}
use Rattle.world_machine.specs.Happenings.{Entry}
use Rattle.world_machine.specs.Happenings.Happening.{Told}
use Rattle.world_machine.specs.Setup.{WorldSetup}
use Rattle.world_machine.specs.Trace.{world_from, world_after, lines_from}
use Rattle.world_machine.specs.World.{World, WorldStep, happens, told, told_by, requester_of, with_sent}
use Rattle.spdm_progress.specs.Honest.{NothingWaits, AreHonest, HaveNoCommand}
use Rattle.spdm_progress.proofs.Between.{ended}
use Rattle.spdm_progress.proofs.OnePacket.{packet_to, one_packet}
use Rattle.spdm_progress.proofs.PacketSteps.{Pair, asker}
use Rattle.spdm_progress.proofs.Places.{found_new, number_new, of_new}
use Rattle.spdm_progress.proofs.Waiting.{OneWaits, one_waits}
use Rattle.requester_machine.specs.Message.Command.{Measure}
use Rattle.spdm_grammar.specs.Message.RequestMessage.{GetMeasurements}
use Rattle.spdm_progress.specs.Measuring.{IsMeasured, MeasureCompletes, MeasureIsTold, measuring}
use Rattle.spdm_progress.proofs.MeasureStages.{made_again, CanServe, asks_measure, get_measurements, told_measure}
use Rattle.spdm_progress.proofs.MeasureUnderWay as under_way_measure
use Rattle.spdm_progress.proofs.PacketSteps.{not_worn}
use Rattle.spdm_progress.proofs.Told.{ArePlaced, are_placed, contained, pair_of}

-- The requester's step.
abbrev measure_step : Requesting → ℕ → CommandStep
measure_step a op = commanded_by a (Adds (WasTold (Measure None op) (plain_sent a.history (GetMeasurements op)) (asking.next_draw a)))

told_is : (world : World) (n op : ℕ) (a : Requesting) → requester_of n world ≡ Some a → requester_told a (Measure None op) ≡ measure_step a op → happens world (Told n (Measure None op)) ≡ told_by world n (measure_step a op)
unfolding happens
told_is world n op a is step = ap (told world n (Measure None op)) is ∙ ap (told_by world n) step

module _ (w : WorldSetup) (before : List Entry) (n : ℕ) (a : Requesting) (c : Connection) (op : ℕ) (is_told : MeasureIsTold w before n a c op) where
  abbrev world : World
  world = world_after w before

  placed : ArePlaced world n a c
  placed = are_placed w before n a c is_told.configured is_told.no_chance is_told.is_requester is_told.is_connection

  abbrev p : Pair
  p = pair_of n a c

  abbrev negotiation : Negotiation
  negotiation = asked.negotiation_of a.history

  can : CanServe p.requester p.responder op negotiation
  can = record {
    room = placed.responder.sizes.least;
    byte = is_told.can.byte;
    block = is_told.can.block;
    chosen = is_told.can.chosen;
    fits = is_told.can.answer_fits;
    fits_max = is_told.can.answer_fits_max;
    fits_own = is_told.can.answer_fits_own;
    most = (let most = placed.requester.sizes.most in let ordered = placed.requester.sizes.ordered in omega arith);
  }

  fresh : asking.is_worn a ≡ false
  fresh = (let life = is_told.life.requester in not_worn (length a.given + a.commands) wear_limit (omega arith))

  abbrev later : World
  later = (told_by world n (measure_step a op)).after

  abbrev new : Requesting
  new = asker p a.given (a.commands + 1) (WasTold (Measure None op) (plain_sent a.history (GetMeasurements op)) (asking.next_draw a) ∷ a.history)

  sent_one : packets_to a.setup.responder a.setup.eid true (asked.next_tag a.history) a.setup.unit (5 ∷ get_measurements op) ≡ packet_to c.setup.eid a.setup.eid true (asked.next_tag a.history) (get_measurements op) ∷ []
  sent_one =
      let unit = placed.requester.sizes.payload in
      one_packet a.setup.responder a.setup.eid true (asked.next_tag a.history) a.setup.unit (get_measurements op) (omega arith) ∙ ap (λ (to : ℕ). packet_to to a.setup.eid true (asked.next_tag a.history) (get_measurements op) ∷ []) placed.to

  begins : under_way_measure.Requested p placed.ends op negotiation can later
  begins =
      let life = is_told.life.requester in let responder_life = is_told.life.responder in
      let asks_it = asks_measure a.setup a.history (asking.next_draw a) op negotiation refl in record {
        tag = asked.next_tag a.history;
        small = asks_it.small;
        waits = subst (λ (packets : List (List ℕ)). OneWaits (packet_to c.setup.eid a.setup.eid true (asked.next_tag a.history) (get_measurements op)) (with_sent world.sent packets)) (sym sent_one)
            (one_waits world.sent (packet_to c.setup.eid a.setup.eid true (asked.next_tag a.history) (get_measurements op)) is_told.idle);
        pair = record {
          given = a.given;
          commands = a.commands + 1;
          asked = WasTold (Measure None op) (plain_sent a.history (GetMeasurements op)) (asking.next_draw a) ∷ a.history;
          served = c.history;
          is_requester = of_new n new world later a refl is_told.is_requester refl;
          found = found_new new world.requesters a placed.found;
          number_is = number_new 1 a.setup.eid new world.requesters ∙ placed.number_is;
          is_connection = is_told.is_connection;
          own = placed.own;
          asks = asks_it;
          serves = record { phase_is = is_told.can.responder_phase; negotiation = sym is_told.can.same; again = made_again a.setup c.setup op negotiation can c.history placed.made placed.drawn (sym is_told.can.same) };
          life = omega arith;
          responder_life = responder_life;
        };
      }

  begun : (line : ℕ) → under_way_measure.Requested p placed.ends op negotiation can (measuring world line n op)
  begun line = subst (λ (s : WorldStep). under_way_measure.Requested p placed.ends op negotiation can s.after) (sym (told_is world n op a is_told.is_requester (told_measure a op fresh is_told.accepted is_told.can.request_fits))) begins

  abbrev IsUnderWay : World → Type 0
  IsUnderWay later_world = under_way_measure.IsUnderWay p placed.ends op negotiation can later_world

  abbrev IsDone : World → Type 0
  IsDone later_world = under_way_measure.IsDone p placed.ends op negotiation can later_world

  abbrev done_line : Line
  done_line = under_way_measure.done_line p placed.ends op negotiation can

  result : (s : WorldStep) → IsDone s.after → IsIn s.lines done_line → IsMeasured n c.setup op s.after s.lines
  result s d m = record {
    told = contained s.lines done_line m;
    requester = asker p d.pair.given d.pair.commands d.pair.asked;
    is_requester = d.pair.is_requester;
    none = d.pair.asks.none;
    taken = d.pair.asks.taken;
  }

  pub completes : (line : ℕ) (behind : List Entry) → HaveNoCommand behind → AreHonest (measuring world line n op) behind → NothingWaits (world_from (measuring world line n op) behind)
      → IsMeasured n c.setup op (world_from (measuring world line n op) behind) (lines_from (measuring world line n op) behind)
  completes line behind none honest over =
      let e = ended IsUnderWay IsDone (λ later_world. Unit {0}) done_line (λ later_world event sound. tt) (λ later_world sound going. under_way_measure.one_given p placed.ends op negotiation can later_world going) (under_way_measure.done_idle p placed.ends op negotiation can)
      (under_way_measure.under_way_kept p placed.ends op negotiation can) (under_way_measure.done_kept p placed.ends op negotiation can) (measuring world line n op) behind none honest tt (inl (begun line)) over in
      result (record { lines = lines_from (measuring world line n op) behind; after = world_from (measuring world line n op) behind }) e.done e.line_is

pub measure_completes : MeasureCompletes
measure_completes w before n a c op is_told line behind none honest over = completes w before n a c op is_told line behind none honest over
