-- A connect that is told where no packet waits is in progress, so honest delivery completes it.
use Rattle.std.proofs.Common.{◌≡◌, ◌∙◌, ◌==◌, ℕ, suc, ◌≤◌, ◌+◌, ◌-◌, ◌⊎◌, cond, eq-eqb, List, [], ◌∷◌, length, Bool, true, false, Some, None, refl, sym, ap, subst, inl, inr, arith}
use Rattle.std.proofs.lemmas.Bool.{false≢true}
use Rattle.spdm_grammar.specs.Message.RequestMessage.{GetVersion}
use Rattle.spdm_machine.specs.Packets.{packets_to, wear_limit}
use Rattle.spdm_machine.specs.Terms.{terms_of}
use Rattle.spdm_machine.proofs.Members.{IsIn}
use Rattle.requester_machine.specs.Asking.Outcome.{Adds}
use Rattle.requester_machine.specs.History as asked
use Rattle.requester_machine.specs.History.Entry.{Told as WasTold}
use Rattle.requester_machine.specs.Message.Command.{Connect}
use Rattle.requester_machine.specs.Requesting as asking
use Rattle.requester_machine.specs.Requesting.{Requesting, CommandStep, requester_told, commanded_by}
use Rattle.requester_machine.specs.Sending.{plain_sent}
use Rattle.responder_machine.specs.Responding.{Connection, connection_of}
use Rattle.transcript.specs.Transcripts.{Negotiation}
use Rattle.world_machine.specs.Happenings.{Entry}
use Rattle.world_machine.specs.Happenings.Happening.{Told, Pump}
use Rattle.world_machine.specs.Setup.{WorldSetup}
use Rattle.world_machine.specs.Trace.{world_from, world_after, lines_from}
use Rattle.world_machine.specs.World.{World, WorldStep, happens, told, told_by, requester_of, with_sent, first_waiting, pumps}
use Rattle.spdm_agreement.proofs.Worlds.AllEvents.{requester_in}
use Rattle.spdm_progress.specs.Connecting.{ConnectIsTold, IsConnected, ConnectCompletes, SixPacketsAreEnough, EachIsConnected, connecting}
use Rattle.spdm_progress.specs.Honest.{NothingWaits, AreHonest, HaveNoCommand}
use Rattle.spdm_progress.proofs.Between.{ended}
use Rattle.spdm_progress.proofs.OnePacket.{packet_to, one_packet}
use Rattle.spdm_progress.proofs.PacketSteps.{not_worn, Pair, asker, server}
use Rattle.spdm_progress.proofs.Places.{found_new, number_new, of_new}
use Rattle.spdm_progress.proofs.RequesterStages.{told_connect, asks_version}
use Rattle.spdm_progress.proofs.ResponderBegins.{awaits_version}
use Rattle.spdm_progress.proofs.ResponderStages.{get_version, AwaitsVersion}
use Rattle.spdm_progress.proofs.SetUps.{CanTalk, can_talk}
use Rattle.spdm_machine.proofs.Settling.{algorithms_keep}
use Rattle.spdm_progress.proofs.ResponderStages.{two_pairs}
use Rattle.spdm_progress.proofs.Told.{ArePlaced, are_placed, contained, fits_always, pair_of}
use Rattle.spdm_progress.proofs.UnderWay as under_way
use Rattle.spdm_progress.proofs.Waiting.{OneWaits, one_waits}

-- The requester's step.
abbrev connect_step : Requesting → CommandStep
connect_step a = commanded_by a (Adds (WasTold Connect (plain_sent a.history GetVersion) (asking.next_draw a)))

told_is : (world : World) (n : ℕ) (a : Requesting) → requester_of n world ≡ Some a → asking.is_worn a ≡ false → happens world (Told n Connect) ≡ told_by world n (connect_step a)
unfolding happens
told_is world n a is fresh = ap (told world n Connect) is ∙ ap (told_by world n) (told_connect a fresh)

module _ (w : WorldSetup) (before : List Entry) (n : ℕ) (a : Requesting) (c : Connection) (is_told : ConnectIsTold w before n a c) where
  abbrev world : World
  world = world_after w before

  placed : ArePlaced world n a c
  placed = are_placed w before n a c is_told.configured is_told.no_chance is_told.is_requester is_told.is_connection

  abbrev p : Pair
  p = pair_of n a c

  talks : CanTalk p.requester p.responder is_told.can.offer is_told.can.choice
  talks = can_talk a.setup c.setup is_told.can.offer is_told.can.choice placed.requester placed.responder is_told.can.offered is_told.can.chosen is_told.request_fits is_told.answer_fits

  abbrev later : World
  later = (told_by world n (connect_step a)).after

  abbrev new : Requesting
  new = asker p a.given (a.commands + 1) (WasTold Connect (plain_sent a.history GetVersion) (asking.next_draw a) ∷ a.history)

  sent_one : packets_to a.setup.responder a.setup.eid true (asked.next_tag a.history) a.setup.unit (5 ∷ get_version) ≡ packet_to c.setup.eid a.setup.eid true (asked.next_tag a.history) get_version ∷ []
  sent_one =
      let unit = placed.requester.sizes.payload in
      one_packet a.setup.responder a.setup.eid true (asked.next_tag a.history) a.setup.unit get_version (omega arith) ∙ ap (λ (to : ℕ). packet_to to a.setup.eid true (asked.next_tag a.history) get_version ∷ []) placed.to

  -- The first packet waits.
  abbrev Begins : World → Type 0
  Begins world = under_way.Requested p placed.ends is_told.can.offer is_told.can.choice talks 3 3 (asked.next_tag a.history) get_version (under_way.AsksVersion p placed.ends is_told.can.offer is_told.can.choice talks (asked.next_tag a.history)) AwaitsVersion world

  begins : Begins later
  begins =
      let requester_life = is_told.life.requester in let responder_life = is_told.life.responder in
      let asks_it = asks_version a.setup a.history (asking.next_draw a) in
      record {
        small = asks_it.small;
        waits = subst (λ (packets : List (List ℕ)). OneWaits (packet_to c.setup.eid a.setup.eid true (asked.next_tag a.history) get_version) (with_sent world.sent packets)) (sym sent_one)
            (one_waits world.sent (packet_to c.setup.eid a.setup.eid true (asked.next_tag a.history) get_version) is_told.idle);
        pair = record {
          given = a.given;
          commands = a.commands + 1;
          asked = WasTold Connect (plain_sent a.history GetVersion) (asking.next_draw a) ∷ a.history;
          served = c.history;
          is_requester = of_new n new world later a refl is_told.is_requester refl;
          found = found_new new world.requesters a placed.found;
          number_is = number_new 1 a.setup.eid new world.requesters ∙ placed.number_is;
          is_connection = is_told.is_connection;
          own = placed.own;
          asks = asks_it;
          serves = awaits_version c.setup c.history placed.responder placed.made;
          life = omega arith;
          responder_life = responder_life;
        };
      }

  fresh : asking.is_worn a ≡ false
  fresh = (let requester_life = is_told.life.requester in not_worn (length a.given + a.commands) wear_limit (omega arith))

  begun : (line : ℕ) → Begins (connecting world line n)
  begun line = subst (λ (s : WorldStep). Begins s.after) (sym (told_is world n a is_told.is_requester fresh)) begins

  -- ---- The end.

  abbrev IsUnderWay : World → Type 0
  IsUnderWay later_world = under_way.IsUnderWay p placed.ends is_told.can.offer is_told.can.choice talks later_world

  abbrev IsDone : World → Type 0
  IsDone later_world = under_way.IsDone p placed.ends is_told.can.offer is_told.can.choice talks later_world

  result : (s : WorldStep) → IsDone s.after → IsIn s.lines (under_way.done_line p placed.ends is_told.can.offer is_told.can.choice talks) → IsConnected n a.setup c.setup is_told.can.choice s.after s.lines
  result s d m = record {
    told = contained s.lines _ m;
    requester = asker p d.pair.given d.pair.commands d.pair.asked;
    is_requester = d.pair.is_requester;
    connection = server p d.pair.served;
    is_connection = d.pair.is_connection;
    requester_setup = refl;
    responder_setup = refl;
    none = d.pair.asks.none;
    requester_phase = d.pair.asks.phase;
    responder_phase = d.pair.serves.phase_is;
    same = d.pair.asks.negotiation ∙ sym d.pair.serves.negotiation;
    chosen = ap (λ (x : Negotiation). (terms_of x).choice) d.pair.asks.negotiation ∙ talks.choice_is;
    common = ap (λ (x : Negotiation). (terms_of x).common) d.pair.asks.negotiation ∙ algorithms_keep (two_pairs a.setup c.setup) _ _ ∙ talks.common_is;
  }

  pub completes : (line : ℕ) (behind : List Entry) → HaveNoCommand behind → AreHonest (connecting world line n) behind → NothingWaits (world_from (connecting world line n) behind)
      → IsConnected n a.setup c.setup is_told.can.choice (world_from (connecting world line n) behind) (lines_from (connecting world line n) behind)
  completes line behind none honest over =
      let e = ended IsUnderWay IsDone (λ later_world. Unit {0}) (under_way.done_line p placed.ends is_told.can.offer is_told.can.choice talks) (λ later_world event sound. tt)
      (λ later_world sound going. under_way.one_given p placed.ends is_told.can.offer is_told.can.choice talks later_world going)
      (under_way.done_idle p placed.ends is_told.can.offer is_told.can.choice talks) (under_way.under_way_kept p placed.ends is_told.can.offer is_told.can.choice talks) (under_way.done_kept p placed.ends is_told.can.offer is_told.can.choice talks)
      (connecting world line n) behind none honest tt (inl (asked.next_tag a.history, begun line)) over in
      result (record { lines = lines_from (connecting world line n) behind; after = world_from (connecting world line n) behind }) e.done e.line_is

  six_on : (count : ℕ) → 6 ≤ count → suc (suc (suc (suc (suc (suc (count - 6)))))) ≡ count
  six_on count most = omega arith

  pub six : (line count : ℕ) → 6 ≤ count → NothingWaits (happens (connecting world line n) (Pump count)).after
  unfolding happens
  six line count most =
      subst (λ (k : ℕ). first_waiting (pumps k (connecting world line n)).after.sent ≡ None) (six_on count most)
      (under_way.six_pumped p placed.ends is_told.can.offer is_told.can.choice talks (count - 6) (connecting world line n) (asked.next_tag a.history) (begun line)).idle

pub connect_completes : ConnectCompletes
connect_completes w before n a c is_told line behind none honest over = completes w before n a c is_told line behind none honest over

pub six_packets_are_enough : SixPacketsAreEnough
six_packets_are_enough w before n a c is_told line count most = six w before n a c is_told line count most

-- ---- Each requester has a connection.

found_some : (eid : ℕ) (cs : List Connection) (c : Connection) → IsIn cs c → c.setup.peer ≡ eid → (d : Connection) × (connection_of eid cs ≡ Some d)
found_some eid [] c m same = absurd m
found_some eid (x ∷ others) c m same = first (x.setup.peer == eid) refl (elim m [
  | inl e ↦ inl (ap (λ (y : Connection). y.setup.peer) (sym e) ∙ same)
  | inr k ↦ inr (found_some eid others c k same)
])
  where
    first : (b : Bool) → (x.setup.peer == eid) ≡ b → (x.setup.peer ≡ eid) ⊎ ((d : Connection) × (connection_of eid others ≡ Some d)) → (d : Connection) × (connection_of eid (x ∷ others) ≡ Some d)
    first true e s = (x, ap (λ (b : Bool). cond b (Some x) (connection_of eid others)) e)
    first false e (inl same_peer) = absurd (false≢true (sym e ∙ eq-eqb x.setup.peer eid same_peer))
    first false e (inr s) = (s.0, ap (λ (b : Bool). cond b (Some x) (connection_of eid others)) e ∙ s.1)

pub each_is_connected : EachIsConnected
each_is_connected w conf before chance n a is =
    let x = (fits_always w conf before chance).apart.served a (requester_in n (world_after w before) a is) in
    found_some a.setup.eid (world_after w before).responder.connections x.0 x.1 x.2
