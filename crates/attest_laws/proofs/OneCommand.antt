-- A command that an attesting requester tells in a quiet world: turns of honest delivery bring it to its result, and
-- nothing is decided before.
use Rattle.std.proofs.Common.{◌≡◌, ◌⊎◌, ◌∙◌, ◌≤◌, ◌+◌, ℕ, zero, suc, List, [], ◌∷◌, ◌++◌, Bool, true, false, Option, Some, None, is_none, is_some, ◌||◌, refl, sym, ap, subst, inl, inr, arith, append_assoc}
use Rattle.std.proofs.lemmas.Bool.{false≢true}
use Rattle.attestor.proofs.Outstanding.{given_waits, told_waits}
use Rattle.attestor.specs.Attesting.{Attesting, attesting_given, attesting_over, follows}
use Rattle.attestor.specs.Standing.{waits_after}
use Rattle.requester_machine.specs.History as asked
use Rattle.requester_machine.specs.Message.{Command, Sent}
use Rattle.requester_machine.specs.Requesting.{PacketStep, Requesting, requester_given, requester_told}
use Rattle.responder_machine.specs.Responding.{Connection, connection_of}
use Rattle.responder_machine.specs.Setup.{RspPart}
use Rattle.script_text.specs.declared.texts.rule.Rule.{Rule}
use Rattle.spdm_agreement.specs.Configured.{IsConfigured}
use Rattle.spdm_grammar.specs.Lines.{Line}
use Rattle.spdm_grammar.specs.declared.told.command_fault.CommandFault.{CommandFault}
use Rattle.spdm_grammar.specs.declared.told.event.Event.{Event}
use Rattle.spdm_grammar.specs.declared.told.event.Event.TheVariants as event
use Rattle.spdm_machine.proofs.Members.{in_contained, some_same}
use Rattle.spdm_machine.specs.Packets.{wear_limit}
use Rattle.spdm_progress.proofs.Connected.{each_is_connected}
use Rattle.spdm_progress.proofs.Paragraphs.{Paragraph, entries_of, lines_behind, paragraph_done, paragraph_ready, world_behind}
use Rattle.spdm_progress.proofs.QuietWorlds.{IsReady, always_differ}
use Rattle.spdm_progress.proofs.SessionCompletes.{Rests, no_chance_from}
use Rattle.spdm_progress.proofs.Told.{are_placed}
use Rattle.spdm_progress.specs.Scripts.{CanDo, HasNone, IsDone, Means, OfEachCommand, result_for}
use Rattle.spdm_progress.specs.SessionCommands.{commanding, most_asked, most_packets}
use Rattle.world_machine.specs.Chance.{NoChance}
use Rattle.world_machine.specs.Happenings.{Entry}
use Rattle.world_machine.specs.Happenings.Happening.{Pump, Told}
use Rattle.world_machine.specs.Setup.{WorldSetup}
use Rattle.world_machine.specs.Trace.{world_after, world_from}
use Rattle.world_machine.specs.World.{World, WorldStep, behind, delivers, entry_step, first_waiting, happens, packet_of, pumps, requester_of, turn}
use Rattle.attest_laws.proofs.Blocks.{stays_set_up}
use Rattle.attest_laws.proofs.Following.{Stands, told_stands}
use Rattle.attest_laws.proofs.OneTurn.{AllTold, TurnsTo, one_told, told_as, told_both, turned_none, turned_other, turned_own}
use Rattle.attest_laws.specs.Attested.{event_of, next_command, tells}
use Rattle.attest_laws.specs.Honest.{CanBeTold, Turn, after_turns, carries, is_for, next_packet, turn_for, turn_of, turns_from}

-- ---- Pumps.

abbrev with_lines : WorldStep → WorldStep → WorldStep
with_lines s x = record { lines = s.lines ++ x.lines; after = x.after }

behind_both : (s x y : WorldStep) → with_lines s (with_lines x y) ≡ with_lines (with_lines s x) y
behind_both s x y = ap (λ (lines : List Line). record { lines = lines; after = y.after }) (sym (append_assoc s.lines x.lines y.lines))

more_by : (count : ℕ) (world : World) (first : Option ℕ) → first_waiting world.sent ≡ first → ((later : World) → pumps (suc count) later ≡ behind (pumps count later) (pumps 1)) → turn world (pumps (suc count)) first ≡ behind (turn world (pumps count) first) (pumps 1)
unfolding pumps
more_by count world None is more = ap (turn world (pumps zero)) (sym is)
more_by count world (Some number) is more =
    let s = delivers world number (packet_of number world.sent) in
    ap (with_lines s) (more s.after) ∙ behind_both s (pumps count s.after) (pumps 1 (pumps count s.after).after)

-- A packet more.
pumps_more : (count : ℕ) (world : World) → pumps (suc count) world ≡ behind (pumps count world) (pumps 1)
unfolding pumps
pumps_more zero world = refl
pumps_more (suc count) world = more_by count world (first_waiting world.sent) refl (λ later. pumps_more count later)

-- ---- What is told of a request that stays outstanding decides nothing.

abbrev NotLast : Event → Type 0
NotLast told = waits_after told true ≡ true

abbrev own_turn : (n : ℕ) → Requesting → List Rule → (sent : List (List ℕ)) → Event → Turn
own_turn n a rules sent told = record { events = carries ∷ tells n (next_command told); after = (follows (attesting_over a rules) sent told).after }

still_turn : (n : ℕ) (a : Requesting) (rules : List Rule) (sent : List (List ℕ)) (told : Event) → NotLast told → own_turn n a rules sent told ≡ record { events = carries ∷ []; after = attesting_over a rules }
still_turn n a rules sent event.Progress waits = refl
still_turn n a rules sent (event.Done finish) waits = absurd (false≢true waits)
still_turn n a rules sent (event.Refused code) waits = absurd (false≢true waits)
still_turn n a rules sent (event.Stopped why) waits = absurd (false≢true waits)
still_turn n a rules sent (event.Lost id reply) waits = absurd (false≢true waits)
still_turn n a rules sent event.More waits = refl
still_turn n a rules sent (event.Warned code) waits = refl
still_turn n a rules sent (event.Ignored cause) waits = refl

turn_as : (n : ℕ) (a : Requesting) (rules : List Rule) (packet : List ℕ) → turn_for n (attesting_over a rules) packet true ≡ own_turn n (requester_given a packet).after rules (requester_given a packet).sent (requester_given a packet).event
unfolding attesting_given
turn_as n a rules packet = refl

none_out : (o : Option Sent) → is_some o ≡ false → o ≡ None
none_out None is = refl
none_out (Some sent) is = absurd (false≢true (sym is))

-- ---- A command.

module _ (w : WorldSetup) (configured : IsConfigured w) (before : List Entry) (n : ℕ) (command : Command) (most : ℕ) (room : most + most_asked ≤ wear_limit) (ready : IsReady most (world_after w before)) (b : Requesting) (is : requester_of n (world_after w before) ≡ Some b)
    (can : CanBeTold (world_after w before) 0 n command []) (rules : List Rule) (Goal : Attesting → Type 0) (left : ℕ) where
  abbrev first_world : World
  first_world = world_after w before

  -- The command, and so many packets behind it.
  abbrev pub part_of : ℕ → Paragraph
  part_of count = record { line = 0; n = n; command = command; behind = event_of (Pump count) ∷ [] }

  abbrev told_world : World
  told_world = commanding first_world 0 n command

  -- ---- Its result.

  -- After so many packets the requester is this one, and the command has its result, in a quiet world.
  pub record HasResult (world : World) (a : Requesting) : Type 0 where
    pub count : ℕ
    pub world_is : world ≡ world_behind first_world (part_of count)
    pub stands : Stands w.responder.part n b.setup.eid a world
    pub rests : IsReady (most + most_asked) world
    pub c : Connection
    pub connected : connection_of b.setup.eid first_world.responder.connections ≡ Some c
    pub means : Means n b c command world (lines_behind first_world (part_of count))

  abbrev Then : World → (a : Requesting) → (sent : List (List ℕ)) → Event → (count : ℕ) → List Entry
  Then world a sent told count = tells n (next_command told) ++ turns_from count n (world_from world (tells n (next_command told))) (follows (attesting_over a rules) sent told).after

  -- What goes on from there reaches the goal.
  abbrev pub GoesOn : Type 0
  GoesOn =
      (world : World) (a : Requesting) (x : HasResult world a) (sent : List (List ℕ)) (count : ℕ) → left ≤ count
      → NoChance (world_from world (Then world a sent (event.Done (result_for b x.c command)) count)).log
      → OfEachCommand CanBeTold world (Then world a sent (event.Done (result_for b x.c command)) count)
      → Goal (after_turns count n (world_from world (tells n (next_command (event.Done (result_for b x.c command))))) (follows (attesting_over a rules) sent (event.Done (result_for b x.c command))).after)

  module _ (goes_on : GoesOn) where
    -- The paragraph after so many packets, where it is at rest.
    module _ (count : ℕ) (chance : NoChance (world_behind first_world (part_of count)).log) (still : Rests n told_world (event_of (Pump count) ∷ [])) where
      connection : (c : Connection) × (connection_of b.setup.eid first_world.responder.connections ≡ Some c)
      connection = each_is_connected w configured before (no_chance_from first_world (entries_of (part_of count)) chance) n b is

      can_do : (a : Requesting) (c : Connection) → requester_of n first_world ≡ Some a → connection_of a.setup.eid first_world.responder.connections ≡ Some c → (requester_told a command).fault ≡ None → CanDo a c command
      can_do a c is_a connected ok = (can a c is_a connected).1

      part_ready : IsReady (most + most_asked) (world_behind first_world (part_of count))
      part_ready = paragraph_ready w configured before (part_of count) most room ready (refl, tt) (tt, tt) still chance can_do

      part_done : IsDone n b.setup connection.0.setup (result_for b connection.0 command) (world_behind first_world (part_of count)) (lines_behind first_world (part_of count))
          × Means n b connection.0 command (world_behind first_world (part_of count)) (lines_behind first_world (part_of count))
      part_done = paragraph_done w configured before (part_of count) most room ready (refl, tt) (tt, tt) still chance can_do b connection.0 is connection.1 (can b connection.0 is connection.1).0

    -- ---- Turns.

    abbrev Holds : World → Turn → ℕ → Type 0
    Holds world t count =
        NoChance (world_from world (t.events ++ turns_from count n (world_from world t.events) t.after)).log
        × OfEachCommand CanBeTold world (t.events ++ turns_from count n (world_from world t.events) t.after)

    abbrev Reaches : World → Turn → ℕ → Type 0
    Reaches world t count = Goal (after_turns count n (world_from world t.events) t.after)

    -- After so many packets a request is outstanding, and nothing was told that ends it.
    record IsOut (done : ℕ) (world : World) (a : Requesting) : Type 0 where
      world_is : world ≡ (pumps done told_world).after
      told : AllTold n NotLast (pumps done told_world).lines
      stands : Stands w.responder.part n b.setup.eid a world
      out : is_some (asked.outstanding a.history) ≡ true

    abbrev later : World → World
    later world = (entry_step world carries).after

    later_is : (done : ℕ) (world : World) → world ≡ (pumps done told_world).after → later world ≡ (pumps (suc done) told_world).after
    unfolding happens
    later_is done world is_world = ap (λ (z : World). (pumps 1 z).after) is_world ∙ ap (λ (s : WorldStep). s.after) (sym (pumps_more done told_world))

    lines_later : (P : Event → Type 0) (done : ℕ) (world : World) → world ≡ (pumps done told_world).after → AllTold n P (pumps done told_world).lines → AllTold n P (pumps 1 world).lines → AllTold n P (pumps (suc done) told_world).lines
    lines_later P done world is_world all new =
        subst (λ (s : WorldStep). AllTold n P s.lines) (sym (pumps_more done told_world))
        (told_both n P (pumps done told_world).lines (pumps 1 (pumps done told_world).after).lines all (subst (λ (z : World). AllTold n P (pumps 1 z).lines) is_world new))

    behind_is : (done : ℕ) → world_behind first_world (part_of done) ≡ (pumps done told_world).after
    unfolding happens
    behind_is done = refl

    lines_are : (P : Event → Type 0) (done : ℕ) → AllTold n P (pumps done told_world).lines → AllTold n P (lines_behind first_world (part_of done))
    unfolding happens
    lines_are P done all = (tt, told_both n P (pumps done told_world).lines [] all tt)

    -- ---- The last packet.

    -- All that was told of it was not the last, or is this.
    abbrev LastIs : Event → Event → Type 0
    LastIs last told = NotLast told ⊎ (told ≡ last)

    last_is : (last told : Event) → waits_after told true ≡ false → LastIs last told → told ≡ last
    last_is last told ends (inl waits) = absurd (false≢true (sym ends ∙ waits))
    last_is last told ends (inr same) = same

    over_at : (done : ℕ) (world : World) (a : Requesting) (sent : List (List ℕ)) (told : Event) → world ≡ world_behind first_world (part_of done) → Stands w.responder.part n b.setup.eid a world → is_some (asked.outstanding a.history) ≡ false
        → AllTold n (LastIs told) (lines_behind first_world (part_of done)) → (count : ℕ) → left ≤ count → Holds world (record { events = tells n (next_command told); after = (follows (attesting_over a rules) sent told).after }) count
        → Goal (after_turns count n (world_from world (tells n (next_command told))) (follows (attesting_over a rules) sent told).after)
    over_at done world a sent told world_is stands none all count enough holds =
        let chance = subst (λ (z : World). NoChance z.log) world_is (no_chance_from world (Then world a sent told count) holds.0) in
        let nothing : HasNone n (world_behind first_world (part_of done)) =
        λ x is_x. subst (λ (y : Requesting). asked.outstanding y.history ≡ None) (some_same a x (sym (subst (λ (z : World). requester_of n z ≡ Some a) world_is stands.at.is) ∙ is_x)) (none_out (asked.outstanding a.history) none) in
        let still : Rests n told_world (event_of (Pump done) ∷ []) = inr (inl nothing) in
        let c = connection done chance still in
        let d = part_done done chance still in
        let result : Event = event.Done (result_for b c.0 command) in
        let same : result ≡ told = last_is told result refl (one_told n (LastIs told) (lines_behind first_world (part_of done)) all result (in_contained (lines_behind first_world (part_of done)) (Line.ToRequester n result) d.0.told)) in
        let x : HasResult world a = record {
          count = done;
          world_is = world_is;
          stands = stands;
          rests = subst (IsReady (most + most_asked)) (sym world_is) (part_ready done chance still);
          c = c.0;
          connected = c.1;
          means = subst (λ (z : World). Means n b c.0 command z (lines_behind first_world (part_of done))) (sym world_is) d.1;
        } in
        subst (λ (e : Event). Goal (after_turns count n (world_from world (tells n (next_command e))) (follows (attesting_over a rules) sent e).after)) same
        (goes_on world a x sent count enough (subst (λ (e : Event). NoChance (world_from world (Then world a sent e count)).log) (sym same) holds.0) (subst (λ (e : Event). OfEachCommand CanBeTold world (Then world a sent e count)) (sym same) holds.1))

    -- Where most packets were given, none is outstanding.
    not_out : (world : World) (a : Requesting) → IsOut most_packets world a → NoChance world.log → ⊥
    not_out world a x chance =
        let world_is = x.world_is ∙ sym (behind_is most_packets) in
        let chance_then = subst (λ (z : World). NoChance z.log) world_is chance in
        let enough : most_packets ≤ most_packets = omega arith in
        let still : Rests n told_world (event_of (Pump most_packets) ∷ []) = inr (inr (0, most_packets, enough, refl)) in
        let d = (part_done most_packets chance_then still).0 in
        let same : d.requester ≡ a = some_same d.requester a (sym d.is_requester ∙ subst (λ (z : World). requester_of n z ≡ Some a) world_is x.stands.at.is) in
        false≢true (ap is_some (sym (subst (λ (y : Requesting). asked.outstanding y.history ≡ None) same d.quiet.none)) ∙ x.out)

    -- ---- A turn.

    module _ (done : ℕ) (world : World) (a : Requesting) (x : IsOut done world a) where
      abbrev NextReaches : Requesting → ℕ → Type 0
      NextReaches new count =
          IsOut (suc done) (later world) new → NoChance (world_from (later world) (turns_from count n (later world) (attesting_over new rules))).log
          → OfEachCommand CanBeTold (later world) (turns_from count n (later world) (attesting_over new rules)) → Goal (after_turns count n (later world) (attesting_over new rules))

      -- It was given to another end, or none waits.
      passed : TurnsTo w.responder.part n b.setup.eid a (λ told. ⊥) (pumps 1 world) → IsOut (suc done) (later world) a
      unfolding happens
      passed s = record {
        world_is = later_is done world x.world_is;
        told = lines_later NotLast done world x.world_is x.told (told_as n (λ told. ⊥) NotLast (λ told never. absurd never) (pumps 1 world).lines s.told);
        stands = s.stands;
        out = x.out;
      }

      module _ (packet : List ℕ) (s : TurnsTo w.responder.part n b.setup.eid (requester_given a packet).after (λ told. told ≡ (requester_given a packet).event) (pumps 1 world)) where
        abbrev step : PacketStep
        step = requester_given a packet

        stands_then : Stands w.responder.part n b.setup.eid step.after (later world)
        unfolding happens
        stands_then = s.stands

        waits_then : (o : Bool) → is_some (asked.outstanding step.after.history) ≡ o → waits_after step.event true ≡ o
        waits_then o is_o = ap (waits_after step.event) (sym x.out) ∙ sym (given_waits a packet) ∙ is_o

        answered : is_some (asked.outstanding step.after.history) ≡ true → IsOut (suc done) (later world) step.after
        answered out_then = record {
          world_is = later_is done world x.world_is;
          told = lines_later NotLast done world x.world_is x.told (told_as n (λ told. told ≡ step.event) NotLast (λ told same. subst NotLast (sym same) (waits_then true out_then)) (pumps 1 world).lines s.told);
          stands = stands_then;
          out = out_then;
        }

        own_goes : (count : ℕ) → left ≤ count → NextReaches step.after count → (o : Bool) → is_some (asked.outstanding step.after.history) ≡ o → Holds world (own_turn n step.after rules step.sent step.event) count
            → Reaches world (own_turn n step.after rules step.sent step.event) count
        own_goes count enough next true out_then holds =
            let same = still_turn n step.after rules step.sent step.event (waits_then true out_then) in
            let h = subst (λ (t : Turn). Holds world t count) same holds in
            subst (λ (t : Turn). Reaches world t count) (sym same) (next (answered out_then) h.0 h.1.1)
        own_goes count enough next false out_then holds =
            over_at (suc done) (later world) step.after step.sent step.event (later_is done world x.world_is ∙ sym (behind_is (suc done))) stands_then out_then
            (lines_are (LastIs step.event) (suc done)
            (lines_later (LastIs step.event) done world x.world_is (told_as n NotLast (LastIs step.event) (λ told waits. inl waits) (pumps done told_world).lines x.told)
            (told_as n (λ told. told ≡ step.event) (LastIs step.event) (λ told same. inr same) (pumps 1 world).lines s.told))) count enough (holds.0, holds.1.1)

      by_end : (count : ℕ) → left ≤ count → ((new : Requesting) → NextReaches new count) → (packet : List ℕ) → next_packet world ≡ Some packet → (own : Bool) → is_for a.setup.eid packet ≡ own → Holds world (turn_for n (attesting_over a rules) packet own) count
          → Reaches world (turn_for n (attesting_over a rules) packet own) count
      by_end count enough next packet is_next true own holds =
          let step = requester_given a packet in
          let s = turned_own w.responder.part n b.setup.eid a world x.stands packet is_next (ap (λ (eid : ℕ). is_for eid packet) (sym x.stands.own) ∙ own) in
          subst (λ (t : Turn). Reaches world t count) (sym (turn_as n a rules packet))
          (own_goes packet s count enough (next step.after) (is_some (asked.outstanding step.after.history)) refl (subst (λ (t : Turn). Holds world t count) (turn_as n a rules packet) holds))
      by_end count enough next packet is_next false own holds =
          next a (passed (turned_other w.responder.part n b.setup.eid a world x.stands packet is_next (ap (λ (eid : ℕ). is_for eid packet) (sym x.stands.own) ∙ own))) holds.0 holds.1.1

      by_packet : (count : ℕ) → left ≤ count → ((new : Requesting) → NextReaches new count) → (o : Option (List ℕ)) → next_packet world ≡ o → Holds world (turn_of n (attesting_over a rules) o) count → Reaches world (turn_of n (attesting_over a rules) o) count
      by_packet count enough next None is_next holds = next a (passed (turned_none w.responder.part n b.setup.eid a world x.stands is_next)) holds.0 holds.1.1
      by_packet count enough next (Some packet) is_next holds = by_end count enough next packet is_next (is_for a.setup.eid packet) refl holds

    -- ---- All turns.

    run : (to_go done : ℕ) → done + to_go ≡ most_packets → (world : World) (a : Requesting) → IsOut done world a → (count : ℕ) → to_go + left ≤ count → NoChance (world_from world (turns_from count n world (attesting_over a rules))).log
        → OfEachCommand CanBeTold world (turns_from count n world (attesting_over a rules)) → Goal (after_turns count n world (attesting_over a rules))
    run zero done sum world a x count enough chance all =
        let same : done ≡ most_packets = omega (arith, sum) in
        absurd (not_out world a (subst (λ (k : ℕ). IsOut k world a) same x) (no_chance_from world (turns_from count n world (attesting_over a rules)) chance))
    run (suc to_go) done sum world a x zero enough chance all = absurd (omega (arith, enough))
    run (suc to_go) done sum world a x (suc count) enough chance all =
        let sum_then : suc done + to_go ≡ most_packets = omega (arith, sum) in
        by_packet done world a x count (omega (arith, enough)) (λ new out chance_then all_then. run to_go (suc done) sum_then (later world) new out count (omega (arith, enough)) chance_then all_then) (next_packet world) refl (chance, all)

    -- ---- The beginning.

    out_told : (a : Requesting) → (requester_told a command).fault ≡ None → is_some (asked.outstanding (requester_told a command).after.history) ≡ true
    out_told a ok = told_waits a command ∙ ap (λ (o : Option CommandFault). is_none o || is_some (asked.outstanding a.history)) ok

    chance_first : (count : ℕ) → NoChance (world_from told_world (turns_from count n told_world (attesting_over (requester_told b command).after rules))).log → NoChance first_world.log
    chance_first count chance = no_chance_from first_world (event_of (Told n command) ∷ turns_from count n told_world (attesting_over (requester_told b command).after rules)) chance

    stands_first : NoChance first_world.log → Stands w.responder.part n b.setup.eid b first_world
    stands_first chance =
        let c = each_is_connected w configured before chance n b is in
        let placed = are_placed w before n b c.0 configured chance is c.1 in
        let setup = stays_set_up w before in
        record {
          at = record { is = is; differ = always_differ w configured before };
          own = refl;
          setup = setup;
          differs = λ same. placed.requester.other (sym same ∙ ap (λ (part : RspPart). part.eid) (sym setup.part_is) ∙ placed.own ∙ sym placed.to);
        }

    pub turns_reach : (count : ℕ) → most_packets + left ≤ count → NoChance (world_from told_world (turns_from count n told_world (attesting_over (requester_told b command).after rules))).log
        → OfEachCommand CanBeTold told_world (turns_from count n told_world (attesting_over (requester_told b command).after rules)) → Goal (after_turns count n told_world (attesting_over (requester_told b command).after rules))
    unfolding pumps
    turns_reach count enough chance all =
        let before_it = chance_first count chance in
        let c = each_is_connected w configured before before_it n b is in
        let x : IsOut 0 told_world (requester_told b command).after = record {
          world_is = refl;
          told = tt;
          stands = told_stands w.responder.part n b.setup.eid b first_world (stands_first before_it) command;
          out = out_told b (can b c.0 is c.1).0;
        } in
        run most_packets 0 refl told_world (requester_told b command).after x count enough chance all
