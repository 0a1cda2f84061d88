-- An attestation whose packets are delivered honestly comes to its decision: each of its three commands comes to its
-- result, and the next one is told with the last packet of it.
use Rattle.std.proofs.Common.{◌≡◌, ◌∙◌, ◌≤◌, ◌+◌, ◌==◌, ℕ, zero, suc, List, [], ◌∷◌, ◌++◌, Bool, true, false, Option, Some, None, sym, ap, subst, arith}
use Rattle.attestor.specs.Attesting.{Attesting, Decision, attesting_given, attesting_over, attesting_started, given_by, goes_on_by, own_session}
use Rattle.attestor.specs.Attesting.Decision.{Measured}
use Rattle.requester_machine.specs.Message.{Command}
use Rattle.requester_machine.specs.Message.Command.{Connect, Measure, Open}
use Rattle.requester_machine.specs.Requesting.{CommandStep, Requesting, requester_given, requester_told}
use Rattle.requester_machine.specs.Shown.{last_data}
use Rattle.responder_machine.specs.Responding.{Connection}
use Rattle.script_text.specs.declared.texts.rule.Rule.{Rule}
use Rattle.spdm_agreement.specs.Configured.{IsConfigured}
use Rattle.spdm_grammar.specs.declared.names.TheConstants.{ALL_BLOCKS}
use Rattle.spdm_grammar.specs.declared.told.block_spec.BlockSpec.{BlockSpec}
use Rattle.spdm_grammar.specs.declared.told.command_fault.CommandFault.{CommandFault}
use Rattle.measurements.specs.Blocks.{by_index, record_of}
use Rattle.measurements.specs.Records.{asked as blocks_asked}
use Rattle.spdm_machine.proofs.Members.{found_in, some_same}
use Rattle.spdm_machine.specs.Packets.{wear_limit}
use Rattle.spdm_progress.proofs.Connected.{each_is_connected}
use Rattle.spdm_progress.proofs.Paragraphs.{entries_of}
use Rattle.spdm_progress.proofs.QuietWorlds.{IsReady, from_both}
use Rattle.spdm_progress.proofs.SessionCompletes.{no_chance_from}
use Rattle.spdm_progress.specs.Scripts.{OfEachCommand}
use Rattle.spdm_progress.specs.SessionCommands.{commanding, most_asked, most_packets}
use Rattle.world_machine.specs.Chance.{NoChance}
use Rattle.world_machine.specs.Happenings.{Entry}
use Rattle.world_machine.specs.Happenings.Happening.{Told}
use Rattle.world_machine.specs.Setup.{WorldSetup}
use Rattle.world_machine.specs.Trace.{world_after, world_from}
use Rattle.world_machine.specs.World.{World, new_world, requester_of}
use Rattle.attest_laws.proofs.Blocks.{stays_set_up}
use Rattle.attest_laws.proofs.OneCommand.{HasResult, part_of, turns_reach}
use Rattle.attest_laws.specs.Attested.{event_of}
use Rattle.attest_laws.specs.Honest.{CanBeTold, HonestAttestationsDecide, after_turns, is_for, next_packet, turn_for, turn_in, turn_of, turns_from}
use Rattle.attest_laws.specs.Measured.{configured_record}

-- ---- What was decided stays.

module _ (blocks : List ℕ) where
  given_decided : (a : Attesting) (packet : List ℕ) → a.decision ≡ Measured blocks → (attesting_given a packet).after.decision ≡ Measured blocks
  unfolding attesting_given
  given_decided a packet is = ap (λ (d : Decision). (given_by a (requester_given a.requester packet) d).after.decision) is ∙ is

  end_decided : (n : ℕ) (a : Attesting) (packet : List ℕ) (own : Bool) → a.decision ≡ Measured blocks → (turn_for n a packet own).after.decision ≡ Measured blocks
  end_decided n a packet true is = given_decided a packet is
  end_decided n a packet false is = is

  turn_decided : (n : ℕ) (a : Attesting) (o : Option (List ℕ)) → a.decision ≡ Measured blocks → (turn_of n a o).after.decision ≡ Measured blocks
  turn_decided n a None is = is
  turn_decided n a (Some packet) is = end_decided n a packet (is_for a.requester.setup.eid packet) is

  stays_decided : (count n : ℕ) (world : World) (a : Attesting) → a.decision ≡ Measured blocks → (after_turns count n world a).decision ≡ Measured blocks
  stays_decided zero n world a is = is
  stays_decided (suc count) n world a is = stays_decided count n (world_from world (turn_in n world a).events) (turn_in n world a).after (turn_decided n a (next_packet world) is)

-- A command that is answered is told, and nothing is decided.
goes_on_so : (a : Requesting) (rules : List Rule) (step : CommandStep) (fault : Option CommandFault) → fault ≡ None → (goes_on_by (attesting_over a rules) step fault).after ≡ attesting_over step.after rules
goes_on_so a rules step fault none = ap (λ (o : Option CommandFault). (goes_on_by (attesting_over a rules) step o).after) none

module _ (w : WorldSetup) (configured : IsConfigured w) (n : ℕ) (rules : List Rule) where
  abbrev configured_blocks : List ℕ
  configured_blocks = configured_record w.responder.part ALL_BLOCKS

  abbrev IsDecided : Attesting → Type 0
  IsDecided a = a.decision ≡ Measured configured_blocks

  -- In a quiet world this command leads to the decision.
  abbrev Leads : Command → (owed left : ℕ) → Type 0
  Leads command owed left =
      (before : List Entry) (most : ℕ) → most + owed ≤ wear_limit → IsReady most (world_after w before) → (b : Requesting) → requester_of n (world_after w before) ≡ Some b → CanBeTold (world_after w before) 0 n command [] → (count : ℕ) → left ≤ count
      → NoChance (world_from (commanding (world_after w before) 0 n command) (turns_from count n (commanding (world_after w before) 0 n command) (attesting_over (requester_told b command).after rules))).log
      → OfEachCommand CanBeTold (commanding (world_after w before) 0 n command) (turns_from count n (commanding (world_after w before) 0 n command) (attesting_over (requester_told b command).after rules))
      → IsDecided (after_turns count n (commanding (world_after w before) 0 n command) (attesting_over (requester_told b command).after rules))

  -- So it does where it is told with the last packet of another.
  module _ (command : Command) (owed left : ℕ) (leads : Leads command owed left) (before : List Entry) (most : ℕ) (room : most + owed ≤ wear_limit) (a : Requesting) (then : Attesting)
      (told : (requester_told a command).fault ≡ None → then ≡ attesting_over (requester_told a command).after rules) (count : ℕ) (enough : left ≤ count) where
    abbrev LeadsIn : World → Type 0
    LeadsIn world =
        IsReady most world → requester_of n world ≡ Some a → NoChance (world_from world (event_of (Told n command) ∷ turns_from count n (commanding world 0 n command) then)).log
        → OfEachCommand CanBeTold world (event_of (Told n command) ∷ turns_from count n (commanding world 0 n command) then) → IsDecided (after_turns count n (commanding world 0 n command) then)

    leads_now : LeadsIn (world_after w before)
    leads_now ready is chance all =
        let world = world_after w before in
        let c = each_is_connected w configured before (no_chance_from world (event_of (Told n command) ∷ turns_from count n (commanding world 0 n command) then) chance) n a is in
        let same = told (all.0 a c.0 is c.1).0 in
        subst (λ (x : Attesting). IsDecided (after_turns count n (commanding world 0 n command) x)) (sym same)
        (leads before most room ready a is all.0 count enough
        (subst (λ (x : Attesting). NoChance (world_from (commanding world 0 n command) (turns_from count n (commanding world 0 n command) x)).log) same chance)
        (subst (λ (x : Attesting). OfEachCommand CanBeTold (commanding world 0 n command) (turns_from count n (commanding world 0 n command) x)) same all.1))

    leads_in : (world : World) → world ≡ world_after w before → LeadsIn world
    leads_in world is = subst LeadsIn (sym is) leads_now

  -- ---- The three commands.

  abbrev measuring : Command
  measuring = Measure (Some own_session) ALL_BLOCKS

  reached : (before : List Entry) (command : Command) (most : ℕ) (room : most + most_asked ≤ wear_limit) (ready : IsReady most (world_after w before)) (b : Requesting) (is : requester_of n (world_after w before) ≡ Some b) (can : CanBeTold (world_after w before) 0 n command []) (Goal : Attesting → Type 0) (left count : ℕ)
      (world : World) (a : Requesting) (x : HasResult w configured before n command most room ready b is can rules Goal left world a)
      → world ≡ world_after w (before ++ entries_of (part_of w configured before n command most room ready b is can rules Goal left x.count))
  reached before command most room ready b is can Goal left count world a x = x.world_is ∙ sym (from_both (new_world w) before (entries_of (part_of w configured before n command most room ready b is can rules Goal left x.count)))

  -- The record that came is that of the blocks of the responder.
  record_is : (before : List Entry) (most : ℕ) (room : most + most_asked ≤ wear_limit) (ready : IsReady most (world_after w before)) (b : Requesting) (is : requester_of n (world_after w before) ≡ Some b) (can : CanBeTold (world_after w before) 0 n measuring []) (world : World) (a : Requesting)
      → HasResult w configured before n measuring most room ready b is can rules IsDecided 0 world a → last_data a.history ≡ configured_blocks
  record_is before most room ready b is can world a x =
      let taken = x.means.1 in
      let connections = (world_after w before).responder.connections in
      ap (λ (y : Requesting). last_data y.history) (some_same a taken.requester (sym x.stands.at.is ∙ taken.is_requester))
      ∙ taken.taken
      ∙ ap (λ (blocks : List BlockSpec). record_of (blocks_asked ALL_BLOCKS (by_index blocks))) ((stays_set_up w before).blocks x.c (found_in (λ (d : Connection). d.setup.peer == b.setup.eid) connections x.c x.connected).0)

  measure_leads : Leads measuring most_asked most_packets
  measure_leads before most room ready b is can count enough chance all =
      turns_reach w configured before n measuring most room ready b is can rules IsDecided 0
      (λ world a x sent count enough chance all. stays_decided configured_blocks count n _ _ (ap Measured (record_is before most room ready b is can world a x))) count (omega (arith, enough)) chance all

  open_leads : Leads (Open 0) (most_asked + most_asked) (most_packets + most_packets)
  open_leads before most room ready b is can count enough chance all =
      let room_now : most + most_asked ≤ wear_limit = omega (arith, room) in
      turns_reach w configured before n (Open 0) most room_now ready b is can rules IsDecided most_packets
      (λ world a x sent count enough chance all.
      leads_in measuring most_asked most_packets measure_leads (before ++ entries_of (part_of w configured before n (Open 0) most room_now ready b is can rules IsDecided most_packets x.count)) (most + most_asked) (omega (arith, room)) a _ (goes_on_so a rules (requester_told a measuring) (requester_told a measuring).fault) count enough world
      (reached before (Open 0) most room_now ready b is can IsDecided most_packets count world a x) x.rests x.stands.at.is chance all) count (omega (arith, enough)) chance all

  connect_leads : Leads Connect (most_asked + most_asked + most_asked) (most_packets + most_packets + most_packets)
  connect_leads before most room ready b is can count enough chance all =
      let room_now : most + most_asked ≤ wear_limit = omega (arith, room) in
      turns_reach w configured before n Connect most room_now ready b is can rules IsDecided (most_packets + most_packets)
      (λ world a x sent count enough chance all.
      leads_in (Open 0) (most_asked + most_asked) (most_packets + most_packets) open_leads (before ++ entries_of (part_of w configured before n Connect most room_now ready b is can rules IsDecided (most_packets + most_packets) x.count)) (most + most_asked) (omega (arith, room)) a _ (goes_on_so a rules (requester_told a (Open 0)) (requester_told a (Open 0)).fault) count enough world
      (reached before Connect most room_now ready b is can IsDecided (most_packets + most_packets) count world a x) x.rests x.stands.at.is chance all) count (omega (arith, enough)) chance all

pub honest_attestations_decide : HonestAttestationsDecide
unfolding attesting_started
honest_attestations_decide w configured before quiet most taken room n requester is rules count enough all chance =
    connect_leads w configured n rules before most (omega (arith, room)) (quiet, taken) requester is all.0 count (omega (arith, enough)) chance all.1
