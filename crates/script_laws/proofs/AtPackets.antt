-- The world right after a packet is one that events lead to, so all that holds of those holds of it too.
use Rattle.std.proofs.Common.{◌≡◌, ◌∙◌, ◌≤◌, ◌==◌, ◌++◌, ◌⊎◌, arith, inl, inr, ℕ, zero, suc, List, [], ◌∷◌, length, nat_lt, refl, sym, ap, subst, Bool, true, false, Option, Some, None, Contains}
use Rattle.std.specs.Prelude.{find, if◌then◌else◌, slice_index}
use Rattle.std.proofs.lemmas.Bool.{true≢false}
use Rattle.requester_machine.specs.Requesting.{Requesting}
use Rattle.responder_machine.specs.Responding.{Connection, Responding, responder_hears}
use Rattle.script_text.specs.Sound.{IsSoundConfig}
use Rattle.script_text.specs.declared.events.event.Entry.{Entry}
use Rattle.script_text.specs.declared.texts.script.Script.{Script}
use Rattle.script_laws.proofs.ScriptRead.{script_sound}
use Rattle.script_laws.proofs.SetUpRight.{is_configuration}
use Rattle.script_ends.specs.Configured.{configuration_in}
use Rattle.link_world.specs.Events.{happening_of}
use Rattle.script_laws.specs.Given.{IsDelivered, IsGivenIn, IsPumped}
use Rattle.script_laws.specs.Scripts.{entries_in, seed_in, set_up, world_in}
use Rattle.script_laws.specs.Worlds.{MatchesAtPackets, MatchesAtPacketsIn}
use Rattle.spdm_agreement.proofs.Worlds.Scripts.{scripts_hold}
use Rattle.spdm_agreement.specs.Configured.{boot_most}
use Rattle.spdm_agreement.specs.Worlds.{HoldsTogether}
use Rattle.spdm_progress.proofs.QuietWorlds.{from_both}
use Rattle.world_machine.specs.Chance.{NoChance}
use Rattle.world_machine.specs.Happenings as machine
use Rattle.world_machine.specs.Happenings.{Happening}
use Rattle.world_machine.specs.Happenings.Happening.{Deliver, Inject, Lose, Pump, Reply, Show, Tick, Told}
use Rattle.world_machine.specs.Trace.{world_after, world_from}
use Rattle.world_machine.specs.World.{World, delivers, first_waiting, given, given_to, given_to_responder, happens, is_at, packet_of, pumps}

-- An event on no line in particular.
abbrev event_of : Happening → machine.Entry
event_of happening = record { line = 0; happening = happening }

-- Some events lead from one world to another.
abbrev Leads : World → World → Type 0
Leads from to = (events : List machine.Entry) × (world_from from events ≡ to)

one_leads : (world : World) (happening : Happening) (to : World) → (happens world happening).after ≡ to → Leads world to
one_leads world happening to is = (event_of happening ∷ [], is)

-- A packet that is delivered.
delivered_is : (world : World) (number : ℕ) (between : World) (packet : List ℕ) → IsDelivered world number between packet → (delivers world number (packet_of number world.sent)).after ≡ (given between packet).after
delivered_is world number between packet d =
    ap (λ (o : Option (List ℕ)). (delivers world number o).after) d.sent ∙ ap (λ (w : World). (given w packet).after) (sym d.is)

-- A pump of one.
one_pumped : (world : World) (number : ℕ) → first_waiting world.sent ≡ Some number → (happens world (Pump 1)).after ≡ (delivers world number (packet_of number world.sent)).after
unfolding happens pumps
one_pumped world number is = rw is refl

pumped_leads : (count : ℕ) (world between : World) (packet : List ℕ) → IsPumped count world between packet → Leads world (given between packet).after
pumped_leads zero world between packet p = absurd p
pumped_leads (suc count) world between packet (number, first, inl d) =
    one_leads world (Pump 1) (given between packet).after (one_pumped world number first ∙ delivered_is world number between packet d)
pumped_leads (suc count) world between packet (number, first, inr later) =
    let rest = pumped_leads count (delivers world number (packet_of number world.sent)).after between packet later in
    (event_of (Pump 1) ∷ rest.0, ap (λ (w : World). world_from w rest.0) (one_pumped world number first) ∙ rest.1)

given_leads : (world : World) (happening : Happening) (between : World) (packet : List ℕ) → IsGivenIn world happening between packet → Leads world (given between packet).after
unfolding happens
given_leads world (Deliver number) between packet d = one_leads world (Deliver number) (given between packet).after (delivered_is world number between packet d)
given_leads world (Inject bytes) between packet (same, is) =
    one_leads world (Inject bytes) (given between packet).after (ap (λ (w : World). (given w bytes).after) (sym same) ∙ ap (λ (b : List ℕ). (given between b).after) (sym is))
given_leads world (Pump count) between packet p = pumped_leads count world between packet p
given_leads world (Told n command) between packet p = absurd p
given_leads world (Reply n bytes) between packet p = absurd p
given_leads world (Lose number) between packet p = absurd p
given_leads world (Tick seconds) between packet p = absurd p
given_leads world Show between packet p = absurd p

one_life : 0 ≤ boot_most
one_life = omega arith

pub packet_holds : (script : Script) → IsSoundConfig script.config → (before : List Entry) (entry : Entry) (between : World) (packet : List ℕ)
    → IsGivenIn (world_in script before) (happening_of entry.event) between packet → NoChance (given between packet).after.log → HoldsTogether (given between packet).after
packet_holds script sound before entry between packet comes chance =
    let leads = given_leads (world_in script before) (happening_of entry.event) between packet comes in
    let events : List machine.Entry = entries_in before ++ leads.0 in
    let is : world_after (set_up script) events ≡ (given between packet).after = from_both _ (entries_in before) leads.0 ∙ leads.1 in
    subst HoldsTogether is
    (scripts_hold (configuration_in script.config) (seed_in script.config) 0 (is_configuration script.config sound) one_life events
    (subst (λ (w : World). NoChance w.log) (sym is) chance))

-- A packet for a requester, or for nobody, leaves the responder as it was.
to_stays : (world : World) (packet : List ℕ) (o : Option Requesting) → (given_to world packet o).after.responder ≡ world.responder
to_stays world packet None = refl
to_stays world packet (Some a) = refl

either_stays : (b e : Bool) (world : World) (packet : List ℕ) → e ≡ false
    → (if b then given_to world packet None
    else (if e then given_to_responder world packet (responder_hears world.responder packet)
    else given_to world packet (find (is_at (slice_index packet 1)) world.requesters))).after.responder ≡ world.responder
either_stays true e world packet is = refl
either_stays false true world packet is = absurd (true≢false is)
either_stays false false world packet is = to_stays world packet (find (is_at (slice_index packet 1)) world.requesters)

responder_stays : (world : World) (packet : List ℕ) → (slice_index packet 1 == world.responder.part.eid) ≡ false → (given world packet).after.responder ≡ world.responder
responder_stays world packet is = either_stays (nat_lt (length packet) 2) (slice_index packet 1 == world.responder.part.eid) world packet is

pub packet_matches : (script : Script) → IsSoundConfig script.config → MatchesAtPackets script
packet_matches script sound events entry behind is between packet comes chance other a c asks answers peer =
    (packet_holds script sound events entry between packet comes chance).matched a c
    (record { requester = asks; connection = subst (λ (r : Responding). Contains r.connections c) (sym (responder_stays between packet other)) answers; peer = peer })

pub at_packets : (text : List ℕ) → MatchesAtPacketsIn text
at_packets text script read =
    let sound = (script_sound text script read).0 in
    (λ events entry behind is between packet comes chance. packet_holds script sound events entry between packet comes chance, packet_matches script sound)
