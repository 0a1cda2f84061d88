-- What is carried to a requester and a responder comes to the ends of a world by its events.
use Rattle.std.proofs.Common.{◌≡◌, ◌≢◌, ◌∙◌, ℕ, List, [], ◌∷◌, ◌++◌, true, false, filter, Option, Some, None, refl, sym, ap}
use Rattle.requester_drive.specs.Commands.{command_line}
use Rattle.requester_machine.specs.Message.{Command}
use Rattle.script_text.specs.declared.configuration.config.ScriptConfig.{ScriptConfig}
use Rattle.stream_laws.proofs.Addressed.{for_one, kept}
use Rattle.stream_laws.proofs.Configurations.{hold}
use Rattle.stream_laws.proofs.Driving.{first_is_driven, responder_is_served}
use Rattle.stream_laws.proofs.Starts.{first_differs}
use Rattle.stream_laws.specs.Carriage.{Carried, MayCarryAll, asked_frames, carried_events, event_of, served_frames, tells_first}
use Rattle.stream_laws.specs.Carriage.Carried.{Says, ToRequester, ToResponder, Waits}
use Rattle.stream_laws.specs.Coming.{Coming, comes_from, is_for_first, is_for_responder}
use Rattle.stream_laws.specs.Coming.Coming.{Gives, Passes, Tells}
use Rattle.stream_laws.specs.Frames.{bring_first, bring_responder, told_first}
use Rattle.stream_laws.specs.Laws.{EveryCarriageIsAWorld, QueueNothing}
use Rattle.stream_laws.specs.Worlds.{world_of}
use Rattle.world_machine.specs.Happenings.Happening.{Inject, Tick, Told}
use Rattle.world_machine.specs.World.{World, entry_step, new_world}

-- ---- What comes.

module _ (c : ScriptConfig) (asks serves : ℕ) (differ : asks ≢ serves) where
  pub asked_same : (world : World) (carried : List Carried) → MayCarryAll c asks serves carried → bring_first c (asked_frames carried) ≡ filter (is_for_first asks) (comes_from world (carried_events c carried))
  asked_same world [] may = refl
  asked_same world (Says line ∷ others) may = by_line (command_line c line) (asked_same world others may.1) (λ command. asked_same (entry_step world (event_of (Told 1 command))).after others may.1)
    where
      by_line : (o : Option Command) → bring_first c (asked_frames others) ≡ filter (is_for_first asks) (comes_from world (carried_events c others))
          → ((command : Command) → bring_first c (asked_frames others) ≡ filter (is_for_first asks) (comes_from (entry_step world (event_of (Told 1 command))).after (carried_events c others)))
          → told_first o ++ bring_first c (asked_frames others) ≡ filter (is_for_first asks) (comes_from world (tells_first o ++ carried_events c others))
      by_line None none some = none
      by_line (Some command) none some = ap (λ (rest : List Coming). Tells 1 command ∷ rest) (some command)
  asked_same world (ToRequester packet ∷ others) may =
      let later = (entry_step world (event_of (Inject packet))).after in
      ap (λ (rest : List Coming). Gives packet ∷ rest) (asked_same later others may.1)
      ∙ sym (kept (is_for_first asks) (Gives packet) (comes_from later (carried_events c others)) true may.0)
  asked_same world (ToResponder packet ∷ others) may =
      let later = (entry_step world (event_of (Inject packet))).after in
      asked_same later others may.1
      ∙ sym (kept (is_for_first asks) (Gives packet) (comes_from later (carried_events c others)) false (for_one serves asks packet (λ e. differ (sym e)) may.0))
  asked_same world (Waits seconds ∷ others) may = asked_same (entry_step world (event_of (Tick seconds))).after others may.1

  pub served_same : (world : World) (carried : List Carried) → MayCarryAll c asks serves carried → bring_responder (served_frames carried) ≡ filter (is_for_responder serves) (comes_from world (carried_events c carried))
  served_same world [] may = refl
  served_same world (Says line ∷ others) may = by_line (command_line c line) (served_same world others may.1) (λ command. served_same (entry_step world (event_of (Told 1 command))).after others may.1)
    where
      by_line : (o : Option Command) → bring_responder (served_frames others) ≡ filter (is_for_responder serves) (comes_from world (carried_events c others))
          → ((command : Command) → bring_responder (served_frames others) ≡ filter (is_for_responder serves) (comes_from (entry_step world (event_of (Told 1 command))).after (carried_events c others)))
          → bring_responder (served_frames others) ≡ filter (is_for_responder serves) (comes_from world (tells_first o ++ carried_events c others))
      by_line None none some = none
      by_line (Some command) none some = some command
  served_same world (ToRequester packet ∷ others) may =
      let later = (entry_step world (event_of (Inject packet))).after in
      served_same later others may.1
      ∙ sym (kept (is_for_responder serves) (Gives packet) (comes_from later (carried_events c others)) false (for_one asks serves packet differ may.0))
  served_same world (ToResponder packet ∷ others) may =
      let later = (entry_step world (event_of (Inject packet))).after in
      ap (λ (rest : List Coming). Gives packet ∷ rest) (served_same later others may.1)
      ∙ sym (kept (is_for_responder serves) (Gives packet) (comes_from later (carried_events c others)) true may.0)
  served_same world (Waits seconds ∷ others) may =
      ap (λ (rest : List Coming). Passes seconds ∷ rest) (served_same (entry_step world (event_of (Tick seconds))).after others may.1)

-- No data are queued by it.
queues_none : (c : ScriptConfig) (carried : List Carried) → QueueNothing (carried_events c carried)
queues_none c [] = tt
queues_none c (Says line ∷ others) = by_line (command_line c line) (queues_none c others)
  where
    by_line : (o : Option Command) → QueueNothing (carried_events c others) → QueueNothing (tells_first o ++ carried_events c others)
    by_line None none = none
    by_line (Some command) none = (tt, none)
queues_none c (ToRequester packet ∷ others) = (tt, queues_none c others)
queues_none c (ToResponder packet ∷ others) = (tt, queues_none c others)
queues_none c (Waits seconds ∷ others) = (tt, queues_none c others)

-- ---- The law.

pub every_carriage : EveryCarriageIsAWorld
every_carriage c seeds a is front carried may =
    let world = new_world (world_of c seeds) in
    let entries = carried_events c carried in
    let serves = c.responder.eid.number in
    let differ = first_differs c (seeds 1) a is front in record {
      driven = first_is_driven c seeds a is front entries (asked_frames carried) (asked_same c a.setup.eid serves differ world carried may);
      served = responder_is_served c seeds is entries (served_frames carried) (queues_none c carried) (served_same c a.setup.eid serves differ world carried may);
      holds = λ chance. hold c seeds is entries chance;
    }
