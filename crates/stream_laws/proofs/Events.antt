-- An end is followed through all events of a world, where it is followed through each thing that comes.
use Rattle.std.proofs.Common.{◌≡◌, ℕ, zero, suc, List, [], ◌∷◌, filter, flat_map, Option, Some, None}
use Rattle.requester_machine.specs.Message.{Command}
use Rattle.responder_machine.specs.Responding.{ticks}
use Rattle.spdm_grammar.specs.Lines.{Line}
use Rattle.stream_laws.proofs.Following.{Follows, Goes, after_all, goes_behind, goes_nowhere, goes_on}
use Rattle.stream_laws.specs.Coming.{Coming, comes, comes_from, gives_named, turn_gives, turns_give}
use Rattle.stream_laws.specs.Coming.Coming.{Tells, Gives, Passes}
use Rattle.world_machine.specs.Happenings.{Entry, Happening}
use Rattle.world_machine.specs.Happenings.Happening.{Told, Reply, Deliver, Lose, Inject, Pump, Tick, Show}
use Rattle.world_machine.specs.Trace.{lines_from, world_from}
use Rattle.world_machine.specs.World.{SentPacket, World, WorldStep, delivers, entry_step, first_waiting, given, happens, loses, packet_of, pumps, replied, requester_of, rests, shown_lines, stopped_of, told, turn, without_waiting}

-- So an end is followed through each event that may be.
pub record Keeps (f : Follows) (May : Happening → Type 0) : Type 0 where
  pub told : (s : f.State) (world : World) (n : ℕ) (command : Command) → f.Stands s world → Goes f s (Tells n command ∷ []) (told world n command (requester_of n world))
  pub given : (s : f.State) (world : World) (packet : List ℕ) → f.Stands s world → Goes f s (Gives packet ∷ []) (given world packet)
  pub passed : (s : f.State) (world : World) (seconds : ℕ) → f.Stands s world → Goes f s (Passes seconds ∷ []) (rests (record world { responder = ticks world.responder seconds }))
  pub queued : (s : f.State) (world : World) (n : ℕ) (bytes : List ℕ) → May (Reply n bytes) → f.Stands s world → Goes f s [] (replied world bytes (requester_of n world))
  pub sent : (s : f.State) (world : World) (packets : List SentPacket) → f.Stands s world → f.Stands s (record world { sent = packets })
  pub at : (number : ℕ) → f.own (Line.At number) ≡ []
  pub none : (number : ℕ) → f.own (Line.NoPacket number) ≡ []
  pub shown : (world : World) → flat_map f.own (shown_lines world) ≡ []

-- All of them may be.
abbrev pub MayAll : (Happening → Type 0) → List Entry → Type 0
MayAll May [] = Unit {0}
MayAll May (entry ∷ entries) = May entry.happening × MayAll May entries

module _ (f : Follows) (May : Happening → Type 0) (keeps : Keeps f May) where
  no_packet : (s : f.State) (world : World) (number : ℕ) → f.Stands s world → Goes f s [] (record { lines = Line.NoPacket number ∷ []; after = world })
  no_packet s world number h = goes_behind f s [] (Line.NoPacket number) (rests world) (keeps.none number) (goes_nowhere f s world h)

  delivers_goes : (s : f.State) (world : World) (number : ℕ) (packet : Option (List ℕ)) → f.Stands s world → Goes f s (gives_named packet) (delivers world number packet)
  delivers_goes s world number None h = no_packet s world number h
  delivers_goes s world number (Some packet) h = keeps.given s (without_waiting number world) packet (keeps.sent s world (stopped_of number world.sent) h)

  loses_goes : (s : f.State) (world : World) (number : ℕ) (packet : Option (List ℕ)) → f.Stands s world → Goes f s [] (loses world number packet)
  loses_goes s world number None h = no_packet s world number h
  loses_goes s world number (Some packet) h = goes_nowhere f s (without_waiting number world) (keeps.sent s world (stopped_of number world.sent) h)

  turn_goes : (s : f.State) (world : World) (next : World → WorldStep) (gives : World → List Coming) (number : Option ℕ) → f.Stands s world
      → ((t : f.State) (later : World) → f.Stands t later → Goes f t (gives later) (next later)) → Goes f s (turn_gives world gives number) (turn world next number)
  turn_goes s world next gives None h all = goes_nowhere f s world h
  turn_goes s world next gives (Some number) h all =
      let packet = packet_of number world.sent in
      let one = delivers world number packet in
      let first = delivers_goes s world number packet h in
      goes_on f s (gives_named packet) (gives one.after) one (next one.after) first (all (after_all f s (filter f.mine (gives_named packet))) one.after first.after)

  turns_go : (count : ℕ) (s : f.State) (world : World) → f.Stands s world → Goes f s (turns_give count world) (pumps count world)
  unfolding pumps turns_give
  turns_go zero s world h = goes_nowhere f s world h
  turns_go (suc count) s world h = turn_goes s world (pumps count) (turns_give count) (first_waiting world.sent) h (turns_go count)

  event_goes : (s : f.State) (world : World) (happening : Happening) → May happening → f.Stands s world → Goes f s (comes world happening) (happens world happening)
  unfolding happens
  event_goes s world (Told n command) may h = keeps.told s world n command h
  event_goes s world (Reply n bytes) may h = keeps.queued s world n bytes may h
  event_goes s world (Deliver number) may h = delivers_goes s world number (packet_of number world.sent) h
  event_goes s world (Lose number) may h = loses_goes s world number (packet_of number world.sent) h
  event_goes s world (Inject bytes) may h = keeps.given s world bytes h
  event_goes s world (Pump count) may h = turns_go count s world h
  event_goes s world (Tick seconds) may h = keeps.passed s world seconds h
  event_goes s world Show may h = record { lines = keeps.shown world; after = h }

  pub events_go : (s : f.State) (world : World) (entries : List Entry) → MayAll May entries → f.Stands s world
      → Goes f s (comes_from world entries) (record { lines = lines_from world entries; after = world_from world entries })
  events_go s world [] may h = goes_nowhere f s world h
  events_go s world (entry ∷ entries) may h =
      let step = entry_step world entry in
      let first = goes_behind f s (comes world entry.happening) (Line.At entry.line) (happens world entry.happening) (keeps.at entry.line) (event_goes s world entry.happening may.0 h) in
      goes_on f s (comes world entry.happening) (comes_from step.after entries) step (record { lines = lines_from step.after entries; after = world_from step.after entries })
      first (events_go (after_all f s (filter f.mine (comes world entry.happening))) step.after entries may.1 first.after)
