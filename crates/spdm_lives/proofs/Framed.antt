-- The steps of a world do not look at its log: with older tags behind it, all goes as without.
use Rattle.std.proofs.Common.{◌≡◌, ℕ, zero, suc, ◌==◌, List, [], ◌∷◌, ◌++◌, length, Bool, true, false, cond, nat_lt, slice_index, find, Option, Some, None, refl, sym, ap, ◌∙◌, append_assoc}
use Rattle.requester_machine.specs.Message.{Command}
use Rattle.requester_machine.specs.Requesting.{Requesting, requester_told, requester_given}
use Rattle.responder_machine.specs.Responding.{responder_hears}
use Rattle.spdm_machine.specs.TagLog.{Log}
use Rattle.world_machine.specs.Happenings.{Happening, Entry}
use Rattle.world_machine.specs.Happenings.Happening.{Told, Reply, Deliver, Lose, Inject, Pump, Tick, Show}
use Rattle.world_machine.specs.Trace.{world_from}
use Rattle.world_machine.specs.World.{World, WorldStep, told, given, given_to, given_to_responder, delivers, loses, without_waiting, packet_of, turn, pumps, first_waiting, replied, requester_of, is_at, happens, entry_step, with_requester, with_sent}

-- A world with older tags behind those of its log.
abbrev pub behind : Log → World → World
behind old world = record world { log = world.log ++ old }

module _ (old : Log) where
  logged : (world : World) (acts : Log) → acts ++ (world.log ++ old) ≡ (acts ++ world.log) ++ old
  logged world acts = sym (append_assoc acts world.log old)

  told_framed : (world : World) (n : ℕ) (command : Command) (o : Option Requesting) → (told (behind old world) n command o).after ≡ behind old (told world n command o).after
  told_framed world n command None = refl
  told_framed world n command (Some a) =
      ap (λ (l : Log). record { requesters = with_requester (requester_told a command).after world.requesters; responder = world.responder; sent = with_sent world.sent (requester_told a command).sent; log = l }) (logged world (requester_told a command).acts)

  to_framed : (world : World) (packet : List ℕ) (o : Option Requesting) → (given_to (behind old world) packet o).after ≡ behind old (given_to world packet o).after
  to_framed world packet None = refl
  to_framed world packet (Some a) =
      ap (λ (l : Log). record { requesters = with_requester (requester_given a packet).after world.requesters; responder = world.responder; sent = with_sent world.sent (requester_given a packet).sent; log = l }) (logged world (requester_given a packet).acts)

  responder_framed : (world : World) (packet : List ℕ) → (given_to_responder (behind old world) packet (responder_hears world.responder packet)).after ≡ behind old (given_to_responder world packet (responder_hears world.responder packet)).after
  responder_framed world packet =
      ap (λ (l : Log). record { requesters = world.requesters; responder = (responder_hears world.responder packet).after; sent = with_sent world.sent (responder_hears world.responder packet).sent; log = l }) (logged world (responder_hears world.responder packet).acts)

  either : (b : Bool) (x y s t : WorldStep) → x.after ≡ behind old s.after → y.after ≡ behind old t.after → (cond b x y).after ≡ behind old (cond b s t).after
  either true x y s t p q = p
  either false x y s t p q = q

  given_framed : (world : World) (packet : List ℕ) → (given (behind old world) packet).after ≡ behind old (given world packet).after
  given_framed world packet =
      either (nat_lt (length packet) 2) (given_to (behind old world) packet None) _ (given_to world packet None) _ refl
      (either (slice_index packet 1 == world.responder.part.eid) (given_to_responder (behind old world) packet (responder_hears world.responder packet)) _ (given_to_responder world packet (responder_hears world.responder packet)) _ (responder_framed world packet)
      (to_framed world packet (find (is_at (slice_index packet 1)) world.requesters)))

  delivers_framed : (world : World) (number : ℕ) (packet : Option (List ℕ)) → (delivers (behind old world) number packet).after ≡ behind old (delivers world number packet).after
  delivers_framed world number None = refl
  delivers_framed world number (Some packet) = given_framed (without_waiting number world) packet

  loses_framed : (world : World) (number : ℕ) (packet : Option (List ℕ)) → (loses (behind old world) number packet).after ≡ behind old (loses world number packet).after
  loses_framed world number None = refl
  loses_framed world number (Some packet) = refl

  turn_framed : (world : World) (next : World → WorldStep) (number : Option ℕ) → ((later : World) → (next (behind old later)).after ≡ behind old (next later).after) → (turn (behind old world) next number).after ≡ behind old (turn world next number).after
  turn_framed world next None all = refl
  turn_framed world next (Some number) all =
      ap (λ (x : World). (next x).after) (delivers_framed world number (packet_of number world.sent)) ∙ all (delivers world number (packet_of number world.sent)).after

  pumps_framed : (count : ℕ) (world : World) → (pumps count (behind old world)).after ≡ behind old (pumps count world).after
  unfolding pumps
  pumps_framed zero world = refl
  pumps_framed (suc count) world = turn_framed world (pumps count) (first_waiting world.sent) (pumps_framed count)

  replied_framed : (world : World) (bytes : List ℕ) (o : Option Requesting) → (replied (behind old world) bytes o).after ≡ behind old (replied world bytes o).after
  replied_framed world bytes None = refl
  replied_framed world bytes (Some a) = refl

  same_requester : (n : ℕ) (world : World) → requester_of n (behind old world) ≡ requester_of n world
  same_requester zero world = refl
  same_requester (suc place) world = refl

  happens_framed : (world : World) (event : Happening) → (happens (behind old world) event).after ≡ behind old (happens world event).after
  unfolding happens
  happens_framed world (Told n command) = ap (λ (o : Option Requesting). (told (behind old world) n command o).after) (same_requester n world) ∙ told_framed world n command (requester_of n world)
  happens_framed world (Reply n bytes) = ap (λ (o : Option Requesting). (replied (behind old world) bytes o).after) (same_requester n world) ∙ replied_framed world bytes (requester_of n world)
  happens_framed world (Deliver number) = delivers_framed world number (packet_of number world.sent)
  happens_framed world (Lose number) = loses_framed world number (packet_of number world.sent)
  happens_framed world (Inject bytes) = given_framed world bytes
  happens_framed world (Pump count) = pumps_framed count world
  happens_framed world (Tick seconds) = refl
  happens_framed world Show = refl

  pub from_framed : (world : World) (entries : List Entry) → world_from (behind old world) entries ≡ behind old (world_from world entries)
  from_framed world [] = refl
  from_framed world (entry ∷ entries) = ap (λ (x : World). world_from x entries) (happens_framed world entry.happening) ∙ from_framed (entry_step world entry).after entries
