-- Each event of a life keeps what is kept of it, and so all events do.
use Rattle.spdm_lives.proofs.RequesterGoes.{told_goes, given_goes}
use Rattle.spdm_lives.proofs.ResponderGoes.{hears_leads, queues_leads, sent_stays, ticks_leads}
use Rattle.std.proofs.Common.{◌≡◌, ℕ, zero, suc, ◌==◌, List, [], ◌∷◌, length, Bool, true, false, cond, map, find, nat_lt, slice_index, Option, Some, None, refl, sym, ap, subst, arith}
use Rattle.requester_machine.specs.Message.{Command}
use Rattle.requester_machine.specs.Requesting.{Requesting, new_requesting, requester_told, requester_given}
use Rattle.requester_machine.specs.Setup.{ReqEnd}
use Rattle.responder_machine.specs.Responding.{Connection, connection_of, all_draws, new_connection, responder_hears}
use Rattle.responder_machine.specs.Setup.{Known, towards}
use Rattle.spdm_lives.proofs.LifeKept.{IsLife, IsAsking, IsServing}
use Rattle.spdm_machine.proofs.Members.{all_in, found_in, in_map, map_in}
use Rattle.world_machine.specs.Setup.{WorldSetup}
use Rattle.world_machine.specs.Happenings.{Happening, Entry}
use Rattle.world_machine.specs.Trace.{world_from, world_after}
use Rattle.world_machine.specs.World.{World, WorldStep, new_world, told, given, given_to, given_to_responder, delivers, loses, without_waiting, stopped_of, with_sent, packet_of, turn, pumps, first_waiting, replied, requester_of, is_at, happens, entry_step}
use Rattle.spdm_agreement.proofs.Worlds.AllEvents.{requester_in}
use Rattle.spdm_agreement.proofs.Worlds.Starts.{new_apart}
use Rattle.spdm_agreement.specs.Configured.{IsConfigured, IsRequester, IsResponder, HasDraws, setups_of}

module _ (w : WorldSetup) where
  -- A record, so that antt finds the world that a lemma speaks of.
  pub record Lives (world : World) : Type 0 where
    pub is : IsLife w world

  told_lives : (world : World) (command : Command) → Lives world → (o : Option Requesting) (n : ℕ) → requester_of n world ≡ o → Lives (told world n command o).after
  told_lives world command k None n is = k
  told_lives world command k (Some a) n is = record { is = told_goes w world k.is a (requester_in n world a is) command (with_sent world.sent (requester_told a command).sent) }

  to_requester : (world : World) (packet : List ℕ) → Lives world → (o : Option Requesting) (eid : ℕ) → find (is_at eid) world.requesters ≡ o → Lives (given_to world packet o).after
  to_requester world packet k None eid is = k
  to_requester world packet k (Some a) eid is = record { is = given_goes w world k.is a (found_in (is_at eid) world.requesters a is).0 packet (with_sent world.sent (requester_given a packet).sent) }

  to_responder : (world : World) (packet : List ℕ) → Lives world → Lives (given_to_responder world packet (responder_hears world.responder packet)).after
  to_responder world packet k = record { is = hears_leads w world k.is packet (with_sent world.sent (responder_hears world.responder packet).sent) }

  either_lives : (b : Bool) (x y : WorldStep) → Lives x.after → Lives y.after → Lives (cond b x y).after
  either_lives true x y p q = p
  either_lives false x y p q = q

  given_lives : (world : World) (packet : List ℕ) → Lives world → Lives (given world packet).after
  given_lives world packet k =
      either_lives (nat_lt (length packet) 2) (given_to world packet None) _ k
      (either_lives (slice_index packet 1 == world.responder.part.eid) (given_to_responder world packet (responder_hears world.responder packet)) _ (to_responder world packet k)
      (to_requester world packet k (find (is_at (slice_index packet 1)) world.requesters) (slice_index packet 1) refl))

  stopped : (world : World) (number : ℕ) → Lives world → Lives (without_waiting number world)
  stopped world number k = record { is = sent_stays w world k.is (stopped_of number world.sent) }

  delivers_lives : (world : World) (number : ℕ) (packet : Option (List ℕ)) → Lives world → Lives (delivers world number packet).after
  delivers_lives world number None k = k
  delivers_lives world number (Some packet) k = given_lives (without_waiting number world) packet (stopped world number k)

  loses_lives : (world : World) (number : ℕ) (packet : Option (List ℕ)) → Lives world → Lives (loses world number packet).after
  loses_lives world number None k = k
  loses_lives world number (Some packet) k = stopped world number k

  turn_lives : (world : World) (next : World → WorldStep) (number : Option ℕ) → Lives world → ((later : World) → Lives later → Lives (next later).after) → Lives (turn world next number).after
  turn_lives world next None k all = k
  turn_lives world next (Some number) k all = all (delivers world number (packet_of number world.sent)).after (delivers_lives world number (packet_of number world.sent) k)

  pumps_lives : (count : ℕ) (world : World) → Lives world → Lives (pumps count world).after
  unfolding pumps
  pumps_lives zero world k = k
  pumps_lives (suc count) world k = turn_lives world (pumps count) (first_waiting world.sent) k (pumps_lives count)

  replied_lives : (world : World) (bytes : List ℕ) → Lives world → (o : Option Requesting) → Lives (replied world bytes o).after
  replied_lives world bytes k None = k
  replied_lives world bytes k (Some a) = record { is = queues_leads w world k.is a.setup.eid bytes (connection_of a.setup.eid world.responder.connections) refl }

  happens_lives : (world : World) (event : Happening) → Lives world → Lives (happens world event).after
  unfolding happens
  happens_lives world (Happening.Told n command) k = told_lives world command k (requester_of n world) n refl
  happens_lives world (Happening.Reply n bytes) k = replied_lives world bytes k (requester_of n world)
  happens_lives world (Happening.Deliver number) k = delivers_lives world number (packet_of number world.sent) k
  happens_lives world (Happening.Lose number) k = loses_lives world number (packet_of number world.sent) k
  happens_lives world (Happening.Inject bytes) k = given_lives world bytes k
  happens_lives world (Happening.Pump count) k = pumps_lives count world k
  happens_lives world (Happening.Tick seconds) k = record { is = ticks_leads w world k.is seconds }
  happens_lives world Happening.Show k = k

  -- From any world of these ends on.
  pub from_lives : (world : World) (entries : List Entry) → Lives world → Lives (world_from world entries)
  from_lives world [] k = k
  from_lives world (entry ∷ entries) k = from_lives (entry_step world entry).after entries (happens_lives world entry.happening k)

  -- The first world.
  no_draws : (known : List Known) → all_draws (map (new_connection w.responder.part) known) ≡ 0
  no_draws [] = refl
  no_draws (q ∷ others) = (let none = no_draws others in omega arith)

  begins : IsConfigured w → IsLife w (new_world w)
  begins c = record {
    apart = new_apart w c;
    asks = λ a m. (let o = in_map new_requesting w.requesters a m in
        subst IsAsking (sym o.2) (record {
          setup = all_in IsRequester (setups_of w.requesters) c.requesters o.0.setup (map_in (λ (e : ReqEnd). e.setup) w.requesters o.0 o.1);
          made = tt;
          life = tt;
          wear = omega arith;
          few = omega arith;
          draws = all_in (λ (e : ReqEnd). HasDraws e.first) w.requesters c.draws o.0 o.1;
        }));
    serves = λ x m. (let o = in_map (new_connection w.responder.part) w.responder.known x m in
        subst (IsServing w.responder.first) (sym o.2) (record { setup = all_in (λ (q : Known). IsResponder (towards w.responder.part q)) w.responder.known c.responders o.0 o.1; made = tt; life = tt }));
    wear = (let none = no_draws w.responder.known in omega arith);
    few = omega arith;
    draws = c.responder_draws;
    first = refl;
    requester_of = λ e m. (new_requesting e, map_in new_requesting w.requesters e m, refl, refl);
    end_of = λ a m. (let o = in_map new_requesting w.requesters a m in (o.0, o.1, ap (λ (y : Requesting). y.setup) o.2, ap (λ (y : Requesting). y.first) o.2));
    connection_of = λ q m. (new_connection w.responder.part q, map_in (new_connection w.responder.part) w.responder.known q m, refl);
    known_of = λ x m. (let o = in_map (new_connection w.responder.part) w.responder.known x m in (o.0, o.1, ap (λ (y : Connection). y.setup) o.2));
    checks = record { all = λ p i x. absurd x };
  }

  -- Whatever the events are.
  pub always : IsConfigured w → (entries : List Entry) → IsLife w (world_after w entries)
  always c entries = (from_lives (new_world w) entries (record { is = begins c })).is
