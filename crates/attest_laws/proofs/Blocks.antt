-- The responder towards each requester has the blocks that it is set up with, and no event of a world changes how it is
-- set up.
use Rattle.std.proofs.Common.{◌≡◌, ◌==◌, ◌||◌, not, ℕ, zero, suc, List, [], ◌∷◌, length, Bool, true, false, cond, nat_lt, Option, Some, None, Result, Ok, Err, find, slice_index, refl, ap, ◌∙◌}
use Rattle.mctp_framing.specs.Cutting.{RouteFields}
use Rattle.mctp_framing.specs.Gathering.{Gathered}
use Rattle.mctp_framing.specs.Gathering.Gathered.{Whole, More, Dropped}
use Rattle.mctp_framing.specs.Packet.{PacketFields, parsed}
use Rattle.requester_machine.specs.Message.{Command}
use Rattle.requester_machine.specs.Requesting.{Requesting}
use Rattle.responder_machine.specs.Does.{responder_does}
use Rattle.responder_machine.specs.History.{History}
use Rattle.responder_machine.specs.History.Entry.{Queued, Ticked}
use Rattle.responder_machine.specs.Responder.{after}
use Rattle.responder_machine.specs.Responding.{Connection, Responding, RspStep, answers, changed, changed_if, connection_of, hears_from, hears_gathered, hears_packet, hears_whole, ignores, is_worn, new_connection, new_responding, next_draw, queues, reply_fault_of, responder_hears, ticks, with_history, worn_step}
use Rattle.responder_machine.specs.Setup.{RspEnd, RspPart}
use Rattle.spdm_basis.specs.declared.PacketFault.{PacketFault}
use Rattle.spdm_grammar.specs.declared.names.message_type.TheConstants.{SECURED, SPDM}
use Rattle.spdm_grammar.specs.declared.told.heard.ReplyFault.{ReplyFault}
use Rattle.spdm_machine.proofs.Members.{IsIn, in_map}
use Rattle.spdm_machine.specs.Keys.{Draw}
use Rattle.spdm_machine.specs.Packets.{body_type, gathered_from}
use Rattle.world_machine.specs.Happenings.{Entry, Happening}
use Rattle.world_machine.specs.Happenings.Happening.{Told, Reply, Deliver, Lose, Inject, Pump, Tick, Show}
use Rattle.world_machine.specs.Setup.{WorldSetup}
use Rattle.world_machine.specs.Trace.{world_after, world_from}
use Rattle.world_machine.specs.World.{World, WorldStep, delivers, entry_step, first_waiting, given, given_to, given_to_responder, happens, is_at, loses, new_world, packet_of, pumps, replied, requester_of, told, turn, without_waiting}

-- A responder is set up like this, and so is each of its connections.
pub record IsSetUp (part : RspPart) (b : Responding) : Type 0 where
  pub part_is : b.part ≡ part
  pub blocks : (x : Connection) → IsIn b.connections x → x.setup.blocks ≡ part.blocks

-- ---- The responder alone.

begins_set_up : (e : RspEnd) → IsSetUp e.part (new_responding e)
begins_set_up e = record {
  part_is = refl;
  blocks = λ x is. (let o = in_map (new_connection e.part) e.known x is in ap (λ (y : Connection). y.setup.blocks) o.2);
}

same_if : (eid : ℕ) (change : History → History) (x : Connection) → (changed_if eid change x).setup.blocks ≡ x.setup.blocks
same_if eid change x = go (x.setup.peer == eid)
  where
    go : (b : Bool) → (cond b (changed change x) x).setup.blocks ≡ x.setup.blocks
    go true = refl
    go false = refl

-- Histories of connections change, and nothing else of them.
with_history_set_up : (part : RspPart) (b : Responding) (eid : ℕ) (change : History → History) (given taken : List (List ℕ)) → IsSetUp part b → IsSetUp part (record b { given = given; taken = taken; connections = with_history eid change b.connections })
with_history_set_up part b eid change given taken k = record {
  part_is = k.part_is;
  blocks = λ x is.
      (let o = in_map (changed_if eid change) b.connections x is in
      ap (λ (y : Connection). y.setup.blocks) o.2 ∙ same_if eid change o.0 ∙ k.blocks o.0 o.1);
}

module _ (part : RspPart) where
  abbrev StaysSetUp : RspStep → Type 0
  StaysSetUp s = IsSetUp part s.after

  either : (b : Bool) (x y : RspStep) → StaysSetUp x → StaysSetUp y → StaysSetUp (cond b x y)
  either true x y p q = p
  either false x y p q = q

  module _ (b : Responding) (k : IsSetUp part b) (packet : List ℕ) where
    rests : (given : List (List ℕ)) → IsSetUp part (record b { given = given })
    rests given = record { part_is = k.part_is; blocks = k.blocks }

    whole_set_up : (d : Draw) (c : Connection) (route : RouteFields) (body : List ℕ) → StaysSetUp (hears_whole b d c packet route body)
    whole_set_up d c route body =
        let o = responder_does c.setup c.history route.tag body d in
        either (not route.owner) (ignores b packet _) _ (rests (packet ∷ b.given))
        (either (not (body_type body == SPDM || body_type body == SECURED)) (ignores b packet _) (answers b c packet route body o) (rests (packet ∷ b.given))
        (with_history_set_up part b c.setup.peer (λ h. after h o) _ _ k))

    gathered_set_up : (d : Draw) (c : Connection) (g : Gathered) → StaysSetUp (hears_gathered b d c packet g)
    gathered_set_up d c (Whole route body) = whole_set_up d c route body
    gathered_set_up d c More = rests (packet ∷ b.given)
    gathered_set_up d c (Dropped cause) = rests (packet ∷ b.given)

    from_set_up : (d : Draw) (fields : PacketFields) (o : Option Connection) → StaysSetUp (hears_from b d packet fields o)
    from_set_up d fields None = rests (packet ∷ b.given)
    from_set_up d fields (Some c) = gathered_set_up d c (gathered_from c.setup.eid c.setup.peer b.given fields)

    packet_set_up : (d : Draw) (p : Result PacketFields PacketFault) → StaysSetUp (hears_packet b d packet p)
    packet_set_up d (Err fault) = rests (packet ∷ b.given)
    packet_set_up d (Ok fields) = either (not (fields.to == b.part.eid)) (ignores b packet _) (hears_from b d packet fields (connection_of fields.from b.connections)) (rests (packet ∷ b.given)) (from_set_up d fields (connection_of fields.from b.connections))

    hears_set_up : StaysSetUp (responder_hears b packet)
    unfolding responder_hears
    hears_set_up = either (is_worn b) (worn_step b) (hears_packet b (next_draw b) packet (parsed packet)) (rests b.given) (packet_set_up (next_draw b) (parsed packet))

  queues_set_up : (b : Responding) (eid : ℕ) (bytes : List ℕ) → IsSetUp part b → (o : Option ReplyFault) → IsSetUp part (queues o b eid bytes)
  queues_set_up b eid bytes k (Some fault) = k
  queues_set_up b eid bytes k None = with_history_set_up part b eid (λ h. Queued bytes ∷ h) b.given b.taken k

  ticks_set_up : (b : Responding) (seconds : ℕ) → IsSetUp part b → IsSetUp part (ticks b seconds)
  ticks_set_up b seconds k = record {
    part_is = k.part_is;
    blocks = λ x is. (let o = in_map (changed (λ h. Ticked seconds ∷ h)) b.connections x is in ap (λ (y : Connection). y.setup.blocks) o.2 ∙ k.blocks o.0 o.1);
  }

  -- ---- A world.

  abbrev Stays : World → Type 0
  Stays world = IsSetUp part world.responder

  given_to_stays : (world : World) (packet : List ℕ) → Stays world → (o : Option Requesting) → Stays (given_to world packet o).after
  given_to_stays world packet k None = k
  given_to_stays world packet k (Some a) = k

  either_world : (b : Bool) (x y : WorldStep) → Stays x.after → Stays y.after → Stays (cond b x y).after
  either_world true x y p q = p
  either_world false x y p q = q

  given_stays : (world : World) (packet : List ℕ) → Stays world → Stays (given world packet).after
  given_stays world packet k =
      either_world (nat_lt (length packet) 2) (given_to world packet None) _ k
      (either_world (slice_index packet 1 == world.responder.part.eid) (given_to_responder world packet (responder_hears world.responder packet)) _ (hears_set_up world.responder k packet)
      (given_to_stays world packet k (find (is_at (slice_index packet 1)) world.requesters)))

  delivers_stays : (world : World) (number : ℕ) (packet : Option (List ℕ)) → Stays world → Stays (delivers world number packet).after
  delivers_stays world number None k = k
  delivers_stays world number (Some packet) k = given_stays (without_waiting number world) packet k

  loses_stays : (world : World) (number : ℕ) (packet : Option (List ℕ)) → Stays world → Stays (loses world number packet).after
  loses_stays world number None k = k
  loses_stays world number (Some packet) k = k

  turn_stays : (world : World) (next : World → WorldStep) (number : Option ℕ) → Stays world → ((later : World) → Stays later → Stays (next later).after) → Stays (turn world next number).after
  turn_stays world next None k all = k
  turn_stays world next (Some number) k all = all (delivers world number (packet_of number world.sent)).after (delivers_stays world number (packet_of number world.sent) k)

  pumps_stay : (count : ℕ) (world : World) → Stays world → Stays (pumps count world).after
  unfolding pumps
  pumps_stay zero world k = k
  pumps_stay (suc count) world k = turn_stays world (pumps count) (first_waiting world.sent) k (pumps_stay count)

  told_stays : (world : World) (n : ℕ) (command : Command) (o : Option Requesting) → Stays world → Stays (told world n command o).after
  told_stays world n command None k = k
  told_stays world n command (Some a) k = k

  replied_stays : (world : World) (bytes : List ℕ) (o : Option Requesting) → Stays world → Stays (replied world bytes o).after
  replied_stays world bytes None k = k
  replied_stays world bytes (Some a) k = queues_set_up world.responder a.setup.eid bytes k (reply_fault_of (connection_of a.setup.eid world.responder.connections) bytes)

  pub happens_stays : (world : World) (event : Happening) → Stays world → Stays (happens world event).after
  unfolding happens
  happens_stays world (Told n command) k = told_stays world n command (requester_of n world) k
  happens_stays world (Reply n bytes) k = replied_stays world bytes (requester_of n world) k
  happens_stays world (Deliver number) k = delivers_stays world number (packet_of number world.sent) k
  happens_stays world (Lose number) k = loses_stays world number (packet_of number world.sent) k
  happens_stays world (Inject bytes) k = given_stays world bytes k
  happens_stays world (Pump count) k = pumps_stay count world k
  happens_stays world (Tick seconds) k = ticks_set_up world.responder seconds k
  happens_stays world Show k = k

  from_stays : (world : World) (entries : List Entry) → Stays world → Stays (world_from world entries)
  from_stays world [] k = k
  from_stays world (entry ∷ entries) k = from_stays (entry_step world entry).after entries (happens_stays world entry.happening k)

pub stays_set_up : (w : WorldSetup) (entries : List Entry) → IsSetUp w.responder.part (world_after w entries).responder
stays_set_up w entries = from_stays w.responder.part (new_world w) entries (begins_set_up w.responder)
