-- What no event changes of a world: which endpoints its requesters have, in order, and that all ends are those of one
-- responder.
use Rattle.std.proofs.Common.{◌≡◌, ◌∙◌, ℕ, zero, suc, ◌==◌, ◌||◌, List, [], ◌∷◌, length, map, find, Bool, true, false, cond, not, nat_lt, Option, Some, None, Result, Ok, Err, slice_index, refl, sym, ap, subst, eqb-true}
use Rattle.mctp_framing.specs.Gathering.{Gathered}
use Rattle.mctp_framing.specs.Gathering.Gathered.{Whole, More, Dropped}
use Rattle.mctp_framing.specs.Packet.{PacketFields, parsed}
use Rattle.spdm_basis.specs.declared.PacketFault.{PacketFault}
use Rattle.spdm_grammar.specs.declared.told.heard.ReplyFault.{ReplyFault}
use Rattle.spdm_machine.specs.Packets.{gathered_from, body_type}
use Rattle.spdm_machine.proofs.Members.{IsIn, in_map, found_in, all_in, map_in}
use Rattle.requester_machine.proofs.SetUpKept.{given_setup, told_setup}
use Rattle.requester_machine.specs.Message.{Command}
use Rattle.requester_machine.specs.Requesting.{Requesting, requester_told, requester_given, new_requesting}
use Rattle.responder_machine.specs.Responding as serving
use Rattle.responder_machine.specs.Responding.{Connection, Responding, RspStep, connection_of, changed, with_history, responder_hears, queues, reply_fault_of, ticks, new_connection}
use Rattle.responder_machine.proofs.Connected.{KeepsSetup, changed_keeps}
use Rattle.responder_machine.specs.Responding.{changed_if}
use Rattle.responder_machine.specs.History.{History}
use Rattle.spdm_progress.proofs.Drawn.{AreDrawn, does_drawn, draws_whole}
use Rattle.world_machine.specs.Happenings.{Happening, Entry}
use Rattle.world_machine.specs.Happenings.Happening.{Told, Reply, Deliver, Lose, Inject, Pump, Tick, Show}
use Rattle.world_machine.specs.Setup.{WorldSetup, known_of}
use Rattle.world_machine.specs.Trace.{world_from, world_after}
use Rattle.requester_machine.specs.Setup.{ReqSetup, ReqEnd}
use Rattle.responder_machine.specs.Setup.{Known, RspSetup, RspPart}
use Rattle.spdm_agreement.specs.Configured.{IsConfigured, setups_of}
use Rattle.spdm_agreement.proofs.Worlds.AllEvents.{requester_in}
use Rattle.world_machine.specs.World.{new_world, World, WorldStep, told, given, given_to, given_to_responder, delivers, loses, without_waiting, packet_of, turn, pumps, first_waiting, replied, requester_of, is_at, happens, entry_step, with_requester, replaced}

-- ---- The responder keeps its own set-up, and those of its connections.

pub record KeepsEnds (r s : Responding) : Type 0 where
  pub part : s.part ≡ r.part
  pub ends : (c : Connection) → IsIn s.connections c → (d : Connection) × IsIn r.connections d × (c.setup ≡ d.setup) × (AreDrawn d.history → AreDrawn c.history)

same_ends : (r s : Responding) → s.part ≡ r.part → s.connections ≡ r.connections → KeepsEnds r s
same_ends r s part is = record { part = part; ends = λ c m. (c, subst (λ (cs : List Connection). IsIn cs c) is m, refl, λ k. k) }

map_ends : (f : Connection → Connection) (cs : List Connection) → KeepsSetup f → ((d : Connection) → AreDrawn d.history → AreDrawn (f d).history) → (c : Connection) → IsIn (map f cs) c
    → (d : Connection) × IsIn cs d × (c.setup ≡ d.setup) × (AreDrawn d.history → AreDrawn c.history)
map_ends f cs keeps drawn c m = (let o = in_map f cs c m in (
  o.0,
  o.1,
  ap (λ (x : Connection). x.setup) o.2 ∙ keeps o.0,
  λ k. subst (λ (x : Connection). AreDrawn x.history) (sym o.2) (drawn o.0 k),
))

changed_drawn : (eid : ℕ) (change : History → History) → ((h : History) → AreDrawn h → AreDrawn (change h)) → (d : Connection) → AreDrawn d.history → AreDrawn (changed_if eid change d).history
changed_drawn eid change keeps d k = go (d.setup.peer == eid)
  where
    go : (b : Bool) → AreDrawn (cond b (changed change d) d).history
    go true = keeps d.history k
    go false = k

either_ends : (r : Responding) (b : Bool) (s t : RspStep) → KeepsEnds r s.after → KeepsEnds r t.after → KeepsEnds r (cond b s t).after
either_ends r true s t e f = e
either_ends r false s t e f = f

module _ (r : Responding) (packet : List ℕ) where
  gathered_ends : (c : Connection) (g : Gathered) → KeepsEnds r (serving.hears_gathered r (serving.next_draw r) c packet g).after
  gathered_ends c (Whole route body) =
      either_ends r (not route.owner) _ _ (same_ends r _ refl refl)
      (either_ends r (not (body_type body == 5 || body_type body == 6)) _ _ (same_ends r _ refl refl)
      (record { part = refl; ends = map_ends _ r.connections (changed_keeps c.setup.peer _) (changed_drawn c.setup.peer _ (λ h k. does_drawn c.setup c.history h route.tag body (serving.next_draw r) (draws_whole r) k)) }))
  gathered_ends c More = same_ends r _ refl refl
  gathered_ends c (Dropped cause) = same_ends r _ refl refl

  from_ends : (fields : PacketFields) (o : Option Connection) → KeepsEnds r (serving.hears_from r (serving.next_draw r) packet fields o).after
  from_ends fields None = same_ends r _ refl refl
  from_ends fields (Some c) = gathered_ends c (gathered_from c.setup.eid c.setup.peer r.given fields)

  packet_ends : (p : Result PacketFields PacketFault) → KeepsEnds r (serving.hears_packet r (serving.next_draw r) packet p).after
  packet_ends (Err fault) = same_ends r _ refl refl
  packet_ends (Ok fields) = either_ends r (not (fields.to == r.part.eid)) _ _ (same_ends r _ refl refl) (from_ends fields (connection_of fields.from r.connections))

pub hears_ends : (r : Responding) (packet : List ℕ) → KeepsEnds r (responder_hears r packet).after
unfolding responder_hears
hears_ends r packet = either_ends r (serving.is_worn r) _ _ (same_ends r _ refl refl) (packet_ends r packet (parsed packet))

pub queues_ends : (r : Responding) (eid : ℕ) (bytes : List ℕ) (fault : Option ReplyFault) → KeepsEnds r (queues fault r eid bytes)
queues_ends r eid bytes (Some fault) = same_ends r r refl refl
queues_ends r eid bytes None = record { part = refl; ends = map_ends _ r.connections (changed_keeps eid _) (changed_drawn eid _ (λ h k. k)) }

pub ticks_ends : (r : Responding) (seconds : ℕ) → KeepsEnds r (ticks r seconds)
ticks_ends r seconds = record { part = refl; ends = map_ends _ r.connections (λ c. refl) (λ c k. k) }

-- ---- The world.

-- Its requesters have these endpoints, in order, and the responder this one. What holds of each set-up of a requester,
-- and of each of a connection, goes on to hold, since set-ups stay.
pub record IsPlaced (eids : List ℕ) (own : ℕ) (Theirs : ReqSetup → Type 0) (Ends : RspSetup → Type 0) (requesters : List Requesting) (responder : Responding) : Type 0 where
  pub eids_are : map (λ (a : Requesting). a.setup.eid) requesters ≡ eids
  pub own_is : responder.part.eid ≡ own
  pub theirs : (a : Requesting) → IsIn requesters a → Theirs a.setup
  pub ends : (c : Connection) → IsIn responder.connections c → Ends c.setup
  pub drawn : (c : Connection) → IsIn responder.connections c → AreDrawn c.history

replaced_eid : (new old : Requesting) (b : Bool) → (old.setup.eid == new.setup.eid) ≡ b → (cond b new old).setup.eid ≡ old.setup.eid
replaced_eid new old true e = sym (eqb-true old.setup.eid new.setup.eid e)
replaced_eid new old false e = refl

pub eids_stay : (new : Requesting) (rs : List Requesting) → map (λ (a : Requesting). a.setup.eid) (with_requester new rs) ≡ map (λ (a : Requesting). a.setup.eid) rs
eids_stay new [] = refl
eids_stay new (old ∷ others) =
    ap (λ (e : ℕ). e ∷ map (λ (a : Requesting). a.setup.eid) (with_requester new others)) (replaced_eid new old (old.setup.eid == new.setup.eid) refl)
    ∙ ap (λ (es : List ℕ). old.setup.eid ∷ es) (eids_stay new others)

replaced_theirs : (Theirs : ReqSetup → Type 0) (new old : Requesting) (b : Bool) → Theirs new.setup → Theirs old.setup → Theirs (cond b new old).setup
replaced_theirs Theirs new old true e f = e
replaced_theirs Theirs new old false e f = f

pub requester_placed : (eids : List ℕ) (own : ℕ) (Theirs : ReqSetup → Type 0) (Ends : RspSetup → Type 0) (rs : List Requesting) (r : Responding) → IsPlaced eids own Theirs Ends rs r → (a new : Requesting) → IsIn rs a → new.setup ≡ a.setup → IsPlaced eids own Theirs Ends (with_requester new rs) r
requester_placed eids own Theirs Ends rs r k a new m same = record {
  eids_are = eids_stay new rs ∙ k.eids_are;
  own_is = k.own_is;
  theirs = λ x i. (let o = in_map (replaced new) rs x i in
      subst (λ (y : Requesting). Theirs y.setup) (sym o.2) (replaced_theirs Theirs new o.0 (o.0.setup.eid == new.setup.eid) (subst Theirs (sym same) (k.theirs a m)) (k.theirs o.0 o.1)));
  ends = k.ends;
  drawn = k.drawn;
}

pub responder_placed : (eids : List ℕ) (own : ℕ) (Theirs : ReqSetup → Type 0) (Ends : RspSetup → Type 0) (rs : List Requesting) (r s : Responding) → IsPlaced eids own Theirs Ends rs r → KeepsEnds r s → IsPlaced eids own Theirs Ends rs s
responder_placed eids own Theirs Ends rs r s k keeps = record {
  eids_are = k.eids_are;
  own_is = ap (λ (p : RspPart). p.eid) keeps.part ∙ k.own_is;
  theirs = k.theirs;
  ends = λ c m. (let d = keeps.ends c m in subst Ends (sym d.2) (k.ends d.0 d.1));
  drawn = λ c m. (let d = keeps.ends c m in d.3 (k.drawn d.0 d.1));
}

-- ---- All events.

module _ (eids : List ℕ) (own : ℕ) (Theirs : ReqSetup → Type 0) (Ends : RspSetup → Type 0) where
  pub record Fits (world : World) : Type 0 where
    pub is : IsPlaced eids own Theirs Ends world.requesters world.responder

  told_placed : (world : World) (command : Command) → Fits world → (o : Option Requesting) (n : ℕ) → requester_of n world ≡ o → Fits (told world n command o).after
  told_placed world command k None n is = k
  told_placed world command k (Some a) n is = record { is = requester_placed eids own Theirs Ends world.requesters world.responder k.is a (requester_told a command).after (requester_in n world a is) (told_setup a command) }

  to_requester : (world : World) (packet : List ℕ) → Fits world → (o : Option Requesting) (eid : ℕ) → find (is_at eid) world.requesters ≡ o → Fits (given_to world packet o).after
  to_requester world packet k None eid is = k
  to_requester world packet k (Some a) eid is = record { is = requester_placed eids own Theirs Ends world.requesters world.responder k.is a (requester_given a packet).after (found_in (is_at eid) world.requesters a is).0 (given_setup a packet) }

  to_responder : (world : World) (packet : List ℕ) → Fits world → Fits (given_to_responder world packet (responder_hears world.responder packet)).after
  to_responder world packet k = record { is = responder_placed eids own Theirs Ends world.requesters world.responder (responder_hears world.responder packet).after k.is (hears_ends world.responder packet) }

  either : (b : Bool) (x y : WorldStep) → Fits x.after → Fits y.after → Fits (cond b x y).after
  either true x y p q = p
  either false x y p q = q

  given_placed : (world : World) (packet : List ℕ) → Fits world → Fits (given world packet).after
  given_placed world packet k =
      either (nat_lt (length packet) 2) (given_to world packet None) _ k
      (either (slice_index packet 1 == world.responder.part.eid) (given_to_responder world packet (responder_hears world.responder packet)) _ (to_responder world packet k)
      (to_requester world packet k (find (is_at (slice_index packet 1)) world.requesters) (slice_index packet 1) refl))

  stopped : (world : World) (number : ℕ) → Fits world → Fits (without_waiting number world)
  stopped world number k = record { is = k.is }

  delivers_placed : (world : World) (number : ℕ) (packet : Option (List ℕ)) → Fits world → Fits (delivers world number packet).after
  delivers_placed world number None k = k
  delivers_placed world number (Some packet) k = given_placed (without_waiting number world) packet (stopped world number k)

  loses_placed : (world : World) (number : ℕ) (packet : Option (List ℕ)) → Fits world → Fits (loses world number packet).after
  loses_placed world number None k = k
  loses_placed world number (Some packet) k = stopped world number k

  turn_placed : (world : World) (next : World → WorldStep) (number : Option ℕ) → Fits world → ((later : World) → Fits later → Fits (next later).after) → Fits (turn world next number).after
  turn_placed world next None k all = k
  turn_placed world next (Some number) k all = all (delivers world number (packet_of number world.sent)).after (delivers_placed world number (packet_of number world.sent) k)

  pumps_placed : (count : ℕ) (world : World) → Fits world → Fits (pumps count world).after
  unfolding pumps
  pumps_placed zero world k = k
  pumps_placed (suc count) world k = turn_placed world (pumps count) (first_waiting world.sent) k (pumps_placed count)

  replied_placed : (world : World) (bytes : List ℕ) → Fits world → (o : Option Requesting) → Fits (replied world bytes o).after
  replied_placed world bytes k None = k
  replied_placed world bytes k (Some a) = record {
    is = responder_placed eids own Theirs Ends world.requesters world.responder _ k.is (queues_ends world.responder a.setup.eid bytes (reply_fault_of (connection_of a.setup.eid world.responder.connections) bytes));
  }

  pub happens_placed : (world : World) (event : Happening) → Fits world → Fits (happens world event).after
  unfolding happens
  happens_placed world (Told n command) k = told_placed world command k (requester_of n world) n refl
  happens_placed world (Reply n bytes) k = replied_placed world bytes k (requester_of n world)
  happens_placed world (Deliver number) k = delivers_placed world number (packet_of number world.sent) k
  happens_placed world (Lose number) k = loses_placed world number (packet_of number world.sent) k
  happens_placed world (Inject bytes) k = given_placed world bytes k
  happens_placed world (Pump count) k = pumps_placed count world k
  happens_placed world (Tick seconds) k = record { is = responder_placed eids own Theirs Ends world.requesters world.responder (ticks world.responder seconds) k.is (ticks_ends world.responder seconds) }
  happens_placed world Show k = k

  pub from_placed : (world : World) (entries : List Entry) → Fits world → Fits (world_from world entries)
  from_placed world [] k = k
  from_placed world (entry ∷ entries) k = from_placed (entry_step world entry).after entries (happens_placed world entry.happening k)

-- ---- The beginning.

new_eids : (es : List ReqEnd) → map (λ (a : Requesting). a.setup.eid) (map new_requesting es) ≡ map (λ (q : ReqSetup). q.eid) (setups_of es)
new_eids [] = refl
new_eids (e ∷ others) = ap (λ (x : List ℕ). e.setup.eid ∷ x) (new_eids others)

-- The set-up of a requester is one of these, and it knows the responder.
pub record IsOneOf (setups : List ReqSetup) (own : ℕ) (q : ReqSetup) : Type 0 where
  pub setup : IsIn setups q
  pub responder : q.responder ≡ own

-- The set-up of a connection is the responder's towards one of these, whose hint it knows.
pub record IsTowardsOne (setups : List ReqSetup) (own : ℕ) (r : RspSetup) : Type 0 where
  pub requester : ReqSetup
  pub setup : IsIn setups requester
  pub peer : r.peer ≡ requester.eid
  pub hint : r.hint ≡ requester.hint
  pub eid : r.eid ≡ own

-- One that is known stands for a set-up.
known_setup : (qs : List ReqSetup) (known : List Known) → known ≡ map known_of qs → (k : Known) → IsIn known k → (q : ReqSetup) × IsIn qs q × (k ≡ known_of q)
known_setup qs known is k m = in_map known_of qs k (subst (λ (l : List Known). IsIn l k) is m)

towards_one : (qs : List ReqSetup) (part : RspPart) (known : List Known) → known ≡ map known_of qs → (x : Connection) → IsIn (map (new_connection part) known) x → IsTowardsOne qs part.eid x.setup
towards_one qs part known is x m =
    let o = in_map (new_connection part) known x m in
    let q = known_setup qs known is o.0 o.1 in record {
      requester = q.0;
      setup = q.1;
      peer = ap (λ (y : Connection). y.setup.peer) o.2 ∙ ap (λ (k : Known). k.eid) q.2;
      hint = ap (λ (y : Connection). y.setup.hint) o.2 ∙ ap (λ (k : Known). k.hint) q.2;
      eid = ap (λ (y : Connection). y.setup.eid) o.2;
    }

pub always_placed : (w : WorldSetup) → IsConfigured w → (entries : List Entry)
    → IsPlaced (map (λ (q : ReqSetup). q.eid) (setups_of w.requesters)) w.responder.part.eid (IsOneOf (setups_of w.requesters) w.responder.part.eid) (IsTowardsOne (setups_of w.requesters) w.responder.part.eid) (world_after w entries).requesters (world_after w entries).responder
always_placed w c entries =
    (from_placed (map (λ (q : ReqSetup). q.eid) (setups_of w.requesters)) w.responder.part.eid (IsOneOf (setups_of w.requesters) w.responder.part.eid) (IsTowardsOne (setups_of w.requesters) w.responder.part.eid) (new_world w) entries (record {
      is = record {
        eids_are = new_eids w.requesters;
        own_is = refl;
        theirs = λ a m. (let o = in_map new_requesting w.requesters a m in
            let setup = map_in (λ (e : ReqEnd). e.setup) w.requesters o.0 o.1 in
            subst (λ (x : Requesting). IsOneOf (setups_of w.requesters) w.responder.part.eid x.setup) (sym o.2)
            (record { setup = setup; responder = all_in (λ (q : ReqSetup). q.responder ≡ w.responder.part.eid) (setups_of w.requesters) c.peers o.0.setup setup }));
        ends = λ x m. towards_one (setups_of w.requesters) w.responder.part w.responder.known c.known x m;
        drawn = λ x m. (let o = in_map (new_connection w.responder.part) w.responder.known x m in subst (λ (y : Connection). AreDrawn y.history) (sym o.2) tt);
      };
    })).is
