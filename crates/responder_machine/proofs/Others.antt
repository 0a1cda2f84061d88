-- A packet from one endpoint changes nothing of what a responder is towards another.
use Rattle.std.proofs.Common.{◌≡◌, ◌≢◌, ℕ, List, [], ◌∷◌, Bool, true, false, Option, Some, None, refl, sym, ◌∙◌, subst, filter, if◌then◌else◌, ◌==◌, not, slice_index, eqb-true, ne_eqb}
use Rattle.mctp_framing.specs.Cutting.{RouteFields}
use Rattle.mctp_framing.specs.Gathering.{Gathered, is_ours}
use Rattle.mctp_framing.specs.Gathering.Gathered.{Whole, More, Dropped}
use Rattle.mctp_framing.specs.Packet.{PacketFields, packet_fault, fault_or, fields_of}
use Rattle.spdm_basis.specs.declared.PacketFault.{PacketFault}
use Rattle.responder_machine.specs.History.{History}
use Rattle.spdm_machine.specs.Keys.{Draw}
use Rattle.responder_machine.specs.Responder.{Outcome, after}
use Rattle.responder_machine.specs.EndLaws.{AreAlike, OthersStand, source_of, receiver_of}
use Rattle.spdm_machine.specs.Packets.{fields_in, fields_with, gathered_from}
use Rattle.responder_machine.specs.Responding.{Connection, Responding, RspStep, connection_of, changed, with_history, answers, hears_whole, hears_gathered, hears_from, hears_packet, is_worn, next_draw, responder_hears}
use Rattle.std.proofs.lemmas.Bool.{and_right}

-- ---- Packets.

not_ours : (own eid : ℕ) (packet : List ℕ) → source_of packet ≢ eid → is_ours (receiver_of own eid) (fields_of packet) ≡ false
not_ours own eid packet n = and_right _ (slice_index packet 2 == eid) (ne_eqb _ _ n)

packets_by : (own eid : ℕ) (packet : List ℕ) (given : List PacketFields) (fault : Option PacketFault) → source_of packet ≢ eid
    → filter (is_ours (receiver_of own eid)) (fields_with (fault_or fault (fields_of packet)) given) ≡ filter (is_ours (receiver_of own eid)) given
packets_by own eid packet given (Some fault) n = refl
packets_by own eid packet given None n = rw (not_ours own eid packet n) refl

packets_stand : (own eid : ℕ) (packet : List ℕ) (given : List (List ℕ)) → source_of packet ≢ eid
    → filter (is_ours (receiver_of own eid)) (fields_in (packet ∷ given)) ≡ filter (is_ours (receiver_of own eid)) (fields_in given)
packets_stand own eid packet given n = packets_by own eid packet (fields_in given) (packet_fault packet) n

-- ---- Connections.

found_by : (eid : ℕ) (b : Bool) (c d : Connection) (others : List Connection) → (c.setup.peer == eid) ≡ b → (if b then Some c else connection_of eid others) ≡ Some d
    → (connection_of eid others ≡ Some d → d.setup.peer ≡ eid) → d.setup.peer ≡ eid
found_by eid true c d others e is next = subst (λ (x : Connection). x.setup.peer ≡ eid) (some_same c d is) (eqb-true _ _ e)
  where
    some_same : (x y : Connection) → Some x ≡ Some y → x ≡ y
    some_same x y e = cc
found_by eid false c d others e is next = next is

-- The connection that is found has the endpoint.
pub found : (eid : ℕ) (connections : List Connection) (d : Connection) → connection_of eid connections ≡ Some d → d.setup.peer ≡ eid
found eid [] d is = absurd (none_some d is)
  where
    none_some : (y : Connection) → None ≡ Some y → ⊥
    none_some y e = cc
found eid (c ∷ others) d is = found_by eid (c.setup.peer == eid) c d others refl is (found eid others d)

kept_by : (eid other : ℕ) (change : History → History) (c : Connection) (others : List Connection) (b : Bool) → other ≢ eid → (c.setup.peer == other) ≡ b
    → connection_of eid (with_history other change others) ≡ connection_of eid others
    → connection_of eid ((if b then changed change c else c) ∷ with_history other change others) ≡ connection_of eid (c ∷ others)
kept_by eid other change c others true n e next = rw (ne_eqb c.setup.peer eid (λ same. n (sym (eqb-true _ _ e) ∙ same))) next
kept_by eid other change c others false n e next = rw next refl

-- Another history of one connection leaves the others.
pub kept : (eid other : ℕ) (change : History → History) (connections : List Connection) → other ≢ eid → connection_of eid (with_history other change connections) ≡ connection_of eid connections
kept eid other change [] n = refl
kept eid other change (c ∷ others) n = kept_by eid other change c others (c.setup.peer == other) n refl (kept eid other change others n)

-- ---- A packet.

either : (eid : ℕ) (r : Responding) (b : Bool) (x y : RspStep) → AreAlike eid x.after r → AreAlike eid y.after r → AreAlike eid (if b then x else y).after r
either eid r true x y a b = a
either eid r false x y a b = b

module _ (r : Responding) (d : Draw) (packet : List ℕ) (eid : ℕ) (n : source_of packet ≢ eid) where
  -- Where connections stand.
  same : AreAlike eid (record r { given = packet ∷ r.given }) r
  same = record { part = refl; connection = refl; packets = λ own. packets_stand own eid packet r.given n }

  by_answer : (c : Connection) (route : RouteFields) (body : List ℕ) (outcome : Outcome) → c.setup.peer ≢ eid → AreAlike eid (answers r c packet route body outcome).after r
  by_answer c route body outcome m = record { part = refl; connection = kept eid c.setup.peer (λ h. after h outcome) r.connections m; packets = λ own. packets_stand own eid packet r.given n }

  by_whole : (c : Connection) (route : RouteFields) (body : List ℕ) → c.setup.peer ≢ eid → AreAlike eid (hears_whole r d c packet route body).after r
  by_whole c route body m = either eid r (not route.owner) _ _ same (either eid r _ _ _ same (by_answer c route body _ m))

  by_gathered : (c : Connection) (g : Gathered) → c.setup.peer ≢ eid → AreAlike eid (hears_gathered r d c packet g).after r
  by_gathered c (Whole route body) m = by_whole c route body m
  by_gathered c More m = same
  by_gathered c (Dropped cause) m = same

  by_connection : (fields : PacketFields) (c : Option Connection) → fields.from ≡ source_of packet → connection_of fields.from r.connections ≡ c → AreAlike eid (hears_from r d packet fields c).after r
  by_connection fields None e is = same
  by_connection fields (Some c) e is = by_gathered c (gathered_from c.setup.eid c.setup.peer r.given fields) (λ m. n (sym e ∙ sym (found fields.from r.connections c is) ∙ m))

  pub by_fault : (fault : Option PacketFault) → AreAlike eid (hears_packet r d packet (fault_or fault (fields_of packet))).after r
  by_fault (Some fault) = same
  by_fault None = either eid r _ _ _ same (by_connection (fields_of packet) (connection_of (fields_of packet).from r.connections) refl refl)

pub others : OthersStand
unfolding responder_hears
others r packet eid n = either eid r (is_worn r) _ _ (record { part = refl; connection = refl; packets = λ own. refl }) (by_fault r (next_draw r) packet eid n (packet_fault packet))
