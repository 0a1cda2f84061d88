-- Two responders that are alike towards an endpoint do alike with a packet from it.
use Rattle.std.proofs.Common.{◌≡◌, ℕ, List, [], ◌∷◌, Bool, true, false, Option, Some, None, refl, sym, ap, ◌∙◌, subst, filter, if◌then◌else◌, ◌==◌, ◌||◌, not}
use Rattle.mctp_framing.proofs.OwnPackets.{gathered-alike}
use Rattle.mctp_framing.specs.Cutting.{RouteFields}
use Rattle.mctp_framing.specs.Gathering.{Gathered, Receiver, is_ours}
use Rattle.mctp_framing.specs.Gathering.Gathered.{Whole, More, Dropped}
use Rattle.mctp_framing.specs.Packet.{PacketFields, packet_fault, fault_or, fields_of, parsed}
use Rattle.spdm_basis.specs.declared.DropCause.TheVariants.{NotOurs}
use Rattle.spdm_basis.specs.declared.PacketFault.{PacketFault}
use Rattle.responder_machine.specs.Does.{responder_does}
use Rattle.responder_machine.specs.History.{History}
use Rattle.spdm_machine.specs.Keys.{Draw}
use Rattle.responder_machine.specs.Responder.{Outcome, after}
use Rattle.responder_machine.proofs.Others.{found}
use Rattle.responder_machine.specs.EndLaws.{AreAlike, LeadAlike, OwnDecide, source_of, receiver_of}
use Rattle.spdm_machine.specs.Packets.{fields_in, fields_with, gathered_from, body_type}
use Rattle.spdm_grammar.specs.declared.told.heard.Heard.{Heard}
use Rattle.spdm_grammar.specs.declared.told.heard.Heard.TheVariants as heard
use Rattle.spdm_grammar.specs.declared.told.heard.RspIgnored.TheVariants as ignored
use Rattle.responder_machine.specs.Setup.{RspPart}
use Rattle.responder_machine.specs.Responding.{Connection, Responding, RspStep, connection_of, changed, with_history, ignores, answers, hears_whole, hears_gathered, hears_from, hears_packet, is_worn, worn_step, next_draw, responder_hears}

-- What a packet leads to goes by the packets from the peer alone.
pub gathered_alike : (own eid : ℕ) (given others : List (List ℕ)) (p : PacketFields)
    → filter (is_ours (receiver_of own eid)) (fields_in given) ≡ filter (is_ours (receiver_of own eid)) (fields_in others)
    → gathered_from own eid given p ≡ gathered_from own eid others p
unfolding gathered_from
gathered_alike own eid given others p e = gathered-alike (receiver_of own eid) (fields_in given) (fields_in others) p e

-- ---- Packets and connections.

more_by : (r : Receiver) (packet : List ℕ) (given others : List PacketFields) (fault : Option PacketFault) → filter (is_ours r) given ≡ filter (is_ours r) others
    → filter (is_ours r) (fields_with (fault_or fault (fields_of packet)) given) ≡ filter (is_ours r) (fields_with (fault_or fault (fields_of packet)) others)
more_by r packet given others (Some fault) e = e
more_by r packet given others None e = ap (λ (x : List PacketFields). if is_ours r (fields_of packet) then fields_of packet ∷ x else x) e

more : (r : Receiver) (packet : List ℕ) (given others : List (List ℕ)) → filter (is_ours r) (fields_in given) ≡ filter (is_ours r) (fields_in others)
    → filter (is_ours r) (fields_in (packet ∷ given)) ≡ filter (is_ours r) (fields_in (packet ∷ others))
more r packet given others e = more_by r packet (fields_in given) (fields_in others) (packet_fault packet) e

some_same : (x y : Connection) → Some x ≡ Some y → x ≡ y
some_same x y e = cc

none_some : (y : Connection) → None ≡ Some y → ⊥
none_some y e = cc

changed_by : (eid : ℕ) (change : History → History) (b : Bool) (c d : Connection) (others : List Connection) → (d.setup.peer == eid) ≡ b → (if b then Some d else connection_of eid others) ≡ Some c
    → (connection_of eid others ≡ Some c → connection_of eid (with_history eid change others) ≡ Some (changed change c))
    → connection_of eid ((if b then changed change d else d) ∷ with_history eid change others) ≡ Some (changed change c)
changed_by eid change true c d others e is next = rw e (ap (λ (x : Connection). Some (changed change x)) (some_same d c is))
changed_by eid change false c d others e is next = rw e (next is)

changed_one : (eid : ℕ) (change : History → History) (connections : List Connection) (c : Connection) → connection_of eid connections ≡ Some c
    → connection_of eid (with_history eid change connections) ≡ Some (changed change c)
changed_one eid change [] c is = absurd (none_some c is)
changed_one eid change (d ∷ others) c is = changed_by eid change (d.setup.peer == eid) c d others refl is (changed_one eid change others c)

pub changed_at : (eid peer : ℕ) (change : History → History) (connections : List Connection) (c : Connection) → peer ≡ eid → connection_of eid connections ≡ Some c
    → connection_of eid (with_history peer change connections) ≡ Some (changed change c)
changed_at eid peer change connections c e is = subst (λ (p : ℕ). connection_of eid (with_history p change connections) ≡ Some (changed change c)) (sym e) (changed_one eid change connections c is)

either : (eid : ℕ) (b : Bool) (x y u v : RspStep) → LeadAlike eid x u → LeadAlike eid y v → LeadAlike eid (if b then x else y) (if b then u else v)
either eid true x y u v a b = a
either eid false x y u v a b = b

-- ---- A packet.

module _ (r s : Responding) (packet : List ℕ) (d : Draw) (alike : AreAlike (source_of packet) r s) where
  -- Nothing is sent.
  nothing : (told : Heard) → LeadAlike (source_of packet) (ignores r packet told) (ignores s packet told)
  nothing told = record {
    heard = refl;
    sent = refl;
    taken = refl;
    after = record { part = alike.part; connection = alike.connection; packets = λ own. more (receiver_of own (source_of packet)) packet r.given s.given (alike.packets own) };
  }

  by_answer : (c : Connection) (route : RouteFields) (body : List ℕ) (outcome : Outcome) → connection_of (source_of packet) r.connections ≡ Some c
      → LeadAlike (source_of packet) (answers r c packet route body outcome) (answers s c packet route body outcome)
  by_answer c route body outcome is = record {
    heard = refl;
    sent = refl;
    taken = refl;
    after = record {
      part = alike.part;
      connection =
          changed_at (source_of packet) c.setup.peer (λ h. after h outcome) r.connections c (found (source_of packet) r.connections c is) is
          ∙ sym (changed_at (source_of packet) c.setup.peer (λ h. after h outcome) s.connections c (found (source_of packet) r.connections c is) (sym alike.connection ∙ is));
      packets = λ own. more (receiver_of own (source_of packet)) packet r.given s.given (alike.packets own);
    };
  }

  by_whole : (c : Connection) (route : RouteFields) (body : List ℕ) → connection_of (source_of packet) r.connections ≡ Some c → LeadAlike (source_of packet) (hears_whole r d c packet route body) (hears_whole s d c packet route body)
  by_whole c route body is = either (source_of packet) (not route.owner) _ _ _ _ (nothing (heard.Ignored ignored.NotRequest)) (either (source_of packet) (not (body_type body == 5 || body_type body == 6)) _ _ _ _ (nothing (heard.Ignored ignored.OtherType)) (by_answer c route body (responder_does c.setup c.history route.tag body d) is))

  by_gathered : (c : Connection) (g : Gathered) → connection_of (source_of packet) r.connections ≡ Some c → LeadAlike (source_of packet) (hears_gathered r d c packet g) (hears_gathered s d c packet g)
  by_gathered c (Whole route body) is = by_whole c route body is
  by_gathered c More is = nothing _
  by_gathered c (Dropped cause) is = nothing _

  gathers : (c : Connection) (fields : PacketFields) → c.setup.peer ≡ source_of packet → gathered_from c.setup.eid c.setup.peer r.given fields ≡ gathered_from c.setup.eid c.setup.peer s.given fields
  gathers c fields e = subst (λ (peer : ℕ). gathered_from c.setup.eid peer r.given fields ≡ gathered_from c.setup.eid peer s.given fields) (sym e) (gathered_alike c.setup.eid (source_of packet) r.given s.given fields (alike.packets c.setup.eid))

  by_connection : (fields : PacketFields) (c : Option Connection) → connection_of (source_of packet) r.connections ≡ c → LeadAlike (source_of packet) (hears_from r d packet fields c) (hears_from s d packet fields c)
  by_connection fields None is = nothing _
  by_connection fields (Some c) is =
      subst (λ (g : Gathered). LeadAlike (source_of packet) (hears_gathered r d c packet (gathered_from c.setup.eid c.setup.peer r.given fields)) (hears_gathered s d c packet g))
      (gathers c fields (found (source_of packet) r.connections c is))
      (by_gathered c (gathered_from c.setup.eid c.setup.peer r.given fields) is)

  by_source : (fields : PacketFields) → fields.from ≡ source_of packet → LeadAlike (source_of packet) (hears_from r d packet fields (connection_of (source_of packet) r.connections)) (hears_from s d packet fields (connection_of (source_of packet) s.connections))
  by_source fields e =
      subst (λ (c : Option Connection). LeadAlike (source_of packet) (hears_from r d packet fields (connection_of (source_of packet) r.connections)) (hears_from s d packet fields c))
      alike.connection
      (by_connection fields (connection_of (source_of packet) r.connections) refl)

  by_fault : (fault : Option PacketFault) → LeadAlike (source_of packet) (hears_packet r d packet (fault_or fault (fields_of packet))) (hears_packet s d packet (fault_or fault (fields_of packet)))
  by_fault (Some fault) = nothing _
  by_fault None =
      subst (λ (part : RspPart). LeadAlike (source_of packet) (hears_packet r d packet (fault_or None (fields_of packet)))
      (if not ((fields_of packet).to == part.eid) then ignores s packet (heard.Ignored (ignored.Dropped NotOurs)) else hears_from s d packet (fields_of packet) (connection_of (fields_of packet).from s.connections)))
      alike.part
      (either (source_of packet) (not ((fields_of packet).to == r.part.eid)) _ _ _ _ (nothing (heard.Ignored (ignored.Dropped NotOurs))) (by_source (fields_of packet) refl))

  worn : LeadAlike (source_of packet) (worn_step r) (worn_step s)
  worn = record { heard = refl; sent = refl; taken = refl; after = alike }

-- A packet leads alike under one draw.
pub lead : (r s : Responding) (packet : List ℕ) (d : Draw) → AreAlike (source_of packet) r s → LeadAlike (source_of packet) (hears_packet r d packet (parsed packet)) (hears_packet s d packet (parsed packet))
lead r s packet d alike = by_fault r s packet d alike (packet_fault packet)

pub decide : OwnDecide
unfolding responder_hears
decide r s packet alike draws wear =
    subst (λ (b : Bool). LeadAlike (source_of packet) (if is_worn r then worn_step r else hears_packet r (next_draw r) packet (parsed packet)) (if b then worn_step s else hears_packet s (next_draw s) packet (parsed packet)))
    wear
    (either (source_of packet) (is_worn r) _ _ _ _ (worn r s packet (next_draw r) alike)
    (subst (λ (d : Draw). LeadAlike (source_of packet) (hears_packet r (next_draw r) packet (parsed packet)) (hears_packet s d packet (parsed packet))) draws (lead r s packet (next_draw r) alike)))
