-- A responder keeps its endpoint, that of each of its connections too, and names it in each packet that it sends.
use Rattle.std.proofs.Common.{◌≡◌, ◌==◌, ◌||◌, ℕ, List, ◌∷◌, map, not, Bool, true, false, cond, Option, Some, None, Result, Ok, Err, refl, sym, subst}
use Rattle.mctp_framing.specs.Cutting.{RouteFields}
use Rattle.mctp_framing.specs.Gathering.{Gathered}
use Rattle.mctp_framing.specs.Gathering.Gathered.{Dropped, More, Whole}
use Rattle.mctp_framing.specs.Packet.{PacketFields, parsed}
use Rattle.responder_machine.proofs.Connected.{KeepsSetup, changed_keeps}
use Rattle.responder_machine.specs.Does.{responder_does}
use Rattle.responder_machine.specs.History.Entry.{Queued, Ticked}
use Rattle.responder_machine.specs.Responder.{Outcome, after, body_of}
use Rattle.responder_machine.specs.Responding as responding
use Rattle.responder_machine.specs.Responding.{Connection, Responding, RspStep, changed, changed_if, connection_of, queues, responder_hears, ticks}
use Rattle.responder_machine.specs.Setup.{RspSetup}
use Rattle.spdm_basis.specs.declared.PacketFault.{PacketFault}
use Rattle.spdm_grammar.specs.declared.told.heard.ReplyFault.{ReplyFault}
use Rattle.spdm_machine.proofs.Members.{IsIn, found_in, in_map}
use Rattle.spdm_machine.specs.Keys.{Draw}
use Rattle.spdm_machine.specs.Packets.{body_type, gathered_from}
use Rattle.stream_laws.proofs.Bytes.{AreSent, packets_are_sent}

-- The responder's endpoint is this, and such a one is that of each connection.
pub record HasEnds (P : ℕ → Type 0) (eid : ℕ) (r : Responding) : Type 0 where
  pub part : r.part.eid ≡ eid
  pub connections : (c : Connection) → IsIn r.connections c → P c.setup.eid

module _ (P : ℕ → Type 0) (eid : ℕ) (r : Responding) (ends : HasEnds P eid r) where
  -- No history is of account here.
  stay : (f : Connection → Connection) → KeepsSetup f → (c : Connection) → IsIn (map f r.connections) c → P c.setup.eid
  stay f keeps c m =
      let o = in_map f r.connections c m in
      subst (λ (x : Connection). P x.setup.eid) (sym o.2) (subst (λ (setup : RspSetup). P setup.eid) (sym (keeps o.0)) (ends.connections o.0 o.1))

  -- ---- A packet.

  pub record Answers (step : RspStep) : Type 0 where
    pub after : HasEnds P eid step.after
    pub sent : AreSent P step.sent

  ignores : (given : List (List ℕ)) → HasEnds P eid (record r { given = given })
  ignores given = record { part = ends.part; connections = ends.connections }

  either : (b : Bool) (one other : RspStep) → Answers one → Answers other → Answers (cond b one other)
  either true one other p q = p
  either false one other p q = q

  answers_well : (c : Connection) → IsIn r.connections c → (packet : List ℕ) (route : RouteFields) (body : List ℕ) (outcome : Outcome) → Answers (responding.answers r c packet route body outcome)
  answers_well c m packet route body outcome = record {
    after = record { part = ends.part; connections = stay (changed_if c.setup.peer (λ h. after h outcome)) (changed_keeps c.setup.peer (λ h. after h outcome)) };
    sent = packets_are_sent P c.setup.peer c.setup.eid false route.tag c.setup.unit (body_of outcome) (ends.connections c m);
  }

  whole_well : (d : Draw) (c : Connection) → IsIn r.connections c → (packet : List ℕ) (route : RouteFields) (body : List ℕ) → Answers (responding.hears_whole r d c packet route body)
  whole_well d c m packet route body =
      either (not route.owner) _ _ (record { after = ignores (packet ∷ r.given); sent = tt })
      (either (not (body_type body == 5 || body_type body == 6)) _ _ (record { after = ignores (packet ∷ r.given); sent = tt })
      (answers_well c m packet route body (responder_does c.setup c.history route.tag body d)))

  gathered_well : (d : Draw) (c : Connection) → IsIn r.connections c → (packet : List ℕ) (g : Gathered) → Answers (responding.hears_gathered r d c packet g)
  gathered_well d c m packet (Whole route body) = whole_well d c m packet route body
  gathered_well d c m packet More = record { after = ignores (packet ∷ r.given); sent = tt }
  gathered_well d c m packet (Dropped cause) = record { after = ignores (packet ∷ r.given); sent = tt }

  from_well : (d : Draw) (packet : List ℕ) (fields : PacketFields) (o : Option Connection) → connection_of fields.from r.connections ≡ o → Answers (responding.hears_from r d packet fields o)
  from_well d packet fields None e = record { after = ignores (packet ∷ r.given); sent = tt }
  from_well d packet fields (Some c) e =
      gathered_well d c (found_in (λ (x : Connection). x.setup.peer == fields.from) r.connections c e).0 packet (gathered_from c.setup.eid c.setup.peer r.given fields)

  packet_well : (d : Draw) (packet : List ℕ) (p : Result PacketFields PacketFault) → Answers (responding.hears_packet r d packet p)
  packet_well d packet (Err fault) = record { after = ignores (packet ∷ r.given); sent = tt }
  packet_well d packet (Ok fields) =
      either (not (fields.to == r.part.eid)) _ _ (record { after = ignores (packet ∷ r.given); sent = tt })
      (from_well d packet fields (connection_of fields.from r.connections) refl)

  pub hears_well : (packet : List ℕ) → Answers (responder_hears r packet)
  unfolding responder_hears
  hears_well packet = either (responding.is_worn r) _ _ (record { after = ends; sent = tt }) (packet_well (responding.next_draw r) packet (parsed packet))

  -- ---- Queued data and time.

  pub queues_well : (fault : Option ReplyFault) (peer : ℕ) (bytes : List ℕ) → HasEnds P eid (queues fault r peer bytes)
  queues_well (Some fault) peer bytes = ends
  queues_well None peer bytes = record { part = ends.part; connections = stay (changed_if peer (λ h. Queued bytes ∷ h)) (changed_keeps peer (λ h. Queued bytes ∷ h)) }

  pub ticks_well : (seconds : ℕ) → HasEnds P eid (ticks r seconds)
  ticks_well seconds = record { part = ends.part; connections = stay (changed (λ h. Ticked seconds ∷ h)) (λ c. refl) }
