-- The connections of a responder keep the endpoints of their requesters.
use Rattle.std.proofs.Common.{ℕ, List, ◌∷◌, ◌==◌, ◌||◌, map, not, Bool, true, false, cond, Option, Some, None, Result, Ok, Err, refl, sym, subst}
use Rattle.mctp_framing.specs.Cutting.{RouteFields}
use Rattle.mctp_framing.specs.Gathering.{Gathered}
use Rattle.mctp_framing.specs.Gathering.Gathered.{Dropped, More, Whole}
use Rattle.mctp_framing.specs.Packet.{PacketFields, parsed}
use Rattle.responder_machine.proofs.Connected.{KeepsSetup, changed_keeps}
use Rattle.responder_machine.specs.Does.{responder_does}
use Rattle.responder_machine.specs.History.Entry.{Queued, Ticked}
use Rattle.responder_machine.specs.Responder.{after}
use Rattle.responder_machine.specs.Responding as responding
use Rattle.responder_machine.specs.Responding.{Connection, Responding, RspStep, changed, changed_if, connection_of, queues, responder_hears, ticks}
use Rattle.responder_machine.specs.Setup.{RspSetup}
use Rattle.spdm_basis.specs.declared.PacketFault.{PacketFault}
use Rattle.spdm_grammar.specs.declared.told.heard.ReplyFault.{ReplyFault}
use Rattle.spdm_machine.proofs.Members.{IsIn, in_map}
use Rattle.spdm_machine.specs.Keys.{Draw}
use Rattle.spdm_machine.specs.Packets.{body_type, gathered_from}

-- The endpoint of the requester of each connection is such a one.
abbrev pub ArePeers : (P : ℕ → Type 0) → Responding → Type 0
ArePeers P r = (c : Connection) → IsIn r.connections c → P c.setup.peer

module _ (P : ℕ → Type 0) (r : Responding) (are : ArePeers P r) where
  stay : (f : Connection → Connection) → KeepsSetup f → (c : Connection) → IsIn (map f r.connections) c → P c.setup.peer
  stay f keeps c m =
      let o = in_map f r.connections c m in
      subst (λ (x : Connection). P x.setup.peer) (sym o.2) (subst (λ (setup : RspSetup). P setup.peer) (sym (keeps o.0)) (are o.0 o.1))

  either : (b : Bool) (one other : RspStep) → ArePeers P one.after → ArePeers P other.after → ArePeers P (cond b one other).after
  either true one other p q = p
  either false one other p q = q

  whole_keeps : (d : Draw) (c : Connection) (packet : List ℕ) (route : RouteFields) (body : List ℕ) → ArePeers P (responding.hears_whole r d c packet route body).after
  whole_keeps d c packet route body =
      let outcome = responder_does c.setup c.history route.tag body d in
      either (not route.owner) _ _ are
      (either (not (body_type body == 5 || body_type body == 6)) _ _ are
      (stay (changed_if c.setup.peer (λ h. after h outcome)) (changed_keeps c.setup.peer (λ h. after h outcome))))

  gathered_keeps : (d : Draw) (c : Connection) (packet : List ℕ) (g : Gathered) → ArePeers P (responding.hears_gathered r d c packet g).after
  gathered_keeps d c packet (Whole route body) = whole_keeps d c packet route body
  gathered_keeps d c packet More = are
  gathered_keeps d c packet (Dropped cause) = are

  from_keeps : (d : Draw) (packet : List ℕ) (fields : PacketFields) (o : Option Connection) → ArePeers P (responding.hears_from r d packet fields o).after
  from_keeps d packet fields None = are
  from_keeps d packet fields (Some c) = gathered_keeps d c packet (gathered_from c.setup.eid c.setup.peer r.given fields)

  packet_keeps : (d : Draw) (packet : List ℕ) (p : Result PacketFields PacketFault) → ArePeers P (responding.hears_packet r d packet p).after
  packet_keeps d packet (Err fault) = are
  packet_keeps d packet (Ok fields) = either (not (fields.to == r.part.eid)) _ _ are (from_keeps d packet fields (connection_of fields.from r.connections))

  pub hears_keep : (packet : List ℕ) → ArePeers P (responder_hears r packet).after
  unfolding responder_hears
  hears_keep packet = either (responding.is_worn r) _ _ are (packet_keeps (responding.next_draw r) packet (parsed packet))

  pub queues_keep : (fault : Option ReplyFault) (peer : ℕ) (bytes : List ℕ) → ArePeers P (queues fault r peer bytes)
  queues_keep (Some fault) peer bytes = are
  queues_keep None peer bytes = stay (changed_if peer (λ h. Queued bytes ∷ h)) (changed_keeps peer (λ h. Queued bytes ∷ h))

  pub ticks_keep : (seconds : ℕ) → ArePeers P (ticks r seconds)
  ticks_keep seconds = stay (changed (λ h. Ticked seconds ∷ h)) (λ c. refl)
