-- What a responder does with the packet of a short clear message.
use Rattle.std.proofs.Common.{◌≡◌, ◌∙◌, ℕ, ◌<◌, List, length, Bool, true, false, Option, Some, Result, ◌==◌, not, refl, ap, eq-eqb}
use Rattle.std.specs.Prelude.{if◌then◌else◌}
use Rattle.mctp_framing.specs.Gathering.{Gathered}
use Rattle.mctp_framing.specs.Packet.{PacketFields, parsed}
use Rattle.spdm_basis.specs.declared.PacketFault.{PacketFault}
use Rattle.spdm_basis.specs.declared.DropCause.TheVariants.{NotOurs}
use Rattle.spdm_grammar.specs.declared.told.heard.Heard.TheVariants as heard
use Rattle.spdm_grammar.specs.declared.told.heard.RspIgnored.TheVariants as ignored
use Rattle.spdm_machine.specs.Bodies.{clear_body}
use Rattle.spdm_machine.specs.Packets.{gathered_from}
use Rattle.responder_machine.specs.Does.{clear_does}
use Rattle.responder_machine.specs.Responding.{Connection, Responding, RspStep, connection_of, responder_hears, hears_packet, hears_from, hears_gathered, answers, is_worn, worn_step, next_draw, ignores}
use Rattle.spdm_progress.proofs.OnePacket.{route_to, fields_to, packet_to, packet_read, packet_gathered}

pub ours : (b : Bool) (x y : RspStep) → b ≡ true → (if not b then x else y) ≡ y
ours b x y e = rw e refl

-- The packet of a short clear request is answered.
pub hears_request : (r : Responding) (c : Connection) (tag : ℕ) (m : List ℕ) → is_worn r ≡ false → tag < 8 → length m < 4161 → c.setup.eid ≡ r.part.eid → connection_of c.setup.peer r.connections ≡ Some c
    → responder_hears r (packet_to r.part.eid c.setup.peer true tag m)
    ≡ answers r c (packet_to r.part.eid c.setup.peer true tag m) (route_to r.part.eid c.setup.peer true tag) (clear_body m) (clear_does c.setup c.history tag m (next_draw r))
unfolding responder_hears
hears_request r c tag m fresh small short own is =
    let packet = packet_to r.part.eid c.setup.peer true tag m in
    let fields = fields_to r.part.eid c.setup.peer true tag m in
    ap (λ (b : Bool). if b then worn_step r else hears_packet r (next_draw r) packet (parsed packet)) fresh
    ∙ ap (λ (x : Result PacketFields PacketFault). hears_packet r (next_draw r) packet x) (packet_read r.part.eid c.setup.peer true tag m small)
    ∙ ours (r.part.eid == r.part.eid) (ignores r packet (heard.Ignored (ignored.Dropped NotOurs))) (hears_from r (next_draw r) packet fields (connection_of c.setup.peer r.connections)) (eq-eqb r.part.eid r.part.eid refl)
    ∙ ap (λ (o : Option Connection). hears_from r (next_draw r) packet fields o) is
    ∙ ap (λ (eid : ℕ). hears_gathered r (next_draw r) c packet (gathered_from eid c.setup.peer r.given fields)) own
    ∙ ap (λ (g : Gathered). hears_gathered r (next_draw r) c packet g) (packet_gathered r.part.eid c.setup.peer true tag r.given m short)
