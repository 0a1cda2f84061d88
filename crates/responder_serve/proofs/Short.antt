-- Each packet that a responder sends fits into a frame.
use Rattle.std.proofs.Common.{◌≡◌, ◌∙◌, ◌≤◌, ℕ, List, [], ◌∷◌, Bool, true, false, Option, Some, None, Result, Ok, Err, refl, ap, sym, arith, ◌==◌, ◌||◌, ◌⊎◌, inl, inr}
use Rattle.std.proofs.lemmas.Option.{none-some, same_Some}
use Rattle.std.specs.Prelude.{find, not, if◌then◌else◌}
use Rattle.frame_stream.proofs.Framed.{cut_short}
use Rattle.frame_stream.specs.Packets.{AreShort}
use Rattle.mctp_framing.specs.Cutting.{RouteFields}
use Rattle.mctp_framing.specs.Gathering.{Gathered}
use Rattle.mctp_framing.specs.Gathering.Gathered.{Whole, More, Dropped}
use Rattle.mctp_framing.specs.Packet.{PacketFields, parsed}
use Rattle.responder.specs.Standing.{ArePeers, StandsFor}
use Rattle.responder.specs.declared.peer.Peer.{Peer}
use Rattle.responder.specs.declared.serving.Responder.{Responder}
use Rattle.responder_machine.specs.Responding.{Connection, Responding, RspStep, connection_of, hears_from, hears_gathered, hears_packet, hears_whole, ignores, is_worn, next_draw, responder_hears, worn_step}
use Rattle.responder_machine.specs.Setup.{RspPart, RspSetup}
use Rattle.responder_machine.specs.Does.{responder_does}
use Rattle.responder_machine.specs.Responder.{body_of}
use Rattle.spdm_basis.specs.declared.DropCause.TheVariants.{NotOurs}
use Rattle.spdm_grammar.specs.declared.told.heard.Heard.TheVariants as heard
use Rattle.spdm_grammar.specs.declared.told.heard.RspIgnored.TheVariants as ignored
use Rattle.spdm_machine.specs.Packets.{body_type, fields_in, gathered_from}
use Rattle.spdm_basis.specs.declared.PacketFault.{PacketFault}
use Rattle.spdm_machine.specs.Keys.{Draw}

short_if : (b : Bool) (x y : RspStep) → AreShort x.sent → AreShort y.sent → AreShort (if b then x else y).sent
short_if true x y first second = first
short_if false x y first second = second

-- what is found is the first, or follows it
first_or_behind : (b : Bool) (d c : Connection) (rest : Option Connection) → (if b then Some d else rest) ≡ Some c → (c ≡ d) ⊎ (rest ≡ Some c)
first_or_behind true d c rest found = inl (same_Some c d (sym found))
first_or_behind false d c rest found = inr found

-- each connection has the unit of the responder
unit_found : (test : Connection → Bool) (seen : List Peer) (p : RspPart) (given : List PacketFields) (connections : List Connection) (c : Connection) → ArePeers seen p given connections →
    find test connections ≡ Some c → c.setup.unit ≡ p.unit
unit_found test [] p given [] c peers found = absurd (none-some c found)
unit_found test [] p given (d ∷ others) c peers found = absurd peers
unit_found test (x ∷ seen) p given [] c peers found = absurd peers
unit_found test (x ∷ seen) p given (d ∷ others) c peers found =
    elim (first_or_behind (test d) d c (find test others) found) [
      | inl e ↦ ap (λ (k : Connection). k.setup.unit) e ∙ ap (λ (s : RspSetup). s.unit) peers.0.setup
      | inr e ↦ unit_found test seen p given others c peers.1 e
    ]

short_whole : (r : Responding) (d : Draw) (c : Connection) (packet : List ℕ) (route : RouteFields) (body : List ℕ) → c.setup.unit ≤ 1024 → AreShort (hears_whole r d c packet route body).sent
short_whole r d c packet route body few =
    short_if (not route.owner) (ignores r packet (heard.Ignored ignored.NotRequest)) _ tt
    (short_if (not (body_type body == 5 || body_type body == 6)) (ignores r packet (heard.Ignored ignored.OtherType)) _ tt
    (cut_short (record { to = c.setup.peer; from = c.setup.eid; owner = false; tag = route.tag }) c.setup.unit
    (body_of (responder_does c.setup c.history route.tag body d)) few))

short_gathered : (r : Responding) (d : Draw) (c : Connection) (packet : List ℕ) (g : Gathered) → c.setup.unit ≤ 1024 → AreShort (hears_gathered r d c packet g).sent
short_gathered r d c packet (Whole route body) few = short_whole r d c packet route body few
short_gathered r d c packet More few = tt
short_gathered r d c packet (Dropped cause) few = tt

short_from : (r : Responding) (d : Draw) (packet : List ℕ) (fields : PacketFields) (found : Option Connection) → ((c : Connection) → found ≡ Some c → c.setup.unit ≤ 1024) → AreShort (hears_from r d packet fields found).sent
short_from r d packet fields None few = tt
short_from r d packet fields (Some c) few = short_gathered r d c packet (gathered_from c.setup.eid c.setup.peer r.given fields) (few c refl)

short_packet : (r : Responding) (d : Draw) (packet : List ℕ) (parts : Result PacketFields PacketFault) → ((eid : ℕ) (c : Connection) → connection_of eid r.connections ≡ Some c → c.setup.unit ≤ 1024) →
    AreShort (hears_packet r d packet parts).sent
short_packet r d packet (Err fault) few = tt
short_packet r d packet (Ok fields) few =
    short_if (not (fields.to == r.part.eid)) (ignores r packet (heard.Ignored (ignored.Dropped NotOurs))) _ tt
    (short_from r d packet fields (connection_of fields.from r.connections) (few fields.from))

pub short_sent : (seen : Responder) (r : Responding) (packet : List ℕ) → StandsFor seen r → AreShort (responder_hears r packet).sent
unfolding responder_hears
short_sent seen r packet stands =
    let low : seen.part.unit ≤ 1024 = seen.part.unit_high in
    short_if (is_worn r) (worn_step r) _ tt
    (short_packet r (next_draw r) packet (parsed packet) (λ eid c found.
    let unit : c.setup.unit ≡ r.part.unit = unit_found (λ (k : Connection). k.setup.peer == eid) seen.peers.items r.part (fields_in r.given) r.connections c stands.peers found in
    omega (arith, unit, stands.part.unit, low)))
