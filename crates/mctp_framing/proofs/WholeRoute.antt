-- The route of a packet that completes a body leads from the peer to the own endpoint.
use Rattle.std.proofs.Common.{◌≡◌, ◌∙◌, ◌==◌, ℕ, Bool, true, false, not, List, refl, sym, ap}
use Rattle.std.specs.Prelude.{if◌then◌else◌}
use Rattle.std.proofs.lemmas.Bool.{eqb-true}
use Rattle.spdm_basis.specs.declared.DropCause.TheVariants.{NotOurs}
use Rattle.mctp_framing.specs.Packet.{PacketFields}
use Rattle.mctp_framing.specs.Cutting.{RouteFields}
use Rattle.mctp_framing.specs.Gathering.{Gathered, is_ours, route_of_packet}
use Rattle.mctp_framing.specs.Gathering.Gathered.{Whole, Dropped}
use Rattle.mctp_framing.specs.Assembling.{Assembly, answer_to}
use Rattle.mctp_framing.proofs.GroupStep.{both_true}

-- what is not dropped as another endpoint's is for the own one and from the peer
ours_unless_dropped : (ours : Bool) (route : RouteFields) (body : List ℕ) (other : Gathered) → Whole route body ≡ (if not ours then Dropped NotOurs else other) → ours ≡ true
ours_unless_dropped true route body other e = refl
ours_unless_dropped false route body other e = absurd (cc)

-- the route that an assembler tells is that of the packet
pub told_route : (a : Assembly) (p : PacketFields) (body : List ℕ) (route : RouteFields) →
    route ≡ record { to = a.receiver.own; from = a.receiver.peer; owner = p.owner; tag = p.tag } →
    Whole (route_of_packet p) body ≡ answer_to a p → route ≡ route_of_packet p
told_route a p body route is told =
    let between : ℕ → ℕ → RouteFields = λ to from. record { to = to; from = from; owner = p.owner; tag = p.tag } in
    let ends = both_true (p.to == a.receiver.own) (p.from == a.receiver.peer) (ours_unless_dropped (is_ours a.receiver p) (route_of_packet p) body _ told) in
    is
    ∙ ap (λ (to : ℕ). between to a.receiver.peer) (sym (eqb-true p.to a.receiver.own ends.0))
    ∙ ap (λ (from : ℕ). between p.to from) (sym (eqb-true p.from a.receiver.peer ends.1))
