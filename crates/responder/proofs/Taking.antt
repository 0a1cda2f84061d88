-- A packet of a requester, where its bodies are gathered.
use Rattle.std.proofs.Common.{refl, ◌≡◌, ◌∙◌, ℕ, List, [], ◌∷◌, Bool, true, false, cond, not, Option, Some, None, ap, sym, arith, eqb-true, filter}
use Rattle.std.specs.Prelude.{◌==◌}
use Rattle.responder_core.specs.Connected as connected
use Rattle.responder_core.specs.declared.connected.Connection as kept
use Rattle.mctp_framing.specs.Gathering.{Gathered, Receiver, answer_from, answer_of, belongs_to, broken_rule, gathered, group_of, is_ours, joined}
use Rattle.mctp_framing.specs.Gathering.Gathered.{Dropped, More, Whole}
use Rattle.mctp_framing.specs.Packet.{PacketFields}
use Rattle.responder.proofs.Found.{peer_of}
use Rattle.responder.specs.Came.{IsMet}
use Rattle.responder.specs.Came.Came.{Told}
use Rattle.responder.specs.Peers.{StandsFor, gathered_at}
use Rattle.responder.specs.declared.peer.Peer.{Peer}
use Rattle.responder.specs.declared.shared.Shared.{Shared}
use Rattle.responder_machine.specs.EndLaws.{receiver_of}
use Rattle.responder_machine.specs.Responding.{Connection}
use Rattle.responder_machine.specs.Setup.{RspPart}
use Rattle.spdm_basis.proofs.Bools.{and_first, and_second}
use Rattle.spdm_basis.specs.declared.DropCause.{DropCause}
use Rattle.spdm_basis.specs.declared.DropCause.TheVariants.{NoStart, NotOurs}
use Rattle.spdm_grammar.specs.declared.told.heard.Heard.{Heard}

-- A whole body goes from the peer to the own endpoint.
abbrev pub EndsAt : Receiver → Gathered → Type 0
EndsAt r (Whole route body) = (route.to ≡ r.own) × (route.from ≡ r.peer)
EndsAt r More = Unit {0}
EndsAt r (Dropped cause) = Unit {0}

either : (r : Receiver) (b : Bool) (x y : Gathered) → EndsAt r x → EndsAt r y → EndsAt r (cond b x y)
either r true x y p q = p
either r false x y p q = q

by_rule : (r : Receiver) (p : PacketFields) (o : Option DropCause) (body : List ℕ) → (p.to ≡ r.own) × (p.from ≡ r.peer) → EndsAt r (answer_from o p body)
by_rule r p (Some cause) body ends = tt
by_rule r p None body ends = either r p.end _ More ends tt

by_owner : (r : Receiver) (p : PacketFields) (b : Bool) (rest : Gathered) → is_ours r p ≡ b → ((p.to ≡ r.own) × (p.from ≡ r.peer) → EndsAt r rest) → EndsAt r (cond (not b) (Dropped NotOurs) rest)
by_owner r p true rest ours next = next (eqb-true _ _ (and_first (p.to == r.own) (p.from == r.peer) ours), eqb-true _ _ (and_second (p.to == r.own) (p.from == r.peer) ours))
by_owner r p false rest ours next = tt

pub ends_at : (r : Receiver) (earlier : List PacketFields) (p : PacketFields) → EndsAt r (gathered r earlier p)
ends_at r earlier p =
    let group : List PacketFields = group_of (filter (is_ours r) earlier) in
    by_owner r p (is_ours r p) _ refl (λ ends.
    either r p.start (answer_of r.limit p []) (cond (belongs_to r.limit p group) (answer_of r.limit p group) (Dropped NoStart)) (by_rule r p (broken_rule r.limit (p ∷ [])) (joined (p ∷ [])) ends)
    (either r (belongs_to r.limit p group) (answer_of r.limit p group) (Dropped NoStart) (by_rule r p (broken_rule r.limit (p ∷ group)) (joined (p ∷ group)) ends) tt))

-- What the assembler tells is what comes of the packet.
pub gathered_is : (x : Peer) (p : RspPart) (given : List PacketFields) (c : Connection) (packet : PacketFields) (g : Gathered) → StandsFor x p given c → g ≡ gathered x.assembler.receiver given packet → g ≡ gathered_at p given c packet
gathered_is x p given c packet g stands is =
    is ∙ ap (λ (r : Receiver). gathered r given packet) (stands.receiver ∙ ap (receiver_of p.eid) (sym (peer_of x p given c stands)))

pub told_met : (c : Connection) (told : Heard) (sends : List (List ℕ)) (new : kept.Connection) (shared : Shared) → sends ≡ [] → connected.StandsFor new c.setup c.history → IsMet c (Told told) told sends new shared shared
told_met c told sends new shared empty stands = record {
  told = refl;
  sent = empty;
  stands = stands;
  shared = record { seed = refl; number = omega arith; last = refl };
}
