-- A packet that waits no longer is the same packet.
use Rattle.std.proofs.Common.{refl, ◌≡◌, ◌∙◌, ◌≤◌, ◌∷◌, [], ℕ, zero, suc, List, None, ap, sym, subst, length}
use Rattle.std.proofs.lemmas.Option.{none-some}
use Rattle.link_world.specs.Standing.{AreEnds, IsLink}
use Rattle.link_world.specs.declared.ends.Ends.{Ends}
use Rattle.link_world.specs.declared.link.Link.{Link}
use Rattle.world_machine.specs.Trace.{packets_max}
use Rattle.world_machine.specs.World.{SentPacket, World, packet_at, packet_of, stopped_at, stopped_of, without_waiting}

at_same : (k : ℕ) (sent : List SentPacket) → packet_at k (stopped_at k sent) ≡ packet_at k sent
at_same k [] = refl
at_same zero (p ∷ others) = refl
at_same (suc k) (p ∷ others) = at_same k others

pub still_there : (number : ℕ) (sent : List SentPacket) → packet_of number (stopped_of number sent) ≡ packet_of number sent
still_there zero sent = refl
still_there (suc k) sent = at_same k sent

at_none : (k : ℕ) (sent : List SentPacket) → packet_at k sent ≡ None → stopped_at k sent ≡ sent
at_none k [] none = refl
at_none zero (p ∷ others) none = absurd (none-some p.bytes (sym none))
at_none (suc k) (p ∷ others) none = ap (λ (l : List SentPacket). p ∷ l) (at_none k others none)

pub not_there : (number : ℕ) (sent : List SentPacket) → packet_of number sent ≡ None → stopped_of number sent ≡ sent
not_there zero sent none = refl
not_there (suc k) sent none = at_none k sent none

at_length : (k : ℕ) (sent : List SentPacket) → length (stopped_at k sent) ≡ length sent
at_length k [] = refl
at_length zero (p ∷ others) = refl
at_length (suc k) (p ∷ others) = ap suc (at_length k others)

pub same_length : (number : ℕ) (sent : List SentPacket) → length (stopped_of number sent) ≡ length sent
same_length zero sent = refl
same_length (suc k) sent = at_length k sent

-- The ends do not speak of the packets.
pub other_sent : (w : World) (sent : List SentPacket) (ends : Ends) → AreEnds ends w → AreEnds ends (record w { sent = sent })
other_sent w sent ends e = record { requesters = e.requesters; apart = e.apart; few = e.few; eid = e.eid; responder = e.responder; peers = e.peers; taken = e.taken }

-- The link of the world in which it waits no longer.
pub stopped_link : (w : World) (number : ℕ) (old new : Link) → IsLink old w → new.ends ≡ old.ends → new.sent ≡ stopped_of number old.sent → IsLink new (without_waiting number w)
stopped_link w number old new s ends sent = record {
  ends = other_sent w (stopped_of number w.sent) new.ends (subst (λ (e : Ends). AreEnds e w) (sym ends) s.ends);
  sent = sent ∙ ap (stopped_of number) s.sent;
  within = subst (λ (n : ℕ). n ≤ packets_max) (sym (same_length number w.sent)) s.within;
}

pub packet_stopped : (w : World) (number : ℕ) (link : Link) (sent : List SentPacket) → IsLink link w → sent ≡ stopped_of number link.sent → packet_of number sent ≡ packet_of number w.sent
packet_stopped w number link sent l is = ap (packet_of number) (is ∙ ap (stopped_of number) l.sent) ∙ still_there number w.sent
