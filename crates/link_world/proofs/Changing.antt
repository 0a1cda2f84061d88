-- What the ends of a world are after one of them did something.
use Rattle.std.proofs.Common.{refl, ◌≡◌, ◌∙◌, ◌≤◌, ℕ, List, Bool, true, false, Option, Some, None, ap, sym, subst, slice_set}
use Rattle.std.specs.Prelude.{◌==◌, ◌||◌, not, if◌then◌else◌, Result, Ok, Err}
use Rattle.link_world.proofs.Askers.{Hit, eid_of, length_with, same_eids, still_apart}
use Rattle.link_world.specs.Standing.{AreAskers, AreEnds, IsAsker, counted, peers_of, taken_in}
use Rattle.link_world.specs.declared.ends.AddressedRequester.{AddressedRequester}
use Rattle.link_world.specs.declared.ends.Ends.{Ends}
use Rattle.mctp_framing.specs.Cutting.{RouteFields}
use Rattle.mctp_framing.specs.Gathering.{Gathered}
use Rattle.mctp_framing.specs.Gathering.Gathered.{Dropped, More, Whole}
use Rattle.mctp_framing.specs.Packet.{PacketFields, parsed}
use Rattle.requester_machine.specs.Requesting.{Requesting}
use Rattle.responder.specs.Standing as answering
use Rattle.responder.specs.declared.serving.Responder.{Responder}
use Rattle.responder_machine.specs.Does.{responder_does}
use Rattle.responder_machine.specs.Responding as responding
use Rattle.responder_machine.specs.Responding.{Connection, Responding, RspStep, connection_of, responder_hears}
use Rattle.responder_machine.specs.Setup.{RspPart}
use Rattle.spdm_basis.specs.declared.PacketFault.{PacketFault}
use Rattle.spdm_basis.specs.declared.values.eid.Eid.{Eid}
use Rattle.spdm_grammar.specs.declared.told.heard.Heard.TheVariants as heard
use Rattle.spdm_grammar.specs.declared.told.heard.RspIgnored.TheVariants as ignored
use Rattle.spdm_machine.specs.Keys.{Draw}
use Rattle.spdm_machine.specs.Packets.{body_type, gathered_from}
use Rattle.spdm_machine.specs.TagLog.{Log}
use Rattle.world_machine.specs.World.{SentPacket, World, with_requester}

-- ---- The responder keeps its set-up.

-- A whole body: what holds of each of its three ends.
pub whole_either : (P : RspStep → Type 0) (r : Responding) (d : Draw) (c : Connection) (packet : List ℕ) (route : RouteFields) (body : List ℕ)
    → P (responding.ignores r packet (heard.Ignored ignored.NotRequest)) → P (responding.ignores r packet (heard.Ignored ignored.OtherType))
    → P (responding.answers r c packet route body (responder_does c.setup c.history route.tag body d)) → P (responding.hears_whole r d c packet route body)
whole_either P r d c packet route body one other answer = by (not route.owner) (not (body_type body == 5 || body_type body == 6))
  where
    by : (a b : Bool) → P (if a then responding.ignores r packet (heard.Ignored ignored.NotRequest)
        else (if b then responding.ignores r packet (heard.Ignored ignored.OtherType) else responding.answers r c packet route body (responder_does c.setup c.history route.tag body d)))
    by true b = one
    by false true = other
    by false false = answer

abbrev pub Keeps : Responding → RspStep → Type 0
Keeps r step = step.after.part ≡ r.part

either_keeps : (r : Responding) (b : Bool) (x y : RspStep) → Keeps r x → Keeps r y → Keeps r (if b then x else y)
either_keeps r true x y a b = a
either_keeps r false x y a b = b

gathered_keeps : (r : Responding) (d : Draw) (c : Connection) (packet : List ℕ) (gathered : Gathered) → Keeps r (responding.hears_gathered r d c packet gathered)
gathered_keeps r d c packet (Whole route body) = whole_either (Keeps r) r d c packet route body refl refl refl
gathered_keeps r d c packet More = refl
gathered_keeps r d c packet (Dropped cause) = refl

from_keeps : (r : Responding) (d : Draw) (packet : List ℕ) (fields : PacketFields) (c : Option Connection) → Keeps r (responding.hears_from r d packet fields c)
from_keeps r d packet fields None = refl
from_keeps r d packet fields (Some c) = gathered_keeps r d c packet (gathered_from c.setup.eid c.setup.peer r.given fields)

packet_keeps : (r : Responding) (d : Draw) (packet : List ℕ) (fields : Result PacketFields PacketFault) → Keeps r (responding.hears_packet r d packet fields)
packet_keeps r d packet (Err fault) = refl
packet_keeps r d packet (Ok fields) = either_keeps r _ _ _ refl (from_keeps r d packet fields (connection_of fields.from r.connections))

pub responder_keeps : (r : Responding) (packet : List ℕ) → Keeps r (responder_hears r packet)
unfolding responder_hears
responder_keeps r packet = either_keeps r (responding.is_worn r) _ _ refl (packet_keeps r (responding.next_draw r) packet (parsed packet))

-- ---- The ends.

-- The responder has changed.
pub responder_changed : (w : World) (old new : Ends) (after : Responding) (sent : List SentPacket) (log : Log) → AreEnds old w → new.requesters.items ≡ old.requesters.items → new.eid ≡ old.eid
    → answering.StandsFor new.responder after → after.part ≡ w.responder.part → peers_of after.connections ≡ peers_of w.responder.connections
    → new.taken ≡ counted (taken_in w.requesters after.connections) → AreEnds new (record { requesters = w.requesters; responder = after; sent = sent; log = log })
responder_changed w old new after sent log e same eid stands part peers taken = record {
  requesters = subst (λ (l : List AddressedRequester). AreAskers l w.requesters) (sym same) e.requesters;
  apart = e.apart;
  few = e.few;
  eid = ap (λ (p : RspPart). p.eid) part ∙ e.eid ∙ ap (λ (n : Eid). n.number) (sym eid);
  responder = stands;
  peers = peers ∙ e.peers;
  taken = taken;
}

-- The requester at a place has changed.
pub requester_changed : (w : World) (k : ℕ) (old new : Ends) (asker : AddressedRequester) (b : Requesting) (sent : List SentPacket) (log : Log) → AreEnds old w → (h : Hit k old.requesters.items w.requesters)
    → new.requesters.items ≡ slice_set old.requesters.items k asker → new.eid ≡ old.eid → new.responder ≡ old.responder → eid_of b ≡ eid_of h.a → IsAsker asker b
    → new.taken ≡ counted (taken_in (with_requester b w.requesters) w.responder.connections)
    → AreEnds new (record { requesters = with_requester b w.requesters; responder = w.responder; sent = sent; log = log })
requester_changed w k old new asker b sent log e h items eid same own stands taken = record {
  requesters = subst (λ (l : List AddressedRequester). AreAskers l (with_requester b w.requesters)) (sym items) (h.change asker b own stands);
  apart = still_apart b w.requesters e.apart;
  few = subst (λ (n : ℕ). n ≤ 8) (sym (length_with b w.requesters)) e.few;
  eid = e.eid ∙ ap (λ (n : Eid). n.number) (sym eid);
  responder = subst (λ (s : Responder). answering.StandsFor s w.responder) (sym same) e.responder;
  peers = e.peers ∙ sym (same_eids b w.requesters);
  taken = taken;
}
