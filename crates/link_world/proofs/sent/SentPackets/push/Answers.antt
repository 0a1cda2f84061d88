use Rattle.std.proofs.Common.{◌∙◌, ◌<◌, ◌++◌, ◌∷◌, [], ℕ, List, ap, arith, length, subst, true}
use Rattle.std.proofs.lemmas.List.{length-map}
use Rattle.link_world.specs.Sent.{packet_in, packet_limit}
use Rattle.script_ends.proofs.Made.{added}
use Rattle.link_world.proofs.Places.{IsPushed, pushed_kept, pushed_sent}
use Rattle.link_world.specs.declared.sent.Place.{Place}
use Rattle.world_machine.specs.World.{SentPacket, waiting}
use Rattle.link_world.proofs.sent.SentPackets.push.Goals as goal

is_pushed : (c : goal.Else-is_err-2) → IsPushed c.self.inside.bytes.items c.args.packet.now c.extend_from_slice.new.self.items c.self.inside.places.items c.push.new.self.items
is_pushed c = record {
  start = c.len-start.result;
  end = c.len-2.result;
  bytes_are = added {A = ℕ} c.extend_from_slice.result c.self.inside.bytes.items c.args.packet.now c.extend_from_slice.new.self.items c.extend_from_slice.ensures.items c.if-is_err.ensures.value;
  places_are = added {A = Place} c.push.result c.self.inside.places.items (record { start = c.len-start.result; end = c.len-2.result; waits = true } ∷ []) c.push.new.self.items c.push.ensures.items c.if-is_err-2.ensures.value;
  starts = c.len-start.ensures ∙ c.self.inside.bytes.ok.0;
  ends = c.len-2.ensures ∙ c.extend_from_slice.new.self.ok.0;
}

pub invariant_of-self-else-is_err-2 : goal.invariant_of-self-else-is_err-2
invariant_of-self-else-is_err-2 c =
    let inv = c.self.invariant in
    let len = c.len.ensures in
    let most = inv.3 in
    pushed_kept _ _ _ _ _ c.self.inside.passed (is_pushed c) inv.0 inv.1 inv.2 (omega (arith, most, c.if-len-eq-PACKET_LIMIT.false, len))

pub returns-clause-sent : goal.returns-clause-sent
returns-clause-sent c =
    pushed_sent _ _ _ _ _ (is_pushed c) c.self.invariant.0
    ∙ ap (λ (l : List SentPacket). l ++ waiting c.args.packet.now ∷ []) c.self.view_is

pub returns-clause-room : goal.returns-clause-room
returns-clause-room c =
    let inv = c.self.invariant in
    let len = c.len.ensures in
    let most = inv.3 in
    subst (λ (l : List SentPacket). length l < packet_limit) c.self.view_is (omega (arith, most, c.if-len-eq-PACKET_LIMIT.false, len, length-map c.self.inside.places.items (packet_in c.self.inside.bytes.items)))
