use Rattle.std.proofs.Common.{◌≡◌, ◌∙◌, ◌++◌, ◌+◌, arith, ℕ, List, suc, ap, sym, subst, take, drop, append_assoc, add-one}
use Rattle.frame_stream.proofs.Written.{prefix_of_first, takes_both, takes_then_prefix}
use Rattle.frame_stream.specs.Frames.{spelled}
use Rattle.frame_stream.specs.Frames.GivenFrame.{PacketOf}
use Rattle.frame_stream.proofs.Framed.{frames_at, frames_more, short_at}
use Rattle.frame_stream.specs.Packets.{packet_frames}
use Rattle.spdm_basis.specs.Stream.{Takes, TakesPrefix}
use Rattle.frame_stream.proofs.packets.write_packet_frames.Goals as goal

pub write_packet_frame-requires : goal.write_packet_frame-requires
write_packet_frame-requires g c = short_at c.loop-index.index c.args.packets.now c.in-Some.packet.now c.in-Some.ensures c.requires

pub returns-in-Err-clause-prefix : goal.returns-in-Err-clause-prefix
returns-in-Err-clause-prefix g c =
    let i = c.loop-index.index in
    let packets = c.args.packets.now in
    let packet = c.in-Some.packet.now in
    let old = g.K.Sink.contents c.args.sink.now in
    let mid = g.K.Sink.contents c.loop-index.sink in
    let new = g.K.Sink.contents c.write_packet_frame.new.sink in
    let front = packet_frames (take i packets) in
    let own = spelled (PacketOf packet) in
    let back = packet_frames (drop (suc i) packets) in
    subst (λ (l : List ℕ). TakesPrefix old l new) (append_assoc front own back ∙ sym (frames_at i packets packet c.in-Some.ensures))
    (prefix_of_first old new (front ++ own) back (takes_then_prefix old mid new front own c.loop-index.invariant.taken c.in-Err.ensures.prefix))

pub loop-index-preserved : goal.loop-index-preserved
loop-index-preserved g c =
    let i = c.loop-index.index in
    let packets = c.args.packets.now in
    let packet = c.in-Some.packet.now in
    let old = g.K.Sink.contents c.args.sink.now in
    let mid = g.K.Sink.contents c.loop-index.sink in
    let new = g.K.Sink.contents c.write_packet_frame.new.sink in
    let more : packet_frames (take (i + 1) packets) ≡ packet_frames (take i packets) ++ spelled (PacketOf packet) =
    ap (λ n. packet_frames (take n packets)) (add-one i) ∙ frames_more i packets packet c.in-Some.ensures in
    record {
      taken = subst (λ (l : List ℕ). Takes old l new) (sym more)
          (takes_both old mid new (packet_frames (take i packets)) (spelled (PacketOf packet)) c.loop-index.invariant.taken c.in_default-write_packet_frame.ensures.whole);
      later = omega arith;
    }
