use Rattle.std.proofs.Common.{List, ℕ, sym, subst}
use Rattle.responder_serve.proofs.Short.{short_sent}
use Rattle.frame_stream.specs.Packets.{AreShort}
use Rattle.responder_serve.proofs.answering.Server.answer_packet.Goals as goal

pub write_packet_frames-requires : goal.write_packet_frames-requires
write_packet_frames-requires g c =
    let r = c.requires.0 in
    subst (λ (l : List (List ℕ)). AreShort l) (sym (c.on_packet.ensures.step r c.requires.1).sent)
    (short_sent c.args.self.now.responder r c.content.result.now c.requires.1)
