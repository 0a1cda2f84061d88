use Rattle.std.proofs.Common.{ℕ, List, subst, sym}
use Rattle.frame_stream.specs.Packets.{AreShort}
use Rattle.responder_serve.proofs.Short.{short_sent}
use Rattle.device_serve.proofs.hearing.hear.Goals as goal

pub write_heard-requires : goal.write_heard-requires
write_heard-requires g c =
    let r = c.requires.0 in
    subst (λ (l : List (List ℕ)). AreShort l) (sym (c.on_packet-heard.ensures.step r c.requires.1).sent) (short_sent c.args.responder.now r c.args.packet.now c.requires.1)
