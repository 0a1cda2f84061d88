use Rattle.std.proofs.Common.{◌≡◌, IfOk, Result, subst}
use Rattle.capture_picture.specs.Arrows.{arrow_by, arrow_of}
use Rattle.mctp_framing.specs.Packet.{PacketFields}
use Rattle.spdm_basis.specs.declared.PacketFault.{PacketFault}
use Rattle.capture_picture.proofs.arrows.arrow_of.Goals as goal

pub returns-in-Ok : goal.returns-in-Ok
unfolding arrow_of
returns-in-Ok c = subst (λ (r : Result PacketFields PacketFault). IfOk c.of_view.result (λ x. x ≡ arrow_by c.args.config.now c.args.number c.args.fate c.args.packet.now r)) c.in-Ok.ensures.parsed (c.of_view.ensures c.args.packet.now)
