use Rattle.mctp_framing.specs.Cutting.{route_of}
use Rattle.mctp_framing.proofs.Packets.{packets_of-short}
use Rattle.mctp_framing.proofs.cutter.cut.Goals as goal

pub returns-clause-only : goal.returns-clause-only
returns-clause-only c fits = packets_of-short (route_of c.args.route) c.args.unit c.args.body.now c.requires.filled fits
