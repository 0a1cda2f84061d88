use Rattle.std.proofs.Common.{refl}
use Rattle.frame_stream.proofs.Fronts.{nothing_left}
use Rattle.frame_stream.proofs.reader.FrameReader.supply.Goals as goal

pub returns-in-Ok-false-clause-stopped : goal.returns-in-Ok-false-clause-stopped
returns-in-Ok-false-clause-stopped g c =
    nothing_left c.args.self.now.ahead (g.S.Source.remaining c.args.source.now) (c.if-is_empty.ensures.0 refl) (c.in-Ok-false.ensures.end c.in-Ok-false.field-0-test)
