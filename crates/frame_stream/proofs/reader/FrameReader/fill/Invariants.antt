use Rattle.std.proofs.Common.{◌≤◌, ◌-◌, length}
use Rattle.frame_stream.specs.Standing.{IsMoved}
use Rattle.frame_stream.proofs.reader.FrameReader.fill.Given as goal

abbrev pub invariant-loop-self : goal.invariant-loop-self
invariant-loop-self g l = record {
  moved : IsMoved l.fn.self (g.S.Source.remaining l.fn.source) l.self (g.S.Source.remaining l.source);
  within : length l.self.frame ≤ l.size;
  later : g.S.Source.faults l.fn.source ≤ g.S.Source.faults l.source;
}

abbrev pub decreases-loop-self : goal.decreases-loop-self
decreases-loop-self g l = l.size - length l.self.frame
