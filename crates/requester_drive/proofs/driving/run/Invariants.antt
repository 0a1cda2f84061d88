use Rattle.std.proofs.Common.{◌≡◌, ◌≤◌, ◌-◌}
use Rattle.requester.specs.Standing.{StandsFor}
use Rattle.requester_drive.specs.Driven.{driven_kinds}
use Rattle.requester_drive.specs.Standing.{IsRun}
use Rattle.requester_machine.specs.Requesting.{Requesting}
use Rattle.requester_drive.proofs.driving.run.Given as goal

abbrev pub invariant-loop-driver : goal.invariant-loop-driver
invariant-loop-driver g l = record {
  run : (a : Requesting) → StandsFor l.fn.driver.requester a →
      IsRun l.config a l.fn.driver.reader (g.S.Source.remaining l.fn.source) (g.K.Sink.contents l.fn.sink) l.driver (g.S.Source.remaining l.source) (g.K.Sink.contents l.sink);
  kinds : l.driver.reader.kinds ≡ driven_kinds;
  read_later : g.S.Source.faults l.fn.source ≤ g.S.Source.faults l.source;
  written_later : g.K.Sink.faults l.fn.sink ≤ g.K.Sink.faults l.sink;
}

abbrev pub decreases-loop-driver : goal.decreases-loop-driver
decreases-loop-driver g l = l.driver.reader.limit - l.driver.reader.taken
