use Rattle.std.proofs.Common.{◌≡◌, ◌≤◌, ◌-◌}
use Rattle.device_serve.specs.Devised as devised
use Rattle.device_serve.specs.Devised.{device_kinds}
use Rattle.device_serve.specs.Standing.{IsRun, StandsFor}
use Rattle.device_serve.proofs.serving.run.Given as goal

abbrev pub invariant-loop-device : goal.invariant-loop-device
invariant-loop-device g l = record {
  run : (d : devised.Device) → StandsFor l.fn.device d →
      IsRun l.config d l.fn.device.reader (g.S.Source.remaining l.fn.source) (g.K.Sink.contents l.fn.sink) l.device (g.S.Source.remaining l.source) (g.K.Sink.contents l.sink);
  kinds : l.device.reader.kinds ≡ device_kinds;
  read_later : g.S.Source.faults l.fn.source ≤ g.S.Source.faults l.source;
  written_later : g.K.Sink.faults l.fn.sink ≤ g.K.Sink.faults l.sink;
}

abbrev pub decreases-loop-device : goal.decreases-loop-device
decreases-loop-device g l = l.device.reader.limit - l.device.reader.taken
