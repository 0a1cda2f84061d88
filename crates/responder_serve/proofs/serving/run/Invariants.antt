use Rattle.std.proofs.Common.{◌≡◌, ◌≤◌, ◌-◌}
use Rattle.responder.specs.Standing.{StandsFor}
use Rattle.responder_machine.specs.Responding.{Responding}
use Rattle.responder_serve.specs.Served.{served_kinds}
use Rattle.responder_serve.specs.Standing.{IsRun}
use Rattle.responder_serve.proofs.serving.run.Given as goal

abbrev pub invariant-loop-server : goal.invariant-loop-server
invariant-loop-server g l = record {
  run : (r : Responding) → StandsFor l.fn.server.responder r →
      IsRun r l.fn.server.reader (g.S.Source.remaining l.fn.source) (g.K.Sink.contents l.fn.sink) l.server (g.S.Source.remaining l.source) (g.K.Sink.contents l.sink);
  kinds : l.server.reader.kinds ≡ served_kinds;
  read_later : g.S.Source.faults l.fn.source ≤ g.S.Source.faults l.source;
  written_later : g.K.Sink.faults l.fn.sink ≤ g.K.Sink.faults l.sink;
}

abbrev pub decreases-loop-server : goal.decreases-loop-server
decreases-loop-server g l = l.server.reader.limit - l.server.reader.taken
