use Rattle.std.proofs.Common.{ℕ, List, subst}
use Rattle.device_serve.specs.Devised.{device_in_life}
use Rattle.device_serve.specs.Standing.{IsCause}
use Rattle.frame_stream.specs.Runs.{Counts}
use Rattle.frame_stream.specs.Standing.{in_front}
use Rattle.device_serve.proofs.serving.serve_device.Goals as goal

pub returns-in-Err-run-clause-fault : goal.returns-in-Err-run-clause-fault
returns-in-Err-run-clause-fault g c =
    let d = device_in_life c.args.config.now c.args.seed c.args.boot in
    let n : Counts = record {
      read_before = g.S.Source.faults c.args.source.now;
      read_after = g.S.Source.faults c.run.new.source;
      written_before = g.K.Sink.faults c.args.sink.now;
      written_after = g.K.Sink.faults c.run.new.sink;
    } in
    subst (λ (l : List ℕ). IsCause c.args.config.now d (in_front l (g.S.Source.remaining c.args.source.now)) (g.K.Sink.contents c.args.sink.now) (g.K.Sink.contents c.run.new.sink) n c.in-Err-run.fault)
    c.in-Ok.ensures.reader.ahead (c.in-Err-run.ensures.fault d c.in-Ok.ensures.stands)
