use Rattle.std.proofs.Common.{ℕ, List, subst}
use Rattle.frame_stream.specs.Standing.{in_front}
use Rattle.requester_drive.proofs.Faults.{some_requester}
use Rattle.frame_stream.specs.Runs.{Counts}
use Rattle.requester_drive.specs.Standing.{IsCause}
use Rattle.requester_drive.proofs.driving.drive.Goals as goal

pub run-requires-clause-kept : goal.run-requires-clause-kept
run-requires-clause-kept g c =
    let own = some_requester c.args.config.now c.args.seed c.args.boot c.requires.some in
    (own.0, c.in-Ok.ensures.stands own.0 own.1)

pub returns-in-Err-run-clause-fault : goal.returns-in-Err-run-clause-fault
returns-in-Err-run-clause-fault g c = λ a is.
    let n : Counts = record {
      read_before = g.S.Source.faults c.args.source.now;
      read_after = g.S.Source.faults c.run.new.source;
      written_before = g.K.Sink.faults c.args.sink.now;
      written_after = g.K.Sink.faults c.run.new.sink;
    } in
    subst (λ (l : List ℕ). IsCause c.args.config.now a (in_front l (g.S.Source.remaining c.args.source.now)) (g.K.Sink.contents c.args.sink.now) (g.K.Sink.contents c.run.new.sink) n c.in-Err-run.fault)
    c.in-Ok.ensures.reader.ahead (c.in-Err-run.ensures.fault a (c.in-Ok.ensures.stands a is))
