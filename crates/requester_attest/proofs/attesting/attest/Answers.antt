use Rattle.std.proofs.Common.{List, subst, ℕ}
use Rattle.frame_stream.specs.Runs.{Counts}
use Rattle.frame_stream.specs.Standing.{in_front}
use Rattle.requester_attest.proofs.Steps.{some_appraised, some_attesting}
use Rattle.requester_attest.specs.Attested.{HasVerdict}
use Rattle.requester_attest.specs.Standing.{IsCause}
use Rattle.requester_attest.proofs.attesting.attest.Goals as goal

pub run-requires-clause-kept : goal.run-requires-clause-kept
run-requires-clause-kept g c =
    let own = some_attesting c.args.config.now c.args.policy c.args.seed c.args.boot c.requires.some in
    let right = some_appraised c.args.policy c.requires.sound in
    record { appraised = right.0; attesting = own.0; stands = c.in-Ok.ensures.stands right.0 own.0 own.1 right.1 }

pub returns-in-Ok-run-clause-attested : goal.returns-in-Ok-run-clause-attested
returns-in-Ok-run-clause-attested g c = λ appraised a is right.
    subst (λ (l : List ℕ). HasVerdict appraised a (in_front l (g.S.Source.remaining c.args.source.now)) (g.K.Sink.contents c.args.sink.now) (g.K.Sink.contents c.run.new.sink) c.in-Ok-run.verdict)
    c.in-Ok.ensures.reader.ahead (c.in-Ok-run.ensures.attested appraised a (c.in-Ok.ensures.stands appraised a is right))

pub returns-in-Err-run-clause-fault : goal.returns-in-Err-run-clause-fault
returns-in-Err-run-clause-fault g c = λ appraised a is right.
    let n : Counts = record {
      read_before = g.S.Source.faults c.args.source.now;
      read_after = g.S.Source.faults c.run.new.source;
      written_before = g.K.Sink.faults c.args.sink.now;
      written_after = g.K.Sink.faults c.run.new.sink;
    } in
    subst (λ (l : List ℕ). IsCause appraised a (in_front l (g.S.Source.remaining c.args.source.now)) (g.K.Sink.contents c.args.sink.now) (g.K.Sink.contents c.run.new.sink) n c.in-Err-run.fault)
    c.in-Ok.ensures.reader.ahead (c.in-Err-run.ensures.fault appraised a (c.in-Ok.ensures.stands appraised a is right))
