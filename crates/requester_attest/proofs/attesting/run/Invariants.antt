use Rattle.std.proofs.Common.{◌≡◌, ◌≤◌, ◌-◌, ℕ, List}
use Rattle.appraise.specs.declared.appraisal.Appraisal.{Appraisal}
use Rattle.attestor.specs.Attesting.{Attesting}
use Rattle.requester_attest.specs.Attested.{attested_kinds}
use Rattle.requester_attest.specs.Standing.{IsRun, StandsFor}
use Rattle.requester_attest.proofs.attesting.run.Given as goal

abbrev pub invariant-loop-attending : goal.invariant-loop-attending
invariant-loop-attending g l = record {
  run : (appraised : List ℕ → Appraisal) (a : Attesting) → StandsFor l.fn.attending appraised a →
      IsRun appraised a l.fn.attending.reader (g.S.Source.remaining l.fn.source) (g.K.Sink.contents l.fn.sink) l.attending (g.S.Source.remaining l.source) (g.K.Sink.contents l.sink);
  kinds : l.attending.reader.kinds ≡ attested_kinds;
  read_later : g.S.Source.faults l.fn.source ≤ g.S.Source.faults l.source;
  written_later : g.K.Sink.faults l.fn.sink ≤ g.K.Sink.faults l.sink;
}

abbrev pub decreases-loop-attending : goal.decreases-loop-attending
decreases-loop-attending g l = l.attending.reader.limit - l.attending.reader.taken
