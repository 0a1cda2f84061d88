use Rattle.std.proofs.Common.{◌≤◌, take}
use Rattle.spdm_basis.specs.Stream.{Takes}
use Rattle.sequence_picture.specs.Picture.{rows_from}
use Rattle.sequence_picture.proofs.writing.write_rows.Given as goal

-- The rows so far were written.
abbrev pub invariant-loop-index : goal.invariant-loop-index
invariant-loop-index g l = record {
  written : Takes (g.K.Sink.contents l.fn.sink) (rows_from l.form l.requesters 0 (take l.index l.rows)) (g.K.Sink.contents l.sink);
  later : g.K.Sink.faults l.fn.sink ≤ g.K.Sink.faults l.sink;
}
