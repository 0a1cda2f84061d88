use Rattle.std.proofs.Common.{◌≤◌, take}
use Rattle.spdm_basis.specs.Stream.{Takes}
use Rattle.pcap_file.specs.Writing.{records_from}
use Rattle.pcap_file.proofs.writing.write_records.Given as goal

-- The records of the packets so far were written.
abbrev pub invariant-loop-index : goal.invariant-loop-index
invariant-loop-index g l = record {
  written : Takes (g.K.Sink.contents l.fn.sink) (records_from 1 (take l.index l.packets)) (g.K.Sink.contents l.sink);
  later : g.K.Sink.faults l.fn.sink ≤ g.K.Sink.faults l.sink;
}
