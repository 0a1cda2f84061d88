use Rattle.std.proofs.Common.{◌≡◌, ◌≤◌, ◌-◌, drop, length}
use Rattle.pcap_file.specs.Reading.{records_in, with_before}
use Rattle.pcap_file.proofs.reading.read_records.Given as goal

-- The packets so far, with those of the records that are left, are those of all records.
abbrev pub invariant-loop-rest : goal.invariant-loop-rest
invariant-loop-rest l = record {
  whole : with_before l.packets (records_in l.left (length l.fn.file - length l.rest) l.order l.rest) ≡ records_in 100000 24 l.order (drop 24 l.fn.file);
  within : length l.rest ≤ length l.fn.file;
}

abbrev pub decreases-loop-rest : goal.decreases-loop-rest
decreases-loop-rest l = length l.rest
