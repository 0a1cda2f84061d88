use Rattle.pcap_file.proofs.Taken.{on_err, on_ok, prefix_of_first, takes_both, takes_then_prefix}
use Rattle.pcap_file.specs.Writing.{file_of, header, records_from}
use Rattle.spdm_basis.specs.Stream.{Takes, TakesPrefix}
use Rattle.pcap_file.proofs.writing.write_packets.Goals as goal

pub returns-in-Ok-clause-whole : goal.returns-in-Ok-clause-whole
returns-in-Ok-clause-whole g c =
    let old = g.K.Sink.contents c.args.sink.now in
    let mid = g.K.Sink.contents c.write_all.new.sink in
    let new = g.K.Sink.contents c.write_records.new.sink in
    let records = records_from 1 c.args.packets.now in
    on_ok (Takes mid records new) (Takes old (file_of c.args.packets.now) new) c.write_records.result
    (takes_both old mid new header records c.in-Ok.ensures.whole) c.write_records.ensures.whole

pub returns-in-Ok-clause-prefix : goal.returns-in-Ok-clause-prefix
returns-in-Ok-clause-prefix g c =
    let old = g.K.Sink.contents c.args.sink.now in
    let mid = g.K.Sink.contents c.write_all.new.sink in
    let new = g.K.Sink.contents c.write_records.new.sink in
    let records = records_from 1 c.args.packets.now in
    on_err (TakesPrefix mid records new) (TakesPrefix old (file_of c.args.packets.now) new) c.write_records.result
    (takes_then_prefix old mid new header records c.in-Ok.ensures.whole) c.write_records.ensures.prefix

pub returns-in-Err-clause-prefix : goal.returns-in-Err-clause-prefix
returns-in-Err-clause-prefix g c =
    prefix_of_first (g.K.Sink.contents c.args.sink.now) (g.K.Sink.contents c.write_all.new.sink) header (records_from 1 c.args.packets.now) c.in-Err.ensures.prefix
