use Rattle.std.proofs.Common.{◌++◌, ℕ, List, subst}
use Rattle.pcap_file.proofs.Taken.{on_err, on_ok, prefix_of_first, takes_both, takes_then_prefix}
use Rattle.pcap_file.specs.Writing.{record_of}
use Rattle.spdm_basis.specs.Stream.{Takes, TakesPrefix}
use Rattle.pcap_file.proofs.writing.write_record.Goals as goal

pub returns-in-Ok-clause-whole : goal.returns-in-Ok-clause-whole
returns-in-Ok-clause-whole g c =
    let old = g.K.Sink.contents c.args.sink.now in
    let mid = g.K.Sink.contents c.write_all.new.sink in
    let new = g.K.Sink.contents c.write_all-in-Ok.new.sink in
    let head = c.record_head-head.result in
    let packet = c.args.packet.now in
    on_ok (Takes mid packet new) (Takes old (record_of c.args.number packet) new) c.write_all-in-Ok.result
    (λ h. subst (λ (l : List ℕ). Takes old (l ++ packet) new) c.record_head-head.ensures (takes_both old mid new head packet c.in-Ok.ensures.whole h)) c.write_all-in-Ok.ensures.whole

pub returns-in-Ok-clause-prefix : goal.returns-in-Ok-clause-prefix
returns-in-Ok-clause-prefix g c =
    let old = g.K.Sink.contents c.args.sink.now in
    let mid = g.K.Sink.contents c.write_all.new.sink in
    let new = g.K.Sink.contents c.write_all-in-Ok.new.sink in
    let head = c.record_head-head.result in
    let packet = c.args.packet.now in
    on_err (TakesPrefix mid packet new) (TakesPrefix old (record_of c.args.number packet) new) c.write_all-in-Ok.result
    (λ h. subst (λ (l : List ℕ). TakesPrefix old (l ++ packet) new) c.record_head-head.ensures (takes_then_prefix old mid new head packet c.in-Ok.ensures.whole h)) c.write_all-in-Ok.ensures.prefix

pub returns-in-Err-clause-prefix : goal.returns-in-Err-clause-prefix
returns-in-Err-clause-prefix g c =
    let old = g.K.Sink.contents c.args.sink.now in
    let new = g.K.Sink.contents c.write_all.new.sink in
    let packet = c.args.packet.now in
    subst (λ (l : List ℕ). TakesPrefix old (l ++ packet) new) c.record_head-head.ensures (prefix_of_first old new c.record_head-head.result packet c.in-Err.ensures.prefix)
