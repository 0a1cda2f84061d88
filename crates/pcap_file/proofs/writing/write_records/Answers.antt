use Rattle.std.proofs.Common.{◌≡◌, ◌∙◌, ◌++◌, ◌+◌, arith, ℕ, List, ap, sym, subst, take, drop, get_or}
use Rattle.pcap_file.proofs.Records.{records_more, records_through}
use Rattle.pcap_file.proofs.Taken.{prefix_of_first, takes_both, takes_then_prefix}
use Rattle.pcap_file.specs.Writing.{record_of, records_from}
use Rattle.spdm_basis.specs.Stream.{Takes, TakesPrefix}
use Rattle.pcap_file.proofs.writing.write_records.Goals as goal

pub returns-in-Err-clause-prefix : goal.returns-in-Err-clause-prefix
returns-in-Err-clause-prefix g c =
    let i = c.loop-index.index in
    let packets = c.args.packets.now in
    let packet = c.index-packets-index.result in
    let old = g.K.Sink.contents c.args.sink.now in
    let mid = g.K.Sink.contents c.loop-index.sink in
    let new = g.K.Sink.contents c.write_record.new.sink in
    let front = records_from 1 (take i packets) in
    let own = record_of (1 + i) (get_or packets i packet) in
    let back = records_from (1 + (i + 1)) (drop (i + 1) packets) in
    let next : i + 1 ≡ 1 + i = omega arith in
    let bytes_are : record_of (i + 1) c.as_slice.result.now ≡ own = ap (λ (n : ℕ). record_of n c.as_slice.result.now) next ∙ ap (record_of (1 + i)) (c.as_slice.ensures ∙ c.index-packets-index.is) in
    let part = subst (λ (t : List ℕ). TakesPrefix mid t new) bytes_are c.in-Err.ensures.prefix in
    subst (λ (t : List ℕ). TakesPrefix old t new) (sym (records_through 1 packets i packet c.loop-index-test.true))
    (takes_then_prefix old mid new front (own ++ back) c.loop-index.invariant.written (prefix_of_first mid new own back part))

pub loop-index-preserved : goal.loop-index-preserved
loop-index-preserved g c =
    let i = c.loop-index.index in
    let packets = c.args.packets.now in
    let packet = c.index-packets-index.result in
    let old = g.K.Sink.contents c.args.sink.now in
    let mid = g.K.Sink.contents c.loop-index.sink in
    let new = g.K.Sink.contents c.write_record.new.sink in
    let front = records_from 1 (take i packets) in
    let own = record_of (1 + i) (get_or packets i packet) in
    let next : i + 1 ≡ 1 + i = omega arith in
    let bytes_are : record_of (i + 1) c.as_slice.result.now ≡ own = ap (λ (n : ℕ). record_of n c.as_slice.result.now) next ∙ ap (record_of (1 + i)) (c.as_slice.ensures ∙ c.index-packets-index.is) in
    record {
      written = subst (λ (l : List ℕ). Takes old l new) (sym (records_more 1 packets i packet c.loop-index-test.true))
          (takes_both old mid new front own c.loop-index.invariant.written (subst (λ (t : List ℕ). Takes mid t new) bytes_are c.in_default.ensures.whole));
      later = omega (arith, c.loop-index.invariant.later, c.write_record.ensures.later);
    }
