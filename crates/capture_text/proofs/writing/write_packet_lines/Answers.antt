use Rattle.std.proofs.Common.{◌≡◌, ◌∙◌, ◌++◌, ◌+◌, arith, ℕ, List, ap, sym, subst, take, drop, get_or}
use Rattle.capture_text.proofs.Numbered.{own_line, lines_more, lines_through}
use Rattle.capture_text.proofs.Taken.{prefix_of_first, takes_both, takes_then_prefix}
use Rattle.capture_text.specs.Written.{packet_lines}
use Rattle.spdm_basis.specs.Stream.{Takes, TakesPrefix}
use Rattle.capture_text.proofs.writing.write_packet_lines.Goals as goal

pub returns-in-Err-clause-prefix : goal.returns-in-Err-clause-prefix
returns-in-Err-clause-prefix g c =
    let i = c.loop-index.index in
    let packets = c.args.packets.now in
    let packet = c.index-packets-index.result in
    let old = g.K.Sink.contents c.args.sink.now in
    let mid = g.K.Sink.contents c.loop-index.sink in
    let new = g.K.Sink.contents c.write_packet_line.new.sink in
    let front = packet_lines 1 (take i packets) in
    let own = own_line (1 + i) (get_or packets i packet) in
    let back = packet_lines (1 + (i + 1)) (drop (i + 1) packets) in
    let next : i + 1 ≡ 1 + i = omega arith in
    let bytes_are : own_line (i + 1) c.as_slice.result.now ≡ own = ap (λ (n : ℕ). own_line n c.as_slice.result.now) next ∙ ap (own_line (1 + i)) (c.as_slice.ensures ∙ c.index-packets-index.is) in
    let part = subst (λ (t : List ℕ). TakesPrefix mid t new) bytes_are c.in-Err.ensures.prefix in
    subst (λ (t : List ℕ). TakesPrefix old t new) (sym (lines_through 1 packets i packet c.loop-index-test.true))
    (takes_then_prefix old mid new front (own ++ back) c.loop-index.invariant.written (prefix_of_first mid new own back part))

pub loop-index-preserved : goal.loop-index-preserved
loop-index-preserved g c =
    let i = c.loop-index.index in
    let packets = c.args.packets.now in
    let packet = c.index-packets-index.result in
    let old = g.K.Sink.contents c.args.sink.now in
    let mid = g.K.Sink.contents c.loop-index.sink in
    let new = g.K.Sink.contents c.write_packet_line.new.sink in
    let front = packet_lines 1 (take i packets) in
    let own = own_line (1 + i) (get_or packets i packet) in
    let next : i + 1 ≡ 1 + i = omega arith in
    let bytes_are : own_line (i + 1) c.as_slice.result.now ≡ own = ap (λ (n : ℕ). own_line n c.as_slice.result.now) next ∙ ap (own_line (1 + i)) (c.as_slice.ensures ∙ c.index-packets-index.is) in
    record {
      written = subst (λ (l : List ℕ). Takes old l new) (sym (lines_more 1 packets i packet c.loop-index-test.true))
          (takes_both old mid new front own c.loop-index.invariant.written (subst (λ (t : List ℕ). Takes mid t new) bytes_are c.in-Ok.ensures.whole));
      later = omega (arith, c.loop-index.invariant.later, c.write_packet_line.ensures.later);
    }
