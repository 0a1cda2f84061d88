use Rattle.std.proofs.Common.{◌≡◌, ◌∙◌, ◌++◌, ◌+◌, ◌∷◌, [], arith, ℕ, List, length, ap, sym, subst, take, drop, get_or}
use Rattle.std.proofs.lemmas.List.{length-take-le}
use Rattle.packet_text.proofs.Numbered.{behind, behind_more, length_behind, more_written, written_through}
use Rattle.packet_text.proofs.Taken.{prefix_of_first, takes_both, takes_then_prefix}
use Rattle.packet_text.specs.Following.{Follows}
use Rattle.packet_text.specs.Styles.{written_from, written_of}
use Rattle.spdm_basis.specs.Stream.{Takes, TakesPrefix}
use Rattle.packet_text.proofs.writing.write_each.Goals as goal

pub returns-in-Err-clause-prefix : goal.returns-in-Err-clause-prefix
returns-in-Err-clause-prefix g c =
    let style = c.args.style in
    let w = c.args.config.now in
    let i = c.loop-index.index in
    let packets = c.args.packets.now in
    let packet = c.index-packets-index.result in
    let old = g.K.Sink.contents c.args.sink.now in
    let mid = g.K.Sink.contents c.loop-index.sink in
    let new = g.K.Sink.contents c.write_packet.new.sink in
    let older = behind [] (take i packets) in
    let front = written_from style w [] (take i packets) in
    let own = written_of style w older (get_or packets i packet) in
    let back = written_from style w (behind [] (take (i + 1) packets)) (drop (i + 1) packets) in
    let counted = length_behind [] (take i packets) in
    let taken = length-take-le i packets (omega (arith, c.loop-index-test.true)) in
    let number : i + 1 ≡ length older + 1 = omega (arith, counted, taken) in
    let bytes_are : written_of style w older c.as_slice.result.now ≡ own = ap (written_of style w older) (c.as_slice.ensures ∙ c.index-packets-index.is) in
    let part = subst (λ (t : List ℕ). TakesPrefix mid t new) bytes_are (c.in-Err.ensures.prefix older number c.loop-index.invariant.follows) in
    subst (λ (t : List ℕ). TakesPrefix old t new) (sym (written_through style w [] packets i packet c.loop-index-test.true))
    (takes_then_prefix old mid new front (own ++ back) c.loop-index.invariant.written (prefix_of_first mid new own back part))

pub loop-index-preserved : goal.loop-index-preserved
loop-index-preserved g c =
    let style = c.args.style in
    let w = c.args.config.now in
    let i = c.loop-index.index in
    let packets = c.args.packets.now in
    let packet = c.index-packets-index.result in
    let old = g.K.Sink.contents c.args.sink.now in
    let mid = g.K.Sink.contents c.loop-index.sink in
    let new = g.K.Sink.contents c.write_packet.new.sink in
    let older = behind [] (take i packets) in
    let front = written_from style w [] (take i packets) in
    let own = written_of style w older (get_or packets i packet) in
    let counted = length_behind [] (take i packets) in
    let taken = length-take-le i packets (omega (arith, c.loop-index-test.true)) in
    let number : i + 1 ≡ length older + 1 = omega (arith, counted, taken) in
    let same : c.as_slice.result.now ≡ get_or packets i packet = c.as_slice.ensures ∙ c.index-packets-index.is in
    let bytes_are : written_of style w older c.as_slice.result.now ≡ own = ap (written_of style w older) same in
    let kept = c.in-Ok-write_packet.ensures.follows older c.loop-index.invariant.follows in
    record {
      written = subst (λ (l : List ℕ). Takes old l new) (sym (more_written style w [] packets i packet c.loop-index-test.true))
          (takes_both old mid new front own c.loop-index.invariant.written (subst (λ (t : List ℕ). Takes mid t new) bytes_are (c.in-Ok-write_packet.ensures.whole older number c.loop-index.invariant.follows)));
      follows = subst (λ (l : List (List ℕ)). Follows c.write_packet.new.following w l) (ap (λ (p : List ℕ). p ∷ older) same ∙ sym (behind_more [] packets i packet c.loop-index-test.true)) kept;
      later = omega (arith, c.loop-index.invariant.later, c.write_packet.ensures.later);
    }
