use Rattle.std.proofs.Common.{◌≡◌, ◌+◌, ◌/◌, ◌∷◌, [], ap, refl, ◌∙◌, arith, length, length-append}
use Rattle.aes.proofs.SlicedSchedules.{sliced_keys-more, sliced_keys-last}
use Rattle.aes.proofs.sliced_keys.sliced_schedule.Goals as goal

pub loop-n-preserved : goal.loop-n-preserved
loop-n-preserved c = record {
  count = ap length c.push.ensures.items ∙ length-append c.loop-n.keys.items (c.sliced_key.result ∷ []) ∙ omega (arith, c.loop-n.invariant.count);
  made = sliced_keys-more c.as_slice-bytes.result.now c.loop-n.keys.items c.push.new.self.items c.sliced_key.result c.loop-n.n c.push.ensures.items c.loop-n.invariant.count c.loop-n.invariant.made c.sliced_key.ensures;
}

pub returns-clause-keys : goal.returns-clause-keys
returns-clause-keys c =
    let nr = length c.args.key.now / 4 + 6 in
    let made = c.loop-n.invariant.made in
    let end : c.loop-n.n ≡ nr = omega arith in
    sliced_keys-last c.args.key.now c.as_slice-bytes.result.now c.loop-n.keys.items c.push-2.new.self.items c.sliced_key-2.result nr
    c.push-2.ensures.items (c.loop-n.invariant.count ∙ end) refl (c.as_slice-bytes.ensures.value ∙ c.expanded_by-bytes.ensures.value)
    (λ m b none lt hb. made m b none (omega arith) hb) c.sliced_key-2.ensures
