use Rattle.std.proofs.Common.{◌∷◌, [], ap, ◌∙◌, arith, length, length-append}
use Rattle.std.specs.Prelude.{map}
use Rattle.aes.specs.Words.{bytes_of}
use Rattle.aes.proofs.Schedules.{keys-more}
use Rattle.aes.proofs.schedule.schedule.Goals as goal

pub loop-n-preserved : goal.loop-n-preserved
loop-n-preserved c = record {
  count = ap length c.push.ensures.items ∙ length-append c.loop-n.keys.items (c.of_bytes.result ∷ []) ∙ omega (arith, c.loop-n.invariant.count);
  made = ap (map bytes_of) c.push.ensures.items ∙ keys-more c.as_slice-bytes.result.now c.loop-n.keys.items c.of_bytes.result c.loop-n.n c.loop-n.invariant.made c.of_bytes.ensures;
}
