use Rattle.std.proofs.Common.{◌≡◌, ◌≢◌, ◌<◌, ◌+◌, ◌-◌, ◌*◌, ◌/◌, ◌∙◌, ℕ, length, get_or, set, ap, sym, arith, inl, inr, get_or-set_other, get_or-set_same}
use Rattle.std.specs.Prelude.{bit_xor}
use Rattle.std.proofs.lemmas.Bool.{cases_eq}
use Rattle.aes.specs.Words.{block_bytes}
use Rattle.aes_gcm.specs.Gcm.{stream_block}
use Rattle.aes_gcm.specs.Behind.{crypted_behind}
use Rattle.aes_gcm.proofs.Blocks.{crypted_at}
use Rattle.aes_gcm.proofs.counter.crypt_rest.Goals as goal

pub loop-i-preserved : goal.loop-i-preserved
unfolding block_bytes
loop-i-preserved c =
    let key = c.args.aes.now in
    let iv = c.args.iv.now in
    let text = c.loop-i.text in
    let i = c.loop-i.i in
    let n = c.args.n in
    let first = c.args.first in
    let stream = c.to_be_bytes-block.result in
    let v = bit_xor (get_or text i 0) (get_or stream (i - 16 * n) 0) in
    let counter : first + n + 1 + 1 ≡ first + n + 2 = omega arith in
    let stream_is : stream ≡ stream_block key iv (first + n + 2) = c.to_be_bytes-block.ensures ∙ c.next_block.ensures.block ∙ ap (stream_block key iv) counter in
    let lt : i < length text = omega arith in
    let whole : i / 16 ≡ n = omega (arith, c.requires.rest) in
    let here : v ≡ crypted_behind first key iv c.args.text.now i =
    crypted_at key iv c.args.text.now stream first n i (get_or text i 0) stream_is (c.loop-i.invariant.behind i (omega arith)) whole in
    record {
      done = λ k low high. elim (cases_eq k i) [
        | inl e ↦ ap (λ (t : ℕ). get_or (set text i v) t 0) e ∙ get_or-set_same text i v 0 lt ∙ here ∙ ap (crypted_behind first key iv c.args.text.now) (sym e)
        | inr ne ↦ rw get_or-set_other (c.loop-i.invariant.done k low (omega arith))
      ];
      before = λ k less. let ne : k ≢ i = omega arith in rw get_or-set_other (c.loop-i.invariant.before k less);
      behind = λ k more. let ne : k ≢ i = omega arith in rw get_or-set_other (c.loop-i.invariant.behind k (omega arith));
    }
