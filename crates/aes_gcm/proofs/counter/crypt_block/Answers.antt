use Rattle.std.proofs.Common.{◌≡◌, ◌+◌, ◌-◌, ◌*◌, ◌/◌, ◌%◌, ◌^◌, ◌∙◌, ap, get_or, ℕ, arith, refl, inl, inr}
use Rattle.std.specs.Prelude.{bit_xor}
use Rattle.std.proofs.lemmas.Bool.{cases_lt}
use Rattle.byteorder.specs.Endian.{big_bytes}
use Rattle.aes.specs.Words.{block_bytes}
use Rattle.aes_gcm.specs.Gcm.{stream_block}
use Rattle.aes_gcm.proofs.Blocks.{upper_byte, lower_byte, crypted_at}
use Rattle.aes_gcm.proofs.counter.crypt_block.Goals as goal

pub returns-clause-block : goal.returns-clause-block
returns-clause-block c = λ k from to.
    let text = c.args.text.now in
    let n = c.args.n in
    let stream = c.next_block-block.result in
    let whole : k / 16 ≡ n = omega arith in
    let counter : c.args.first + n + 1 + 1 ≡ c.args.first + n + 2 = omega arith in
    let stream_is : block_bytes stream ≡ stream_block c.args.aes.now c.args.iv.now (c.args.first + n + 2) = c.next_block-block.ensures.block ∙ ap (stream_block c.args.aes.now c.args.iv.now) counter in
    let here : bit_xor (get_or text k 0) (get_or (block_bytes stream) (k - 16 * n) 0) ≡ _ =
    crypted_at c.args.aes.now c.args.iv.now text (block_bytes stream) c.args.first n k (get_or text k 0) stream_is refl whole in
    elim (cases_lt k (16 * n + 8)) [
      | inl less ↦ c.mask-2.ensures.before k less
          ∙ c.mask.ensures.here k from less
          ∙ ap (bit_xor (get_or text k 0)) (upper_byte stream (k - 16 * n) (omega arith))
          ∙ here
      | inr more ↦
          let place : k - (16 * n + 8) ≡ k - 16 * n - 8 = omega arith in
          c.mask-2.ensures.here k more (omega arith)
          ∙ ap (λ (t : ℕ). bit_xor t (get_or (big_bytes 8 (stream % 2 ^ 64)) (k - (16 * n + 8)) 0)) (c.mask.ensures.behind k more)
          ∙ ap (bit_xor (get_or text k 0)) (ap (λ (t : ℕ). get_or (big_bytes 8 (stream % 2 ^ 64)) t 0) place ∙ lower_byte stream (k - 16 * n) (omega arith) (omega arith))
          ∙ here
    ]
