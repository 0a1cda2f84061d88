use Rattle.std.proofs.Common.{◌+◌, ◌*◌, ◌/◌, ◌%◌, ◌∙◌, ℕ, length, get_or, ap, arith, inl, inr}
use Rattle.std.specs.Prelude.{bit_xor}
use Rattle.std.proofs.lemmas.Bool.{cases_lt}
use Rattle.std.proofs.lemmas.List.FromFn.{fill_by_all}
use Rattle.aes_gcm.specs.Gcm.{stream_block}
use Rattle.aes_gcm.specs.Behind.{crypted_behind}
use Rattle.aes_gcm.proofs.counter.crypt_from.Goals as goal

pub returns-then-text-gt0 : goal.returns-then-text-gt0
returns-then-text-gt0 c =
    let key = c.args.aes.now in
    let iv = c.args.iv.now in
    let text = c.args.text.now in
    fill_by_all (crypted_behind c.args.first key iv text) c.crypt_rest.new.text (length text) 0 (omega (arith, c.crypt_rest.auto.text))
    (λ k lt. elim (cases_lt k (16 * (length text / 16))) [
      | inl less ↦ c.crypt_rest.ensures.before k less ∙ c.loop-n.invariant.done k (omega arith)
      | inr more ↦ c.crypt_rest.ensures.rest k more (omega arith)
          ∙ ap (λ (t : ℕ). bit_xor t (get_or (stream_block key iv (c.args.first + k / 16 + 2)) (k % 16) 0)) (c.loop-n.invariant.rest k (omega arith))
    ])

pub returns-else-text-gt0 : goal.returns-else-text-gt0
returns-else-text-gt0 c =
    let text = c.args.text.now in
    fill_by_all (crypted_behind c.args.first c.args.aes.now c.args.iv.now text) c.loop-n.text (length text) 0 c.loop-n.invariant.long
    (λ k lt. c.loop-n.invariant.done k (omega arith))
