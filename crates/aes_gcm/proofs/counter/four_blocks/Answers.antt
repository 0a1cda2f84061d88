use Rattle.std.proofs.Common.{◌≡◌, ◌+◌, ◌∙◌, ◌∷◌, [], ℕ, List, ap, get_or, arith}
use Rattle.aes.specs.Cipher.{cipher}
use Rattle.aes.specs.Words.{block_bytes}
use Rattle.aes.proofs.Packs.{below_four}
use Rattle.aes_gcm.specs.Gcm.{stream_block}
use Rattle.aes_gcm.proofs.counter.four_blocks.Goals as goal

pub returns : goal.returns
returns c =
    let key = c.args.aes.now in
    let iv = c.args.iv.now in
    let counter = c.args.counter in
    let given : List ℕ = c.counter_block.result ∷ c.counter_block-2.result ∷ c.counter_block-3.result ∷ c.counter_block-4.result ∷ [] in
    let none : counter ≡ counter + 0 = omega arith in
    let each = below_four (λ (b : ℕ). cipher key (block_bytes (get_or given b 0)) ≡ stream_block key iv (counter + b))
    (ap (cipher key) c.counter_block.ensures ∙ ap (stream_block key iv) none)
    (ap (cipher key) c.counter_block-2.ensures)
    (ap (cipher key) c.counter_block-3.ensures)
    (ap (cipher key) c.counter_block-4.ensures) in
    λ b lt. c.encrypt_four.ensures b lt ∙ each b lt
