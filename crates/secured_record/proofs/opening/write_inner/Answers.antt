use Rattle.std.proofs.Common.{ap, ◌∙◌, arith, ◌-◌, take, drop, ◌++◌, List, ℕ}
use Rattle.aes_gcm.specs.Gcm.{crypt}
use Rattle.aes_gcm.specs.Behind.{crypt_behind}
use Rattle.aes_gcm.proofs.Twice.{length-crypt}
use Rattle.secured_record.proofs.Pieces.{short_inner, long_inner}
use Rattle.secured_record.proofs.opening.write_inner.Goals as goal

pub returns-then-size-le46 : goal.returns-then-size-le46
returns-then-size-le46 c =
    let o = crypt c.args.cipher.now c.args.iv.now c.args.text.now in
    c.write_short.ensures
    ∙ short_inner o c.args.first.now c.args.size c.requires.first (omega arith) (omega (arith, length-crypt c.args.cipher.now c.args.iv.now c.args.text.now))

pub returns-else-size-le46 : goal.returns-else-size-le46
returns-else-size-le46 c =
    let key = c.args.cipher.now in
    let text = c.args.text.now in
    c.write_long.ensures
    ∙ ap (λ (x : List ℕ). drop 2 c.args.first.now ++ crypt_behind 3 key c.args.iv.now x)
    (c.split_at-else-size-le46.ensures.front ∙ ap (λ (x : List ℕ). take (c.args.size - 46) x) c.split_at.ensures.back)
    ∙ long_inner key c.args.iv.now text c.args.first.now c.args.size c.requires.first (omega arith) c.requires.within
