use Rattle.std.proofs.Common.{rules, ◌≡◌, ◌+◌, ◌*◌, ◌^◌, ◌∙◌, ap, arith}
use Rattle.aes.specs.Words.{block_bytes}
use Rattle.aes.proofs.StateBytes.{number-bytes}
use Rattle.aes.proofs.columns.Columns.block.Goals as goal

pub returns : goal.returns
returns c =
    let s = c.args.self.now in
    let e : (s.first * 2 ^ 32 + s.second) * 2 ^ 64 + (s.third * 2 ^ 32 + s.fourth) ≡ s.first * 2 ^ 96 + s.second * 2 ^ 64 + s.third * 2 ^ 32 + s.fourth = omega arith in
    ap block_bytes e ∙ number-bytes s (search rules) (search rules) (search rules) (search rules)
