use Rattle.std.proofs.Common.{◌∙◌, ◌++◌, ap, get_or, ℕ, List, arith}
use Rattle.std.proofs.lemmas.List.{drop_all}
use Rattle.byteorder.specs.Endian.{big_bytes}
use Rattle.aes_gcm.proofs.counter.mask_half.Goals as goal

pub returns : goal.returns
returns c = λ k lt.
    ap (λ (t : List ℕ). get_or t k 0) (c.write_u64.ensures ∙ ap (λ (t : List ℕ). big_bytes 8 c.masked-sum.result ++ t) (drop_all 8 c.args.bytes.now (omega (arith, c.requires))))
    ∙ c.masked-sum.ensures k lt
