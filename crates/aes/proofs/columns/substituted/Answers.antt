use Rattle.std.proofs.Common.{◌≡◌, ◌∷◌, [], ◌+◌, ◌*◌, ◌^◌, ◌∙◌, ap, arith}
use Rattle.byteorder.specs.Endian.{big_bytes}
use Rattle.aes.specs.ByteField.{sbox_of}
use Rattle.aes.specs.Tables.{column}
use Rattle.aes.proofs.ColumnSums.{big_bytes-column}
use Rattle.aes.proofs.columns.substituted.Goals as goal

pub returns : goal.returns
returns c =
    let p = c.substitute.result in
    let q = c.substitute-2.result in
    let r = c.substitute-3.result in
    let s = c.substitute-4.result in
    let e : p * 2 ^ 24 + q * 2 ^ 16 + r * 2 ^ 8 + s ≡ column p q r s = omega arith in
    ap (big_bytes 4) e
    ∙ big_bytes-column p q r s c.substitute.type_inv c.substitute-2.type_inv c.substitute-3.type_inv c.substitute-4.type_inv
    ∙ ap (λ t. t ∷ q ∷ r ∷ s ∷ []) c.substitute.ensures
    ∙ ap (λ t. sbox_of c.args.a ∷ t ∷ r ∷ s ∷ []) c.substitute-2.ensures
    ∙ ap (λ t. sbox_of c.args.a ∷ sbox_of c.args.b ∷ t ∷ s ∷ []) c.substitute-3.ensures
    ∙ ap (λ t. sbox_of c.args.a ∷ sbox_of c.args.b ∷ sbox_of c.args.c ∷ t ∷ []) c.substitute-4.ensures
