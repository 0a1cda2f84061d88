-- A text that is encrypted and then decrypted is as before.
use Rattle.std.proofs.Common.{◌≡◌, ℕ, ◌+◌, ◌/◌, ◌%◌, ◌<◌, List, length, get_or, ap, sym, ◌∙◌, arith}
use Rattle.std.proofs.lemmas.List.FromFn.{length-map-range_with_len, get_or-map-range_with_len, fill_by_all}
use lib.Bits.{bit_xor, xor_assoc, xor_self, xor_zero_r}
use Rattle.aes_gcm.specs.Gcm.{stream_block, crypted, crypt}

xor_twice : (a b : ℕ) → bit_xor (bit_xor a b) b ≡ a
xor_twice a b = xor_assoc a b b ∙ ap (bit_xor a) (xor_self b) ∙ xor_zero_r a

pub length-crypt : (key iv text : List ℕ) → length (crypt key iv text) ≡ length text
length-crypt key iv text = length-map-range_with_len (crypted key iv text) 0 (length text)

crypted-crypt : (key iv text : List ℕ) (i : ℕ) → i < length text → crypted key iv (crypt key iv text) i ≡ get_or text i 0
crypted-crypt key iv text i lt =
    let s = get_or (stream_block key iv (i / 16 + 2)) (i % 16) 0 in
    ap (λ t. bit_xor t s) (get_or-map-range_with_len (crypted key iv text) 0 (length text) i i 0 lt (omega arith))
    ∙ xor_twice (get_or text i 0) s

pub crypt-crypt : (key iv text : List ℕ) → crypt key iv (crypt key iv text) ≡ text
crypt-crypt key iv text =
    sym (fill_by_all (crypted key iv (crypt key iv text)) text (length (crypt key iv text)) 0 (sym (length-crypt key iv text))
    (λ k lt. let less : k < length text = omega (arith, length-crypt key iv text) in sym (crypted-crypt key iv text k less)))
