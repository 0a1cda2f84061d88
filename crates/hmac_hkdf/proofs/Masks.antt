-- A key masked twice.
use Rattle.std.proofs.Common.{◌≡◌, ℕ, List, [], ◌∷◌, refl}
use Rattle.std.specs.Int.Bits.{xor_assoc}
use Rattle.hmac_hkdf.specs.Hmac.{masked}

-- 36 and then 6a make 5c
pub masked_again : (key : List ℕ) → masked 0x6a (masked 0x36 key) ≡ masked 0x5c key
masked_again [] = refl
masked_again (x ∷ rest) = rw (xor_assoc x 0x36 0x6a, masked_again rest) refl
