-- Many messages, one after the other. This project's own.
use Rattle.std.specs.Prelude.{ℕ, zero, suc, ◌%◌, List, ◌++◌, replicate}
use Rattle.byteorder.specs.Endian.{little_bytes}
use Rattle.aes_gcm.specs.Gcm.{crypt, tag_of}
use Rattle.hmac_hkdf.specs.Hmac.{hmac}
use Rattle.running_hash.specs.Hash.{hash_of}
use Rattle.spdm_basis.specs.declared.values.hash_alg.HashAlg.TheVariants.{Sha256}

-- The key of all messages.
abbrev pub zero_key : List ℕ
zero_key = replicate 16 0

-- The IV of message n, counted from 0: its number in eight bytes, little-endian, and four zeros.
abbrev pub iv_of : ℕ → List ℕ
iv_of n = little_bytes 8 n ++ replicate 4 0

-- The associated data of each message.
abbrev pub aad : List ℕ
aad = replicate 8 0

-- The text after n messages, each of which is the one before it sealed.
unfoldable pub sealed : List ℕ → ℕ → List ℕ
sealed text zero = text
sealed text (suc n) = crypt zero_key (iv_of n) (sealed text n)

-- The tag of the last of n messages, and zeros where there is none.
unfoldable pub last_tag : List ℕ → ℕ → List ℕ
last_tag text zero = replicate 16 0
last_tag text (suc n) = tag_of zero_key (iv_of n) aad (sealed text (suc n))

-- The code of the last of n messages of this many bytes, and zeros where there is none. Each byte of message k is the
-- lowest byte of k.
unfoldable pub last_code : ℕ → ℕ → List ℕ
last_code size zero = replicate 32 0
last_code size (suc n) = hmac (hash_of Sha256) zero_key (replicate size (n % 256))
