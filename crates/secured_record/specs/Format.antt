-- Secured records (DSP0277, "Secured Message format"): their bytes under a key, an initialization vector, a session id, a number, an inner message and padding.
use Rattle.std.specs.Prelude.{ℕ, ◌+◌, List, ◌++◌, length, map, drop, slice_index, bit_xor}
use Rattle.std.specs.List.{range_with_len}
use Rattle.byteorder.specs.Endian.{little_bytes}
use Rattle.running_hash.specs.Hash.{hash_of}
use Rattle.key_schedule.specs.Keys.{DirectionSecret}
use Rattle.key_schedule.specs.Schedule.{record_key, record_iv}
use Rattle.aes_gcm.specs.Gcm.{crypt, tag_of}

-- The header, which is the associated data: the session id, the number and the count of bytes after the header, each
-- number as two bytes, little-endian.
abbrev pub header : List ℕ → ℕ → ℕ → List ℕ
header id number count = id ++ little_bytes 2 number ++ little_bytes 2 count

-- The nonce: the initialization vector with its first eight bytes xored with the number as eight bytes, little-endian
-- (DSP0277, "Per-message nonce derivation").
abbrev pub nonce : List ℕ → ℕ → List ℕ
nonce iv number = map (λ i. bit_xor (slice_index iv i) (slice_index (little_bytes 8 number) i)) (range_with_len 0 8) ++ drop 8 iv

-- What is encrypted: the length of the inner message as two bytes, little-endian, the inner message, and padding.
abbrev pub plain_text : List ℕ → List ℕ → List ℕ
plain_text inner pad = little_bytes 2 (length inner) ++ inner ++ pad

-- The record of a plain text: the header, the text encrypted, and the tag of both.
abbrev pub sealed_text : List ℕ → List ℕ → List ℕ → ℕ → List ℕ → List ℕ
sealed_text key iv id number text =
    header id number (length text + 16)
    ++ crypt key (nonce iv number) text
    ++ tag_of key (nonce iv number) (header id number (length text + 16)) (crypt key (nonce iv number) text)

-- The record of an inner message and padding.
unfoldable pub record_of : List ℕ → List ℕ → List ℕ → ℕ → List ℕ → List ℕ → List ℕ
record_of key iv id number inner pad = sealed_text key iv id number (plain_text inner pad)

-- The key and the initialization vector of the records of a direction.
abbrev pub key_of : DirectionSecret → List ℕ
key_of k = record_key (hash_of k.hash) k.aead k.secret

abbrev pub iv_of : DirectionSecret → List ℕ
iv_of k = record_iv (hash_of k.hash) k.secret
