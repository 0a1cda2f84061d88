-- Galois/Counter Mode over AES, with an IV of 12 bytes and a tag of 16 (SP 800-38D). A key has 16 or 32 bytes.
use Rattle.std.specs.Prelude.{ℕ, ◌+◌, ◌*◌, ◌/◌, ◌%◌, ◌^◌, List, [], ◌∷◌, ◌++◌, length, map, slice_index, replicate, bit_xor}
use Rattle.std.specs.List.{range_with_len}
use Rattle.byteorder.specs.Endian.{big_bytes}
use Rattle.aes.specs.Cipher.{cipher}
use Rattle.ghash.specs.Hash.{ghash, blocks, block_number, block_bytes}

-- A block of the key stream: the IV and a counter of four bytes, the highest first, enciphered (sections 6.5 and 7.1).
abbrev pub stream_block : List ℕ → List ℕ → ℕ → List ℕ
stream_block key iv counter = cipher key (iv ++ big_bytes 4 counter)

-- Byte i of a text, encrypted or decrypted: xored with the byte of the key stream at its place. The counter is 2 for the first 16 bytes, 3 for the next, and so on (sections 7.1 and 7.2).
abbrev pub crypted : List ℕ → List ℕ → List ℕ → ℕ → ℕ
crypted key iv text i = bit_xor (slice_index text i) (slice_index (stream_block key iv (i / 16 + 2)) (i % 16))

-- A text encrypted or decrypted.
abbrev pub crypt : List ℕ → List ℕ → List ℕ → List ℕ
crypt key iv text = map (crypted key iv text) (range_with_len 0 (length text))

-- The hash key: the block of zeros, enciphered (section 7.1, step 1).
abbrev pub hash_key : List ℕ → ℕ
hash_key key = block_number (cipher key (replicate 16 0))

-- The lengths of the associated data and of the text in bits, as two numbers of 64 bits in one block (section 7.1, step 5).
abbrev pub lengths_block : List ℕ → List ℕ → ℕ
lengths_block aad text = 8 * length aad * 2 ^ 64 + 8 * length text

-- What the tag hashes: the associated data and the encrypted text, each filled with zeros to whole blocks, and their lengths (section 7.1, step 5).
abbrev pub hashed_blocks : List ℕ → List ℕ → List ℕ
hashed_blocks aad text = blocks aad ++ blocks text ++ lengths_block aad text ∷ []

-- The tag of associated data and an encrypted text: the hash, encrypted under counter 1 (section 7.1, step 6).
abbrev pub tag_of : List ℕ → List ℕ → List ℕ → List ℕ → List ℕ
tag_of key iv aad text =
    block_bytes (bit_xor (ghash (hash_key key) (hashed_blocks aad text)) (block_number (stream_block key iv 1)))
