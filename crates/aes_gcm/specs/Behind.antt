-- A text that stands behind whole blocks of another, whose counters it goes on with (SP 800-38D, section 6.5).
use Rattle.std.specs.Prelude.{ℕ, ◌+◌, ◌/◌, ◌%◌, List, length, map, slice_index, bit_xor}
use Rattle.std.specs.List.{range_with_len}
use Rattle.aes_gcm.specs.Gcm.{stream_block}

-- Byte i of such a text, encrypted or decrypted. The counter is 2 for the very first 16 bytes, so that it is 2 more than the number of blocks in front for the first 16 bytes here.
abbrev pub crypted_behind : ℕ → List ℕ → List ℕ → List ℕ → ℕ → ℕ
crypted_behind blocks key iv text i = bit_xor (slice_index text i) (slice_index (stream_block key iv (blocks + i / 16 + 2)) (i % 16))

-- Such a text, encrypted or decrypted.
abbrev pub crypt_behind : ℕ → List ℕ → List ℕ → List ℕ → List ℕ
crypt_behind blocks key iv text = map (crypted_behind blocks key iv text) (range_with_len 0 (length text))
