-- Bytes in texts: pairs of hexadecimal digits of either case, and `-` for no bytes. This project's own.
use Rattle.std.specs.Prelude.{ℕ, List, [], ◌%◌, ◌==◌, ◌&&◌, ◌||◌, nat_le, not, codes, length, bytes_eq, Bool}
use Rattle.std.specs.List.{list_all}
use Rattle.std.specs.Result.{result_unwrap_or}
use Rattle.hex.specs.Hex.{decode_of, is_hex_digit}

-- The word for no bytes.
abbrev pub is_none_word : List ℕ → Bool
is_none_word word = bytes_eq word (codes "-")

-- A word is one or more pairs of digits.
unfoldable pub is_pairs : List ℕ → Bool
is_pairs word = not (length word == 0) && length word % 2 == 0 && list_all is_hex_digit word

-- The bytes that a word of pairs is; none for another word.
unfoldable pub bytes_of : List ℕ → List ℕ
bytes_of word = result_unwrap_or (decode_of word) []

-- A word is bytes, from `low` to `high` of them.
unfoldable pub is_hex_in : ℕ → ℕ → List ℕ → Bool
is_hex_in low high word = (is_none_word word || is_pairs word) && nat_le low (length (bytes_of word)) && nat_le (length (bytes_of word)) high

-- The greatest count of bytes that a word may be.
abbrev pub most_bytes : ℕ
most_bytes = 8000
