-- AES (FIPS 197) for keys of 16 and 32 bytes. A state is a list of 16 bytes, column after column: byte i stands in row i % 4 and column i / 4 (section 3.4).
use Rattle.std.specs.Prelude.{ℕ, zero, suc, ◌+◌, ◌-◌, ◌*◌, ◌/◌, ◌%◌, ◌==◌, ◌&&◌, nat_lt, List, length, ◌++◌, map, slice_index, slice_range, bit_xor, if◌then◌else◌}
use Rattle.std.specs.List.{range_with_len}
use Rattle.aes.specs.ByteField.{sbox_of, times, power}

-- SubBytes: each byte by its substitution (section 5.1.1).
abbrev pub sub_bytes : List ℕ → List ℕ
sub_bytes s = map sbox_of s

-- ShiftRows: row r goes r places to the left (section 5.1.2).
abbrev pub shift_rows : List ℕ → List ℕ
shift_rows s = map (λ i. slice_index s ((i + 4 * (i % 4)) % 16)) (range_with_len 0 16)

-- Byte i of a state whose columns are multiplied by {03}x^3 + {01}x^2 + {01}x + {02} (section 5.1.3).
abbrev pub mixed : List ℕ → ℕ → ℕ
mixed s i = bit_xor (bit_xor (times 2 (slice_index s i)) (times 3 (slice_index s (i / 4 * 4 + (i + 1) % 4))))
    (bit_xor (slice_index s (i / 4 * 4 + (i + 2) % 4)) (slice_index s (i / 4 * 4 + (i + 3) % 4)))

-- MixColumns.
abbrev pub mix_columns : List ℕ → List ℕ
mix_columns s = map (mixed s) (range_with_len 0 16)

-- AddRoundKey: byte by byte (section 5.1.4).
abbrev pub add_round_key : List ℕ → List ℕ → List ℕ
add_round_key s k = map (λ i. bit_xor (slice_index s i) (slice_index k i)) (range_with_len 0 16)

-- Nk: the number of words of four bytes in a key (section 5, figure 4).
abbrev pub word_count : List ℕ → ℕ
word_count key = length key / 4

-- Nr: the number of rounds, 10 for a key of 16 bytes and 14 for one of 32 (section 5, figure 4).
abbrev pub round_count : List ℕ → ℕ
round_count key = word_count key + 6

-- Byte j of what word i takes from word i - 1, in an expansion w of a key of nk words: each nk words turned, substituted, and with a round constant; where a key has more than six words, substituted at the fourth of each nk; else as it is (section 5.2).
abbrev pub taken : List ℕ → ℕ → ℕ → ℕ → ℕ
taken w nk i j =
    if i % nk == 0 then bit_xor (sbox_of (slice_index w (4 * (i - 1) + (j + 1) % 4))) (if j == 0 then power (i / nk - 1) else 0)
    else if nat_lt 6 nk && i % nk == 4 then sbox_of (slice_index w (4 * (i - 1) + j))
    else slice_index w (4 * (i - 1) + j)

-- Word i: the word nk places before it, xored with what it takes from the word before it.
abbrev pub next_word : List ℕ → ℕ → ℕ → List ℕ
next_word w nk i = map (λ j. bit_xor (slice_index w (4 * (i - nk) + j)) (taken w nk i j)) (range_with_len 0 4)

-- The words of the key and n more.
unfoldable pub expanded : List ℕ → ℕ → List ℕ
expanded key zero = key
expanded key (suc n) = expanded key n ++ next_word (expanded key n) (word_count key) (word_count key + n)

-- KeyExpansion: four words for each round and four before the first (section 5.2).
unfoldable pub round_keys : List ℕ → List ℕ
round_keys key = expanded key (4 * (round_count key + 1) - word_count key)

-- The key of round n.
abbrev pub round_key : List ℕ → ℕ → List ℕ
round_key w n = slice_range w (16 * n) (16 * n + 16)

-- The state after n rounds under the round keys w (section 5.1).
unfoldable pub rounds : List ℕ → List ℕ → ℕ → List ℕ
rounds w block zero = add_round_key block (round_key w 0)
rounds w block (suc n) = add_round_key (mix_columns (shift_rows (sub_bytes (rounds w block n)))) (round_key w (suc n))

-- The last of nr rounds, which leaves MixColumns out.
abbrev pub last_round : List ℕ → List ℕ → ℕ → List ℕ
last_round w block nr = add_round_key (shift_rows (sub_bytes (rounds w block (nr - 1)))) (round_key w nr)

-- Cipher: the block that a block becomes under a key (section 5.1).
unfoldable pub cipher : List ℕ → List ℕ → List ℕ
cipher key block = last_round (round_keys key) block (round_count key)
