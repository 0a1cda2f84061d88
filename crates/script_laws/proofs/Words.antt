-- Words of a line that are bytes or numbers in a range.
use Rattle.std.proofs.Common.{◌≡◌, ℕ, zero, suc, ◌<◌, List, [], ◌∷◌, length, refl, true, nat_lt, Result, Ok, Err}
use Rattle.std.specs.Prelude.{nat_le}
use Rattle.std.specs.Result.{result_unwrap_or}
use Rattle.std.proofs.lemmas.Bool.{lt-ltb}
use Rattle.hex.specs.Hex.{decode_of, IsBytes}
use Rattle.hex.specs.declared.error.FromHexError.{FromHexError}
use Rattle.hex.proofs.HexLemmas.{decode_of-ok}
use Rattle.spdm_basis.proofs.Bools.{and_first, and_second}
use Rattle.script_text.specs.HexWords.{bytes_of, is_hex_in, most_bytes}
use Rattle.script_text.specs.Numbers.{is_number_in, value_of}
use Rattle.script_text.specs.Sound.{are_bytes, are_bytes_in, fits_word, is_within}
use Rattle.spdm_agreement.proofs.Responder.Exchange.{both_hold}

all_bytes : (xs : List ℕ) → IsBytes xs → are_bytes xs ≡ true
all_bytes [] h = refl
all_bytes (x ∷ xs) h =
    let first : x < 256 = h zero in
    let small : nat_lt x 256 ≡ true = lt-ltb x 256 first in
    rw small (all_bytes xs (λ i. h (suc i)))

bytes_by : (word : List ℕ) (r : Result (List ℕ) FromHexError) → decode_of word ≡ r → are_bytes (result_unwrap_or r []) ≡ true
bytes_by word (Ok bytes) e = all_bytes bytes (decode_of-ok word bytes e).3
bytes_by word (Err x) e = refl

-- the bytes of a word are bytes
pub are_bytes-bytes_of : (word : List ℕ) → are_bytes (bytes_of word) ≡ true
unfolding bytes_of
are_bytes-bytes_of word = bytes_by word (decode_of word) refl

-- both tests

-- a word of so many bytes
pub bytes_in : (low high : ℕ) (word : List ℕ) → is_hex_in low high word ≡ true → are_bytes_in low high (bytes_of word) ≡ true
unfolding is_hex_in
bytes_in low high word h =
    let many = and_second _ _ (and_first _ _ h) in
    let few = and_second _ _ h in
    both_hold (are_bytes (bytes_of word)) (is_within low high (length (bytes_of word))) (are_bytes-bytes_of word) (both_hold (nat_le low (length (bytes_of word))) (nat_le (length (bytes_of word)) high) many few)

-- a word of at most as many bytes as a word may be
pub fits : (word : List ℕ) → is_hex_in 0 most_bytes word ≡ true → fits_word (bytes_of word) ≡ true
unfolding is_hex_in
fits word h = both_hold (are_bytes (bytes_of word)) (nat_le (length (bytes_of word)) 8000) (are_bytes-bytes_of word) (and_second _ _ h)

-- a number in a range
pub within : (low high : ℕ) (word : List ℕ) → is_number_in low high word ≡ true → is_within low high (value_of word) ≡ true
within low high word h = both_hold (nat_le low (value_of word)) (nat_le (value_of word) high) (and_second _ _ (and_first _ _ h)) (and_second _ _ h)
