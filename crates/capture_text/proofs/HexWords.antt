-- Bytes as they are printed are read back.
use Rattle.std.proofs.Common.{◌≡◌, ℕ, zero, suc, ◌+◌, ◌*◌, ◌/◌, ◌%◌, ◌<◌, ◌≤◌, List, [], ◌∷◌, length, refl, ap, Bool, true, false, ◌||◌, nat_eq, nat_lt, arith, eq-eqb, Option, Result}
use Rattle.std.specs.Prelude.{codes, slice_index, is_some}
use Rattle.std.specs.List.{list_all}
use Rattle.std.specs.Result.{result_unwrap_or}
use Rattle.std.proofs.lemmas.Bool.{and_parts, ne_eqb}
use Rattle.std.proofs.lemmas.Bool.Decides.{nat_tests}
use Rattle.hex.specs.Hex.{encode_lower, encode_with, is_hex_digit, lower_digits, IsBytes}
use Rattle.hex.specs.declared.error.FromHexError.{FromHexError}
use Rattle.hex.proofs.HexLemmas.{decode_of-encode_lower, length-encode_with, IsDigits-lower_digits}
use Rattle.script_text.specs.HexWords.{bytes_of, is_pairs, is_none_word, is_hex_in}
use Rattle.script_text.specs.Sound.{are_bytes}
use Rattle.trace_text.specs.Spelling.{hex_word}

bytes_from : (bytes : List ℕ) → are_bytes bytes ≡ true → IsBytes bytes
bytes_from [] h i = omega arith
bytes_from (b ∷ bytes) h zero = grind (arith, nat_tests, (and_parts (nat_lt b 256) (are_bytes bytes) h).0)
bytes_from (b ∷ bytes) h (suc i) = bytes_from bytes (and_parts (nat_lt b 256) (are_bytes bytes) h).1 i

-- what holds of each digit holds of all digits of some bytes
pub all_of_encoded : (p : ℕ → Bool) → ((d : ℕ) → d < 16 → p (slice_index lower_digits d) ≡ true) → (bytes : List ℕ) → are_bytes bytes ≡ true → list_all p (encode_lower bytes) ≡ true
unfolding encode_with
all_of_encoded p each [] h = refl
all_of_encoded p each (b ∷ bytes) h =
    let parts = and_parts (nat_lt b 256) (are_bytes bytes) h in
    let small : b < 256 = grind (arith, nat_tests, parts.0) in
    rw (each (b / 16) (omega arith), each (b % 16) (omega arith)) (all_of_encoded p each bytes parts.1)

digit_is_hex : (d : ℕ) → d < 16 → is_hex_digit (slice_index lower_digits d) ≡ true
digit_is_hex d h = ap (λ (o : Option ℕ). is_some o) (IsDigits-lower_digits d h)

-- digits of bytes are pairs
is_pairs-encoded : (b : ℕ) (bytes : List ℕ) → are_bytes (b ∷ bytes) ≡ true → is_pairs (encode_lower (b ∷ bytes)) ≡ true
unfolding is_pairs
is_pairs-encoded b bytes h =
    let long : length (encode_lower (b ∷ bytes)) ≡ 2 * length (b ∷ bytes) = length-encode_with lower_digits (b ∷ bytes) in
    let even : nat_eq (length (encode_lower (b ∷ bytes)) % 2) 0 ≡ true = eq-eqb _ _ (omega (arith, long)) in
    let some : nat_eq (length (encode_lower (b ∷ bytes))) 0 ≡ false = ne_eqb _ _ (omega (arith, long)) in
    rw (some, even) (all_of_encoded is_hex_digit digit_is_hex (b ∷ bytes) h)

hex_word-cons : (b : ℕ) (bytes : List ℕ) → hex_word (b ∷ bytes) ≡ encode_lower (b ∷ bytes)
unfolding hex_word
hex_word-cons b bytes = let e : nat_eq (length (b ∷ bytes)) 0 ≡ false = ne_eqb _ _ (omega arith) in rw e refl

hex_word-nil : hex_word [] ≡ codes "-"
unfolding hex_word
hex_word-nil = refl

-- the bytes of a printed word
pub bytes_of-hex_word : (bytes : List ℕ) → are_bytes bytes ≡ true → bytes_of (hex_word bytes) ≡ bytes
unfolding bytes_of
bytes_of-hex_word [] h = rw hex_word-nil refl
bytes_of-hex_word (b ∷ bytes) h =
    rw (hex_word-cons b bytes) (ap (λ (r : Result (List ℕ) FromHexError). result_unwrap_or r []) (decode_of-encode_lower (b ∷ bytes) (bytes_from (b ∷ bytes) h)))

or_true : (a b : Bool) → b ≡ true → (a || b) ≡ true
or_true true b h = refl
or_true false b h = h

is_word : (bytes : List ℕ) → are_bytes bytes ≡ true → (is_none_word (hex_word bytes) || is_pairs (hex_word bytes)) ≡ true
is_word [] h = rw hex_word-nil refl
is_word (b ∷ bytes) h = or_true (is_none_word (hex_word (b ∷ bytes))) (is_pairs (hex_word (b ∷ bytes))) (rw (hex_word-cons b bytes) (is_pairs-encoded b bytes h))

-- what holds of each digit and of the hyphen holds of a printed word
pub all_of_hex_word : (p : ℕ → Bool) → ((d : ℕ) → d < 16 → p (slice_index lower_digits d) ≡ true) → p 45 ≡ true → (bytes : List ℕ) → are_bytes bytes ≡ true → list_all p (hex_word bytes) ≡ true
all_of_hex_word p each none [] h = rw (hex_word-nil, none) refl
all_of_hex_word p each none (b ∷ bytes) h = rw (hex_word-cons b bytes) (all_of_encoded p each (b ∷ bytes) h)

-- a printed word is bytes of as many
pub is_hex_in-hex_word : (low high : ℕ) (bytes : List ℕ) → are_bytes bytes ≡ true → low ≤ length bytes → length bytes ≤ high → is_hex_in low high (hex_word bytes) ≡ true
unfolding is_hex_in
is_hex_in-hex_word low high bytes h more less =
    rw (bytes_of-hex_word bytes h, is_word bytes h) (grind (arith, nat_tests))

-- how long a printed word of bytes is
pub length-hex_word : (bytes : List ℕ) → length (hex_word bytes) ≤ 2 * length bytes + 1
length-hex_word [] = rw hex_word-nil (omega arith)
length-hex_word (b ∷ bytes) = rw (hex_word-cons b bytes) (omega (arith, length-encode_with lower_digits (b ∷ bytes)))
