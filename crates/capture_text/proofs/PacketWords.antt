-- The words of the line of a packet: none has a space or a control character, and they are not too long.
use Rattle.std.proofs.Common.{◌≡◌, ℕ, suc, ◌+◌, ◌^◌, ◌<◌, ◌≤◌, ◌++◌, List, [], ◌∷◌, length, refl, true, arith, length-append}
use Rattle.std.specs.Prelude.{slice_index}
use Rattle.std.specs.Fmt.{decimal}
use Rattle.std.proofs.lemmas.Bool.Decides.{nat_tests}
use Rattle.std.proofs.lemmas.List.Sums.{AllPass-from_list_all}
use Rattle.hex.specs.Hex.{lower_digits}
use Rattle.script_text.specs.Numbers.{is_number_in}
use Rattle.script_text.specs.Sound.{are_bytes}
use Rattle.trace_text.specs.Spelling.{hex_word, with_words}
use Rattle.capture_text.proofs.HexWords.{all_of_hex_word}
use Rattle.capture_text.proofs.LineWords.{is_plain, is_plain_word}
use Rattle.capture_text.proofs.Numbers.{all_of_decimal, is_number-decimal, value_of-decimal}

pub plain_decimal : (n : ℕ) → n < 2 ^ 64 → is_plain_word (decimal n) ≡ true
plain_decimal n fits = all_of_decimal is_plain (λ d h. grind (arith, nat_tests)) n fits

plain_digit : (d : ℕ) → d < 16 → is_plain (slice_index lower_digits d) ≡ true
plain_digit d h = AllPass-from_list_all is_plain lower_digits refl d 0 h

pub plain_hex : (bytes : List ℕ) → are_bytes bytes ≡ true → is_plain_word (hex_word bytes) ≡ true
plain_hex bytes h = all_of_hex_word is_plain plain_digit refl bytes h

-- the number of a decimal word in its range
pub number_in-decimal : (low high n : ℕ) → low ≤ n → n ≤ high → n < 2 ^ 64 → is_number_in low high (decimal n) ≡ true
number_in-decimal low high n more less fits = rw (value_of-decimal n fits, is_number-decimal n fits) (grind (arith, nat_tests))

-- how long the words of a line are, each with the space or line feed after it
abbrev pub long_words : List (List ℕ) → ℕ
long_words [] = 0
long_words (word ∷ words) = suc (length word) + long_words words

-- the line of words is as long, but for the last of these
pub length-with_words : (word : List ℕ) (words : List (List ℕ)) → length (with_words word words) ≡ length word + long_words words
length-with_words word [] = omega arith
length-with_words word (other ∷ words) =
    let rest = length-with_words ((word ++ 32 ∷ []) ++ other) words in
    let front : length ((word ++ 32 ∷ []) ++ other) ≡ length word + suc (length other) = omega (arith, length-append (word ++ 32 ∷ []) other, length-append word (32 ∷ [])) in
    let step : long_words (other ∷ words) ≡ suc (length other) + long_words words = refl in
    omega (arith, rest, front, step)
