-- How many bytes a word is.
use Rattle.std.proofs.Common.{◌≡◌, ℕ, ◌<◌, ◌*◌, ◌/◌, ◌%◌, List, [], length, refl, sym, ap, ◌∙◌, true, false, ◌&&◌, arith, inl, inr, Result, Ok, Err}
use Rattle.std.specs.Prelude.{MatchResult}
use Rattle.std.specs.Prelude.{not, ◌==◌, ◌||◌, nat_le, ◌∷◌, codes}
use Rattle.std.specs.List.{list_all, AllPass}
use Rattle.std.specs.Result.{result_unwrap_or}
use Rattle.std.proofs.lemmas.Bool.{and_parts, cases_eq, eqb-true, eq-eqb, ne_eqb}
use Rattle.std.proofs.lemmas.Bool.Decides.{nat_tests}
use Rattle.std.proofs.lemmas.List.{nil_from_length}
use Rattle.std.proofs.lemmas.List.Sums.{AllPass-from_list_all, list_all-from_AllPass}
use Rattle.std.proofs.lemmas.Slice.Eq.{bytes_eq-Decides}
use Rattle.hex.specs.Hex.{decode_of, decode_sized, is_hex_digit}
use Rattle.hex.specs.declared.error.FromHexError.{FromHexError}
use Rattle.hex.proofs.HexLemmas.{decode_of-even, decode_of-ok, decode_sized-twice, decode_pairs-ok, decode_pairs-digits}
use Rattle.script_text.specs.HexWords.{bytes_of, is_hex_in, is_pairs, is_none_word}

all_pass : (word : List ℕ) → list_all is_hex_digit word ≡ true → AllPass is_hex_digit word
all_pass word h = AllPass-from_list_all is_hex_digit word h

-- a word of pairs has an even number of bytes, all of them digits
pub pairs_parts : (word : List ℕ) → is_pairs word ≡ true → (length word % 2 ≡ 0) × (list_all is_hex_digit word ≡ true)
unfolding is_pairs
pairs_parts word h =
    let parts = and_parts (not (length word == 0) && length word % 2 == 0) (list_all is_hex_digit word) h in
    (eqb-true _ _ ((and_parts (not (length word == 0)) (length word % 2 == 0) parts.0).1), parts.1)

pub length-bytes_of-pairs : (word : List ℕ) → is_pairs word ≡ true → length word / 2 ≡ length (bytes_of word)
unfolding bytes_of
length-bytes_of-pairs word h =
    let parts = pairs_parts word h in
    let even = parts.0 in
    let some = decode_pairs-digits 0 word even (all_pass word parts.1) in
    let bytes = some.0 in
    let told = decode_pairs-ok 0 word bytes some.1 in
    let is : decode_of word ≡ Ok bytes = decode_of-even word even ∙ some.1 in
    let long : length word ≡ 2 * length bytes = told.1 in
    let half : length word / 2 ≡ length bytes = omega arith in
    half ∙ ap (λ (r : Result (List ℕ) FromHexError). length (result_unwrap_or r [])) (sym is)

-- the word for no bytes
pub bytes_of-none : (word : List ℕ) → is_none_word word ≡ true → [] ≡ bytes_of word
unfolding bytes_of
bytes_of-none word h = let e : word ≡ codes "-" = (bytes_eq-Decides word (codes "-")).0 h in rw e refl

-- what decodes is a word of pairs, unless it is empty
pub is_pairs-decoded : (word bytes : List ℕ) → 0 < length word → decode_of word ≡ Ok bytes → true ≡ is_pairs word
unfolding is_pairs
is_pairs-decoded word bytes some e =
    let ok = decode_of-ok word bytes e in
    let long : (length word == 0) ≡ false = ne_eqb _ _ (omega (arith, some)) in
    let even : (length word % 2 == 0) ≡ true = eq-eqb _ _ ok.0 in
    rw (long, even, list_all-from_AllPass is_hex_digit word ok.1) refl

pub bytes_of-decoded : (word bytes : List ℕ) → decode_of word ≡ Ok bytes → bytes ≡ bytes_of word
unfolding bytes_of
bytes_of-decoded word bytes e = ap (λ (r : Result (List ℕ) FromHexError). result_unwrap_or r []) (sym e)

-- a word that is none of pairs is no bytes
no_bytes : (word : List ℕ) (r : Result (List ℕ) FromHexError) → decode_of word ≡ r → is_pairs word ≡ false → [] ≡ result_unwrap_or r []
no_bytes word (Err fault) e h = refl
no_bytes word (Ok bytes) e h =
    let ok = decode_of-ok word bytes e in
    elim (cases_eq (length word) 0) [
      | inl none ↦ sym (nil_from_length bytes (omega (arith, ok.2, none)))
      | inr some ↦ cc (is_pairs-decoded word bytes (omega (arith, some)) e ∙ h)
    ]

pub bytes_of-no_pairs : (word : List ℕ) → is_pairs word ≡ false → [] ≡ bytes_of word
unfolding bytes_of
bytes_of-no_pairs word h = no_bytes word (decode_of word) refl h

-- a word of one byte is no pairs
pub length-bytes_of-none : (word : List ℕ) → is_none_word word ≡ true → 0 ≡ length (bytes_of word)
unfolding bytes_of
length-bytes_of-none word h = let e : word ≡ codes "-" = (bytes_eq-Decides word (codes "-")).0 h in rw e refl

-- what room for as many bytes holds after a word of pairs was decoded
decoded_in_room : (word out : List ℕ) (n : ℕ) (answer : Result (Unit {0}) FromHexError) (r : Result (List ℕ) FromHexError) → decode_of word ≡ r → length (result_unwrap_or r []) ≡ n → 0 < n →
    MatchResult (decode_sized word n) (λ bytes. (answer ≡ Ok tt) × (out ≡ bytes)) (λ e. answer ≡ Err e) → out ≡ result_unwrap_or r []
decoded_in_room word out n answer (Ok bytes) e long some told =
    let ok = decode_of-ok word bytes e in
    let size : length word ≡ 2 * n = omega (arith, ok.2, long) in
    let sized : decode_sized word n ≡ Ok bytes = decode_sized-twice word n size ∙ e in
    (rw sized at told).1
decoded_in_room word out n answer (Err x) e long some told = absurd (omega (arith, long))

pub decoded_is : (word out : List ℕ) (n : ℕ) (answer : Result (Unit {0}) FromHexError) → length (bytes_of word) ≡ n → 0 < n →
    MatchResult (decode_sized word n) (λ bytes. (answer ≡ Ok tt) × (out ≡ bytes)) (λ e. answer ≡ Err e) → out ≡ bytes_of word
unfolding bytes_of
decoded_is word out n answer long some told = decoded_in_room word out n answer (decode_of word) refl long some told

-- a word that is at most so many bytes, and not one or more, is none
pub none_in : (word : List ℕ) (most : ℕ) → is_hex_in 0 most word ≡ true → is_hex_in 1 most word ≡ false → [] ≡ bytes_of word
unfolding is_hex_in
none_in word most fits not_one = from (bytes_of word) fits not_one
  where
    from : (bytes : List ℕ) → ((is_none_word word || is_pairs word) && nat_le 0 (length bytes) && nat_le (length bytes) most) ≡ true →
        ((is_none_word word || is_pairs word) && nat_le 1 (length bytes) && nat_le (length bytes) most) ≡ false → [] ≡ bytes
    from [] fits not_one = refl
    from (b ∷ bytes) fits not_one =
        let parts = and_parts ((is_none_word word || is_pairs word) && nat_le 0 (length (b ∷ bytes))) (nat_le (length (b ∷ bytes)) most) fits in
        let hex = (and_parts (is_none_word word || is_pairs word) (nat_le 0 (length (b ∷ bytes))) parts.0).0 in
        let one : nat_le 1 (length (b ∷ bytes)) ≡ true = grind (arith, nat_tests) in
        absurd (cc (rw (hex, one, parts.1) at not_one))
