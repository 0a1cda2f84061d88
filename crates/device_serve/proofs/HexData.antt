-- Which words are bytes, and which bytes they are.
use Rattle.std.proofs.Common.{◌≡◌, ◌∙◌, ℕ, ◌<◌, ◌≤◌, ◌*◌, ◌/◌, ◌%◌, List, [], length, refl, sym, ap, true, false, ◌&&◌, arith, ◌∷◌, Bool, Result, Ok, Err}
use Rattle.std.specs.Prelude.{MatchResult, codes, not, ◌==◌, nat_le}
use Rattle.std.specs.List.{list_all}
use Rattle.std.specs.Result.{result_unwrap_or}
use Rattle.std.proofs.lemmas.Bool.{and_parts, eqb-true, eqb-false, eq-eqb, false≢true, ne_eqb, le-leb, lt-leb}
use Rattle.std.proofs.lemmas.List.Sums.{AllPass-from_list_all, list_all-from_AllPass}
use Rattle.std.proofs.lemmas.Slice.Eq.{bytes_eq-Decides}
use Rattle.hex.specs.Hex.{decode_of, decode_sized, is_hex_digit}
use Rattle.hex.specs.declared.error.FromHexError.{FromHexError}
use Rattle.hex.proofs.HexLemmas.{decode_of-even, decode_of-ok, decode_sized-odd, decode_sized-twice, decode_pairs-ok, decode_pairs-digits}
use Rattle.script_text.specs.HexWords.{bytes_of, is_hex_in, is_none_word, is_pairs, most_bytes}

-- A word of pairs decodes, to half as many bytes.
pub record Decodes (word : List ℕ) : Type 0 where
  pub bytes : List ℕ
  pub is : decode_of word ≡ Ok bytes
  pub even : length word ≡ 2 * length bytes

pub pairs_decode : (word : List ℕ) → is_pairs word ≡ true → Decodes word
unfolding is_pairs
pairs_decode word h =
    let parts = and_parts (not (length word == 0) && length word % 2 == 0) (list_all is_hex_digit word) h in
    let even = eqb-true (length word % 2) 0 ((and_parts (not (length word == 0)) (length word % 2 == 0) parts.0).1) in
    let some = decode_pairs-digits 0 word even (AllPass-from_list_all is_hex_digit word parts.1) in
    record { bytes = some.0; is = decode_of-even word even ∙ some.1; even = (decode_pairs-ok 0 word some.0 some.1).1 }

bytes_are : (word bytes : List ℕ) → decode_of word ≡ Ok bytes → bytes_of word ≡ bytes
unfolding bytes_of
bytes_are word bytes e = ap (λ (r : Result (List ℕ) FromHexError). result_unwrap_or r []) e

-- What decodes is a word of pairs, unless it is empty.
decoded_pairs : (word bytes : List ℕ) → 0 < length word → decode_of word ≡ Ok bytes → is_pairs word ≡ true
unfolding is_pairs
decoded_pairs word bytes some e =
    let ok = decode_of-ok word bytes e in
    let long : (length word == 0) ≡ false = ne_eqb (length word) 0 (omega (arith, some)) in
    let even : (length word % 2 == 0) ≡ true = eq-eqb (length word % 2) 0 ok.0 in
    rw (long, even, list_all-from_AllPass is_hex_digit word ok.1) refl

-- ---- The word for no bytes.

pub none_is_hex : (word : List ℕ) → is_none_word word ≡ true → true ≡ is_hex_in 0 most_bytes word
unfolding is_hex_in bytes_of is_pairs
none_is_hex word h = let e : word ≡ codes "-" = (bytes_eq-Decides word (codes "-")).0 h in rw e refl

pub none_is_empty : (word : List ℕ) → is_none_word word ≡ true → [] ≡ bytes_of word
unfolding bytes_of
none_is_empty word h = let e : word ≡ codes "-" = (bytes_eq-Decides word (codes "-")).0 h in rw e refl

-- ---- Other words.

no_pairs : (word : List ℕ) → is_none_word word ≡ false → is_pairs word ≡ false → false ≡ is_hex_in 0 most_bytes word
unfolding is_hex_in
no_pairs word none is = rw (none, is) refl

-- A word of pairs is bytes where they are not too many.
pairs_by : (word : List ℕ) (fits : Bool) → is_none_word word ≡ false → is_pairs word ≡ true → nat_le (length (bytes_of word)) most_bytes ≡ fits → fits ≡ is_hex_in 0 most_bytes word
unfolding is_hex_in
pairs_by word fits none is few =
    let least : nat_le 0 (length (bytes_of word)) ≡ true = le-leb 0 (length (bytes_of word)) (omega arith) in
    rw (none, is, least, few) refl

-- A word of pairs has some.
pairs_some : (word : List ℕ) → is_pairs word ≡ true → 0 < length word
unfolding is_pairs
pairs_some [] is = absurd (false≢true is)
pairs_some (x ∷ word) is = omega arith

pub short_is_none : (word : List ℕ) → is_none_word word ≡ false → length word / 2 ≡ 0 → false ≡ is_hex_in 0 most_bytes word
short_is_none word none few = by_pairs (is_pairs word) refl
  where
    by_pairs : (pairs : Bool) → is_pairs word ≡ pairs → false ≡ is_hex_in 0 most_bytes word
    by_pairs false is = no_pairs word none is
    by_pairs true is =
        let d = pairs_decode word is in
        let some = pairs_some word is in
        absurd (omega (arith, d.even, few, some))

pub long_is_none : (word : List ℕ) → is_none_word word ≡ false → most_bytes < length word / 2 → false ≡ is_hex_in 0 most_bytes word
long_is_none word none many = by_pairs (is_pairs word) refl
  where
    by_pairs : (pairs : Bool) → is_pairs word ≡ pairs → false ≡ is_hex_in 0 most_bytes word
    by_pairs false is = no_pairs word none is
    by_pairs true is =
        let d = pairs_decode word is in
        let size : length (bytes_of word) ≡ length d.bytes = ap length (bytes_are word d.bytes d.is) in
        let long : nat_le (length (bytes_of word)) most_bytes ≡ false = lt-leb (length (bytes_of word)) most_bytes (omega (arith, size, d.even, many)) in
        pairs_by word false none is long

-- Of an odd length nothing decodes.
decoded_even : (word : List ℕ) (n : ℕ) (bytes : List ℕ) (odd : Bool) → (length word % 2 == 1) ≡ odd → decode_sized word n ≡ Ok bytes → length word % 2 ≡ 0
decoded_even word n bytes true odd is = absurd (cc (sym (decode_sized-odd word n (eqb-true (length word % 2) 1 odd)) ∙ is))
decoded_even word n bytes false even is = let no = eqb-false (length word % 2) 1 even in grind (arith, no)

-- What was answered tells what came of decoding.
module _ (word out : List ℕ) (n : ℕ) (answer : Result (Unit {0}) FromHexError) where
  abbrev Answers : Result (List ℕ) FromHexError → Type 0
  Answers r = MatchResult r (λ bytes. (answer ≡ Ok tt) × (out ≡ bytes)) (λ e. answer ≡ Err e)

  ok_by : (r : Result (List ℕ) FromHexError) (done : Unit {0}) → answer ≡ Ok done → Answers r → r ≡ Ok out
  ok_by (Ok bytes) done is told = ap (λ (l : List ℕ). Ok l) (sym told.1)
  ok_by (Err e) done is told = absurd (cc (sym is ∙ told))

  err_by : (r : Result (List ℕ) FromHexError) (e : FromHexError) → answer ≡ Err e → Answers r → (x : FromHexError) × (r ≡ Err x)
  err_by (Ok bytes) e is told = absurd (cc (sym is ∙ told.0))
  err_by (Err x) e is told = (x, refl)

  pub decoded_ok : (done : Unit {0}) → answer ≡ Ok done → Answers (decode_sized word n) → decode_sized word n ≡ Ok out
  decoded_ok done is told = ok_by (decode_sized word n) done is told

  pub decoded_err : (e : FromHexError) → answer ≡ Err e → Answers (decode_sized word n) → (x : FromHexError) × (decode_sized word n ≡ Err x)
  decoded_err e is told = err_by (decode_sized word n) e is told

-- What was decoded into room for half as many bytes, where that is at least one.
pub decoded_is_hex : (word bytes : List ℕ) (n : ℕ) → is_none_word word ≡ false → n ≡ length word / 2 → 0 < n → n ≤ most_bytes → decode_sized word n ≡ Ok bytes → (true ≡ is_hex_in 0 most_bytes word) × (bytes ≡ bytes_of word)
decoded_is_hex word bytes n none half some few is =
    let even = decoded_even word n bytes (length word % 2 == 1) refl is in
    let long : length word ≡ 2 * n = omega (arith, even, half) in
    let own : decode_of word ≡ Ok bytes = sym (decode_sized-twice word n long) ∙ is in
    let pairs = decoded_pairs word bytes (omega (arith, long, some)) own in
    let d = pairs_decode word pairs in
    let size : length (bytes_of word) ≡ length d.bytes = ap length (bytes_are word d.bytes d.is) in
    let fits : nat_le (length (bytes_of word)) most_bytes ≡ true = le-leb (length (bytes_of word)) most_bytes (omega (arith, size, d.even, long, few)) in (
      pairs_by word true none pairs fits,
      sym (bytes_are word bytes own),
    )

-- Where that fails the word is no bytes.
pub refused_is_none : (word : List ℕ) (n : ℕ) (e : FromHexError) → is_none_word word ≡ false → n ≡ length word / 2 → decode_sized word n ≡ Err e → false ≡ is_hex_in 0 most_bytes word
refused_is_none word n e none half is = by_pairs (is_pairs word) refl
  where
    by_pairs : (pairs : Bool) → is_pairs word ≡ pairs → false ≡ is_hex_in 0 most_bytes word
    by_pairs false apart = no_pairs word none apart
    by_pairs true is_one =
        let d = pairs_decode word is_one in
        let own : decode_sized word n ≡ Ok d.bytes = decode_sized-twice word n (omega (arith, half, d.even)) ∙ d.is in
        absurd (cc (sym own ∙ is))
