-- The words of a printed event have no spaces, and are not too long.
use Rattle.std.proofs.Common.{◌≡◌, ℕ, suc, ◌+◌, ◌^◌, ◌<◌, ◌≤◌, ◌++◌, List, [], ◌∷◌, length, refl, true, false, ◌&&◌, ◌||◌, nat_eq, arith, Some, None, length-append}
use Rattle.std.specs.Prelude.{nat_le, ◌==◌, codes, slice_index}
use Rattle.std.specs.Fmt.{decimal}
use Rattle.std.proofs.lemmas.Bool.{and_parts}
use Rattle.std.proofs.lemmas.Bool.Decides.{nat_tests}
use Rattle.std.proofs.lemmas.List.Sums.{AllPass-from_list_all}
use Rattle.hex.specs.Hex.{lower_digits}
use Rattle.script_text.specs.Printing.{event_words}
use Rattle.script_text.specs.Sound.{is_within, is_sound_event, fits_word, are_bytes}
use Rattle.trace_text.specs.Spelling.{hex_word, requester_word, with_words}
use Rattle.script_text.specs.declared.events.event.LinkEvent.{LinkEvent}
use Rattle.script_text.specs.declared.events.event.LinkEvent.TheVariants as event
use Rattle.trace_text.proofs.Decimals.{decimal_short}
use Rattle.script_text.proofs.PrintedNumbers.{all_of_decimal}
use Rattle.script_text.proofs.PrintedBytes.{all_of_hex_word, length-hex_word}
use Rattle.script_text.proofs.PrintedLines.{is_plain, is_plain_word, are_plain}

pub plain_decimal : (n : ℕ) → n < 2 ^ 64 → is_plain_word (decimal n) ≡ true
plain_decimal n fits = all_of_decimal is_plain (λ d h. grind (arith, nat_tests)) n fits

plain_digit : (d : ℕ) → d < 16 → is_plain (slice_index lower_digits d) ≡ true
plain_digit d h = AllPass-from_list_all is_plain lower_digits refl d 0 h

pub plain_hex : (bytes : List ℕ) → are_bytes bytes ≡ true → is_plain_word (hex_word bytes) ≡ true
plain_hex bytes h = all_of_hex_word is_plain plain_digit refl bytes h

-- how long the words of a line are, each with the space or line feed after it
abbrev pub long_words : List (List ℕ) → ℕ
long_words [] = 0
long_words (word ∷ words) = suc (length word) + long_words words

-- the line of words is as long, but for the last of these
pub length-with_words : (word : List ℕ) (words : List (List ℕ)) → length (with_words word words) ≡ length word + long_words words
length-with_words word [] = omega arith
length-with_words word (other ∷ words) =
    let rest = length-with_words ((word ++ 32 ∷ []) ++ other) words in
    let front : length ((word ++ 32 ∷ []) ++ other) ≡ length word + suc (length other) = omega (arith, length-append (word ++ 32 ∷ []) other, length-append word (32 ∷ [])) in
    let step : long_words (other ∷ words) ≡ suc (length other) + long_words words = refl in
    omega (arith, rest, front, step)

-- the words of an event: none has a space, the first is not empty and begins no comment, and they fit into a line
pub record IsPlainEvent (e : LinkEvent) : Type 0 where
  pub plain : are_plain (event_words e) ≡ true
  pub first : ℕ
  pub rest : List ℕ
  pub others : List (List ℕ)
  pub begins : event_words e ≡ (first ∷ rest) ∷ others
  pub no_comment : nat_eq first 35 ≡ false
  pub short : long_words (event_words e) ≤ 16200

hex_short : (bytes : List ℕ) → are_bytes bytes ≡ true → nat_le (length bytes) 8000 ≡ true → length (hex_word bytes) ≤ 16001
hex_short bytes h few = let small : length bytes ≤ 8000 = grind (arith, nat_tests, few) in omega (arith, length-hex_word bytes, small)

bounded : (n q : ℕ) → n ≤ 8 → is_within 1 n q ≡ true → q < 2 ^ 64
bounded n q few h = let part = (and_parts (nat_le 1 q) (nat_le q n) h).1 in let high : q ≤ n = grind (arith, nat_tests, part) in omega (arith, high, few)

session_bounded : (session : ℕ) → is_within 1 4 session ≡ true → session < 2 ^ 64
session_bounded session h = let part = (and_parts (nat_le 1 session) (nat_le session 4) h).1 in let high : session ≤ 4 = grind (arith, nat_tests, part) in omega (arith, high)

pub plain_event : (n : ℕ) (e : LinkEvent) → n ≤ 8 → is_sound_event n e ≡ true → IsPlainEvent e
plain_event n (event.Connect q) few sound =
    let f = bounded n q few (sound) in
    record {
      plain = rw (plain_decimal q f) refl;
      first = 113;
      rest = decimal q;
      others = codes "connect" ∷ [];
      begins = refl;
      no_comment = refl;
      short = omega (arith, decimal_short q f);
    }
plain_event n (event.Retry q) few sound =
    let f = bounded n q few (sound) in
    record {
      plain = rw (plain_decimal q f) refl;
      first = 113;
      rest = decimal q;
      others = codes "retry" ∷ [];
      begins = refl;
      no_comment = refl;
      short = omega (arith, decimal_short q f);
    }
plain_event n (event.Open q summary) few sound =
    let k = (and_parts (is_within 1 n q) (summary == 0 || summary == 1 || summary == 255) sound).1 in
    let low : summary ≤ 255 = grind (arith, nat_tests, k) in
    let g : summary < 2 ^ 64 = omega (arith, low) in
    let f = bounded n q few ((and_parts (is_within 1 n q) (summary == 0 || summary == 1 || summary == 255) sound).0) in
    record {
      plain = rw (plain_decimal q f, plain_decimal summary g) refl;
      first = 113;
      rest = decimal q;
      others = codes "open" ∷ decimal summary ∷ [];
      begins = refl;
      no_comment = refl;
      short = omega (arith, decimal_short q f, decimal_short summary g);
    }
plain_event n (event.Send q session bytes) few sound =
    let parts = and_parts (is_within 1 n q && is_within 1 4 session) (fits_word bytes) sound in
    let w = and_parts (are_bytes bytes) (nat_le (length bytes) 8000) parts.1 in
    let g = session_bounded session (and_parts (is_within 1 n q) (is_within 1 4 session) parts.0).1 in
    let f = bounded n q few ((and_parts (is_within 1 n q) (is_within 1 4 session) parts.0).0) in
    record {
      plain = rw (plain_decimal q f, plain_decimal session g, plain_hex bytes w.0) refl;
      first = 113;
      rest = decimal q;
      others = codes "send" ∷ decimal session ∷ hex_word bytes ∷ [];
      begins = refl;
      no_comment = refl;
      short = omega (arith, decimal_short q f, decimal_short session g, hex_short bytes w.0 w.1);
    }
plain_event n (event.Beat q session) few sound =
    let g = session_bounded session (and_parts (is_within 1 n q) (is_within 1 4 session) sound).1 in
    let f = bounded n q few ((and_parts (is_within 1 n q) (is_within 1 4 session) sound).0) in
    record {
      plain = rw (plain_decimal q f, plain_decimal session g) refl;
      first = 113;
      rest = decimal q;
      others = codes "beat" ∷ decimal session ∷ [];
      begins = refl;
      no_comment = refl;
      short = omega (arith, decimal_short q f, decimal_short session g);
    }
plain_event n (event.End q session) few sound =
    let g = session_bounded session (and_parts (is_within 1 n q) (is_within 1 4 session) sound).1 in
    let f = bounded n q few ((and_parts (is_within 1 n q) (is_within 1 4 session) sound).0) in
    record {
      plain = rw (plain_decimal q f, plain_decimal session g) refl;
      first = 113;
      rest = decimal q;
      others = codes "end" ∷ decimal session ∷ [];
      begins = refl;
      no_comment = refl;
      short = omega (arith, decimal_short q f, decimal_short session g);
    }
plain_event n (event.Update q session true) few sound =
    let g = session_bounded session (and_parts (is_within 1 n q) (is_within 1 4 session) sound).1 in
    let f = bounded n q few ((and_parts (is_within 1 n q) (is_within 1 4 session) sound).0) in
    record {
      plain = rw (plain_decimal q f, plain_decimal session g) refl;
      first = 113;
      rest = decimal q;
      others = codes "update" ∷ decimal session ∷ codes "all" ∷ [];
      begins = refl;
      no_comment = refl;
      short = omega (arith, decimal_short q f, decimal_short session g);
    }
plain_event n (event.Update q session false) few sound =
    let g = session_bounded session (and_parts (is_within 1 n q) (is_within 1 4 session) sound).1 in
    let f = bounded n q few ((and_parts (is_within 1 n q) (is_within 1 4 session) sound).0) in
    record {
      plain = rw (plain_decimal q f, plain_decimal session g) refl;
      first = 113;
      rest = decimal q;
      others = codes "update" ∷ decimal session ∷ codes "key" ∷ [];
      begins = refl;
      no_comment = refl;
      short = omega (arith, decimal_short q f, decimal_short session g);
    }
plain_event n (event.Measure q None op) few sound =
    let parts = and_parts (is_within 1 n q && true) (nat_le op 255) sound in
    let low : op ≤ 255 = grind (arith, nat_tests, parts.1) in
    let o : op < 2 ^ 64 = omega (arith, low) in
    let f = bounded n q few ((and_parts (is_within 1 n q) true parts.0).0) in
    record {
      plain = rw (plain_decimal q f, plain_decimal op o) refl;
      first = 113;
      rest = decimal q;
      others = codes "measure" ∷ codes "-" ∷ decimal op ∷ [];
      begins = refl;
      no_comment = refl;
      short = omega (arith, decimal_short q f, decimal_short op o);
    }
plain_event n (event.Measure q (Some session) op) few sound =
    let parts = and_parts (is_within 1 n q && is_within 1 4 session) (nat_le op 255) sound in
    let low : op ≤ 255 = grind (arith, nat_tests, parts.1) in
    let o : op < 2 ^ 64 = omega (arith, low) in
    let g = session_bounded session (and_parts (is_within 1 n q) (is_within 1 4 session) parts.0).1 in
    let f = bounded n q few ((and_parts (is_within 1 n q) (is_within 1 4 session) parts.0).0) in
    record {
      plain = rw (plain_decimal q f, plain_decimal session g, plain_decimal op o) refl;
      first = 113;
      rest = decimal q;
      others = codes "measure" ∷ decimal session ∷ decimal op ∷ [];
      begins = refl;
      no_comment = refl;
      short = omega (arith, decimal_short q f, decimal_short session g, decimal_short op o);
    }
plain_event n (event.Reply q bytes) few sound =
    let parts = and_parts (is_within 1 n q) (fits_word bytes) sound in
    let w = and_parts (are_bytes bytes) (nat_le (length bytes) 8000) parts.1 in
    let f = bounded n q few parts.0 in
    record {
      plain = rw (plain_decimal q f, plain_hex bytes w.0) refl;
      first = 114;
      rest = 101 ∷ 112 ∷ 108 ∷ 121 ∷ [];
      others = requester_word q ∷ hex_word bytes ∷ [];
      begins = refl;
      no_comment = refl;
      short = omega (arith, decimal_short q f, hex_short bytes w.0 w.1);
    }
plain_event n (event.Deliver number) few sound =
    let low : number < 2 ^ 32 = grind (arith, nat_tests, sound) in
    let g : number < 2 ^ 64 = omega (arith, low) in
    record {
      plain = rw (plain_decimal number g) refl;
      first = 100;
      rest = 101 ∷ 108 ∷ 105 ∷ 118 ∷ 101 ∷ 114 ∷ [];
      others = decimal number ∷ [];
      begins = refl;
      no_comment = refl;
      short = omega (arith, decimal_short number g);
    }
plain_event n (event.Lose number) few sound =
    let low : number < 2 ^ 32 = grind (arith, nat_tests, sound) in
    let g : number < 2 ^ 64 = omega (arith, low) in
    record {
      plain = rw (plain_decimal number g) refl;
      first = 108;
      rest = 111 ∷ 115 ∷ 101 ∷ [];
      others = decimal number ∷ [];
      begins = refl;
      no_comment = refl;
      short = omega (arith, decimal_short number g);
    }
plain_event n (event.Pump count) few sound =
    let low : count ≤ 65536 = grind (arith, nat_tests, sound) in
    let g : count < 2 ^ 64 = omega (arith, low) in
    record {
      plain = rw (plain_decimal count g) refl;
      first = 112;
      rest = 117 ∷ 109 ∷ 112 ∷ [];
      others = decimal count ∷ [];
      begins = refl;
      no_comment = refl;
      short = omega (arith, decimal_short count g);
    }
plain_event n (event.Tick seconds) few sound =
    let low : seconds ≤ 1000000 = grind (arith, nat_tests, sound) in
    let g : seconds < 2 ^ 64 = omega (arith, low) in
    record {
      plain = rw (plain_decimal seconds g) refl;
      first = 116;
      rest = 105 ∷ 99 ∷ 107 ∷ [];
      others = decimal seconds ∷ [];
      begins = refl;
      no_comment = refl;
      short = omega (arith, decimal_short seconds g);
    }
plain_event n (event.Inject bytes) few sound =
    let w = and_parts (are_bytes bytes) (nat_le (length bytes) 8000) sound in
    record {
      plain = rw (plain_hex bytes w.0) refl;
      first = 105;
      rest = 110 ∷ 106 ∷ 101 ∷ 99 ∷ 116 ∷ [];
      others = hex_word bytes ∷ [];
      begins = refl;
      no_comment = refl;
      short = omega (arith, hex_short bytes w.0 w.1);
    }
plain_event n event.Show few sound =
    record {
      plain = refl;
      first = 115;
      rest = 104 ∷ 111 ∷ 119 ∷ [];
      others = [];
      begins = refl;
      no_comment = refl;
      short = omega (arith);
    }
