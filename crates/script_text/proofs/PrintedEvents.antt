-- Each printed event is read back as it was.
use Rattle.std.proofs.Common.{◌≡◌, ℕ, ◌+◌, ◌-◌, ◌^◌, ◌<◌, ◌≤◌, List, [], ◌∷◌, length, refl, ap, true, false, ◌&&◌, ◌||◌, nat_eq, nat_lt, arith, Some, None}
use Rattle.std.specs.Prelude.{nat_le, ◌==◌, codes}
use Rattle.std.specs.Fmt.{decimal}
use Rattle.std.proofs.lemmas.Bool.{and_parts, ne_eqb}
use Rattle.std.proofs.lemmas.Bool.Decides.{nat_tests}
use Rattle.std.proofs.lemmas.Fmt.{decimal_digit}
use Rattle.script_text.specs.Choices.{requester_in}
use Rattle.script_text.specs.Commands.{command_kind, is_summary, plain_fault, open_fault, send_fault, session_fault, update_fault, measure_fault}
use Rattle.script_text.specs.Configuring.{config_kind}
use Rattle.script_text.specs.EventLines.{event_kind, event_fault, event_of, other_kind, reply_fault, number_fault, inject_fault, show_fault}
use Rattle.script_text.specs.HexWords.{is_hex_in, bytes_of, is_none_word}
use Rattle.script_text.specs.Lines.{words_of, word}
use Rattle.script_text.specs.Numbers.{is_number_in, value_of}
use Rattle.script_text.specs.Printing.{event_words}
use Rattle.script_text.specs.Sound.{is_within, is_sound_event, fits_word, are_bytes}
use Rattle.trace_text.specs.Spelling.{hex_word, requester_word}
use Rattle.script_text.specs.declared.events.event.LinkEvent.{LinkEvent}
use Rattle.script_text.specs.declared.events.event.LinkEvent.TheVariants as event
use Rattle.script_text.specs.declared.events.event_kind.EventKind.{EventKind}
use Rattle.script_text.specs.declared.events.event_kind.EventKind.TheVariants as kind
use Rattle.script_text.specs.declared.events.command.CommandKind.TheVariants as command
use Rattle.script_text.proofs.PrintedNumbers.{value_of-decimal, is_number-decimal}
use Rattle.script_text.proofs.PrintedBytes.{bytes_of-hex_word, is_hex_in-hex_word}

-- what a line of these words is read as
pub record IsReadAs (n : ℕ) (line : List ℕ) (e : LinkEvent) : Type 0 where
  pub kind : EventKind
  pub is_kind : event_kind line ≡ Some kind
  pub good : event_fault n kind line ≡ None
  pub value : event_of kind line ≡ e
  pub other : config_kind (word 0 line) ≡ None

-- the number of a decimal word in its range
pub number_in-decimal : (low high n : ℕ) → low ≤ n → n ≤ high → n < 2 ^ 64 → is_number_in low high (decimal n) ≡ true
number_in-decimal low high n more less fits = rw (value_of-decimal n fits, is_number-decimal n fits) (grind (arith, nat_tests))

-- a requester is read back
requester_is : (n q : ℕ) → is_within 1 n q ≡ true → n ≤ 8 → requester_word q ≡ 113 ∷ (48 + q) ∷ []
requester_is n q h few =
    let parts = and_parts (nat_le 1 q) (nat_le q n) h in
    let high : q < 10 = grind (arith, nat_tests, parts.1) in
    ap (λ w. 113 ∷ w) (decimal_digit q high)

requester_in-word : (n q : ℕ) → is_within 1 n q ≡ true → n ≤ 8 → requester_in (113 ∷ (48 + q) ∷ []) ≡ Some q
unfolding requester_in
requester_in-word n q h few =
    let parts = and_parts (nat_le 1 q) (nat_le q n) h in
    let low : nat_le 49 (48 + q) ≡ true = grind (arith, nat_tests, parts.0) in
    let high : nat_le (48 + q) 56 ≡ true = grind (arith, nat_tests, parts.1) in
    rw (low, high) (ap Some (omega arith))

not_configuration : (c : ℕ) → config_kind (113 ∷ c ∷ []) ≡ None
unfolding config_kind
not_configuration c = refl

is_named : (n q : ℕ) → is_within 1 n q ≡ true → nat_lt n q ≡ false
is_named n q h = let part = (and_parts (nat_le 1 q) (nat_le q n) h).1 in grind (arith, nat_tests, part)

-- a session is read back
session_of : (session : ℕ) → is_within 1 4 session ≡ true → (is_number_in 1 4 (decimal session) ≡ true) × (value_of (decimal session) ≡ session)
session_of session h =
    let parts = and_parts (nat_le 1 session) (nat_le session 4) h in
    let low : 1 ≤ session = grind (arith, nat_tests, parts.0) in
    let high : session ≤ 4 = grind (arith, nat_tests, parts.1) in
    (number_in-decimal 1 4 session low high (omega arith), value_of-decimal session (omega arith))

-- bytes are read back
bytes_of_word : (bytes : List ℕ) → fits_word bytes ≡ true → (is_hex_in 0 8000 (hex_word bytes) ≡ true) × (bytes_of (hex_word bytes) ≡ bytes)
bytes_of_word bytes h =
    let parts = and_parts (are_bytes bytes) (nat_le (length bytes) 8000) h in
    let few : length bytes ≤ 8000 = grind (arith, nat_tests, parts.1) in
    (is_hex_in-hex_word 0 8000 bytes parts.0 (omega arith) few, bytes_of-hex_word bytes parts.0)

-- a byte is read back
byte_of : (op : ℕ) → nat_le op 255 ≡ true → (is_number_in 0 255 (decimal op) ≡ true) × (value_of (decimal op) ≡ op)
byte_of op h =
    let high : op ≤ 255 = grind (arith, nat_tests, h) in
    (number_in-decimal 0 255 op (omega arith) high (omega arith), value_of-decimal op (omega arith))

-- a number is read back
number_of : (limit n : ℕ) → n ≤ limit → limit < 2 ^ 64 → (is_number_in 0 limit (decimal n) ≡ true) × (value_of (decimal n) ≡ n)
number_of limit n h fits = (number_in-decimal 0 limit n (omega arith) h (omega arith), value_of-decimal n (omega arith))

-- a kind of summary is read back
summary_of : (summary : ℕ) → (summary == 0 || summary == 1 || summary == 255) ≡ true → (is_summary (decimal summary) ≡ true) × (value_of (decimal summary) ≡ summary)
summary_of summary h =
    let high : summary ≤ 255 = grind (arith, nat_tests, h) in
    let value = value_of-decimal summary (omega arith) in
    (rw (number_in-decimal 0 255 summary (omega arith) high (omega arith), value) h, value)

-- a number is not the word for no bytes
not_none : (n : ℕ) → is_within 1 4 n ≡ true → is_none_word (decimal n) ≡ false
not_none n h =
    let part = (and_parts (nat_le 1 n) (nat_le n 4) h).1 in
    let small : n < 10 = grind (arith, nat_tests, part) in
    let differs : nat_eq (48 + n) 45 ≡ false = ne_eqb _ _ (omega arith) in
    rw (decimal_digit n small, differs) refl

no_requester_reply : requester_in (codes "reply") ≡ None
unfolding requester_in
no_requester_reply = refl

no_requester_deliver : requester_in (codes "deliver") ≡ None
unfolding requester_in
no_requester_deliver = refl

no_requester_lose : requester_in (codes "lose") ≡ None
unfolding requester_in
no_requester_lose = refl

no_requester_pump : requester_in (codes "pump") ≡ None
unfolding requester_in
no_requester_pump = refl

no_requester_tick : requester_in (codes "tick") ≡ None
unfolding requester_in
no_requester_tick = refl

no_requester_inject : requester_in (codes "inject") ≡ None
unfolding requester_in
no_requester_inject = refl

no_requester_show : requester_in (codes "show") ≡ None
unfolding requester_in
no_requester_show = refl

-- ---- commands

reads_connect : (n : ℕ) (q : ℕ) (line : List ℕ) → n ≤ 8 → is_sound_event n (event.Connect q) ≡ true → words_of line ≡ event_words (event.Connect q) → IsReadAs n line (event.Connect q)
unfolding command_kind plain_fault
reads_connect n q line few sound words =
    record {
      kind = kind.Command q command.Connect;
      is_kind = rw (words, requester_is n q sound few, requester_in-word n q sound few) refl;
      good = rw (words, is_named n q sound) refl;
      value = refl;
      other = rw (words, requester_is n q sound few) (not_configuration (48 + q));
    }

reads_retry : (n : ℕ) (q : ℕ) (line : List ℕ) → n ≤ 8 → is_sound_event n (event.Retry q) ≡ true → words_of line ≡ event_words (event.Retry q) → IsReadAs n line (event.Retry q)
unfolding command_kind plain_fault
reads_retry n q line few sound words =
    record {
      kind = kind.Command q command.Retry;
      is_kind = rw (words, requester_is n q sound few, requester_in-word n q sound few) refl;
      good = rw (words, is_named n q sound) refl;
      value = refl;
      other = rw (words, requester_is n q sound few) (not_configuration (48 + q));
    }

reads_open : (n : ℕ) (q : ℕ) (summary : ℕ) (line : List ℕ) → n ≤ 8 → is_sound_event n (event.Open q summary) ≡ true → words_of line ≡ event_words (event.Open q summary) → IsReadAs n line (event.Open q summary)
unfolding command_kind open_fault
reads_open n q summary line few sound words =
    let named = (and_parts (is_within 1 n q) (summary == 0 || summary == 1 || summary == 255) sound).0 in
    let s = summary_of summary (and_parts (is_within 1 n q) (summary == 0 || summary == 1 || summary == 255) sound).1 in
    record {
      kind = kind.Command q command.Open;
      is_kind = rw (words, requester_is n q named few, requester_in-word n q named few) refl;
      good = rw (words, s.0, is_named n q named) refl;
      value = rw (words, s.1) refl;
      other = rw (words, requester_is n q named few) (not_configuration (48 + q));
    }

reads_send : (n : ℕ) (q : ℕ) (session : ℕ) (bytes : List ℕ) (line : List ℕ) → n ≤ 8 → is_sound_event n (event.Send q session bytes) ≡ true → words_of line ≡ event_words (event.Send q session bytes) → IsReadAs n line (event.Send q session bytes)
unfolding command_kind send_fault
reads_send n q session bytes line few sound words =
    let parts = and_parts (is_within 1 n q && is_within 1 4 session) (fits_word bytes) sound in
    let named = (and_parts (is_within 1 n q) (is_within 1 4 session) parts.0).0 in
    let s = session_of session (and_parts (is_within 1 n q) (is_within 1 4 session) parts.0).1 in
    let b = bytes_of_word bytes parts.1 in
    record {
      kind = kind.Command q command.Send;
      is_kind = rw (words, requester_is n q named few, requester_in-word n q named few) refl;
      good = rw (words, s.0, b.0, is_named n q named) refl;
      value = rw (words, s.1, b.1) refl;
      other = rw (words, requester_is n q named few) (not_configuration (48 + q));
    }

reads_beat : (n : ℕ) (q : ℕ) (session : ℕ) (line : List ℕ) → n ≤ 8 → is_sound_event n (event.Beat q session) ≡ true → words_of line ≡ event_words (event.Beat q session) → IsReadAs n line (event.Beat q session)
unfolding command_kind session_fault
reads_beat n q session line few sound words =
    let named = (and_parts (is_within 1 n q) (is_within 1 4 session) sound).0 in
    let s = session_of session (and_parts (is_within 1 n q) (is_within 1 4 session) sound).1 in
    record {
      kind = kind.Command q command.Beat;
      is_kind = rw (words, requester_is n q named few, requester_in-word n q named few) refl;
      good = rw (words, s.0, is_named n q named) refl;
      value = rw (words, s.1) refl;
      other = rw (words, requester_is n q named few) (not_configuration (48 + q));
    }

reads_end : (n : ℕ) (q : ℕ) (session : ℕ) (line : List ℕ) → n ≤ 8 → is_sound_event n (event.End q session) ≡ true → words_of line ≡ event_words (event.End q session) → IsReadAs n line (event.End q session)
unfolding command_kind session_fault
reads_end n q session line few sound words =
    let named = (and_parts (is_within 1 n q) (is_within 1 4 session) sound).0 in
    let s = session_of session (and_parts (is_within 1 n q) (is_within 1 4 session) sound).1 in
    record {
      kind = kind.Command q command.End;
      is_kind = rw (words, requester_is n q named few, requester_in-word n q named few) refl;
      good = rw (words, s.0, is_named n q named) refl;
      value = rw (words, s.1) refl;
      other = rw (words, requester_is n q named few) (not_configuration (48 + q));
    }

reads_update_true : (n : ℕ) (q : ℕ) (session : ℕ) (line : List ℕ) → n ≤ 8 → is_sound_event n (event.Update q session true) ≡ true → words_of line ≡ event_words (event.Update q session true) → IsReadAs n line (event.Update q session true)
unfolding command_kind update_fault
reads_update_true n q session line few sound words =
    let named = (and_parts (is_within 1 n q) (is_within 1 4 session) sound).0 in
    let s = session_of session (and_parts (is_within 1 n q) (is_within 1 4 session) sound).1 in
    record {
      kind = kind.Command q command.Update;
      is_kind = rw (words, requester_is n q named few, requester_in-word n q named few) refl;
      good = rw (words, s.0, is_named n q named) refl;
      value = rw (words, s.1) refl;
      other = rw (words, requester_is n q named few) (not_configuration (48 + q));
    }

reads_update_false : (n : ℕ) (q : ℕ) (session : ℕ) (line : List ℕ) → n ≤ 8 → is_sound_event n (event.Update q session false) ≡ true → words_of line ≡ event_words (event.Update q session false) → IsReadAs n line (event.Update q session false)
unfolding command_kind update_fault
reads_update_false n q session line few sound words =
    let named = (and_parts (is_within 1 n q) (is_within 1 4 session) sound).0 in
    let s = session_of session (and_parts (is_within 1 n q) (is_within 1 4 session) sound).1 in
    record {
      kind = kind.Command q command.Update;
      is_kind = rw (words, requester_is n q named few, requester_in-word n q named few) refl;
      good = rw (words, s.0, is_named n q named) refl;
      value = rw (words, s.1) refl;
      other = rw (words, requester_is n q named few) (not_configuration (48 + q));
    }

reads_measure_clear : (n : ℕ) (q : ℕ) (op : ℕ) (line : List ℕ) → n ≤ 8 → is_sound_event n (event.Measure q None op) ≡ true → words_of line ≡ event_words (event.Measure q None op) → IsReadAs n line (event.Measure q None op)
unfolding command_kind measure_fault
reads_measure_clear n q op line few sound words =
    let parts = and_parts (is_within 1 n q && true) (nat_le op 255) sound in
    let named = (and_parts (is_within 1 n q) true parts.0).0 in
    let o = byte_of op parts.1 in
    record {
      kind = kind.Command q command.Measure;
      is_kind = rw (words, requester_is n q named few, requester_in-word n q named few) refl;
      good = rw (words, o.0, is_named n q named) refl;
      value = rw (words, o.1) refl;
      other = rw (words, requester_is n q named few) (not_configuration (48 + q));
    }

reads_measure_in_session : (n : ℕ) (q : ℕ) (session : ℕ) (op : ℕ) (line : List ℕ) → n ≤ 8 → is_sound_event n (event.Measure q (Some session) op) ≡ true → words_of line ≡ event_words (event.Measure q (Some session) op) → IsReadAs n line (event.Measure q (Some session) op)
unfolding command_kind measure_fault
reads_measure_in_session n q session op line few sound words =
    let parts = and_parts (is_within 1 n q && is_within 1 4 session) (nat_le op 255) sound in
    let named = (and_parts (is_within 1 n q) (is_within 1 4 session) parts.0).0 in
    let s = session_of session (and_parts (is_within 1 n q) (is_within 1 4 session) parts.0).1 in
    let o = byte_of op parts.1 in
    let none_not = not_none session (and_parts (is_within 1 n q) (is_within 1 4 session) parts.0).1 in
    record {
      kind = kind.Command q command.Measure;
      is_kind = rw (words, requester_is n q named few, requester_in-word n q named few) refl;
      good = rw (words, none_not, s.0, o.0, is_named n q named) refl;
      value = rw (words, none_not, s.1, o.1) refl;
      other = rw (words, requester_is n q named few) (not_configuration (48 + q));
    }

-- ---- other events

reads_reply : (n : ℕ) (q : ℕ) (bytes : List ℕ) (line : List ℕ) → n ≤ 8 → is_sound_event n (event.Reply q bytes) ≡ true → words_of line ≡ event_words (event.Reply q bytes) → IsReadAs n line (event.Reply q bytes)
unfolding other_kind config_kind reply_fault
reads_reply n q bytes line few sound words =
    let named = (and_parts (is_within 1 n q) (fits_word bytes) sound).0 in
    let b = bytes_of_word bytes (and_parts (is_within 1 n q) (fits_word bytes) sound).1 in
    record {
      kind = kind.Reply;
      is_kind = rw (words, no_requester_reply) refl;
      good = rw (words, b.0, requester_is n q named few, requester_in-word n q named few, (and_parts (nat_le 1 q) (nat_le q n) named).1) refl;
      value = rw (words, b.1, requester_is n q named few, requester_in-word n q named few) refl;
      other = rw words refl;
    }

reads_deliver : (n : ℕ) (number : ℕ) (line : List ℕ) → n ≤ 8 → is_sound_event n (event.Deliver number) ≡ true → words_of line ≡ event_words (event.Deliver number) → IsReadAs n line (event.Deliver number)
unfolding other_kind config_kind number_fault
reads_deliver n number line few sound words =
    let m = number_of (2 ^ 32 - 1) number (grind (arith, nat_tests, sound)) (omega arith) in
    record {
      kind = kind.Deliver;
      is_kind = rw (words, no_requester_deliver) refl;
      good = rw (words, m.0) refl;
      value = rw (words, m.1) refl;
      other = rw words refl;
    }

reads_lose : (n : ℕ) (number : ℕ) (line : List ℕ) → n ≤ 8 → is_sound_event n (event.Lose number) ≡ true → words_of line ≡ event_words (event.Lose number) → IsReadAs n line (event.Lose number)
unfolding other_kind config_kind number_fault
reads_lose n number line few sound words =
    let m = number_of (2 ^ 32 - 1) number (grind (arith, nat_tests, sound)) (omega arith) in
    record {
      kind = kind.Lose;
      is_kind = rw (words, no_requester_lose) refl;
      good = rw (words, m.0) refl;
      value = rw (words, m.1) refl;
      other = rw words refl;
    }

reads_pump : (n : ℕ) (count : ℕ) (line : List ℕ) → n ≤ 8 → is_sound_event n (event.Pump count) ≡ true → words_of line ≡ event_words (event.Pump count) → IsReadAs n line (event.Pump count)
unfolding other_kind config_kind number_fault
reads_pump n count line few sound words =
    let m = number_of (65536) count (grind (arith, nat_tests, sound)) (omega arith) in
    record {
      kind = kind.Pump;
      is_kind = rw (words, no_requester_pump) refl;
      good = rw (words, m.0) refl;
      value = rw (words, m.1) refl;
      other = rw words refl;
    }

reads_tick : (n : ℕ) (seconds : ℕ) (line : List ℕ) → n ≤ 8 → is_sound_event n (event.Tick seconds) ≡ true → words_of line ≡ event_words (event.Tick seconds) → IsReadAs n line (event.Tick seconds)
unfolding other_kind config_kind number_fault
reads_tick n seconds line few sound words =
    let m = number_of (1000000) seconds (grind (arith, nat_tests, sound)) (omega arith) in
    record {
      kind = kind.Tick;
      is_kind = rw (words, no_requester_tick) refl;
      good = rw (words, m.0) refl;
      value = rw (words, m.1) refl;
      other = rw words refl;
    }

reads_inject : (n : ℕ) (bytes : List ℕ) (line : List ℕ) → n ≤ 8 → is_sound_event n (event.Inject bytes) ≡ true → words_of line ≡ event_words (event.Inject bytes) → IsReadAs n line (event.Inject bytes)
unfolding other_kind config_kind inject_fault
reads_inject n bytes line few sound words =
    let b = bytes_of_word bytes sound in
    record {
      kind = kind.Inject;
      is_kind = rw (words, no_requester_inject) refl;
      good = rw (words, b.0) refl;
      value = rw (words, b.1) refl;
      other = rw words refl;
    }

reads_show : (n : ℕ) (line : List ℕ) → n ≤ 8 → is_sound_event n event.Show ≡ true → words_of line ≡ event_words event.Show → IsReadAs n line event.Show
unfolding other_kind config_kind show_fault
reads_show n line few sound words =
    record {
      kind = kind.Show;
      is_kind = rw (words, no_requester_show) refl;
      good = rw words refl;
      value = refl;
      other = rw words refl;
    }

-- ---- every event

pub reads_event : (n : ℕ) (e : LinkEvent) (line : List ℕ) → n ≤ 8 → is_sound_event n e ≡ true → words_of line ≡ event_words e → IsReadAs n line e
reads_event n (event.Connect q) line few sound words = reads_connect n q line few sound words
reads_event n (event.Retry q) line few sound words = reads_retry n q line few sound words
reads_event n (event.Open q summary) line few sound words = reads_open n q summary line few sound words
reads_event n (event.Send q session bytes) line few sound words = reads_send n q session bytes line few sound words
reads_event n (event.Beat q session) line few sound words = reads_beat n q session line few sound words
reads_event n (event.End q session) line few sound words = reads_end n q session line few sound words
reads_event n (event.Update q session true) line few sound words = reads_update_true n q session line few sound words
reads_event n (event.Update q session false) line few sound words = reads_update_false n q session line few sound words
reads_event n (event.Measure q None op) line few sound words = reads_measure_clear n q op line few sound words
reads_event n (event.Measure q (Some session) op) line few sound words = reads_measure_in_session n q session op line few sound words
reads_event n (event.Reply q bytes) line few sound words = reads_reply n q bytes line few sound words
reads_event n (event.Deliver number) line few sound words = reads_deliver n number line few sound words
reads_event n (event.Lose number) line few sound words = reads_lose n number line few sound words
reads_event n (event.Inject bytes) line few sound words = reads_inject n bytes line few sound words
reads_event n (event.Pump count) line few sound words = reads_pump n count line few sound words
reads_event n (event.Tick seconds) line few sound words = reads_tick n seconds line few sound words
reads_event n event.Show line few sound words = reads_show n line few sound words
