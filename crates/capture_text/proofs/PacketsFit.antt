-- The packets of a text that is read as a capture are words of a line, and not too many.
use Rattle.std.proofs.Common.{◌≡◌, ℕ, zero, suc, ◌+◌, ◌<◌, ◌≤◌, ◌++◌, List, [], ◌∷◌, length, refl, ap, subst, Bool, true, false, ◌&&◌, ◌||◌, nat_lt, arith, length-append, Option, Some, None, Result, Ok, Err, cond, not}
use Rattle.std.specs.Prelude.{nat_le}
use Rattle.std.specs.List.{list_all}
use Rattle.std.specs.Option.{option_map, unwrap_or}
use Rattle.std.specs.Result.{result_unwrap_or}
use Rattle.std.proofs.lemmas.Bool.{and_parts, lt-ltb}
use Rattle.std.proofs.lemmas.Bool.Decides.{nat_tests}
use Rattle.hex.specs.Hex.{decode_of, IsBytes}
use Rattle.hex.specs.declared.error.FromHexError.{FromHexError}
use Rattle.hex.proofs.HexLemmas.{decode_of-ok}
use Rattle.capture_text.specs.Laws.{CapturedPacketsFit}
use Rattle.script_text.specs.Configuring.{config_kind, config_of, nothing_given}
use Rattle.script_text.specs.HexWords.{bytes_of, is_hex_in, is_none_word, is_pairs, most_bytes}
use Rattle.script_text.specs.Lines.{has_words, lines_of, word, is_too_long, is_passed_over}
use Rattle.script_text.specs.Reading.{line_fault, after_line}
use Rattle.script_text.specs.ScriptText.{after_capture, after_capture_kind, capture_fault, capture_in, capture_kind_fault, capture_with, is_full, is_next, is_packet, packet_fault, whole_capture}
use Rattle.script_text.specs.Sound.{are_bytes, fits_word}
use Rattle.script_text.specs.declared.configuration.config.ScriptConfig.{ScriptConfig}
use Rattle.script_text.specs.declared.configuration.config_kind.ConfigKind.{ConfigKind}
use Rattle.script_text.specs.declared.texts.capture_text.CaptureReader.{CaptureReader}
use Rattle.script_text.specs.declared.texts.faults.LineFault.{LineFault}
use Rattle.script_text.specs.declared.texts.faults.LineFault.TheVariants.{Hex, LineTooLong, Number, Order, TooManyEvents, Unknown, Words}
use Rattle.script_text.specs.declared.texts.script.Capture.{Capture}
use Rattle.capture_text.proofs.CaptureBack.{no_fault, others_read, read_capture, whole_is}

-- ---- a word

all_bytes : (xs : List ℕ) → IsBytes xs → are_bytes xs ≡ true
all_bytes [] h = refl
all_bytes (x ∷ xs) h =
    let first : x < 256 = h zero in
    let small : nat_lt x 256 ≡ true = lt-ltb x 256 first in
    rw small (all_bytes xs (λ i. h (suc i)))

bytes_by : (word : List ℕ) (r : Result (List ℕ) FromHexError) → decode_of word ≡ r → are_bytes (result_unwrap_or r []) ≡ true
bytes_by word (Ok bytes) e = all_bytes bytes (decode_of-ok word bytes e).3
bytes_by word (Err x) e = refl

bytes_are_bytes : (word : List ℕ) → are_bytes (bytes_of word) ≡ true
unfolding bytes_of
bytes_are_bytes word = bytes_by word (decode_of word) refl

both_hold : (a b : Bool) → a ≡ true → b ≡ true → (a && b) ≡ true
both_hold true b x y = y
both_hold false b x y = x

fits : (word : List ℕ) → is_hex_in 0 most_bytes word ≡ true → fits_word (bytes_of word) ≡ true
unfolding is_hex_in
fits word h =
    let few = (and_parts ((is_none_word word || is_pairs word) && nat_le 0 (length (bytes_of word))) (nat_le (length (bytes_of word)) 8000) h).1 in
    both_hold (are_bytes (bytes_of word)) (nat_le (length (bytes_of word)) 8000) (bytes_are_bytes word) few

-- ---- a line

test_passed : (b : Bool) (f : LineFault) (others : Option LineFault) → cond b (Some f) others ≡ None → (b ≡ false) × (others ≡ None)
test_passed true f others h = absurd (cc h)
test_passed false f others h = (refl, h)

not_false : (b : Bool) → not b ≡ false → b ≡ true
not_false true h = refl
not_false false h = absurd (cc h)

record IsPacket (reader : CaptureReader) (line : List ℕ) : Type 0 where
  hex : is_hex_in 0 most_bytes (word 2 line) ≡ true
  room : is_full (length reader.packets) ≡ false

packet_facts : (reader : CaptureReader) (line : List ℕ) → packet_fault reader line ≡ None → IsPacket reader line
unfolding packet_fault
packet_facts reader line h =
    let known = test_passed (not (is_packet (word 0 line))) Unknown _ h in
    let ended = test_passed (not reader.given.ended) Order _ known.1 in
    let words = test_passed (not (has_words 3 line)) Words _ ended.1 in
    let next = test_passed (not (is_next (length reader.packets) (word 1 line))) Number _ words.1 in
    let hex = test_passed (not (is_hex_in 0 most_bytes (word 2 line))) Hex _ next.1 in
    let full = test_passed (is_full (length reader.packets)) TooManyEvents None hex.1 in
    record { hex = not_false _ hex.0; room = full.0 }

record Fits (reader : CaptureReader) : Type 0 where
  words : list_all fits_word reader.packets ≡ true
  few : length reader.packets ≤ 100000

all_and_one : (packets : List (List ℕ)) (packet : List ℕ) → list_all fits_word packets ≡ true → fits_word packet ≡ true → list_all fits_word (packets ++ packet ∷ []) ≡ true
all_and_one [] packet all one = rw one refl
all_and_one (p ∷ others) packet all one =
    let parts = and_parts (fits_word p) (list_all fits_word others) all in
    both_hold (fits_word p) (list_all fits_word (others ++ packet ∷ [])) parts.0 (all_and_one others packet parts.1 one)

by_kind : (before : CaptureReader) (line : List ℕ) (kind : Option ConfigKind) → Fits before → capture_kind_fault before kind line ≡ None → Fits (after_capture_kind before kind line)
by_kind before line (Some kind) old h = record { words = old.words; few = old.few }
by_kind before line None old h =
    let is = packet_facts before line h in
    let one = length-append before.packets (bytes_of (word 2 line) ∷ []) in
    let few : length before.packets < 100000 = grind (arith, nat_tests, is.room) in
    record { words = all_and_one before.packets (bytes_of (word 2 line)) old.words (fits (word 2 line) is.hex); few = omega (arith, one, few) }

by_tests : (long passed : Bool) (before next : CaptureReader) (fault : Option LineFault) → (fault ≡ None → Fits next) → Fits before → cond long (Some LineTooLong) (cond passed None fault) ≡ None → Fits (cond passed before next)
by_tests true passed before next fault goes old h = absurd (cc h)
by_tests false true before next fault goes old h = old
by_tests false false before next fault goes old h = goes h

by_line : (before : CaptureReader) (at : ℕ) (line : List ℕ) → Fits before → line_fault capture_fault before line ≡ None → Fits (after_line after_capture before at line)
by_line before at line old h =
    by_tests (is_too_long line) (is_passed_over line) before (after_capture before at line) (capture_fault before line) (λ good. by_kind before line (config_kind (word 0 line)) old good) old h

-- ---- all lines

packets_are : (o : Option ScriptConfig) (packets : List (List ℕ)) (capture : Capture) → option_map (capture_with packets) o ≡ Some capture → packets ≡ capture.packets
packets_are None packets capture h = absurd (cc h)
packets_are (Some config) packets capture h = ap (λ (s : Option Capture). (unwrap_or s capture).packets) h

record FitsCapture (capture : Capture) : Type 0 where
  words : list_all fits_word capture.packets ≡ true
  few : length capture.packets ≤ 100000

all_lines : (at : ℕ) (before : CaptureReader) (lines : List (List ℕ)) (capture : Capture) → Fits before → read_capture at before lines ≡ Ok capture → FitsCapture capture
all_lines at before [] capture old h =
    let are = packets_are (config_of before.given) before.packets capture (whole_is at (whole_capture before) capture h) in
    record { words = subst (λ (ps : List (List ℕ)). list_all fits_word ps ≡ true) are old.words; few = subst (λ (ps : List (List ℕ)). length ps ≤ 100000) are old.few }
all_lines at before (line ∷ lines) capture old h =
    let after = after_line after_capture before at line in
    let good = no_fault at (line_fault capture_fault before line) (read_capture (at + 1) after lines) capture h in
    all_lines (at + 1) after lines capture (by_line before at line old good) (others_read at (line_fault capture_fault before line) (read_capture (at + 1) after lines) capture h)

pub packets_fit : CapturedPacketsFit
unfolding capture_in
packets_fit text capture h =
    let start : CaptureReader = record { given = nothing_given; packets = [] } in
    let all = all_lines 1 start (lines_of text) capture (record { words = refl; few = omega arith }) h in
    (all.words, all.few)
