-- Packets that are written after a configuration are read back.
use Rattle.std.proofs.Common.{◌≡◌, ℕ, suc, ◌+◌, ◌-◌, ◌^◌, ◌<◌, ◌≤◌, ◌++◌, List, [], ◌∷◌, length, refl, sym, ap, subst, get_or, ◌∙◌, Bool, true, false, nat_eq, arith, append_assoc, length-append, Option, Some, None, Result, Ok, cond}
use Rattle.std.specs.Prelude.{codes, nat_le}
use Rattle.std.specs.Fmt.{decimal}
use Rattle.std.specs.List.{list_all}
use Rattle.std.specs.Option.{option_map, unwrap_or}
use Rattle.std.specs.Result.{result_unwrap_or}
use Rattle.std.proofs.lemmas.Bool.{and_parts, eq-eqb, ne_eqb}
use Rattle.std.proofs.lemmas.Bool.Decides.{nat_tests}
use Rattle.std.proofs.lemmas.List.{append-nil}
use Rattle.capture_text.specs.Laws.{WrittenCaptureIsRead}
use Rattle.capture_text.specs.Written.{packet_lines}
use Rattle.spdm_grammar.specs.Lines.Line.{Packet}
use Rattle.script_text.specs.Configuring.{config_kind, config_of, config_with, nothing_given}
use Rattle.script_text.specs.HexWords.{bytes_of}
use Rattle.script_text.specs.Lines.{lines_of, word, words_of, is_too_long, is_passed_over}
use Rattle.script_text.specs.Reading.{read_lines, line_fault, after_line, unless_bad, whole_or_missing}
use Rattle.script_text.specs.ScriptText.{after_capture, capture_fault, capture_in, capture_with, is_full, packet_fault, whole_capture}
use Rattle.script_text.specs.Sound.{are_bytes, fits_word}
use Rattle.script_text.specs.declared.configuration.config.ScriptConfig.{ScriptConfig}
use Rattle.script_text.specs.declared.configuration.partial_config.PartialConfig.{PartialConfig}
use Rattle.script_text.specs.declared.texts.capture_text.CaptureReader.{CaptureReader}
use Rattle.script_text.specs.declared.texts.faults.LineFault.{LineFault}
use Rattle.script_text.specs.declared.texts.faults.ScriptFault.{ScriptFault}
use Rattle.script_text.specs.declared.texts.script.Capture.{Capture}
use Rattle.capture_text.proofs.PacketWords.{plain_decimal, plain_hex, length-with_words, long_words}
use Rattle.capture_text.proofs.HexWords.{bytes_of-hex_word, is_hex_in-hex_word, length-hex_word}
use Rattle.capture_text.proofs.PacketWords.{number_in-decimal}
use Rattle.capture_text.proofs.LineWords.{are_plain, line_of, words_of-line_of_some, line_is_text, lines_of-line, lines_of-ended, with_words-append}
use Rattle.capture_text.proofs.Numbers.{value_of-decimal}
use Rattle.trace_text.specs.Spelling.{hex_word, with_words}
use Rattle.trace_text.specs.TraceLines.{line_text}
use Rattle.trace_text.proofs.Decimals.{decimal_short}

-- the words of a packet's line, and the line without its line feed
abbrev packet_words : ℕ → List ℕ → List (List ℕ)
packet_words number packet = codes "packet" ∷ decimal number ∷ hex_word packet ∷ []

abbrev packet_line : ℕ → List ℕ → List ℕ
packet_line number packet = line_of (packet_words number packet)

line_is : (number : ℕ) (packet : List ℕ) → line_text (Packet number packet) ≡ packet_line number packet ++ 10 ∷ []
unfolding line_text
line_is number packet = refl

are_plain_words : (number : ℕ) (packet : List ℕ) → number < 2 ^ 64 → are_bytes packet ≡ true → are_plain (packet_words number packet) ≡ true
are_plain_words number packet small bytes = rw (plain_decimal number small, plain_hex packet bytes) refl

words_are : (number : ℕ) (packet : List ℕ) → number < 2 ^ 64 → are_bytes packet ≡ true → words_of (packet_line number packet) ≡ packet_words number packet
words_are number packet small bytes = words_of-line_of_some (packet_words number packet) (are_plain_words number packet small bytes) (omega arith)

is_short : (number : ℕ) (packet : List ℕ) → number < 2 ^ 64 → length packet ≤ 8000 → is_too_long (packet_line number packet) ≡ false
is_short number packet small few =
    let long = length-with_words (codes "packet") (decimal number ∷ hex_word packet ∷ []) in
    let step : long_words (decimal number ∷ hex_word packet ∷ []) ≡ suc (length (decimal number)) + (suc (length (hex_word packet)) + 0) = refl in
    let fits : length (packet_line number packet) ≤ 16384 = omega (arith, long, step, decimal_short number small, length-hex_word packet) in
    grind (arith, nat_tests, fits)

is_shown : (number : ℕ) (packet : List ℕ) → is_passed_over (packet_line number packet) ≡ false
is_shown number packet =
    let first : packet_line number packet ≡ 112 ∷ with_words (97 ∷ 99 ∷ 107 ∷ 101 ∷ 116 ∷ []) (decimal number ∷ hex_word packet ∷ []) = with_words-append (112 ∷ []) (97 ∷ 99 ∷ 107 ∷ 101 ∷ 116 ∷ []) (decimal number ∷ hex_word packet ∷ []) in
    let some : nat_eq (length (112 ∷ with_words (97 ∷ 99 ∷ 107 ∷ 101 ∷ 116 ∷ []) (decimal number ∷ hex_word packet ∷ []))) 0 ≡ false = ne_eqb _ _ (omega arith) in
    subst (λ (l : List ℕ). is_passed_over l ≡ false) (sym first) (rw some refl)

-- ---- one packet

no_kind : config_kind (codes "packet") ≡ None
unfolding config_kind
no_kind = refl

abbrev with_packet : CaptureReader → List ℕ → CaptureReader
with_packet reader packet = record reader { packets = reader.packets ++ packet ∷ [] }

-- what is known of the words of a line
record IsPacketLine (number : ℕ) (packet line : List ℕ) : Type 0 where
  words : words_of line ≡ packet_words number packet
  short : is_too_long line ≡ false
  shown : is_passed_over line ≡ false

good_words : (reader : CaptureReader) (number : ℕ) (packet line : List ℕ) → words_of line ≡ packet_words number packet →
    number ≡ length reader.packets + 1 → number ≤ 100000 → reader.given.ended ≡ true → are_bytes packet ≡ true → length packet ≤ 8000 →
    packet_fault reader line ≡ None
unfolding packet_fault
good_words reader number packet line words next few ended bytes short =
    let full : is_full (length reader.packets) ≡ false = grind (arith, nat_tests, next, few) in
    let in_range = number_in-decimal 1 (2 ^ 32 - 1) number (omega (arith, next)) (omega (arith, few)) (omega (arith, few)) in
    let value = value_of-decimal number (omega (arith, few)) in
    let same : nat_eq number (length reader.packets + 1) ≡ true = eq-eqb _ _ next in
    let hex = is_hex_in-hex_word 0 8000 packet bytes (omega arith) short in
    rw (words, ended, in_range, value, same, hex, full) refl

good_line : (reader : CaptureReader) (number : ℕ) (packet line : List ℕ) → IsPacketLine number packet line →
    number ≡ length reader.packets + 1 → number ≤ 100000 → reader.given.ended ≡ true → are_bytes packet ≡ true → length packet ≤ 8000 →
    line_fault capture_fault reader line ≡ None
good_line reader number packet line is next few ended bytes short =
    let good = good_words reader number packet line is.words next few ended bytes short in
    rw (is.short, is.shown, is.words, no_kind, good) refl

next_reader : (reader : CaptureReader) (number at : ℕ) (packet line : List ℕ) → IsPacketLine number packet line → are_bytes packet ≡ true →
    after_line after_capture reader at line ≡ with_packet reader packet
next_reader reader number at packet line is bytes =
    let kind : config_kind (word 0 line) ≡ None = ap (λ (ws : List (List ℕ)). config_kind (get_or ws 0 [])) is.words ∙ no_kind in
    let value : bytes_of (word 2 line) ≡ packet = ap (λ (ws : List (List ℕ)). bytes_of (get_or ws 2 [])) is.words ∙ bytes_of-hex_word packet bytes in
    rw (is.shown, kind, value) refl

-- ---- all packets

abbrev line_list : ℕ → List (List ℕ) → List (List ℕ)
line_list number [] = []
line_list number (packet ∷ others) = packet_line number packet ∷ line_list (number + 1) others

abbrev pub read_capture : ℕ → CaptureReader → List (List ℕ) → Result Capture ScriptFault
read_capture at reader lines = read_lines capture_fault after_capture whole_capture at reader lines

packets_read : (at number : ℕ) (reader : CaptureReader) (packets : List (List ℕ)) (config : ScriptConfig) → reader.given.ended ≡ true →
    number ≡ length reader.packets + 1 → list_all fits_word packets ≡ true → length reader.packets + length packets ≤ 100000 → config_of reader.given ≡ Some config →
    read_capture at reader (line_list number packets) ≡ Ok (record { config = config; packets = reader.packets ++ packets })
packets_read at number reader [] config ended next fits room whole = rw (whole, append-nil reader.packets) refl
packets_read at number reader (packet ∷ others) config ended next fits room whole =
    let parts = and_parts (fits_word packet) (list_all fits_word others) fits in
    let own = and_parts (are_bytes packet) (nat_le (length packet) 8000) parts.0 in
    let short : length packet ≤ 8000 = grind (arith, nat_tests, own.1) in
    let few : number ≤ 100000 = omega (arith, next, room) in
    let small : number < 2 ^ 64 = omega (arith, few) in
    let is : IsPacketLine number packet (packet_line number packet) = record {
      words = words_are number packet small own.0;
      short = is_short number packet small short;
      shown = is_shown number packet;
    } in
    let good = good_line reader number packet (packet_line number packet) is next few ended own.0 short in
    let behind = next_reader reader number at packet (packet_line number packet) is own.0 in
    let after = with_packet reader packet in
    let more : length after.packets ≡ length reader.packets + 1 = length-append reader.packets (packet ∷ []) in
    let rest = packets_read (at + 1) (number + 1) after others config ended (omega (arith, next, more)) parts.1 (omega (arith, more, room)) whole in
    rw (good, behind) (rest ∙ ap (λ (ps : List (List ℕ)). Ok (record { config = config; packets = ps })) (append_assoc reader.packets (packet ∷ []) others))

-- ---- lines in front

record IsBehind (at : ℕ) (before : CaptureReader) (lines : List (List ℕ)) (capture : Capture) : Type 0 where
  behind : CaptureReader
  whole : whole_capture behind ≡ Some capture
  goes_on : (more : List (List ℕ)) → read_capture at before (lines ++ more) ≡ read_capture (at + length lines) behind more

pub whole_is : (at : ℕ) (o : Option Capture) (capture : Capture) → whole_or_missing at o ≡ Ok capture → o ≡ Some capture
whole_is at None capture h = cc h
whole_is at (Some x) capture h = ap (λ (r : Result Capture ScriptFault). Some (result_unwrap_or r capture)) h

pub no_fault : (at : ℕ) (fault : Option LineFault) (others : Result Capture ScriptFault) (capture : Capture) → unless_bad at fault others ≡ Ok capture → fault ≡ None
no_fault at None others capture h = refl
no_fault at (Some f) others capture h = cc h

pub others_read : (at : ℕ) (fault : Option LineFault) (others : Result Capture ScriptFault) (capture : Capture) → unless_bad at fault others ≡ Ok capture → others ≡ Ok capture
others_read at None others capture h = h
others_read at (Some f) others capture h = cc h

is_behind : (at : ℕ) (before : CaptureReader) (lines : List (List ℕ)) (capture : Capture) → read_capture at before lines ≡ Ok capture → IsBehind at before lines capture
is_behind at before [] capture h = record {
  behind = before;
  whole = whole_is at (whole_capture before) capture h;
  goes_on = λ more. let e : at + 0 ≡ at = omega arith in rw e refl;
}
is_behind at before (line ∷ lines) capture h =
    let good = no_fault at (line_fault capture_fault before line) (read_capture (at + 1) (after_line after_capture before at line) lines) capture h in
    let after = after_line after_capture before at line in
    let rest = is_behind (at + 1) after lines capture (others_read at (line_fault capture_fault before line) (read_capture (at + 1) after lines) capture h) in
    record {
      behind = rest.behind;
      whole = rest.whole;
      goes_on = λ more. let e : at + 1 + length lines ≡ at + length (line ∷ lines) = omega arith in ap (λ (f : Option LineFault). unless_bad at f (read_capture (at + 1) after (lines ++ more))) good ∙ rest.goes_on more ∙ ap (λ n. read_capture n rest.behind more) e;
    }

-- ---- the text

lines_of-packets : (text front : List ℕ) (number : ℕ) (packets : List (List ℕ)) → text ≡ front ++ 10 ∷ [] → list_all fits_word packets ≡ true → number + length packets < 2 ^ 64 →
    lines_of (text ++ packet_lines number packets) ≡ lines_of text ++ line_list number packets
lines_of-packets text front number [] ends fits small = ap lines_of (append-nil text) ∙ sym (append-nil (lines_of text))
lines_of-packets text front number (packet ∷ others) ends fits small =
    let parts = and_parts (fits_word packet) (list_all fits_word others) fits in
    let own = and_parts (are_bytes packet) (nat_le (length packet) 8000) parts.0 in
    let line = packet_line number packet in
    let plain = are_plain_words number packet (omega (arith, small)) own.0 in
    let one : lines_of (line ++ 10 ∷ []) ≡ line ∷ [] = lines_of-line line (line_is_text (packet_words number packet) plain) in
    let behind = text ++ (line ++ 10 ∷ []) in
    let ended : behind ≡ (text ++ line) ++ 10 ∷ [] = sym (append_assoc text line (10 ∷ [])) in
    let here : lines_of behind ≡ lines_of text ++ line ∷ [] =
    ap (λ (t : List ℕ). lines_of (t ++ (line ++ 10 ∷ []))) ends ∙ lines_of-ended front (line ++ 10 ∷ []) ∙ ap (λ (t : List ℕ). lines_of t ++ lines_of (line ++ 10 ∷ [])) (sym ends) ∙ ap (λ (ls : List (List ℕ)). lines_of text ++ ls) one in
    let whole : text ++ packet_lines number (packet ∷ others) ≡ behind ++ packet_lines (number + 1) others =
    ap (λ (t : List ℕ). text ++ (t ++ packet_lines (number + 1) others)) (line_is number packet) ∙ sym (append_assoc text (line ++ 10 ∷ []) (packet_lines (number + 1) others)) in
    ap lines_of whole
    ∙ lines_of-packets behind (text ++ line) (number + 1) others ended parts.1 (omega (arith, small))
    ∙ ap (λ (ls : List (List ℕ)). ls ++ line_list (number + 1) others) here
    ∙ append_assoc (lines_of text) (line ∷ []) (line_list (number + 1) others)

-- ---- the configuration in front

abbrev no_packets : ScriptConfig → Capture
no_packets config = record { config = config; packets = [] }

config_is : (o : Option ScriptConfig) (packets : List (List ℕ)) (config : ScriptConfig) → option_map (capture_with packets) o ≡ Some (no_packets config) → (o ≡ Some config) × (packets ≡ [])
config_is None packets config h = absurd (cc h)
config_is (Some c) packets config h = (
  ap (λ (s : Option Capture). Some ((unwrap_or s (no_packets config)).config)) h,
  ap (λ (s : Option Capture). (unwrap_or s (no_packets config)).packets) h,
)

is_ended : (given : PartialConfig) (ended : Bool) (config : ScriptConfig) → cond ended (config_with given.responder given) None ≡ Some config → ended ≡ true
is_ended given true config h = refl
is_ended given false config h = absurd (cc h)

pub capture_back : WrittenCaptureIsRead
unfolding capture_in
capture_back text front config packets ends read fits room =
    let start : CaptureReader = record { given = nothing_given; packets = [] } in
    let b = is_behind 1 start (lines_of text) (no_packets config) read in
    let c = config_is (config_of b.behind.given) b.behind.packets config b.whole in
    let ended = is_ended b.behind.given b.behind.given.ended config c.0 in
    let all = packets_read (1 + length (lines_of text)) 1 b.behind packets config ended (rw c.1 refl) fits (rw c.1 (omega (arith, room))) c.0 in
    ap (read_capture 1 start) (lines_of-packets text front 1 packets ends fits (omega (arith, room)))
    ∙ b.goes_on (line_list 1 packets)
    ∙ all
    ∙ ap (λ (ps : List (List ℕ)). Ok (record { config = config; packets = ps ++ packets })) c.1
