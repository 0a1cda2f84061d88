-- Events that are printed after a configuration are read back.
use Rattle.std.proofs.Common.{◌≡◌, ℕ, suc, ◌+◌, ◌<◌, ◌≤◌, ◌++◌, List, [], ◌∷◌, length, map, refl, sym, ap, ◌∙◌, Bool, true, false, nat_eq, arith, append_assoc, length-append, Option, Some, None, Result, Ok, fold, cond}
use Rattle.std.specs.Option.{option_map, unwrap_or}
use Rattle.std.specs.Result.{result_unwrap_or}
use Rattle.std.proofs.lemmas.Bool.{and_parts, ne_eqb}
use Rattle.std.proofs.lemmas.Bool.Decides.{nat_tests}
use Rattle.std.proofs.lemmas.List.{append-nil}
use Rattle.script_text.specs.Configuring.{config_of, config_with, nothing_given}
use Rattle.script_text.specs.EventLines.{event_fault}
use Rattle.script_text.specs.Lines.{lines_of, words_of, is_too_long, is_passed_over}
use Rattle.script_text.specs.Printing.{event_words, with_entry}
use Rattle.script_text.specs.Reading.{read_lines, line_fault, after_line, unless_bad, whole_or_missing}
use Rattle.script_text.specs.ScriptText.{script_fault, after_script, whole_script, script_with, script_in, is_full}
use Rattle.script_text.specs.Sound.{is_sound_event, are_sound_events, AreNumbered}
use Rattle.trace_text.specs.Spelling.{with_words}
use Rattle.script_text.specs.declared.configuration.config.ReqPart.{ReqPart}
use Rattle.script_text.specs.declared.configuration.config.ScriptConfig.{ScriptConfig}
use Rattle.script_text.specs.declared.events.event.Entry.{Entry}
use Rattle.script_text.specs.declared.events.event.LinkEvent.{LinkEvent}
use Rattle.script_text.specs.declared.texts.faults.LineFault.{LineFault}
use Rattle.script_text.specs.declared.texts.faults.ScriptFault.{ScriptFault}
use Rattle.script_text.specs.declared.configuration.partial_config.PartialConfig.{PartialConfig}
use Rattle.script_text.specs.declared.configuration.partial_config.RspLine.{RspLine}
use Rattle.script_text.specs.declared.texts.script.Script.{Script}
use Rattle.script_text.specs.declared.texts.script_lines.ScriptReader.{ScriptReader}
use Rattle.script_text.proofs.PlainWords.{IsPlainEvent, plain_event, length-with_words, long_words}
use Rattle.script_text.proofs.PrintedEvents.{IsReadAs, reads_event}
use Rattle.script_text.proofs.PrintedLines.{line_of, words_of-line_of_some, line_is_text, lines_of-line, lines_of-ended, with_line-append_some, with_words-append}

-- the line of an event, without its line feed
abbrev pub event_line : LinkEvent → List ℕ
event_line e = line_of (event_words e)

some_words : (e : LinkEvent) → IsPlainEvent e → 0 < length (event_words e)
some_words e p = rw p.begins (omega arith)

words_of_event : (e : LinkEvent) → IsPlainEvent e → words_of (event_line e) ≡ event_words e
words_of_event e p = words_of-line_of_some (event_words e) p.plain (some_words e p)

-- it is not too long
short_line : (e : LinkEvent) → IsPlainEvent e → is_too_long (event_line e) ≡ false
short_line e p =
    let short : long_words ((p.first ∷ p.rest) ∷ p.others) ≤ 16200 = rw p.begins at p.short in
    let step : long_words ((p.first ∷ p.rest) ∷ p.others) ≡ suc (length (p.first ∷ p.rest)) + long_words p.others = refl in
    let long = length-with_words (p.first ∷ p.rest) p.others in
    let few : length (with_words (p.first ∷ p.rest) p.others) ≤ 16384 = omega (arith, short, step, long) in
    rw p.begins (grind (arith, nat_tests, few))

-- and no comment
shown_line : (e : LinkEvent) → IsPlainEvent e → is_passed_over (event_line e) ≡ false
shown_line e p =
    let first : with_words (p.first ∷ p.rest) p.others ≡ p.first ∷ with_words p.rest p.others = with_words-append (p.first ∷ []) p.rest p.others in
    let some : nat_eq (length (p.first ∷ with_words p.rest p.others)) 0 ≡ false = ne_eqb _ _ (omega arith) in
    rw (p.begins, first, some, p.no_comment) refl

-- ---- one event

-- what a reader is after an event
abbrev with_event : ScriptReader → ℕ → LinkEvent → ScriptReader
with_event reader number e = record reader { events = reader.events ++ (record { line = number; event = e }) ∷ [] }

good_line : (reader : ScriptReader) (n : ℕ) (e : LinkEvent) (line : List ℕ) → is_too_long line ≡ false → is_passed_over line ≡ false → IsReadAs n line e →
    reader.given.ended ≡ true → n ≡ length reader.given.requesters → length reader.events < 100000 → line_fault script_fault reader line ≡ None
good_line reader n e line short shown r ended count few =
    let full : is_full (length reader.events) ≡ false = grind (arith, nat_tests) in
    let good : event_fault (length reader.given.requesters) r.kind line ≡ None = rw (← count) r.good in
    rw (short, shown, r.other, r.is_kind, ended, good, full) refl

next_reader : (reader : ScriptReader) (n number : ℕ) (e : LinkEvent) (line : List ℕ) → is_passed_over line ≡ false → IsReadAs n line e →
    after_line after_script reader number line ≡ with_event reader number e
next_reader reader n number e line shown r = rw (shown, r.other, r.is_kind, r.value) refl

-- ---- all events

abbrev pub event_lines : List Entry → List (List ℕ)
event_lines entries = map (λ (e : Entry). event_line e.event) entries

-- reads the lines of a script
abbrev pub read_script : ℕ → ScriptReader → List (List ℕ) → Result Script ScriptFault
read_script number reader lines = read_lines script_fault after_script whole_script number reader lines

same_entry : (e : Entry) (number : ℕ) → e.line ≡ number → record { line = number; event = e.event } ≡ e
same_entry e number h = ap (λ n. let x : Entry = record { line = n; event = e.event } in x) (sym h)

events_read : (n number : ℕ) (reader : ScriptReader) (entries : List Entry) (config : ScriptConfig) → reader.given.ended ≡ true → n ≡ length reader.given.requesters → n ≤ 8 →
    are_sound_events n entries ≡ true → AreNumbered number entries → length reader.events + length entries ≤ 100000 → config_of reader.given ≡ Some config →
    read_script number reader (event_lines entries) ≡ Ok (record { config = config; events = reader.events ++ entries })
events_read n number reader [] config ended count few sound numbered room whole =
    rw (whole, append-nil reader.events) refl
events_read n number reader (e ∷ entries) config ended count few sound numbered room whole =
    let parts = and_parts (is_sound_event n e.event) (are_sound_events n entries) sound in
    let plain = plain_event n e.event few parts.0 in
    let line = event_line e.event in
    let r = reads_event n e.event line few parts.0 (words_of_event e.event plain) in
    let short = short_line e.event plain in
    let shown = shown_line e.event plain in
    let good = good_line reader n e.event line short shown r ended count (omega arith) in
    let next = next_reader reader n number e.event line shown r in
    let behind = with_event reader number e.event in
    let more : length behind.events ≡ length reader.events + 1 = length-append reader.events (record { line = number; event = e.event } ∷ []) in
    let rest = events_read n (number + 1) behind entries config ended count few parts.1 numbered.1 (omega (arith, more, room)) whole in
    let entry = same_entry e number numbered.0 in
    rw (good, next) (rest ∙ ap (λ es. Ok (record { config = config; events = es })) (append_assoc reader.events (record { line = number; event = e.event } ∷ []) entries ∙ ap (λ (x : Entry). reader.events ++ x ∷ entries) entry))

-- ---- lines in front

-- what a reader is after lines that have no fault, and what further lines lead to
pub record IsBehind (number : ℕ) (before : ScriptReader) (lines : List (List ℕ)) (script : Script) : Type 0 where
  pub behind : ScriptReader
  pub whole : whole_script behind ≡ Some script
  pub goes_on : (more : List (List ℕ)) → read_script number before (lines ++ more) ≡ read_script (number + length lines) behind more

whole_is : (number : ℕ) (o : Option Script) (script : Script) → whole_or_missing number o ≡ Ok script → o ≡ Some script
whole_is number None script h = cc h
whole_is number (Some x) script h = ap (λ (r : Result Script ScriptFault). Some (result_unwrap_or r script)) h

-- a line of a text that is read has no fault
no_fault : (number : ℕ) (fault : Option LineFault) (others : Result Script ScriptFault) (script : Script) → unless_bad number fault others ≡ Ok script → fault ≡ None
no_fault number None others script h = refl
no_fault number (Some f) others script h = cc h

others_read : (number : ℕ) (fault : Option LineFault) (others : Result Script ScriptFault) (script : Script) → unless_bad number fault others ≡ Ok script → others ≡ Ok script
others_read number None others script h = h
others_read number (Some f) others script h = cc h

is_behind : (number : ℕ) (before : ScriptReader) (lines : List (List ℕ)) (script : Script) → read_script number before lines ≡ Ok script → IsBehind number before lines script
is_behind number before [] script h = record {
  behind = before;
  whole = whole_is number (whole_script before) script h;
  goes_on = λ more. let e : number + 0 ≡ number = omega arith in rw e refl;
}
is_behind number before (line ∷ lines) script h =
    let good = no_fault number (line_fault script_fault before line) (read_script (number + 1) (after_line after_script before number line) lines) script h in
    let after = after_line after_script before number line in
    let rest = is_behind (number + 1) after lines script (others_read number (line_fault script_fault before line) (read_script (number + 1) after lines) script h) in
    record {
      behind = rest.behind;
      whole = rest.whole;
      goes_on = λ more. let e : number + 1 + length lines ≡ number + length (line ∷ lines) = omega arith in ap (λ (f : Option LineFault). unless_bad number f (read_script (number + 1) after (lines ++ more))) good ∙ rest.goes_on more ∙ ap (λ n. read_script n rest.behind more) e;
    }

-- ---- the text

-- the lines of a text with events after it
lines_of-events : (text u : List ℕ) (n : ℕ) (entries : List Entry) → text ≡ u ++ 10 ∷ [] → n ≤ 8 → are_sound_events n entries ≡ true →
    lines_of (fold with_entry text entries) ≡ lines_of text ++ event_lines entries
lines_of-events text u n [] ends few sound = sym (append-nil (lines_of text))
lines_of-events text u n (e ∷ entries) ends few sound =
    let parts = and_parts (is_sound_event n e.event) (are_sound_events n entries) sound in
    let plain = plain_event n e.event few parts.0 in
    let line = event_line e.event in
    let whole : with_entry text e ≡ text ++ (line ++ 10 ∷ []) = with_line-append_some text (event_words e.event) (some_words e.event plain) in
    let ended : with_entry text e ≡ (text ++ line) ++ 10 ∷ [] = whole ∙ sym (append_assoc text line (10 ∷ [])) in
    let one : lines_of (line ++ 10 ∷ []) ≡ line ∷ [] = lines_of-line line (line_is_text (event_words e.event) plain.plain) in
    let here : lines_of (with_entry text e) ≡ lines_of text ++ line ∷ [] =
    ap lines_of (whole ∙ ap (λ t. t ++ (line ++ 10 ∷ [])) ends) ∙ lines_of-ended u (line ++ 10 ∷ []) ∙ ap (λ t. lines_of t ++ lines_of (line ++ 10 ∷ [])) (sym ends) ∙ ap (λ ls. lines_of text ++ ls) one in
    lines_of-events (with_entry text e) (text ++ line) n entries ended few parts.1
    ∙ ap (λ ls. ls ++ event_lines entries) here
    ∙ append_assoc (lines_of text) (line ∷ []) (event_lines entries)

-- ---- the configuration in front

-- what a reader is whose script has no events yet
pub record HasConfig (reader : ScriptReader) (config : ScriptConfig) : Type 0 where
  pub given : config_of reader.given ≡ Some config
  pub none : reader.events ≡ []
  pub ended : reader.given.ended ≡ true
  pub requesters : reader.given.requesters ≡ config.requesters

abbrev no_entries : ScriptConfig → Script
no_entries config = record { config = config; events = [] }

config_is : (o : Option ScriptConfig) (events : List Entry) (config : ScriptConfig) → option_map (script_with events) o ≡ Some (no_entries config) → (o ≡ Some config) × (events ≡ [])
config_is None events config h = absurd (cc h)
config_is (Some c) events config h = (
  ap (λ (s : Option Script). Some ((unwrap_or s (no_entries config)).config)) h,
  ap (λ (s : Option Script). (unwrap_or s (no_entries config)).events) h,
)

is_ended : (given : PartialConfig) (ended : Bool) (config : ScriptConfig) → cond ended (config_with given.responder given) None ≡ Some config → (ended ≡ true) × (config_with given.responder given ≡ Some config)
is_ended given true config h = (refl, h)
is_ended given false config h = absurd (cc h)

has_requesters : (given : PartialConfig) (responder : Option RspLine) (config : ScriptConfig) → config_with responder given ≡ Some config → given.requesters ≡ config.requesters
has_requesters given None config h = absurd (cc h)
has_requesters given (Some r) config h = ap (λ (c : Option ScriptConfig). (unwrap_or c config).requesters) h

has_config : (reader : ScriptReader) (config : ScriptConfig) → whole_script reader ≡ Some (no_entries config) → HasConfig reader config
has_config reader config h =
    let parts = config_is (config_of reader.given) reader.events config h in
    let end = is_ended reader.given reader.given.ended config parts.0 in
    record {
      given = parts.0;
      none = parts.1;
      ended = end.0;
      requesters = has_requesters reader.given reader.given.responder config end.1;
    }

-- events that are printed after a configuration, on lines of their own, are read back as they were
pub printed_events : (text u : List ℕ) (config : ScriptConfig) (entries : List Entry) → text ≡ u ++ 10 ∷ [] → script_in text ≡ Ok (record { config = config; events = [] }) →
    length config.requesters ≤ 8 → are_sound_events (length config.requesters) entries ≡ true → AreNumbered (1 + length (lines_of text)) entries → length entries ≤ 100000 →
    script_in (fold with_entry text entries) ≡ Ok (record { config = config; events = entries })
unfolding script_in
printed_events text u config entries ends read few sound numbered room =
    let start : ScriptReader = record { given = nothing_given; events = [] } in
    let b = is_behind 1 start (lines_of text) (no_entries config) read in
    let c = has_config b.behind config b.whole in
    let all = events_read (length config.requesters) (1 + length (lines_of text)) b.behind entries config c.ended (sym (ap (λ (qs : List ReqPart). length qs) c.requesters)) few sound numbered (rw c.none (omega (arith, room))) c.given in
    ap (read_script 1 start) (lines_of-events text u (length config.requesters) entries ends few sound)
    ∙ b.goes_on (event_lines entries)
    ∙ all
    ∙ ap (λ es. Ok (record { config = config; events = es ++ entries })) c.none
