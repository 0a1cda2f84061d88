-- A script that a text is has at most 100,000 events.
use Rattle.std.proofs.Common.{◌≡◌, ◌≤◌, ◌++◌, ℕ, List, [], ◌∷◌, length, refl, sym, ap, subst, Bool, true, false, not, nat_le, arith, Option, Some, None, Ok}
use Rattle.std.specs.Option.{option_map, unwrap_or}
use Rattle.std.specs.Prelude.{if◌then◌else◌}
use Rattle.std.proofs.lemmas.Bool.{leb-false}
use Rattle.std.proofs.lemmas.List.{length-append}
use Rattle.std.proofs.lemmas.Option.{none-some}
use Rattle.script_text.specs.Configuring.{config_kind, config_of, nothing_given}
use Rattle.script_text.specs.EventLines.{event_fault, event_kind, event_of}
use Rattle.script_text.specs.Lines.{lines_of, word}
use Rattle.script_text.specs.ScriptText.{after_script, after_script_event, after_script_kind, is_full, or_too_many, script_event_fault, script_fault, script_in, script_kind_fault, script_with, whole_script}
use Rattle.script_text.specs.declared.configuration.config.ScriptConfig.{ScriptConfig}
use Rattle.script_text.specs.declared.configuration.config_kind.ConfigKind.{ConfigKind}
use Rattle.script_text.specs.declared.events.event.Entry.{Entry}
use Rattle.script_text.specs.declared.events.event_kind.EventKind.{EventKind}
use Rattle.script_text.specs.declared.texts.faults.LineFault.{LineFault}
use Rattle.script_text.specs.declared.texts.faults.LineFault.TheVariants.{Order, TooManyEvents}
use Rattle.script_text.specs.declared.texts.script.Script.{Script}
use Rattle.script_text.specs.declared.texts.script_lines.ScriptReader.{ScriptReader}
use Rattle.script_laws.proofs.ReadLines.{held}

abbrev AreFew : ScriptReader → Type 0
AreFew reader = length reader.events ≤ 100000

-- Where an event has no fault there is room for it.
not_full_by : (b : Bool) → (if b then Some TooManyEvents else None) ≡ None → b ≡ false
not_full_by true is = absurd (none-some TooManyEvents (sym is))
not_full_by false is = refl

not_full : (count : ℕ) (own : Option LineFault) → or_too_many count own ≡ None → is_full count ≡ false
not_full count (Some f) is = absurd (none-some f (sym is))
not_full count None is = not_full_by (is_full count) is

room_by : (b : Bool) (count : ℕ) (own : Option LineFault) → (if b then Some Order else or_too_many count own) ≡ None → is_full count ≡ false
room_by true count own is = absurd (none-some Order (sym is))
room_by false count own is = not_full count own is

event_few : (reader : ScriptReader) (number : ℕ) (kind : Option EventKind) (line : List ℕ) → script_event_fault reader kind line ≡ None → AreFew reader → AreFew (after_script_event reader number kind line)
event_few reader number None line is few = few
event_few reader number (Some kind) line is few =
    let room = leb-false 100000 (length reader.events) (room_by (not reader.given.ended) (length reader.events) (event_fault (length reader.given.requesters) kind line) is) in
    let longer = length-append reader.events (record { line = number; event = event_of kind line } ∷ []) in
    omega (arith, room, longer)

kind_few : (reader : ScriptReader) (number : ℕ) (kind : Option ConfigKind) (line : List ℕ) → script_kind_fault reader kind line ≡ None → AreFew reader → AreFew (after_script_kind reader number kind line)
kind_few reader number None line is few = event_few reader number (event_kind line) line is few
kind_few reader number (Some kind) line is few = few

line_few : (reader : ScriptReader) (number : ℕ) (line : List ℕ) → script_fault reader line ≡ None → AreFew reader → AreFew (after_script reader number line)
line_few reader number line is few = kind_few reader number (config_kind (word 0 line)) line is few

events_are : (events : List Entry) (o : Option ScriptConfig) (script : Script) → option_map (script_with events) o ≡ Some script → events ≡ script.events
events_are events None script is = absurd (none-some script is)
events_are events (Some config) script is = ap (λ (o : Option Script). (unwrap_or o (script_with events config)).events) is

pub few_events : (text : List ℕ) (script : Script) → script_in text ≡ Ok script → length script.events ≤ 100000
unfolding script_in
few_events text script is =
    let last = held script_fault after_script whole_script AreFew line_few (lines_of text) 1 (record { given = nothing_given; events = [] }) script is (omega arith) in
    subst (λ (events : List Entry). length events ≤ 100000) (events_are last.0.events (config_of last.0.given) script last.1) last.2
