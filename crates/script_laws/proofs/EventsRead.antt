-- An event that was taken is in range.
use Rattle.std.proofs.Common.{◌≡◌, ◌∙◌, ◌^◌, ◌-◌, ◌≤◌, ◌==◌, ◌||◌, ◌&&◌, ℕ, List, refl, sym, ap, Bool, true, false, nat_lt, arith, Option, Some, None}
use Rattle.std.specs.Option.{option_map, unwrap_or}
use Rattle.std.specs.Prelude.{if◌then◌else◌, bytes_eq, codes, length, nat_le, not, slice_index}
use Rattle.std.proofs.lemmas.Bool.{not-false, leb-true, ltb-false, le-leb, lt-ltb, false≢true}
use Rattle.spdm_basis.proofs.Bools.{and_first, and_second}
use Rattle.script_text.specs.Choices.{requester_in}
use Rattle.script_text.specs.Commands.{command_kind, command_fault, command_of, plain_fault, open_fault, send_fault, session_fault, update_fault, measure_fault, is_session, place_of, says_all, says_key}
use Rattle.script_text.specs.EventLines.{event_kind, kind_behind, other_kind, event_fault, event_of, reply_fault, number_fault, inject_fault, is_configured, named}
use Rattle.script_text.specs.HexWords.{bytes_of, is_none_word}
use Rattle.script_text.specs.Lines.{has_words, word}
use Rattle.script_text.specs.Numbers.{value_of}
use Rattle.script_text.specs.Sound.{is_sound_event, is_sound_place, is_within, fits_word}
use Rattle.script_text.specs.declared.events.command.CommandKind.{CommandKind}
use Rattle.script_text.specs.declared.events.command.CommandKind.TheVariants as command
use Rattle.script_text.specs.declared.events.event_kind.EventKind.{EventKind}
use Rattle.script_text.specs.declared.events.event_kind.EventKind.TheVariants as kind
use Rattle.script_text.specs.declared.texts.faults.LineFault.TheVariants.{Words}
use Rattle.spdm_basis.proofs.Options.{both}
use Rattle.script_laws.proofs.Words.{within, fits}
use Rattle.spdm_agreement.proofs.Responder.Exchange.{both_hold}

-- ---- The requester of a command.

some_if : (b : Bool) (x y : ℕ) → (if b then Some x else None) ≡ Some y → (b ≡ true) × (x ≡ y)
some_if true x y h = (refl, ap (λ (o : Option ℕ). unwrap_or o x) h)
some_if false x y h = cc h

requester_from : (w : List ℕ) (q : ℕ) → requester_in w ≡ Some q → 1 ≤ q
unfolding requester_in
requester_from w q h =
    let named = length w == 2 && slice_index w 0 == 113 in
    let least = nat_le 49 (slice_index w 1) in
    let most = nat_le (slice_index w 1) 56 in
    let p = some_if (named && least && most) (slice_index w 1 - 48) q h in
    let low : 49 ≤ slice_index w 1 = leb-true 49 (slice_index w 1) (and_second named least (and_first (named && least) most p.0)) in
    let is = p.1 in
    omega (arith, is, low)

is_command : Option EventKind → Bool
is_command (Some (kind.Command q c)) = true
is_command _ = false

requester_of : Option EventKind → ℕ
requester_of (Some (kind.Command q c)) = q
requester_of _ = 0

record IsPlain (k : Option EventKind) : Type 0 where
  is : is_command k ≡ false

either : (b : Bool) (k : EventKind) (rest : Option EventKind) → is_command (Some k) ≡ false → IsPlain rest → IsPlain (if b then Some k else rest)
either true k rest first others = record { is = first }
either false k rest first others = others

other_is_plain : (w : List ℕ) → IsPlain (other_kind w)
unfolding other_kind is_command
other_is_plain w =
    let show_or : Option EventKind = if bytes_eq w (codes "show") then Some kind.Show else None in
    let tick_or : Option EventKind = if bytes_eq w (codes "tick") then Some kind.Tick else show_or in
    let pump_or : Option EventKind = if bytes_eq w (codes "pump") then Some kind.Pump else tick_or in
    let inject_or : Option EventKind = if bytes_eq w (codes "inject") then Some kind.Inject else pump_or in
    let lose_or : Option EventKind = if bytes_eq w (codes "lose") then Some kind.Lose else inject_or in
    let deliver_or : Option EventKind = if bytes_eq w (codes "deliver") then Some kind.Deliver else lose_or in
    let show_is : IsPlain show_or = either (bytes_eq w (codes "show")) kind.Show None refl (record { is = refl }) in
    let tick_is : IsPlain tick_or = either (bytes_eq w (codes "tick")) kind.Tick show_or refl show_is in
    let pump_is : IsPlain pump_or = either (bytes_eq w (codes "pump")) kind.Pump tick_or refl tick_is in
    let inject_is : IsPlain inject_or = either (bytes_eq w (codes "inject")) kind.Inject pump_or refl pump_is in
    let lose_is : IsPlain lose_or = either (bytes_eq w (codes "lose")) kind.Lose inject_or refl inject_is in
    let deliver_is : IsPlain deliver_or = either (bytes_eq w (codes "deliver")) kind.Deliver lose_or refl lose_is in
    either (bytes_eq w (codes "reply")) kind.Reply deliver_or refl deliver_is

command_by : (p : ℕ) (second : Option CommandKind) (q : ℕ) (c : CommandKind) → option_map (kind.Command p) second ≡ Some (kind.Command q c) → p ≡ q
unfolding requester_of
command_by p None q c h = cc h
command_by p (Some k) q c h = ap requester_of h

command_from : (o : Option ℕ) (first second : List ℕ) (q : ℕ) (c : CommandKind) → kind_behind o first second ≡ Some (kind.Command q c) → o ≡ Some q
unfolding is_command
command_from None first second q c h = absurd (false≢true (sym (other_is_plain first).is ∙ ap is_command h))
command_from (Some p) first second q c h = ap Some (command_by p (command_kind second) q c h)

from_one : (line : List ℕ) (q : ℕ) (c : CommandKind) → event_kind line ≡ Some (kind.Command q c) → 1 ≤ q
from_one line q c h = requester_from (word 0 line) q (command_from (requester_in (word 0 line)) (word 0 line) (word 1 line) q c h)

-- ---- Commands.

is_one : (n q : ℕ) → 1 ≤ q → nat_lt n q ≡ false → is_within 1 n q ≡ true
is_one n q low high = both_hold (nat_le 1 q) (nat_le q n) (le-leb 1 q low) (le-leb q n (ltb-false n q high))

in_session : (n q : ℕ) (w : List ℕ) → is_within 1 n q ≡ true → is_session w ≡ true → (is_within 1 n q && is_within 1 4 (value_of w)) ≡ true
in_session n q w one session = both_hold (is_within 1 n q) (is_within 1 4 (value_of w)) one (within 1 4 w session)

place_by : (none : Bool) (w : List ℕ) → (none || is_session w) ≡ true → is_sound_place (if none then None else Some (value_of w)) ≡ true
place_by true w h = refl
place_by false w h = within 1 4 w h

command_sound : (n q : ℕ) (c : CommandKind) (line : List ℕ) → 1 ≤ q → command_fault n q c line ≡ None → is_sound_event n (command_of q c line) ≡ true
unfolding plain_fault open_fault send_fault session_fault update_fault measure_fault
command_sound n q command.Connect line low h = let a = both _ _ _ h in let b = both _ _ _ a.1 in is_one n q low b.0
command_sound n q command.Retry line low h = let a = both _ _ _ h in let b = both _ _ _ a.1 in is_one n q low b.0
command_sound n q command.Open line low h =
    let a = both _ _ _ h in
    let b = both _ _ _ a.1 in
    let c = both _ _ _ b.1 in
    let summary = and_second _ _ (not-false _ b.0) in
    both_hold (is_within 1 n q) (value_of (word 2 line) == 0 || value_of (word 2 line) == 1 || value_of (word 2 line) == 255) (is_one n q low c.0) summary
command_sound n q command.Send line low h =
    let a = both _ _ _ h in
    let b = both _ _ _ a.1 in
    let c = both _ _ _ b.1 in
    let d = both _ _ _ c.1 in
    both_hold (is_within 1 n q && is_within 1 4 (value_of (word 2 line))) (fits_word (bytes_of (word 3 line)))
    (in_session n q (word 2 line) (is_one n q low d.0) (not-false _ b.0)) (fits (word 3 line) (not-false _ c.0))
command_sound n q command.Beat line low h =
    let a = both _ _ _ h in
    let b = both _ _ _ a.1 in
    let c = both _ _ _ b.1 in
    in_session n q (word 2 line) (is_one n q low c.0) (not-false _ b.0)
command_sound n q command.End line low h =
    let a = both _ _ _ h in
    let b = both _ _ _ a.1 in
    let c = both _ _ _ b.1 in
    in_session n q (word 2 line) (is_one n q low c.0) (not-false _ b.0)
command_sound n q command.Update line low h =
    let a = both (not (has_words 4 line)) Words _ h in
    let b = both (not (says_key (word 3 line) || says_all (word 3 line))) Words _ a.1 in
    let c = both _ _ _ b.1 in
    let d = both _ _ _ c.1 in
    in_session n q (word 2 line) (is_one n q low d.0) (not-false _ c.0)
command_sound n q command.Measure line low h =
    let a = both _ _ _ h in
    let b = both _ _ _ a.1 in
    let c = both _ _ _ b.1 in
    let d = both _ _ _ c.1 in
    let place = place_by (is_none_word (word 2 line)) (word 2 line) (not-false (is_none_word (word 2 line) || is_session (word 2 line)) b.0) in
    both_hold (is_within 1 n q && is_sound_place (place_of (word 2 line))) (nat_le (value_of (word 3 line)) 255)
    (both_hold (is_within 1 n q) (is_sound_place (place_of (word 2 line))) (is_one n q low d.0) place)
    (and_second _ _ (within 0 255 (word 3 line) (not-false _ c.0)))

-- ---- All events.

reply_by : (n : ℕ) (o : Option ℕ) (w : List ℕ) → requester_in w ≡ o → is_configured n o ≡ true → is_within 1 n (named o) ≡ true
reply_by n None w e h = absurd (false≢true h)
reply_by n (Some q) w e h = both_hold (nat_le 1 q) (nat_le q n) (le-leb 1 q (requester_from w q e)) h

number_fits : (limit : ℕ) (line : List ℕ) → number_fault limit line ≡ None → value_of (word 1 line) ≤ limit
unfolding number_fault
number_fits limit line h =
    let a = both _ _ _ h in
    let b = both _ _ _ a.1 in
    leb-true (value_of (word 1 line)) limit (and_second _ _ (within 0 limit (word 1 line) (not-false _ b.0)))

pub event_sound : (n : ℕ) (k : EventKind) (line : List ℕ) → event_kind line ≡ Some k → event_fault n k line ≡ None → is_sound_event n (event_of k line) ≡ true
unfolding reply_fault inject_fault
event_sound n (kind.Command q c) line is h = command_sound n q c line (from_one line q c is) h
event_sound n kind.Reply line is h =
    let a = both _ _ _ h in
    let b = both _ _ _ a.1 in
    let c = both _ _ _ b.1 in
    both_hold (is_within 1 n (named (requester_in (word 1 line)))) (fits_word (bytes_of (word 2 line)))
    (reply_by n (requester_in (word 1 line)) (word 1 line) refl (not-false _ c.0)) (fits (word 2 line) (not-false _ b.0))
event_sound n kind.Deliver line is h = let few = number_fits (2 ^ 32 - 1) line h in lt-ltb (value_of (word 1 line)) (2 ^ 32) (omega (arith, few))
event_sound n kind.Lose line is h = let few = number_fits (2 ^ 32 - 1) line h in lt-ltb (value_of (word 1 line)) (2 ^ 32) (omega (arith, few))
event_sound n kind.Inject line is h =
    let a = both _ _ _ h in
    let b = both _ _ _ a.1 in
    fits (word 1 line) (not-false _ b.0)
event_sound n kind.Pump line is h = le-leb (value_of (word 1 line)) 65536 (number_fits 65536 line h)
event_sound n kind.Tick line is h = le-leb (value_of (word 1 line)) 1000000 (number_fits 1000000 line h)
event_sound n kind.Show line is h = refl
