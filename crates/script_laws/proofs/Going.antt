-- A run of a script goes on event by event: what was written and what comes next, after some of its first events.
use Rattle.std.proofs.Common.{◌≡◌, ◌∙◌, ◌+◌, ◌<◌, ◌++◌, ◌∷◌, [], ℕ, zero, suc, List, length, take, get_or, refl, sym, ap, arith, append_assoc, Bool, true, false, Some, None}
use Rattle.std.proofs.lemmas.Bool.{or_parts}
use Rattle.std.proofs.lemmas.List.{append-nil}
use Rattle.script_text.specs.declared.events.event.Entry.{Entry}
use Rattle.script_laws.proofs.Traces.{full_from-full, full_from-room}
use Rattle.script_laws.specs.Scripts.{entries_in, entry_in, full_from}
use Rattle.link_world.proofs.Shown.{plain_behind}
use Rattle.link_world.proofs.Texts.{before_all, before_behind, before_still}
use Rattle.link_world.specs.Written.{before_full, has_full, is_beyond}
use Rattle.spdm_grammar.specs.Lines.{Line}
use Rattle.world_machine.specs.Trace.{lines_from, world_from}
use Rattle.world_machine.specs.World.{World, WorldStep, entry_step}

-- ---- Lines.

pub room_parts : (xs ys : List Line) → has_full (xs ++ ys) ≡ false → (has_full xs ≡ false) × (has_full ys ≡ false)
room_parts [] ys h = (refl, h)
room_parts (x ∷ xs) ys h =
    let room = or_parts (is_beyond x) (has_full (xs ++ ys)) h in
    let rest = room_parts xs ys room.1 in
    (rw room.0 rest.0, rest.1)

-- What is written of the first lines is the beginning of what is written of all.
before_begins : (b : Bool) (xs ys : List Line) → has_full xs ≡ b → (more : List Line) × (before_full (xs ++ ys) ≡ before_full xs ++ more)
before_begins true xs ys h = ([], before_still xs ys h ∙ sym (append-nil (before_full xs)))
before_begins false xs ys h = (before_full ys, before_behind xs ys h ∙ ap (λ (l : List Line). l ++ before_full ys) (sym (before_all xs h)))

-- ---- After the first so many events.

abbrev pub lines_to : World → List Entry → ℕ → List Line
lines_to w events i = lines_from w (entries_in (take i events))

abbrev pub world_to : World → List Entry → ℕ → World
world_to w events i = world_from w (entries_in (take i events))

-- What the event at a place does.
abbrev pub step_at : World → List Entry → ℕ → Entry → WorldStep
step_at w events i e = entry_step (world_to w events i) (entry_in (get_or events i e))

next_is : (i : ℕ) → suc i + 1 ≡ suc (i + 1)
next_is i = omega arith

pub lines_more : (w : World) (events : List Entry) (i : ℕ) (e : Entry) → i < length events → lines_to w events (i + 1) ≡ lines_to w events i ++ (step_at w events i e).lines
lines_more w [] i e h = absurd (omega (arith, h))
lines_more w (x ∷ xs) zero e h = append-nil (entry_step w (entry_in x)).lines
lines_more w (x ∷ xs) (suc i) e h =
    let s : WorldStep = entry_step w (entry_in x) in
    ap (λ (n : ℕ). lines_to w (x ∷ xs) n) (next_is i)
    ∙ ap (λ (l : List Line). s.lines ++ l) (lines_more s.after xs i e (omega (arith, h)))
    ∙ sym (append_assoc s.lines (lines_to s.after xs i) (step_at s.after xs i e).lines)

pub world_more : (w : World) (events : List Entry) (i : ℕ) (e : Entry) → i < length events → world_to w events (i + 1) ≡ (step_at w events i e).after
world_more w [] i e h = absurd (omega (arith, h))
world_more w (x ∷ xs) zero e h = refl
world_more w (x ∷ xs) (suc i) e h =
    ap (λ (n : ℕ). world_to w (x ∷ xs) n) (next_is i) ∙ world_more (entry_step w (entry_in x)).after xs i e (omega (arith, h))

-- There is room for one event more.
pub room_more : (w : World) (events : List Entry) (i : ℕ) (e : Entry) → i < length events → has_full (lines_to w events i) ≡ false → has_full (step_at w events i e).lines ≡ false → has_full (lines_to w events (i + 1)) ≡ false
room_more w events i e h first second = ap has_full (lines_more w events i e h) ∙ plain_behind (lines_to w events i) (step_at w events i e).lines first second

-- What the first events wrote, and what the next one does, is the beginning of what is written of all.
pub goes_on : (w : World) (events : List Entry) (i : ℕ) (e : Entry) → i < length events → has_full (lines_to w events i) ≡ false
    → (more : List Line) × (before_full (lines_from w (entries_in events)) ≡ lines_to w events i ++ (before_full (step_at w events i e).lines ++ more))
goes_on w [] i e h room = absurd (omega (arith, h))
goes_on w (x ∷ xs) zero e h room =
    let s : WorldStep = entry_step w (entry_in x) in
    before_begins (has_full s.lines) s.lines (lines_from s.after (entries_in xs)) refl
goes_on w (x ∷ xs) (suc i) e h room =
    let s : WorldStep = entry_step w (entry_in x) in
    let parts = room_parts s.lines (lines_to s.after xs i) room in
    let rest = goes_on s.after xs i e (omega (arith, h)) parts.1 in (
      rest.0,
      before_behind s.lines (lines_from s.after (entries_in xs)) parts.0
          ∙ ap (λ (l : List Line). s.lines ++ l) rest.1
          ∙ sym (append_assoc s.lines (lines_to s.after xs i) (before_full (step_at s.after xs i e).lines ++ rest.0)),
    )

-- The next event finds the link full: this is the line, and nothing is written after what it does.
pub record StopsAt (w : World) (events : List Entry) (i : ℕ) (e : Entry) : Type 0 where
  pub line : full_from w (entries_in events) ≡ Some (get_or events i e).line
  pub written : before_full (lines_from w (entries_in events)) ≡ lines_to w events i ++ before_full (step_at w events i e).lines

pub stops_at : (w : World) (events : List Entry) (i : ℕ) (e : Entry) → i < length events → has_full (lines_to w events i) ≡ false → has_full (step_at w events i e).lines ≡ true → StopsAt w events i e
stops_at w [] i e h room full = absurd (omega (arith, h))
stops_at w (x ∷ xs) zero e h room full =
    record {
      line = full_from-full w (entry_in x) (entries_in xs) full;
      written = before_still (entry_step w (entry_in x)).lines (lines_from (entry_step w (entry_in x)).after (entries_in xs)) full;
    }
stops_at w (x ∷ xs) (suc i) e h room full =
    let s : WorldStep = entry_step w (entry_in x) in
    let parts = room_parts s.lines (lines_to s.after xs i) room in
    let rest = stops_at s.after xs i e (omega (arith, h)) parts.1 full in
    record {
      line = full_from-room w (entry_in x) (entries_in xs) parts.0 ∙ rest.line;
      written = before_behind s.lines (lines_from s.after (entries_in xs)) parts.0
          ∙ ap (λ (l : List Line). s.lines ++ l) rest.written
          ∙ sym (append_assoc s.lines (lines_to s.after xs i) (before_full (step_at s.after xs i e).lines));
    }

-- No event finds it full: all is written.
pub record WritesAll (w : World) (events : List Entry) : Type 0 where
  pub none : full_from w (entries_in events) ≡ None
  pub written : before_full (lines_from w (entries_in events)) ≡ lines_from w (entries_in events)

none_full : (w : World) (events : List Entry) → has_full (lines_from w (entries_in events)) ≡ false → full_from w (entries_in events) ≡ None
none_full w [] room = refl
none_full w (x ∷ xs) room =
    let s : WorldStep = entry_step w (entry_in x) in
    let parts = room_parts s.lines (lines_from s.after (entries_in xs)) room in
    full_from-room w (entry_in x) (entries_in xs) parts.0 ∙ none_full s.after xs parts.1

pub writes_all : (w : World) (events : List Entry) → has_full (lines_from w (entries_in events)) ≡ false → WritesAll w events
writes_all w events room = record { none = none_full w events room; written = before_all (lines_from w (entries_in events)) room }
