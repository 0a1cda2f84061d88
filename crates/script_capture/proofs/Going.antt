-- The packets that were carried at some of the events of a script.
use Rattle.std.proofs.Common.{◌≡◌, ◌∙◌, ◌+◌, ◌<◌, ◌++◌, ◌∷◌, [], ℕ, zero, suc, List, length, take, get_or, refl, sym, ap, subst, arith, append_assoc, length-append, true, false, None, Some}
use Rattle.std.proofs.lemmas.List.{append-nil}
use Rattle.link_world.specs.Worlds.{StandsFor}
use Rattle.link_world.specs.Written.{has_full}
use Rattle.link_world.specs.declared.world.World as program
use Rattle.script_capture.specs.Carried.{carried, carried_from}
use Rattle.script_laws.proofs.Going.{lines_to, room_more, step_at, stops_at, world_more, world_to, writes_all}
use Rattle.script_laws.specs.Scripts.{entries_in, entry_in, full_from}
use Rattle.script_text.specs.declared.events.event.Entry.{Entry}
use Rattle.world_machine.specs.Trace.{lines_from}
use Rattle.world_machine.specs.World.{World, WorldStep, entry_step}

-- Those of the first so many events.
abbrev pub carried_to : World → List Entry → ℕ → List (List ℕ)
carried_to w events i = carried_from w (entries_in (take i events))

abbrev carried_at : World → List Entry → ℕ → Entry → List (List ℕ)
carried_at w events i e = carried (world_to w events i) (entry_in (get_or events i e))

carried_more : (w : World) (events : List Entry) (i : ℕ) (e : Entry) → i < length events → carried_to w events (i + 1) ≡ carried_to w events i ++ carried_at w events i e
carried_more w [] i e h = absurd (omega (arith, h))
carried_more w (x ∷ xs) zero e h = append-nil (carried w (entry_in x))
carried_more w (x ∷ xs) (suc i) e h =
    let s : WorldStep = entry_step w (entry_in x) in
    let next : suc i + 1 ≡ suc (i + 1) = omega arith in
    ap (λ (n : ℕ). carried_to w (x ∷ xs) n) next
    ∙ ap (λ (l : List (List ℕ)). carried w (entry_in x) ++ l) (carried_more s.after xs i e (omega (arith, h)))
    ∙ sym (append_assoc (carried w (entry_in x)) (carried_to s.after xs i) (carried_at s.after xs i e))

-- They are the first of all.
carried_begins : (w : World) (events : List Entry) (i : ℕ) → (more : List (List ℕ)) × (carried_from w (entries_in events) ≡ carried_to w events i ++ more)
carried_begins w events zero = (carried_from w (entries_in events), refl)
carried_begins w [] (suc i) = ([], refl)
carried_begins w (x ∷ xs) (suc i) =
    let s : WorldStep = entry_step w (entry_in x) in
    let rest = carried_begins s.after xs i in
    (rest.0, ap (λ (l : List (List ℕ)). carried w (entry_in x) ++ l) rest.1 ∙ sym (append_assoc (carried w (entry_in x)) (carried_to s.after xs i) rest.0))

-- The first so many events happened, and these packets were carried.
pub record Went (w : World) (events : List Entry) (i : ℕ) (packets : List (List ℕ)) (seen : program.World) : Type 0 where
  pub stands : StandsFor seen (world_to w events i)
  pub room : has_full (lines_to w events i) ≡ false
  pub are : packets ≡ carried_to w events i

module _ (w : World) (events : List Entry) (i : ℕ) (e : Entry) (is : e ≡ get_or events i e) (inside : i < length events) (packets : List (List ℕ)) (seen : program.World) (went : Went w events i packets seen) where
  abbrev here : WorldStep
  here = entry_step (world_to w events i) (entry_in e)

  same : here ≡ step_at w events i e
  same = ap (λ (x : Entry). entry_step (world_to w events i) (entry_in x)) is

  -- One event more.
  pub goes : (more : List (List ℕ)) (next : program.World) → StandsFor next here.after → has_full here.lines ≡ false → more ≡ packets ++ carried (world_to w events i) (entry_in e) → Went w events (i + 1) more next
  goes more next stands room are = record {
    stands = subst (StandsFor next) (sym (world_more w events i e inside)) (subst (λ (s : WorldStep). StandsFor next s.after) same stands);
    room = room_more w events i e inside went.room (subst (λ (s : WorldStep). has_full s.lines ≡ false) same room);
    are = are
        ∙ ap (λ (l : List (List ℕ)). l ++ carried (world_to w events i) (entry_in e)) went.are
        ∙ ap (λ (x : Entry). carried_to w events i ++ carried (world_to w events i) (entry_in x)) is
        ∙ sym (carried_more w events i e inside);
  }

  -- The event finds the link full.
  pub fills : (line : ℕ) → e.line ≡ line → has_full here.lines ≡ true → full_from w (entries_in events) ≡ Some line
  fills line is_line full =
      (stops_at w events i e inside went.room (subst (λ (s : WorldStep). has_full s.lines ≡ true) same full)).line
      ∙ ap (λ (x : Entry). Some x.line) (sym is)
      ∙ ap Some is_line

-- So many packets were carried that there are more than a capture has.
pub too_many : (w : World) (events : List Entry) (i : ℕ) (packets : List (List ℕ)) (seen : program.World) (most : ℕ) → Went w events i packets seen → most < length packets → most < length (carried_from w (entries_in events))
too_many w events i packets seen most went many =
    let begins = carried_begins w events i in
    let all = ap length begins.1 in
    let parts = length-append (carried_to w events i) begins.0 in
    let same = ap length went.are in
    omega (arith, all, parts, same, many)

-- All events happened.
pub all_carried : (w : World) (events : List Entry) (i : ℕ) (packets : List (List ℕ)) (seen : program.World) → take i events ≡ events → Went w events i packets seen → packets ≡ carried_from w (entries_in events)
all_carried w events i packets seen all went = went.are ∙ ap (λ (l : List Entry). carried_from w (entries_in l)) all

pub no_full : (w : World) (events : List Entry) (i : ℕ) (packets : List (List ℕ)) (seen : program.World) → take i events ≡ events → Went w events i packets seen → full_from w (entries_in events) ≡ None
no_full w events i packets seen all went =
    let room : has_full (lines_from w (entries_in events)) ≡ false = ap (λ (l : List Entry). has_full (lines_from w (entries_in l))) (sym all) ∙ went.room in
    (writes_all w events room).none
