-- The rows of some of the events of a script.
use Rattle.std.proofs.Common.{◌≡◌, ◌∙◌, ◌+◌, ◌<◌, ◌++◌, ◌∷◌, [], ℕ, zero, suc, List, length, take, get_or, refl, sym, ap, subst, arith, append_assoc, length-append, true, false, None, Some}
use Rattle.std.proofs.lemmas.List.{append-nil}
use Rattle.link_world.specs.Worlds.{StandsFor}
use Rattle.link_world.specs.Written.{has_full}
use Rattle.link_world.specs.declared.world.World as program
use Rattle.script_laws.proofs.Going.{lines_to, room_more, step_at, stops_at, world_more, world_to, writes_all}
use Rattle.script_laws.specs.Scripts.{entries_in, entry_in, full_from}
use Rattle.script_picture.specs.Rows.{event_rows, rows_from}
use Rattle.script_text.specs.declared.configuration.config.ScriptConfig.{ScriptConfig}
use Rattle.script_text.specs.declared.events.event.Entry.{Entry}
use Rattle.sequence_picture.specs.declared.rows.Row.{Row}
use Rattle.world_machine.specs.Trace.{lines_from}
use Rattle.world_machine.specs.World.{World, WorldStep, entry_step}

module _ (config : ScriptConfig) (all : List Entry) where
  -- Those of the first so many events.
  abbrev pub rows_to : World → List Entry → ℕ → List Row
  rows_to w events i = rows_from config all w (take i events)

  abbrev rows_at : World → List Entry → ℕ → Entry → List Row
  rows_at w events i e = event_rows config all (world_to w events i) (get_or events i e)

  rows_more : (w : World) (events : List Entry) (i : ℕ) (e : Entry) → i < length events → rows_to w events (i + 1) ≡ rows_to w events i ++ rows_at w events i e
  rows_more w [] i e h = absurd (omega (arith, h))
  rows_more w (x ∷ xs) zero e h = append-nil (event_rows config all w x)
  rows_more w (x ∷ xs) (suc i) e h =
      let s : WorldStep = entry_step w (entry_in x) in
      let next : suc i + 1 ≡ suc (i + 1) = omega arith in
      ap (λ (n : ℕ). rows_to w (x ∷ xs) n) next
      ∙ ap (λ (l : List Row). event_rows config all w x ++ l) (rows_more s.after xs i e (omega (arith, h)))
      ∙ sym (append_assoc (event_rows config all w x) (rows_to s.after xs i) (rows_at s.after xs i e))

  -- They are the first of all.
  rows_begin : (w : World) (events : List Entry) (i : ℕ) → (more : List Row) × (rows_from config all w events ≡ rows_to w events i ++ more)
  rows_begin w events zero = (rows_from config all w events, refl)
  rows_begin w [] (suc i) = ([], refl)
  rows_begin w (x ∷ xs) (suc i) =
      let s : WorldStep = entry_step w (entry_in x) in
      let rest = rows_begin s.after xs i in
      (rest.0, ap (λ (l : List Row). event_rows config all w x ++ l) rest.1 ∙ sym (append_assoc (event_rows config all w x) (rows_to s.after xs i) rest.0))

  -- The first so many events happened, and these are their rows.
  pub record Went (w : World) (events : List Entry) (i : ℕ) (rows : List Row) (seen : program.World) : Type 0 where
    pub stands : StandsFor seen (world_to w events i)
    pub room : has_full (lines_to w events i) ≡ false
    pub are : rows ≡ rows_to w events i

  module _ (w : World) (events : List Entry) (i : ℕ) (e : Entry) (is : e ≡ get_or events i e) (inside : i < length events) (rows : List Row) (seen : program.World) (went : Went w events i rows seen) where
    abbrev here : WorldStep
    here = entry_step (world_to w events i) (entry_in e)

    same : here ≡ step_at w events i e
    same = ap (λ (x : Entry). entry_step (world_to w events i) (entry_in x)) is

    -- One event more.
    pub goes : (more : List Row) (next : program.World) → StandsFor next here.after → has_full here.lines ≡ false → more ≡ rows ++ event_rows config all (world_to w events i) e → Went w events (i + 1) more next
    goes more next stands room are = record {
      stands = subst (StandsFor next) (sym (world_more w events i e inside)) (subst (λ (s : WorldStep). StandsFor next s.after) same stands);
      room = room_more w events i e inside went.room (subst (λ (s : WorldStep). has_full s.lines ≡ false) same room);
      are = are
          ∙ ap (λ (l : List Row). l ++ event_rows config all (world_to w events i) e) went.are
          ∙ ap (λ (x : Entry). rows_to w events i ++ event_rows config all (world_to w events i) x) is
          ∙ sym (rows_more w events i e inside);
    }

    -- The event finds the link full.
    pub fills : (line : ℕ) → e.line ≡ line → has_full here.lines ≡ true → full_from w (entries_in events) ≡ Some line
    fills line is_line full =
        (stops_at w events i e inside went.room (subst (λ (s : WorldStep). has_full s.lines ≡ true) same full)).line
        ∙ ap (λ (x : Entry). Some x.line) (sym is)
        ∙ ap Some is_line

  -- There are more rows than a picture has.
  pub too_many : (w : World) (events : List Entry) (i : ℕ) (rows : List Row) (seen : program.World) (most : ℕ) → Went w events i rows seen → most < length rows → most < length (rows_from config all w events)
  too_many w events i rows seen most went many =
      let begins = rows_begin w events i in
      let whole = ap length begins.1 in
      let parts = length-append (rows_to w events i) begins.0 in
      let same = ap length went.are in
      omega (arith, whole, parts, same, many)

  -- All events happened.
  pub all_rows : (w : World) (events : List Entry) (i : ℕ) (rows : List Row) (seen : program.World) → take i events ≡ events → Went w events i rows seen → rows ≡ rows_from config all w events
  all_rows w events i rows seen whole went = went.are ∙ ap (λ (l : List Entry). rows_from config all w l) whole

  pub no_full : (w : World) (events : List Entry) (i : ℕ) (rows : List Row) (seen : program.World) → take i events ≡ events → Went w events i rows seen → full_from w (entries_in events) ≡ None
  no_full w events i rows seen whole went =
      let room : has_full (lines_from w (entries_in events)) ≡ false = ap (λ (l : List Entry). has_full (lines_from w (entries_in l))) (sym whole) ∙ went.room in
      (writes_all w events room).none
