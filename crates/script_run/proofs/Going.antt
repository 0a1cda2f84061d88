-- What stands after some of the events of a run.
use Rattle.std.proofs.Common.{◌≡◌, ◌∙◌, ◌+◌, ◌<◌, ◌++◌, ℕ, List, length, take, get_or, refl, sym, ap, subst, true, false, Option, None}
use Rattle.link_world.proofs.Writing.{both_lines, prefix_lines, both_prefix}
use Rattle.link_world.specs.Worlds.{StandsFor}
use Rattle.link_world.specs.Written.{before_full, has_full, text_of}
use Rattle.link_world.specs.declared.world.World as program
use Rattle.script_text.specs.declared.events.event.Entry.{Entry}
use Rattle.script_laws.proofs.Going.{goes_on, lines_more, lines_to, room_more, step_at, stops_at, world_more, world_to, writes_all}
use Rattle.script_laws.specs.Scripts.{entries_in, entry_in, full_from}
use Rattle.spdm_basis.specs.Stream.{Takes, TakesPrefix}
use Rattle.script_run.specs.Going.{IsFullAt, text_from}
use Rattle.spdm_grammar.specs.Lines.{Line}
use Rattle.world_machine.specs.Trace.{lines_from, world_from}
use Rattle.world_machine.specs.World.{World, WorldStep, entry_step}

-- The first so many events happened from this world on, and all their lines were written.
pub record Went (w : World) (events : List Entry) (i : ℕ) (old now : Option (List ℕ)) (seen : program.World) : Type 0 where
  pub stands : StandsFor seen (world_to w events i)
  pub room : has_full (lines_to w events i) ≡ false
  pub written : Takes old (text_of (lines_to w events i)) now

module _ (w : World) (events : List Entry) (i : ℕ) (e : Entry) (inside : i < length events) (old mid now : Option (List ℕ)) (seen : program.World) (went : Went w events i old mid seen) where
  -- One event more.
  pub went_on : (next : program.World) → StandsFor next (step_at w events i e).after → has_full (step_at w events i e).lines ≡ false → Takes mid (text_of (step_at w events i e).lines) now → Went w events (i + 1) old now next
  went_on next stands room written =
      record {
        stands = subst (StandsFor next) (sym (world_more w events i e inside)) stands;
        room = room_more w events i e inside went.room room;
        written = both_lines old mid now (lines_to w events i) (step_at w events i e).lines (lines_to w events (i + 1)) (sym (lines_more w events i e inside)) went.written written;
      }

  -- The event finds the link full.
  pub went_full : has_full (step_at w events i e).lines ≡ true → Takes mid (text_of (before_full (step_at w events i e).lines)) now → IsFullAt w events (get_or events i e).line old now
  went_full full written =
      let stops = stops_at w events i e inside went.room full in
      record {
        is = stops.line;
        written = both_lines old mid now (lines_to w events i) (before_full (step_at w events i e).lines) (before_full (lines_from w (entries_in events))) (sym stops.written) went.written written;
      }

  -- A part of what the event does was written.
  pub went_partly : TakesPrefix mid (text_of (before_full (step_at w events i e).lines)) now → TakesPrefix old (text_from w events) now
  went_partly part =
      let on = goes_on w events i e inside went.room in
      let more = before_full (step_at w events i e).lines ++ on.0 in
      both_prefix old mid now (lines_to w events i) more (before_full (lines_from w (entries_in events))) (sym on.1) went.written
      (prefix_lines mid now (before_full (step_at w events i e).lines) on.0 more refl part)

-- The same of an event that stands at this place.
module _ (w : World) (events : List Entry) (i : ℕ) (e : Entry) (is : e ≡ get_or events i e) (inside : i < length events) (old mid now : Option (List ℕ)) (seen : program.World) (went : Went w events i old mid seen) where
  abbrev here : WorldStep
  here = entry_step (world_to w events i) (entry_in e)

  same : here ≡ step_at w events i e
  same = ap (λ (x : Entry). entry_step (world_to w events i) (entry_in x)) is

  pub goes : (next : program.World) → StandsFor next here.after → has_full here.lines ≡ false → Takes mid (text_of here.lines) now → Went w events (i + 1) old now next
  goes next stands room written =
      went_on w events i e inside old mid now seen went next (subst (λ (s : WorldStep). StandsFor next s.after) same stands) (subst (λ (s : WorldStep). has_full s.lines ≡ false) same room)
      (subst (λ (s : WorldStep). Takes mid (text_of s.lines) now) same written)

  pub fills : (line : ℕ) → e.line ≡ line → has_full here.lines ≡ true → Takes mid (text_of (before_full here.lines)) now → IsFullAt w events line old now
  fills line is_line full written =
      subst (λ (n : ℕ). IsFullAt w events n old now) (sym (ap (λ (x : Entry). x.line) is) ∙ is_line)
      (went_full w events i e inside old mid now seen went (subst (λ (s : WorldStep). has_full s.lines ≡ true) same full) (subst (λ (s : WorldStep). Takes mid (text_of (before_full s.lines)) now) same written))

  pub stops : TakesPrefix mid (text_of (before_full here.lines)) now → TakesPrefix old (text_from w events) now
  stops part = went_partly w events i e inside old mid now seen went (subst (λ (s : WorldStep). TakesPrefix mid (text_of (before_full s.lines)) now) same part)

-- All events happened.
pub record WentAll (w : World) (events : List Entry) (old now : Option (List ℕ)) (seen : program.World) : Type 0 where
  pub stands : StandsFor seen (world_from w (entries_in events))
  pub none : full_from w (entries_in events) ≡ None
  pub written : Takes old (text_from w events) now

pub went_all : (w : World) (events : List Entry) (i : ℕ) (old now : Option (List ℕ)) (seen : program.World) → take i events ≡ events → Went w events i old now seen → WentAll w events old now seen
went_all w events i old now seen all went =
    let room : has_full (lines_from w (entries_in events)) ≡ false = ap (λ (l : List Entry). has_full (lines_from w (entries_in l))) (sym all) ∙ went.room in
    let writes = writes_all w events room in
    record {
      stands = subst (λ (l : List Entry). StandsFor seen (world_from w (entries_in l))) all went.stands;
      none = writes.none;
      written = subst (λ (l : List Line). Takes old (text_of l) now) (sym writes.written)
          (subst (λ (l : List Entry). Takes old (text_of (lines_from w (entries_in l))) now) all went.written);
    }
