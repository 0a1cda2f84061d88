-- The lines of an event, with its line in front, as they are written.
use Rattle.std.proofs.Common.{refl, ◌≡◌, ◌∷◌, ℕ, List, true, false, Option, sym, subst}
use Rattle.std.proofs.lemmas.Bool.{false≢true}
use Rattle.std.specs.Prelude.{OnErr, OnOk, Result, Ok, Err, is_ok}
use Rattle.link_world.proofs.Texts.{before_all}
use Rattle.link_world.proofs.Writing.{prefix_longer, prefix_more, takes_more}
use Rattle.link_world.specs.Events.{happening_of, is_show}
use Rattle.link_world.specs.Standing.{IsCutOff, IsWhole}
use Rattle.link_world.specs.Written.{before_full, has_full, text_of}
use Rattle.link_world.specs.declared.link.Link.{Link}
use Rattle.trace_text.specs.TraceLines.{line_text}
use Rattle.script_text.specs.declared.events.event.LinkEvent.{LinkEvent}
use Rattle.script_text.specs.declared.events.event.LinkEvent.TheVariants as event
use Rattle.spdm_basis.specs.Stream.{Takes, TakesPrefix}
use Rattle.spdm_grammar.specs.Lines.{Line}
use Rattle.spdm_grammar.specs.Lines.Line.{At}
use Rattle.world_machine.specs.World.{World, WorldStep, happens, shown_lines}

-- A prefix of the lines before a packet for which there is no room, where no line is such a one.
pub full_prefix : (lines : List Line) (old new : Option (List ℕ)) → has_full lines ≡ false → TakesPrefix old (text_of lines) new → TakesPrefix old (text_of (before_full lines)) new
full_prefix lines old new none p = subst (λ (l : List Line). TakesPrefix old (text_of l) new) (sym (before_all lines none)) p

module _ (n : ℕ) (step : WorldStep) (text : List ℕ) (seen : Link) (old new : Option (List ℕ)) where
  abbrev lines : List Line
  lines = At n ∷ step.lines

  pub whole_failed : IsWhole step (line_text (At n)) text seen → TakesPrefix old text new → TakesPrefix old (text_of (before_full lines)) new
  whole_failed s taken = full_prefix lines old new s.fits (subst (λ (t : List ℕ). TakesPrefix old t new) s.text taken)

  pub cut_written : IsCutOff step (line_text (At n)) text → Takes old text new → Takes old (text_of (before_full lines)) new
  cut_written s taken = subst (λ (t : List ℕ). Takes old t new) s.text taken

-- The line of the event, and then the lines by which the ends are shown.
pub shown_written : (n : ℕ) (shown : List Line) (old middle new : Option (List ℕ)) → Takes old (line_text (At n)) middle → Takes middle (text_of shown) new → Takes old (text_of (At n ∷ shown)) new
shown_written n shown old middle new first second = takes_more old middle new (line_text (At n)) (text_of shown) first second

pub shown_failed : (n : ℕ) (shown : List Line) (old middle new : Option (List ℕ)) → has_full shown ≡ false → Takes old (line_text (At n)) middle → TakesPrefix middle (text_of shown) new → TakesPrefix old (text_of (before_full (At n ∷ shown))) new
shown_failed n shown old middle new none first second = full_prefix (At n ∷ shown) old new none (prefix_more old middle new (line_text (At n)) (text_of shown) first second)

pub line_failed : (n : ℕ) (shown : List Line) (old new : Option (List ℕ)) → has_full shown ≡ false → TakesPrefix old (line_text (At n)) new → TakesPrefix old (text_of (before_full (At n ∷ shown))) new
line_failed n shown old new none first = full_prefix (At n ∷ shown) old new none (prefix_longer old new (line_text (At n)) (text_of shown) first)

-- Where the ends are shown, the world stays.
pub show_happens : (w : World) (what : LinkEvent) → is_show what ≡ true → happens w (happening_of what) ≡ record { lines = shown_lines w; after = w }
unfolding happens
show_happens w (event.Connect q) is = absurd (false≢true is)
show_happens w (event.Retry q) is = absurd (false≢true is)
show_happens w (event.Open q summary) is = absurd (false≢true is)
show_happens w (event.Send q session bytes) is = absurd (false≢true is)
show_happens w (event.Beat q session) is = absurd (false≢true is)
show_happens w (event.End q session) is = absurd (false≢true is)
show_happens w (event.Update q session all) is = absurd (false≢true is)
show_happens w (event.Measure q session op) is = absurd (false≢true is)
show_happens w (event.Reply q bytes) is = absurd (false≢true is)
show_happens w (event.Deliver number) is = absurd (false≢true is)
show_happens w (event.Lose number) is = absurd (false≢true is)
show_happens w (event.Inject bytes) is = absurd (false≢true is)
show_happens w (event.Pump count) is = absurd (false≢true is)
show_happens w (event.Tick seconds) is = absurd (false≢true is)
show_happens w event.Show is = refl

-- ---- A result of which the fault was replaced.

pub ok_through : {A E F : Type 0} (r : Result A E) (q : Result A F) (x : A) (P : Type 0) → is_ok q ≡ is_ok r → q ≡ Ok x → OnOk r P → P
ok_through (Ok y) q x P same is p = p
ok_through (Err e) (Ok y) x P same is p = cc
ok_through (Err e) (Err f) x P same is p = cc

pub on_ok_through : {A E F : Type 0} (r : Result A E) (q : Result A F) (P Q : Type 0) → is_ok q ≡ is_ok r → OnOk r P → (P → Q) → OnOk q Q
on_ok_through r (Err f) P Q same p more = tt
on_ok_through (Ok y) (Ok x) P Q same p more = more p
on_ok_through (Err e) (Ok x) P Q same p more = cc

pub on_err_through : {A E F : Type 0} (r : Result A E) (q : Result A F) (P Q : Type 0) → is_ok q ≡ is_ok r → OnErr r P → (P → Q) → OnErr q Q
on_err_through r (Ok x) P Q same p more = tt
on_err_through (Err e) (Err f) P Q same p more = more p
on_err_through (Ok y) (Err f) P Q same p more = cc

pub on_ok : {A E : Type 0} (r : Result A E) (P : Type 0) → P → OnOk r P
on_ok (Ok x) P p = p
on_ok (Err e) P p = tt
