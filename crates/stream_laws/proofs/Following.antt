-- An end that is followed through the events of a world: what comes to it, what it writes of that, and where it stands.
use Rattle.std.proofs.Common.{◌≡◌, ◌∙◌, ℕ, List, [], ◌∷◌, ◌++◌, Bool, true, false, cond, filter, flat_map, refl, sym, ap, subst}
use Rattle.std.proofs.lemmas.Grind.{flat_map-append}
use Rattle.std.proofs.lemmas.List.{append-nil, append_assoc}
use Rattle.std.proofs.lemmas.List.Elements.{filter-append}
use Rattle.spdm_grammar.specs.Lines.{Line}
use Rattle.stream_laws.specs.Coming.{Coming}
use Rattle.world_machine.specs.World.{World, WorldStep, rests}

-- What an end writes of what comes, and the end after it.
pub record Doing (S : Type 0) : Type 0 where
  pub written : List ℕ
  pub after : S

-- An end as it stands on its own; what it does; what comes to it, of all that comes to a world; what is written of a
-- line; and that it stands so in a world.
pub record Follows : Type 1 where
  pub State : Type 0
  pub does : State → Coming → Doing State
  pub mine : Coming → Bool
  pub own : Line → List ℕ
  pub Stands : State → World → Type 0

-- ---- All that comes to the end, in order.

abbrev pub after_all : (f : Follows) → f.State → List Coming → f.State
after_all f s [] = s
after_all f s (x ∷ others) = after_all f (f.does s x).after others

abbrev pub written_by : (f : Follows) → f.State → List Coming → List ℕ
written_by f s [] = []
written_by f s (x ∷ others) = (f.does s x).written ++ written_by f (f.does s x).after others

pub after_append : (f : Follows) (s : f.State) (xs ys : List Coming) → after_all f s (xs ++ ys) ≡ after_all f (after_all f s xs) ys
after_append f s [] ys = refl
after_append f s (x ∷ xs) ys = after_append f (f.does s x).after xs ys

pub written_append : (f : Follows) (s : f.State) (xs ys : List Coming) → written_by f s (xs ++ ys) ≡ written_by f s xs ++ written_by f (after_all f s xs) ys
written_append f s [] ys = refl
written_append f s (x ∷ xs) ys =
    let first = (f.does s x).written in
    let later = (f.does s x).after in
    ap (λ (rest : List ℕ). first ++ rest) (written_append f later xs ys) ∙ sym (append_assoc first (written_by f later xs) (written_by f (after_all f later xs) ys))

-- ---- A step of a world, by which this came.

-- The lines of the end are what it writes, and it stands in the world after it.
pub record Goes (f : Follows) (s : f.State) (xs : List Coming) (step : WorldStep) : Type 0 where
  pub lines : flat_map f.own step.lines ≡ written_by f s (filter f.mine xs)
  pub after : f.Stands (after_all f s (filter f.mine xs)) step.after

pub goes_nowhere : (f : Follows) (s : f.State) (world : World) → f.Stands s world → Goes f s [] (rests world)
goes_nowhere f s world h = record { lines = refl; after = h }

pub goes_on : (f : Follows) (s : f.State) (xs ys : List Coming) (one two : WorldStep) → Goes f s xs one → Goes f (after_all f s (filter f.mine xs)) ys two
    → Goes f s (xs ++ ys) (record { lines = one.lines ++ two.lines; after = two.after })
goes_on f s xs ys one two p q =
    let these = filter f.mine xs in
    let those = filter f.mine ys in
    let both = filter-append f.mine xs ys in record {
      lines = flat_map-append f.own one.lines two.lines
          ∙ ap (λ (front : List ℕ). front ++ flat_map f.own two.lines) p.lines
          ∙ ap (λ (rest : List ℕ). written_by f s these ++ rest) q.lines
          ∙ sym (written_append f s these those)
          ∙ ap (written_by f s) (sym both);
      after = subst (λ (t : f.State). f.Stands t two.after) (sym (ap (after_all f s) both ∙ after_append f s these those)) q.after;
    }

-- A line of nobody stands in front.
pub goes_behind : (f : Follows) (s : f.State) (xs : List Coming) (line : Line) (step : WorldStep) → f.own line ≡ [] → Goes f s xs step → Goes f s xs (record { lines = line ∷ step.lines; after = step.after })
goes_behind f s xs line step none p = record { lines = ap (λ (front : List ℕ). front ++ flat_map f.own step.lines) none ∙ p.lines; after = p.after }

-- One thing comes, to the end or to another.

kept_or_not : (f : Follows) (x : Coming) (b : Bool) → f.mine x ≡ b → filter f.mine (x ∷ []) ≡ cond b (x ∷ []) []
kept_or_not f x b e = ap (λ (c : Bool). cond c (x ∷ []) []) e

pub goes_by_own : (f : Follows) (s : f.State) (x : Coming) (step : WorldStep) → f.mine x ≡ true → flat_map f.own step.lines ≡ (f.does s x).written → f.Stands (f.does s x).after step.after
    → Goes f s (x ∷ []) step
goes_by_own f s x step is lines after = record {
  lines = lines ∙ sym (append-nil (f.does s x).written) ∙ ap (written_by f s) (sym (kept_or_not f x true is));
  after = subst (λ (xs : List Coming). f.Stands (after_all f s xs) step.after) (sym (kept_or_not f x true is)) after;
}

pub goes_by_other : (f : Follows) (s : f.State) (x : Coming) (step : WorldStep) → f.mine x ≡ false → flat_map f.own step.lines ≡ [] → f.Stands s step.after → Goes f s (x ∷ []) step
goes_by_other f s x step is lines after = record {
  lines = lines ∙ ap (written_by f s) (sym (kept_or_not f x false is));
  after = subst (λ (xs : List Coming). f.Stands (after_all f s xs) step.after) (sym (kept_or_not f x false is)) after;
}
