-- What stands after some of the lives of a run.
use Rattle.std.proofs.Common.{◌≡◌, ◌∙◌, ◌+◌, ◌<◌, ◌++◌, ◌∷◌, [], ℕ, suc, List, length, drop, get_or, refl, sym, ap, subst, append_assoc, add-one, drop-cons, Option, Some, None}
use Rattle.std.proofs.lemmas.List.{append-nil}
use Rattle.link_world.proofs.Writing.{prefix_longer, prefix_more, takes_more, whole_prefix}
use Rattle.link_world.specs.Worlds.{StandsFor}
use Rattle.link_world.specs.declared.world.World as program
use Rattle.script_run.specs.Lives.{cycle_lines, first_line, later_full, later_text, later_world, life_full, life_text, life_world, text_of_lives, unless_full, world_of_lives}
use Rattle.script_text.specs.declared.configuration.config.ScriptConfig.{ScriptConfig}
use Rattle.script_text.specs.declared.events.event.Entry.{Entry}
use Rattle.script_text.specs.declared.texts.script.Life.{Life}
use Rattle.spdm_basis.specs.Stream.{Takes, TakesPrefix}
use Rattle.world_machine.specs.World.{World}

-- What stands for all lives once the link was full in one of them: all that is written, and the line.
pub record EndsFull (c : ScriptConfig) (all : List Life) (line : ℕ) (old now : Option (List ℕ)) : Type 0 where
  pub full : later_full c 1 all ≡ Some line
  pub written : Takes old (text_of_lives c all) now

-- The lives up to this boot were run, and these are the others: no link was full, and all of their text was written.
pub record Lived (c : ScriptConfig) (all : List Life) (boot : ℕ) (others : List Life) (old now : Option (List ℕ)) (seen : program.World) : Type 0 where
  pub world : World
  pub stands : StandsFor seen world
  pub last : world_of_lives c all ≡ later_world c (boot + 1) world others
  pub done : List ℕ
  pub written : Takes old done now
  pub text : text_of_lives c all ≡ done ++ later_text c (boot + 1) others
  pub full : later_full c 1 all ≡ later_full c (boot + 1) others

-- ---- The first life.

module _ (c : ScriptConfig) (first : Life) (others : List Life) (old now : Option (List ℕ)) where
  pub first_lived : (seen : program.World) → StandsFor seen (life_world c 1 first.events) → life_full c 1 first.events ≡ None → Takes old (life_text c 1 first.events) now →
      Lived c (first ∷ others) 1 others old now seen
  first_lived seen stands room written = record {
    world = life_world c 1 first.events;
    stands = stands;
    last = refl;
    done = life_text c 1 first.events;
    written = written;
    text = ap (λ (o : Option ℕ). life_text c 1 first.events ++ unless_full o (later_text c 2 others)) room;
    full = ap (λ (o : Option ℕ). first_line o (later_full c 2 others)) room;
  }

  pub first_partly : TakesPrefix old (life_text c 1 first.events) now → TakesPrefix old (text_of_lives c (first ∷ others)) now
  first_partly part = prefix_longer old now (life_text c 1 first.events) (unless_full (life_full c 1 first.events) (later_text c 2 others)) part

  pub first_full : (line : ℕ) → life_full c 1 first.events ≡ Some line → Takes old (life_text c 1 first.events) now → EndsFull c (first ∷ others) line old now
  first_full line full written = record {
    full = ap (λ (o : Option ℕ). first_line o (later_full c 2 others)) full;
    written = subst (λ (t : List ℕ). Takes old t now)
        (sym (ap (λ (o : Option ℕ). life_text c 1 first.events ++ unless_full o (later_text c 2 others)) full ∙ append-nil (life_text c 1 first.events))) written;
  }

-- ---- One life more.

module _ (c : ScriptConfig) (all : List Life) (boot : ℕ) (life : Life) (others : List Life) (old mid now : Option (List ℕ)) (seen : program.World) (lived : Lived c all boot (life ∷ others) old mid seen) where
  abbrev own : List ℕ
  own = cycle_lines life.cycle_line (boot + 1) ++ life_text c (boot + 1) life.events

  -- the text of all lives, by whether the link was full in this one
  text_by : (full : Option ℕ) → life_full c (boot + 1) life.events ≡ full → text_of_lives c all ≡ lived.done ++ (own ++ unless_full full (later_text c (boot + 1 + 1) others))
  text_by full is =
      lived.text
      ∙ ap (λ (o : Option ℕ). lived.done ++ (cycle_lines life.cycle_line (boot + 1) ++ (life_text c (boot + 1) life.events ++ unless_full o (later_text c (boot + 1 + 1) others)))) is
      ∙ ap (λ (t : List ℕ). lived.done ++ t) (sym (append_assoc (cycle_lines life.cycle_line (boot + 1)) (life_text c (boot + 1) life.events) (unless_full full (later_text c (boot + 1 + 1) others))))

  pub one_more : (next : program.World) → StandsFor next (life_world c (boot + 1) life.events) → life_full c (boot + 1) life.events ≡ None → Takes mid own now → Lived c all (boot + 1) others old now next
  one_more next stands room written = record {
    world = life_world c (boot + 1) life.events;
    stands = stands;
    last = lived.last;
    done = lived.done ++ own;
    written = takes_more old mid now lived.done own lived.written written;
    text = text_by None room ∙ sym (append_assoc lived.done own (later_text c (boot + 1 + 1) others));
    full = lived.full ∙ ap (λ (o : Option ℕ). first_line o (later_full c (boot + 1 + 1) others)) room;
  }

  pub one_partly : TakesPrefix mid own now → TakesPrefix old (text_of_lives c all) now
  one_partly part =
      let rest = unless_full (life_full c (boot + 1) life.events) (later_text c (boot + 1 + 1) others) in
      subst (λ (t : List ℕ). TakesPrefix old t now) (sym (text_by (life_full c (boot + 1) life.events) refl))
      (prefix_more old mid now lived.done (own ++ rest) lived.written (prefix_longer mid now own rest part))

  pub one_full : (line : ℕ) → life_full c (boot + 1) life.events ≡ Some line → Takes mid own now → EndsFull c all line old now
  one_full line full written = record {
    full = lived.full ∙ ap (λ (o : Option ℕ). first_line o (later_full c (boot + 1 + 1) others)) full;
    written = subst (λ (t : List ℕ). Takes old t now) (sym (text_by (Some line) full ∙ ap (λ (t : List ℕ). lived.done ++ t) (append-nil own)))
        (takes_more old mid now lived.done own lived.written written);
  }

-- ---- As a run meets them: the first of all lives,

module _ (c : ScriptConfig) (all : List Life) (first : Life) (others : List Life) (is : all ≡ first ∷ others) (events : List Entry) (same : events ≡ first.events) (old now : Option (List ℕ)) where
  pub begun_lived : (seen : program.World) → StandsFor seen (life_world c 1 events) → life_full c 1 events ≡ None → Takes old (life_text c 1 events) now → Lived c all 1 others old now seen
  begun_lived seen stands room written =
      subst (λ (l : List Life). Lived c l 1 others old now seen) (sym is)
      (first_lived c first others old now seen (subst (λ (e : List Entry). StandsFor seen (life_world c 1 e)) same stands)
      (subst (λ (e : List Entry). life_full c 1 e ≡ None) same room) (subst (λ (e : List Entry). Takes old (life_text c 1 e) now) same written))

  pub begun_partly : TakesPrefix old (life_text c 1 events) now → TakesPrefix old (text_of_lives c all) now
  begun_partly part =
      subst (λ (l : List Life). TakesPrefix old (text_of_lives c l) now) (sym is)
      (first_partly c first others old now (subst (λ (e : List Entry). TakesPrefix old (life_text c 1 e) now) same part))

  pub begun_full : (line : ℕ) → (life_full c 1 events ≡ Some line) × Takes old (life_text c 1 events) now → EndsFull c all line old now
  begun_full line full =
      subst (λ (l : List Life). EndsFull c l line old now) (sym is)
      (first_full c first others old now line (subst (λ (e : List Entry). life_full c 1 e ≡ Some line) same full.0) (subst (λ (e : List Entry). Takes old (life_text c 1 e) now) same full.1))

-- and the one at a place behind it.
next_is : (others : List Life) (i : ℕ) (life : Life) → i < length others → life ≡ get_or others i life → drop i others ≡ life ∷ drop (i + 1) others
next_is others i life inside is =
    drop-cons others i life inside ∙ ap (λ (x : Life). x ∷ drop (suc i) others) (sym is) ∙ ap (λ (n : ℕ). life ∷ drop n others) (sym (add-one i))

module _ (c : ScriptConfig) (all : List Life) (boot : ℕ) (others : List Life) (i : ℕ) (life : Life) (inside : i < length others) (is : life ≡ get_or others i life) (old mid now : Option (List ℕ)) (seen : program.World)
    (before : Lived c all boot (drop i others) old mid seen) where
  lived : Lived c all boot (life ∷ drop (i + 1) others) old mid seen
  lived = subst (λ (l : List Life). Lived c all boot l old mid seen) (next_is others i life inside is) before

  pub next_lived : (next : program.World) → StandsFor next (life_world c (boot + 1) life.events) → life_full c (boot + 1) life.events ≡ None →
      Takes mid (cycle_lines life.cycle_line (boot + 1) ++ life_text c (boot + 1) life.events) now → Lived c all (boot + 1) (drop (i + 1) others) old now next
  next_lived next stands room written = one_more c all boot life (drop (i + 1) others) old mid now seen lived next stands room written

  pub next_partly : TakesPrefix mid (cycle_lines life.cycle_line (boot + 1) ++ life_text c (boot + 1) life.events) now → TakesPrefix old (text_of_lives c all) now
  next_partly part = one_partly c all boot life (drop (i + 1) others) old mid now seen lived part

  pub next_full : (line : ℕ) → (life_full c (boot + 1) life.events ≡ Some line) × Takes mid (cycle_lines life.cycle_line (boot + 1) ++ life_text c (boot + 1) life.events) now → EndsFull c all line old now
  next_full line full = one_full c all boot life (drop (i + 1) others) old mid now seen lived line full.0 full.1

-- ---- All of them.

pub record LivedAll (c : ScriptConfig) (all : List Life) (old now : Option (List ℕ)) (seen : program.World) : Type 0 where
  pub stands : StandsFor seen (world_of_lives c all)
  pub none : later_full c 1 all ≡ None
  pub written : Takes old (text_of_lives c all) now

pub lived_all : (c : ScriptConfig) (all : List Life) (boot : ℕ) (others : List Life) (old now : Option (List ℕ)) (seen : program.World) → others ≡ [] → Lived c all boot others old now seen → LivedAll c all old now seen
lived_all c all boot others old now seen none lived = record {
  stands = subst (StandsFor seen) (sym (lived.last ∙ ap (later_world c (boot + 1) lived.world) none)) lived.stands;
  none = lived.full ∙ ap (later_full c (boot + 1)) none;
  written = subst (λ (t : List ℕ). Takes old t now) (sym (lived.text ∙ ap (λ (l : List Life). lived.done ++ later_text c (boot + 1) l) none ∙ append-nil lived.done)) lived.written;
}
