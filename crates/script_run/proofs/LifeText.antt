-- What is written of a life begins with the ends as they are at first.
use Rattle.std.proofs.Common.{◌≡◌, ◌∙◌, ◌++◌, ℕ, List, ap, sym, subst, Option, Some}
use Rattle.link_world.proofs.Shown.{shown_plain}
use Rattle.link_world.proofs.Texts.{before_behind, text_append}
use Rattle.link_world.proofs.Writing.{prefix_longer, prefix_more, takes_more}
use Rattle.link_world.specs.Written.{before_full, text_of}
use Rattle.script_laws.specs.Scripts.{entries_in}
use Rattle.script_run.specs.Going.{IsFullAt, text_from}
use Rattle.script_run.specs.Lives.{life_full, life_text, set_up_in}
use Rattle.script_text.specs.declared.configuration.config.ScriptConfig.{ScriptConfig}
use Rattle.script_text.specs.declared.events.event.Entry.{Entry}
use Rattle.spdm_basis.specs.Stream.{Takes, TakesPrefix}
use Rattle.world_machine.specs.Trace.{lines_from}
use Rattle.world_machine.specs.World.{World, new_world, shown_lines}

module _ (c : ScriptConfig) (boot : ℕ) (events : List Entry) (old mid now : Option (List ℕ)) where
  abbrev world : World
  world = new_world (set_up_in c boot)

  begins : life_text c boot events ≡ text_of (shown_lines world) ++ text_from world events
  begins =
      ap text_of (before_behind (shown_lines world) (lines_from world (entries_in events)) (shown_plain world))
      ∙ text_append (shown_lines world) (before_full (lines_from world (entries_in events)))

  pub begun : TakesPrefix old (text_of (shown_lines world)) now → TakesPrefix old (life_text c boot events) now
  begun part = subst (λ (t : List ℕ). TakesPrefix old t now) (sym begins) (prefix_longer old now (text_of (shown_lines world)) (text_from world events) part)

  pub gone_on : Takes old (text_of (shown_lines world)) mid → TakesPrefix mid (text_from world events) now → TakesPrefix old (life_text c boot events) now
  gone_on first part = subst (λ (t : List ℕ). TakesPrefix old t now) (sym begins) (prefix_more old mid now (text_of (shown_lines world)) (text_from world events) first part)

  pub all_written : Takes old (text_of (shown_lines world)) mid → Takes mid (text_from world events) now → Takes old (life_text c boot events) now
  all_written first rest = subst (λ (t : List ℕ). Takes old t now) (sym begins) (takes_more old mid now (text_of (shown_lines world)) (text_from world events) first rest)

  pub is_full_line : (line : ℕ) → Takes old (text_of (shown_lines world)) mid → IsFullAt world events line mid now → (life_full c boot events ≡ Some line) × Takes old (life_text c boot events) now
  is_full_line line first full = (full.is, all_written first full.written)
