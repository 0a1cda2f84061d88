-- A generated script is run as any other.
use Rattle.std.proofs.Common.{◌≡◌, ℕ, List, Option, Some, None, sym, subst}
use Rattle.link_world.proofs.Writing.{whole_prefix}
use Rattle.link_world.specs.Worlds.{StandsFor}
use Rattle.link_world.specs.declared.world.World as program
use Rattle.script_text.specs.Generator.{generated}
use Rattle.script_text.specs.Sound.{IsSoundConfig}
use Rattle.script_text.specs.declared.events.event.Entry.{Entry}
use Rattle.script_text.specs.declared.texts.script.Script.{Script}
use Rattle.script_laws.specs.Scripts.{entries_in, full_from, full_line, last_world, set_up}
use Rattle.spdm_basis.specs.Stream.{Takes, TakesPrefix}
use Rattle.spdm_command.proofs.GeneratedSound.{generated_sound}
use Rattle.spdm_command.specs.Answer.{generated_text}
use Rattle.world_machine.specs.Trace.{world_from}
use Rattle.world_machine.specs.World.{new_world}

module _ (seed count : ℕ) (script : Script) (is : script ≡ generated seed count) where
  pub is_sound : IsSoundConfig script.config
  is_sound = subst (λ (s : Script). IsSoundConfig s.config) (sym is) (generated_sound seed)

  module _ (events : List Entry) (same : events ≡ script.events) where
    pub last_stands : (seen : program.World) → StandsFor seen (world_from (new_world (set_up script)) (entries_in events)) → StandsFor seen (last_world (generated seed count))
    last_stands seen stands =
        subst (λ (s : Script). StandsFor seen (last_world s)) is
        (subst (λ (l : List Entry). StandsFor seen (world_from (new_world (set_up script)) (entries_in l))) same stands)

    pub has_room : full_from (new_world (set_up script)) (entries_in events) ≡ None → full_line (generated seed count) ≡ None
    has_room none =
        subst (λ (s : Script). full_line s ≡ None) is
        (subst (λ (l : List Entry). full_from (new_world (set_up script)) (entries_in l) ≡ None) same none)

    pub is_full_at : (line : ℕ) → full_from (new_world (set_up script)) (entries_in events) ≡ Some line → full_line (generated seed count) ≡ Some line
    is_full_at line found =
        subst (λ (s : Script). full_line s ≡ Some line) is
        (subst (λ (l : List Entry). full_from (new_world (set_up script)) (entries_in l) ≡ Some line) same found)

-- Where no event finds the link full, the summary is the output.
pub summary_prefix : (old new : Option (List ℕ)) (summary : List ℕ) (full : Option ℕ) → full ≡ None → TakesPrefix old summary new → TakesPrefix old (generated_text full summary) new
summary_prefix old new summary full none part = subst (λ (o : Option ℕ). TakesPrefix old (generated_text o summary) new) (sym none) part

pub summary_whole : (old new : Option (List ℕ)) (summary : List ℕ) (full : Option ℕ) → full ≡ None → Takes old summary new → TakesPrefix old (generated_text full summary) new
summary_whole old new summary full none all = summary_prefix old new summary full none (whole_prefix old new summary all)
