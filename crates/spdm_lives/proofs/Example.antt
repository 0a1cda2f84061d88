-- Three lives of one configuration, with events and without a tag: the laws of lives speak of lives that exist.
use Rattle.std.proofs.Common.{ℕ, List, [], ◌∷◌, arith}
use Rattle.spdm_agreement.proofs.Worlds.Configuration.{setup, configuration}
use Rattle.spdm_lives.proofs.LivesHold.{are_lives, script_lives_hold}
use Rattle.spdm_lives.specs.Laws.{HoldOverLives}
use Rattle.spdm_lives.specs.Lives.{AreLives, Booted, BootsRise, joined_log, script_lives}
use Rattle.world_machine.specs.Chance.{NoChance}
use Rattle.world_machine.specs.Happenings.Happening.{Show, Tick}
use Rattle.world_machine.specs.World.{happens}

-- The newest one first: seconds pass, and the ends are shown.
abbrev pub booted : List Booted
booted =
    record { boot = 7; entries = record { line = 9; happening = Show } ∷ [] }
    ∷ record { boot = 2; entries = record { line = 7; happening = Tick 5 } ∷ record { line = 8; happening = Show } ∷ [] }
    ∷ record { boot = 1; entries = [] } ∷ []

rise : BootsRise booted
rise = ((omega arith), (omega arith), ((omega arith), (omega arith), (omega arith)))

pub lives : (seed : List ℕ) → AreLives (script_lives setup seed booted)
lives seed = are_lives setup seed booted configuration rise

pub no_chance : (seed : List ℕ) → NoChance (joined_log (script_lives setup seed booted))
unfolding happens
no_chance seed = tt

pub hold : (seed : List ℕ) → HoldOverLives (script_lives setup seed booted)
hold seed = script_lives_hold setup seed booted configuration rise (no_chance seed)
