-- Two restarts of the responder of one configuration, with events and without a tag: the laws speak of lives that exist.
use Rattle.std.proofs.Common.{ℕ, List, [], ◌∷◌, map, arith}
use Rattle.responder_lives.proofs.LivesHold.{are_restarts, script_restarts_hold}
use Rattle.responder_lives.specs.Laws.{HoldBeside}
use Rattle.responder_lives.specs.Restarts.{AreRestarts, BootsRiseAbove, again_at, world_after_lives}
use Rattle.spdm_agreement.proofs.Worlds.Configuration.{configuration, setup}
use Rattle.spdm_lives.specs.Lives.{Booted}
use Rattle.world_machine.specs.Chance.{NoChance}
use Rattle.world_machine.specs.Happenings.{Entry}
use Rattle.world_machine.specs.Happenings.Happening.{Show, Tick}
use Rattle.world_machine.specs.Setup.{script_world}
use Rattle.world_machine.specs.World.{happens}

-- In the first life the ends are shown; then, the newest life in front: seconds pass, and the ends are shown.
abbrev pub entries : List Entry
entries = record { line = 7; happening = Show } ∷ []

abbrev pub booted : List Booted
booted =
    record { boot = 7; entries = record { line = 10; happening = Show } ∷ [] }
    ∷ record { boot = 2; entries = record { line = 8; happening = Tick 5 } ∷ record { line = 9; happening = Show } ∷ [] } ∷ []

rise : BootsRiseAbove 1 booted
rise = ((omega arith), (omega arith), ((omega arith), (omega arith), (omega arith)))

pub restarts : (seed : List ℕ) → AreRestarts (script_world setup seed 1) (map (again_at seed) booted)
restarts seed = are_restarts setup seed 1 booted configuration rise

pub no_chance : (seed : List ℕ) → NoChance (world_after_lives (script_world setup seed 1) entries (map (again_at seed) booted)).log
unfolding happens
no_chance seed = tt

pub hold : (seed : List ℕ) → HoldBeside (script_world setup seed 1) entries (map (again_at seed) booted)
hold seed = script_restarts_hold setup seed 1 entries booted configuration rise (no_chance seed)
