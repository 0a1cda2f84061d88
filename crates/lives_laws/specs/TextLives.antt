-- The lives of a text, and what holds of them after each beginning of its events. This project's own.
use Rattle.std.specs.Prelude.{◌≡◌, ◌+◌, ◌++◌, ℕ, List, [], ◌∷◌, length, Ok}
use Rattle.script_ends.specs.Configured.{configuration_in}
use Rattle.script_laws.specs.Scripts.{entries_in, seed_in}
use Rattle.script_run.specs.Lives.{life_world}
use Rattle.script_text.specs.ScriptText.{lives_in}
use Rattle.script_text.specs.declared.configuration.config.ScriptConfig.{ScriptConfig}
use Rattle.script_text.specs.declared.events.event.Entry.{Entry}
use Rattle.script_text.specs.declared.texts.script.Life.{Life}
use Rattle.script_text.specs.declared.texts.script.Lives.{Lives}
use Rattle.spdm_lives.specs.Apart.{IsApart}
use Rattle.spdm_lives.specs.Laws.{HoldOverLives}
use Rattle.spdm_lives.specs.Lives as lived
use Rattle.spdm_lives.specs.Lives.{InEachLife, joined_log, text_lives, world_of}
use Rattle.world_machine.specs.Chance.{NoChance}
use Rattle.world_machine.specs.Happenings as machine
use Rattle.world_machine.specs.World.{World}

-- ---- A beginning of a text of lives: some of its lives whole, and of the one behind them some of the first events.

-- Their events, in the order of the text.
abbrev pub begun_with : (whole : List Life) → (events : List Entry) → List (List machine.Entry)
begun_with [] events = entries_in events ∷ []
begun_with (life ∷ others) events = entries_in life.events ∷ begun_with others events

-- These lives, the newest first, with the boot numbers from 1 on.
abbrev pub lives_begun : ScriptConfig → (whole : List Life) → (events : List Entry) → List lived.Life
lives_begun c whole events = text_lives (configuration_in c) (seed_in c) (begun_with whole events)

-- Of each beginning of these lives.
abbrev pub AtEachBeginning : Lives → ((whole : List Life) → (events : List Entry) → Type 0) → Type 0
AtEachBeginning lives Holds =
    (whole : List Life) (life : Life) (later : List Life) (events rest : List Entry)
    → lives.lives ≡ whole ++ life ∷ later → life.events ≡ events ++ rest → Holds whole events

-- Of the lives that a text is, if it is some.
abbrev pub OfLivesIn : List ℕ → (Lives → Type 0) → Type 0
OfLivesIn text Holds = (lives : Lives) → lives_in text ≡ Ok lives → Holds lives

-- ---- What holds of them.

-- Where nothing agreed by chance over all lives up to there, what is said of lives of the same ends.
abbrev pub LivesHoldIn : List ℕ → Type 0
LivesHoldIn text = OfLivesIn text (λ lives. AtEachBeginning lives (λ whole events.
    NoChance (joined_log (lives_begun lives.config whole events)) → HoldOverLives (lives_begun lives.config whole events)))

-- Whatever agreed by chance, no session of an end has the T1 of one in another life.
abbrev pub LivesApartIn : List ℕ → Type 0
LivesApartIn text = OfLivesIn text (λ lives. AtEachBeginning lives (λ whole events.
    InEachLife IsApart (lives_begun lives.config whole events)))

-- The newest of some lives leads to this world.
abbrev pub IsNewest : World → List lived.Life → Type 0
IsNewest world [] = ⊥
IsNewest world (newest ∷ earlier) = world_of newest ≡ world

-- It is the world that the run of the text has then.
abbrev pub NewestIsRunIn : List ℕ → Type 0
NewestIsRunIn text = OfLivesIn text (λ lives. AtEachBeginning lives (λ whole events.
    IsNewest (life_world lives.config (length whole + 1) events) (lives_begun lives.config whole events)))
