-- The same of lives: where the ends of a world start again, one life after another. This project's own.
use Rattle.std.specs.Prelude.{◌≡◌, ℕ, List, ◌∷◌, Some}
use Rattle.attestor.specs.Attesting.{Attesting, attesting_over}
use Rattle.requester_machine.specs.Requesting.{Requesting}
use Rattle.script_text.specs.declared.texts.rule.Rule.{Rule}
use Rattle.spdm_lives.specs.Lives.{Life, AreLives, InEachLife, joined_log, world_of}
use Rattle.world_machine.specs.Chance.{NoChance}
use Rattle.world_machine.specs.Setup.{WorldSetup}
use Rattle.world_machine.specs.World.{new_world, requester_of}
use Rattle.attest_laws.specs.Attested.{DecidesAsConfigured, Happened, MayAllHappen, attested_after, events_after}
use Rattle.attest_laws.specs.Measured.{AllMeasureAsConfigured}

-- Each requester of a life measures in its sessions what the responder is set up with, whatever the lives before it left.
abbrev pub MeasuresInLife : Life → List Life → Type 0
MeasuresInLife life earlier = AllMeasureAsConfigured (world_of life)

-- So it is in each life where no two tags of all lives agree by chance.
abbrev pub LivesMeasureAsConfigured : Type 0
LivesMeasureAsConfigured = (lives : List Life) → AreLives lives → NoChance (joined_log lives) → InEachLife MeasuresInLife lives

-- A life in which requester n attests.
abbrev pub attested_life : WorldSetup → (n : ℕ) → Attesting → List Happened → Life
attested_life w n a happened = record { setup = w; entries = events_after n a happened }

-- In such a life behind others an attesting requester decides by what the responder is set up with.
abbrev pub LivesAttestAsConfigured : Type 0
LivesAttestAsConfigured =
    (w : WorldSetup) (earlier : List Life) (n : ℕ) (requester : Requesting) → requester_of n (new_world w) ≡ Some requester
    → (rules : List Rule) (happened : List Happened) → MayAllHappen n requester.setup.eid happened
    → AreLives (attested_life w n (attesting_over requester rules) happened ∷ earlier)
    → NoChance (joined_log (attested_life w n (attesting_over requester rules) happened ∷ earlier))
    → DecidesAsConfigured w.responder.part rules (attested_after (attesting_over requester rules) happened).decision
