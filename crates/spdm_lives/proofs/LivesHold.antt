-- All that is said of lives, of those of scripts and texts too.
use Rattle.std.proofs.Common.{◌≤◌, ◌<◌, ◌+◌, ℕ, List, [], ◌∷◌, length, refl, arith}
use Rattle.requester_machine.specs.Setup.{ReqSetup}
use Rattle.spdm_agreement.proofs.Worlds.Scripts.{scripts_are_configured}
use Rattle.spdm_agreement.specs.Configured.{IsConfiguration, boot_most}
use Rattle.spdm_lives.proofs.LifeHolds.{holds_together, nothing_old, no_old_session, seals_once}
use Rattle.spdm_lives.proofs.PastLives.{always_good}
use Rattle.spdm_lives.proofs.TranscriptsApart.{apart_from_all, configured, is_last, lives_before, no_transcript_twice}
use Rattle.spdm_lives.specs.Laws.{HoldsInLife, LivesHold, ScriptLivesHold, TextLivesHold, TextTranscriptsApart}
use Rattle.spdm_lives.specs.Lives.{Life, Booted, AreLives, BootsRise, GoesOn, InEachLife, IsBehind, RequestersGoOn, booted_from, joined_log, script_lives, text_lives, world_of}
use Rattle.world_machine.proofs.Logs.{no_chance_before}
use Rattle.world_machine.specs.Agreement.{SealedOnce}
use Rattle.world_machine.specs.Chance.{NoChance}
use Rattle.world_machine.specs.Happenings.{Entry}
use Rattle.world_machine.specs.Setup.{Configuration, ends_from, first_draw, script_world}

each_holds : (lives : List Life) → AreLives lives → NoChance (joined_log lives) → InEachLife HoldsInLife lives
each_holds [] are chance = tt
each_holds (life ∷ earlier) are chance =
    let k = always_good life earlier are chance in (
      record {
        together = holds_together life earlier k;
        apart = apart_from_all life earlier (configured life earlier are) (is_last life earlier are);
        nothing_old = nothing_old life earlier k;
        no_old_session = no_old_session life earlier k;
      },
      each_holds earlier (lives_before life earlier are) (no_chance_before (world_of life).log (joined_log earlier) chance),
    )

all_sealed_once : (lives : List Life) → AreLives lives → NoChance (joined_log lives) → SealedOnce (joined_log lives)
all_sealed_once [] are chance p number b c is m n = absurd m
all_sealed_once (life ∷ earlier) are chance p number b c is m n = seals_once life earlier (always_good life earlier are chance) p number b c is m n

pub lives_hold : LivesHold
lives_hold lives are chance = record { each = each_holds lives are chance; sealed_once = all_sealed_once lives are chance }

-- ---- Scripts.

draws_behind : (before later : ℕ) → before < later → IsBehind (first_draw before) (first_draw later)
draws_behind before later less = omega arith

ends_go_on : (n : ℕ) (seed : List ℕ) (before later : ℕ) → before < later → (qs : List ReqSetup) → RequestersGoOn (ends_from n seed before qs) (ends_from n seed later qs)
ends_go_on n seed before later less [] = tt
ends_go_on n seed before later less (q ∷ others) = (refl, draws_behind before later less, ends_go_on (n + 1) seed before later less others)

worlds_go_on : (c : Configuration) (seed : List ℕ) (before later : ℕ) → before < later → GoesOn (script_world c seed before) (script_world c seed later)
worlds_go_on c seed before later less = record { part = refl; responder = draws_behind before later less; requesters = ends_go_on 1 seed before later less c.requesters }

pub are_lives : (c : Configuration) (seed : List ℕ) (booted : List Booted) → IsConfiguration c → BootsRise booted → AreLives (script_lives c seed booted)
are_lives c seed [] is rise = tt
are_lives c seed (b ∷ []) is rise = scripts_are_configured c seed b.boot is rise
are_lives c seed (b ∷ before ∷ older) is rise = (scripts_are_configured c seed b.boot is rise.0, worlds_go_on c seed before.boot b.boot rise.1, are_lives c seed (before ∷ older) is rise.2)

pub script_lives_hold : ScriptLivesHold
script_lives_hold c seed booted is rise chance = lives_hold (script_lives c seed booted) (are_lives c seed booted is rise) chance

-- ---- Texts.

-- All of these boot numbers are below this one.
abbrev IsAbove : ℕ → List Booted → Type 0
IsAbove boot [] = Unit {0}
IsAbove boot (b ∷ before) = b.boot < boot

one_more : (b : Booted) (before : List Booted) → b.boot ≤ boot_most → IsAbove b.boot before → BootsRise before → BootsRise (b ∷ before)
one_more b [] most above rise = most
one_more b (x ∷ before) most above rise = (most, above, rise)

texts_rise : (boot : ℕ) (texts : List (List Entry)) (before : List Booted) → boot + length texts ≤ boot_most + 1 → IsAbove boot before → BootsRise before → BootsRise (booted_from boot texts before)
texts_rise boot [] before few above rise = rise
texts_rise boot (entries ∷ later) before few above rise =
    texts_rise (boot + 1) later (record { boot = boot; entries = entries } ∷ before) (omega arith) (omega arith) (one_more (record { boot = boot; entries = entries }) before (omega arith) above rise)

boots_rise : (texts : List (List Entry)) → length texts ≤ boot_most → BootsRise (booted_from 1 texts [])
boots_rise texts few = texts_rise 1 texts [] (omega arith) tt tt

pub text_lives_hold : TextLivesHold
text_lives_hold c seed texts is few chance = script_lives_hold c seed (booted_from 1 texts []) is (boots_rise texts few) chance

pub text_transcripts_apart : TextTranscriptsApart
text_transcripts_apart c seed texts is few = no_transcript_twice (text_lives c seed texts) (are_lives c seed (booted_from 1 texts []) is (boots_rise texts few))
