-- What holds of lives of the same ends, one after another, with any events in each.
use Rattle.std.specs.Prelude.{◌≤◌, List, ℕ, length}
use Rattle.spdm_agreement.specs.Configured.{IsConfiguration, boot_most}
use Rattle.spdm_agreement.specs.Worlds.{HoldsTogether}
use Rattle.spdm_lives.specs.Apart.{IsApart}
use Rattle.spdm_lives.specs.Fresh.{NothingOld, NoOldSession}
use Rattle.spdm_lives.specs.Lives.{Life, Booted, AreLives, BootsRise, InEachLife, joined_log, script_lives, text_lives, world_of}
use Rattle.world_machine.specs.Agreement.{SealedOnce}
use Rattle.world_machine.specs.Chance.{NoChance}
use Rattle.world_machine.specs.Happenings.{Entry}
use Rattle.world_machine.specs.Setup.{Configuration}

-- The sessions of one end in two of its lives have different T1: all those that a responder ever began, and all those
-- that a requester ever accepted. Chance plays no part.
abbrev pub NoTranscriptTwice : Type 0
NoTranscriptTwice = (lives : List Life) → AreLives lives → InEachLife IsApart lives

-- What is said of one life that is behind others: both ends of a session agree in it, nothing old passes, and no session
-- that is held open began with old verify data.
pub record HoldsInLife (life : Life) (earlier : List Life) : Type 0 where
  pub together : HoldsTogether (world_of life)
  pub apart : IsApart life earlier
  pub nothing_old : NothingOld life earlier
  pub no_old_session : NoOldSession life earlier

-- All that is said of lives: that of each life, and that no end seals two different records under one purpose and number
-- over all of them.
pub record HoldOverLives (lives : List Life) : Type 0 where
  pub each : InEachLife HoldsInLife lives
  pub sealed_once : SealedOnce (joined_log lives)

-- So it is where no two tags of all lives agree by chance. Each beginning of the events of the newest life is such a
-- life too, and each life but the newest ones.
abbrev pub LivesHold : Type 0
LivesHold = (lives : List Life) → AreLives lives → NoChance (joined_log lives) → HoldOverLives lives

-- So it is of the lives of a script, of one configuration and seed, whose boot numbers rise.
abbrev pub ScriptLivesHold : Type 0
ScriptLivesHold =
    (c : Configuration) (seed : List ℕ) (booted : List Booted) → IsConfiguration c → BootsRise booted
    → NoChance (joined_log (script_lives c seed booted)) → HoldOverLives (script_lives c seed booted)

-- So it is of the lives of a text, in its order, with the boot numbers from 1 on.
abbrev pub TextLivesHold : Type 0
TextLivesHold =
    (c : Configuration) (seed : List ℕ) (texts : List (List Entry)) → IsConfiguration c → length texts ≤ boot_most
    → NoChance (joined_log (text_lives c seed texts)) → HoldOverLives (text_lives c seed texts)

-- The same of T1 alone, which no premise of chance needs.
abbrev pub TextTranscriptsApart : Type 0
TextTranscriptsApart =
    (c : Configuration) (seed : List ℕ) (texts : List (List Entry)) → IsConfiguration c → length texts ≤ boot_most
    → InEachLife IsApart (text_lives c seed texts)
