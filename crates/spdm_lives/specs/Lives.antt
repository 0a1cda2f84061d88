-- Lives: the ends of a world start again, with the same set-up, one life after another. An end that starts again keeps
-- nothing of its earlier lives but what it is set up with: the same seed or any other, and draws that begin behind all
-- those of its earlier lives. Packets of earlier lives may come again, as injected bytes. This project's own notion.
use Rattle.std.specs.Prelude.{◌≡◌, ◌+◌, ◌≤◌, ◌<◌, ◌++◌, ℕ, List, [], ◌∷◌, map}
use Rattle.requester_machine.specs.Setup.{ReqEnd}
use Rattle.spdm_agreement.specs.Configured.{IsConfigured, boot_most}
use Rattle.spdm_machine.specs.Packets.{wear_limit}
use Rattle.spdm_machine.specs.TagLog.{Log}
use Rattle.world_machine.specs.Happenings.{Entry}
use Rattle.world_machine.specs.Setup.{WorldSetup, Configuration, script_world}
use Rattle.world_machine.specs.Trace.{world_after}
use Rattle.world_machine.specs.World.{World}

-- One life: how its ends are set up, each with the seed and the first draw of this life, and its events in order.
pub record Life : Type 0 where
  pub setup : WorldSetup
  pub entries : List Entry

-- The world that a life leads to, from new ends on.
abbrev pub world_of : Life → World
world_of life = world_after life.setup life.entries

-- ---- One life behind another. In every list of lives the newest stands first.

-- The draws of a later life begin behind all those that an end may take in an earlier one.
abbrev pub IsBehind : (earlier later : ℕ) → Type 0
IsBehind earlier later = earlier + wear_limit ≤ later

-- Each requester is set up as it was, in order, with any seed and with draws behind the earlier ones.
abbrev pub RequestersGoOn : (earlier later : List ReqEnd) → Type 0
RequestersGoOn [] [] = Unit {0}
RequestersGoOn [] (y ∷ later) = ⊥
RequestersGoOn (x ∷ earlier) [] = ⊥
RequestersGoOn (x ∷ earlier) (y ∷ later) = (y.setup ≡ x.setup) × IsBehind x.first y.first × RequestersGoOn earlier later

-- The ends of one life go on as those of a later one: the same responder and the same requesters, each with any seed and
-- with draws behind the earlier ones.
pub record GoesOn (earlier later : WorldSetup) : Type 0 where
  pub part : later.responder.part ≡ earlier.responder.part
  pub responder : IsBehind earlier.responder.first later.responder.first
  pub requesters : RequestersGoOn earlier.requesters later.requesters

-- Lives of the same ends, each within the limits.
abbrev pub AreLives : List Life → Type 0
AreLives [] = Unit {0}
AreLives (life ∷ []) = IsConfigured life.setup
AreLives (life ∷ before ∷ older) = IsConfigured life.setup × GoesOn before.setup life.setup × AreLives (before ∷ older)

-- The tags that all ends computed and compared in all lives, the newest first.
abbrev pub joined_log : List Life → Log
joined_log [] = []
joined_log (life ∷ earlier) = (world_of life).log ++ joined_log earlier

-- This holds of each life with those before it.
abbrev pub InEachLife : (Life → List Life → Type 0) → List Life → Type 0
InEachLife Holds [] = Unit {0}
InEachLife Holds (life ∷ earlier) = Holds life earlier × InEachLife Holds earlier

-- ---- The lives of a script: one configuration and one common seed, and a boot number for each life.

-- A boot number and the events of its life.
pub record Booted : Type 0 where
  pub boot : ℕ
  pub entries : List Entry

-- A life of a script.
abbrev pub script_life : Configuration → (seed : List ℕ) → Booted → Life
script_life c seed b = record { setup = script_world c seed b.boot; entries = b.entries }

-- All its lives.
abbrev pub script_lives : Configuration → (seed : List ℕ) → List Booted → List Life
script_lives c seed bs = map (script_life c seed) bs

-- Boot numbers rise, up to the greatest one.
abbrev pub BootsRise : List Booted → Type 0
BootsRise [] = Unit {0}
BootsRise (b ∷ []) = b.boot ≤ boot_most
BootsRise (b ∷ before ∷ older) = (b.boot ≤ boot_most) × (before.boot < b.boot) × BootsRise (before ∷ older)

-- The events of lives in the order of a text, of which the first has this boot number and each other one the next, behind
-- the lives that were before them.
abbrev pub booted_from : (boot : ℕ) → List (List Entry) → List Booted → List Booted
booted_from boot [] before = before
booted_from boot (entries ∷ later) before = booted_from (boot + 1) later (record { boot = boot; entries = entries } ∷ before)

-- The lives of a text, which begin with boot number 1.
abbrev pub text_lives : Configuration → (seed : List ℕ) → List (List Entry) → List Life
text_lives c seed texts = script_lives c seed (booted_from 1 texts [])
