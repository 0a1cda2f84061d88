-- A responder starts again, once or more often, beside requesters that go on. It keeps nothing of its earlier lives but what
-- it is set up with: the same seed or any other, and draws that begin behind all those of its earlier lives. The requesters
-- keep all that they have, and packets of the earlier lives may come, late or as injected bytes. This project's own notion.
use Rattle.std.specs.Prelude.{◌≡◌, ◌⊎◌, ◌<◌, ◌≤◌, ℕ, List, [], ◌∷◌, Contains}
use Rattle.responder_machine.specs.Responding.{Connection, new_responding}
use Rattle.responder_machine.specs.Setup.{RspEnd}
use Rattle.spdm_agreement.specs.Configured.{HasDraws, IsConfigured, boot_most}
use Rattle.spdm_lives.specs.Lives.{Booted, IsBehind}
use Rattle.spdm_machine.specs.TagLog.{Log}
use Rattle.world_machine.specs.Happenings.{Entry}
use Rattle.world_machine.specs.Setup.{WorldSetup, first_draw, responder_seed}
use Rattle.world_machine.specs.Trace.{world_after, world_from}
use Rattle.world_machine.specs.World.{World}

-- A life of the responder behind its first one: its seed, its first draw, and what happens in it. In every list of lives the
-- newest stands first.
pub record Again : Type 0 where
  pub seed : List ℕ
  pub first : ℕ
  pub entries : List Entry

-- The seed and the first draw of the newest life.
abbrev pub seed_of : WorldSetup → List Again → List ℕ
seed_of w [] = w.responder.seed
seed_of w (life ∷ earlier) = life.seed

abbrev pub first_of : WorldSetup → List Again → ℕ
first_of w [] = w.responder.first
first_of w (life ∷ earlier) = life.first

-- The responder as it begins its newest life.
abbrev pub responder_at : WorldSetup → List Again → RspEnd
responder_at w lives = record w.responder { seed = seed_of w lives; first = first_of w lives }

-- The draws of each life begin behind those of the one before, and the first one is configured.
abbrev pub AreRestarts : WorldSetup → List Again → Type 0
AreRestarts w [] = IsConfigured w
AreRestarts w (life ∷ earlier) = IsBehind (first_of w earlier) life.first × HasDraws life.first × AreRestarts w earlier

-- The responder starts: all else stays as it is, the packets on the link too.
abbrev pub restarted : RspEnd → World → World
restarted r world = record world { responder = new_responding r }

-- The world after these events of the first life, and after these later lives.
abbrev pub world_after_lives : WorldSetup → List Entry → List Again → World
world_after_lives w entries [] = world_after w entries
world_after_lives w entries (life ∷ earlier) = world_from (restarted (responder_at w (life ∷ earlier)) (world_after_lives w entries earlier)) life.entries

-- ---- The newest life.

-- The tags that all ends had computed and compared before it.
abbrev pub older_log : WorldSetup → List Entry → List Again → Log
older_log w entries [] = []
older_log w entries (life ∷ earlier) = (world_after_lives w entries earlier).log

-- The same world with the tags of the newest life alone. No step looks at tags.
abbrev pub newest_world : WorldSetup → List Entry → List Again → World
newest_world w entries [] = world_after w entries
newest_world w entries (life ∷ earlier) =
    world_from (record (restarted (responder_at w (life ∷ earlier)) (world_after_lives w entries earlier)) { log = [] }) life.entries

-- ---- Each life.

-- This is so of the connection with this endpoint, as it is at the end of one of the lives.
abbrev pub HasConnection : World → (eid : ℕ) → (Connection → Type 0) → Type 0
HasConnection world eid Is = (c : Connection) × Contains world.responder.connections c × (c.setup.peer ≡ eid) × Is c

abbrev pub InOneLife : WorldSetup → List Entry → List Again → (eid : ℕ) → (Connection → Type 0) → Type 0
InOneLife w entries [] eid Is = HasConnection (world_after w entries) eid Is
InOneLife w entries (life ∷ earlier) eid Is =
    HasConnection (world_after_lives w entries (life ∷ earlier)) eid Is ⊎ InOneLife w entries earlier eid Is

-- ---- The lives of a script: one configuration and one common seed, and a boot number for each life of the responder.

abbrev pub again_at : (seed : List ℕ) → Booted → Again
again_at seed b = record { seed = responder_seed seed; first = first_draw b.boot; entries = b.entries }

-- The boot number of the newest life, where the first has this one.
abbrev pub newest_boot : (boot : ℕ) → List Booted → ℕ
newest_boot boot [] = boot
newest_boot boot (b ∷ earlier) = b.boot

-- Boot numbers rise, up to the greatest one.
abbrev pub BootsRiseAbove : (boot : ℕ) → List Booted → Type 0
BootsRiseAbove boot [] = boot ≤ boot_most
BootsRiseAbove boot (b ∷ earlier) = (newest_boot boot earlier < b.boot) × (b.boot ≤ boot_most) × BootsRiseAbove boot earlier
