-- What holds of a responder that starts again beside requesters that go on.
use Rattle.std.specs.Prelude.{◌≡◌, ◌++◌, ℕ, List, [], ◌∷◌, map, true, Contains}
use Rattle.key_schedule.specs.Purpose.{Purpose}
use Rattle.key_schedule.specs.declared.direction.Direction.TheVariants.{Request}
use Rattle.requester_machine.specs.Requesting.{Requesting}
use Rattle.requester_machine.specs.Session.{session_of, t2_of}
use Rattle.responder_lives.specs.Restarts.{Again, AreRestarts, BootsRiseAbove, InOneLife, again_at, newest_world, older_log, world_after_lives}
use Rattle.responder_machine.specs.Responding.{Connection}
use Rattle.spdm_agreement.specs.Configured.{IsConfiguration}
use Rattle.spdm_agreement.specs.Moves.{IsPassed}
use Rattle.spdm_lives.specs.Apart.{HasBegun}
use Rattle.spdm_lives.specs.Lives.{Booted}
use Rattle.world_machine.specs.Agreement.{Agreement, ArePair, HasOpened, HashesAgree, IsMade, IsPrefixOf, SealedOnce, WasOpened, WereOpenedApart, holds, requests_sealed, requests_taken, responses_sealed, responses_taken}
use Rattle.world_machine.specs.Chance.{NoChance}
use Rattle.world_machine.specs.Happenings.{Entry}
use Rattle.world_machine.specs.Setup.{Configuration, WorldSetup, script_world}
use Rattle.world_machine.specs.Trace.{world_after}
use Rattle.world_machine.specs.World.{World}

-- What the responder took of application data in its newest life is the beginning of what the requester sealed.
abbrev pub TakesPrefixes : World → Type 0
TakesPrefixes world =
    (a : Requesting) (c : Connection) → ArePair world a c → (t2 : List ℕ)
    → IsPrefixOf (requests_taken t2 c.history) (requests_sealed t2 a.history)

-- What a requester took under a T2 is the beginning of what the responder sealed under it in one of its lives.
abbrev pub HearsPrefixes : WorldSetup → List Entry → List Again → Type 0
HearsPrefixes w entries lives =
    (a : Requesting) → Contains (world_after_lives w entries lives).requesters a → (t2 : List ℕ)
    → InOneLife w entries lives a.setup.eid (λ c. IsPrefixOf (responses_taken t2 a.history) (responses_sealed t2 c.history))

-- Each session that a requester holds open, and each that it ever opened, was opened in one life of the responder, and each
-- is another one.
pub record IsMatchedInLives (w : WorldSetup) (entries : List Entry) (lives : List Again) (a : Requesting) : Type 0 where
  pub held : (req : ℕ) → holds a.history req ≡ true → InOneLife w entries lives a.setup.eid (λ c. HasOpened (t2_of (session_of req a.history)) c.history)
  pub ids : (req other : ℕ) → holds a.history req ≡ true → holds a.history other ≡ true
      → t2_of (session_of other a.history) ≡ t2_of (session_of req a.history) → other ≡ req
  pub opened : (t2 : List ℕ) → WasOpened t2 a.history → InOneLife w entries lives a.setup.eid (λ c. HasOpened t2 c.history)
  pub apart : WereOpenedApart a.history

-- No tag of a requester, of a record or of RequesterVerifyData, that was compared in the newest life and was right, was
-- made before it.
abbrev pub TakesNothingOld : WorldSetup → List Entry → List Again → Type 0
TakesNothingOld w entries lives =
    (p : Purpose) (input : List ℕ) → p.direction ≡ Request
    → IsPassed p input (newest_world w entries lives).log → IsMade p input (older_log w entries lives) → ⊥

-- All that is said of the world after such lives. Of agreement and of hashes both ends hold the session open now, the
-- responder in its newest life; a number of a key is used once over all lives. All tags are those of the newest life and,
-- behind them, the older ones.
pub record HoldBeside (w : WorldSetup) (entries : List Entry) (lives : List Again) : Type 0 where
  pub agreement : Agreement (world_after_lives w entries lives)
  pub hashes_agree : HashesAgree (world_after_lives w entries lives)
  pub sealed_once : SealedOnce (world_after_lives w entries lives).log
  pub requests : TakesPrefixes (world_after_lives w entries lives)
  pub responses : HearsPrefixes w entries lives
  pub matched : (a : Requesting) → Contains (world_after_lives w entries lives).requesters a → IsMatchedInLives w entries lives a
  pub nothing_old : TakesNothingOld w entries lives
  pub parted : (world_after_lives w entries lives).log ≡ (newest_world w entries lives).log ++ older_log w entries lives

-- So it is where no two tags agree by chance. Each beginning of the events of the newest life is such a life too, and so is
-- each beginning of the lives.
abbrev pub ResponderLivesHold : Type 0
ResponderLivesHold =
    (w : WorldSetup) (entries : List Entry) (lives : List Again) → AreRestarts w lives
    → NoChance (world_after_lives w entries lives).log → HoldBeside w entries lives

-- So it is of a script of which the responder alone starts again, with boot numbers that rise.
abbrev pub ScriptRestartsHold : Type 0
ScriptRestartsHold =
    (c : Configuration) (seed : List ℕ) (boot : ℕ) (entries : List Entry) (booted : List Booted) → IsConfiguration c → BootsRiseAbove boot booted
    → NoChance (world_after_lives (script_world c seed boot) entries (map (again_at seed) booted)).log
    → HoldBeside (script_world c seed boot) entries (map (again_at seed) booted)

-- ---- Whatever agrees by chance.

-- No session that the responder ever began in one of these worlds, with whatever requesters, has the T1 of one that it ever
-- began in the other.
abbrev pub BegunApart : (world other : World) → Type 0
BegunApart world other =
    (c d : Connection) → Contains world.responder.connections c → Contains other.responder.connections d
    → (t1 : List ℕ) → HasBegun t1 c.history → HasBegun t1 d.history → ⊥

-- So it is of this world and that of each of these lives.
abbrev pub IsApart : WorldSetup → List Entry → World → List Again → Type 0
IsApart w entries world [] = BegunApart world (world_after w entries)
IsApart w entries world (life ∷ earlier) =
    BegunApart world (world_after_lives w entries (life ∷ earlier)) × IsApart w entries world earlier

-- So it is of each life and all before it.
abbrev pub AreApart : WorldSetup → List Entry → List Again → Type 0
AreApart w entries [] = Unit {0}
AreApart w entries (life ∷ earlier) =
    IsApart w entries (world_after_lives w entries (life ∷ earlier)) earlier × AreApart w entries earlier

-- The sessions of a responder in two of its lives have different T1.
abbrev pub RestartedApart : Type 0
RestartedApart = (w : WorldSetup) (entries : List Entry) (lives : List Again) → AreRestarts w lives → AreApart w entries lives
