-- The next boot of a device that a caller stores.
use Rattle.std.specs.Prelude.{◌≡◌, ◌≤◌, ◌<◌, ◌+◌, ℕ, List}
use Rattle.boot_keeper.specs.Device.{after_writes}
use Rattle.boot_keeper.specs.Slots.{greatest, last_boot, writes_of}
use Rattle.c_ends.specs.declared.codes.TheConstants.{BOOTS_SPENT, OK}

-- A number that is left is told, and the device is left as three writes leave it; where all are spent nothing is written.
abbrev pub IsNextBoot : (old : List ℕ) → (code : ℕ) → (new : List ℕ) → (old_boot boot : ℕ) → Type 0
IsNextBoot old code new old_boot boot =
    (greatest old < last_boot → (code ≡ OK) × (boot ≡ greatest old + 1) × (new ≡ after_writes (writes_of old) old))
    × (last_boot ≤ greatest old → (code ≡ BOOTS_SPENT) × (boot ≡ old_boot) × (new ≡ old))
