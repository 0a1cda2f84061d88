-- The next boot of a device: what is answered, and what is left of the device. This project's own.
use Rattle.std.specs.Prelude.{◌≡◌, ◌<◌, ◌≤◌, ◌+◌, ℕ, List, Option, Some, Result, Ok, Err}
use Rattle.boot_keeper.specs.declared.boot_fault.BootFault.{BootFault}
use Rattle.boot_keeper.specs.declared.boot_fault.BootFault.TheVariants.{KeeperFault, Spent}
use Rattle.boot_keeper.specs.Device.{MayLeave, after_writes}
use Rattle.boot_keeper.specs.Slots.{greatest, last_boot, writes_of}

-- One call of `next_boot` that found this device answered this, and left that device. A crash during it leaves what a fault may.
abbrev pub NextBoot : List ℕ → Result ℕ BootFault → List ℕ → Type 0
NextBoot old (Ok boot) new = (greatest old < last_boot) × (boot ≡ greatest old + 1) × (new ≡ after_writes (writes_of old) old)
NextBoot old (Err Spent) new = (last_boot ≤ greatest old) × (new ≡ old)
NextBoot old (Err KeeperFault) new = MayLeave (writes_of old) old new

-- The same of a device that tells its bytes.
abbrev pub BootsNext : Option (List ℕ) → Result ℕ BootFault → Option (List ℕ) → Type 0
BootsNext held answer left = (old : List ℕ) → held ≡ Some old → (new : List ℕ) × (left ≡ Some new) × NextBoot old answer new
