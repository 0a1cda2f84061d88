-- What may happen to a device over its whole life, and which boots it gives. This project's own.
use Rattle.std.specs.Prelude.{◌≡◌, ◌≤◌, ℕ, Bool, true, false, IsTrue, List, [], ◌∷◌, Result, Ok, Err, length, replicate}
use Rattle.std.specs.List.{list_all, range_with_len}
use Rattle.std.specs.List.Sorted.{IsStrictlyIncreasing}
use Rattle.boot_keeper.specs.declared.boot_fault.BootFault.{BootFault}
use Rattle.boot_keeper.specs.declared.boot_fault.BootFault.TheVariants.{KeeperFault, Spent}
use Rattle.boot_keeper.specs.Device.{MayLeave}
use Rattle.boot_keeper.specs.Slots.{last_boot, writes_of}
use Rattle.boot_keeper.specs.Boots.{NextBoot}

-- A call of `next_boot` answered, or a crash came during one.
pub data Event : Type 0 where
  Answered : (answer : Result ℕ BootFault) → Event
  Crashed : Event

-- The event may make this device that one.
abbrev pub Makes : Event → List ℕ → List ℕ → Type 0
Makes (Answered answer) old new = NextBoot old answer new
Makes Crashed old new = MayLeave (writes_of old) old new

-- These events, the first of them first, may make this device that one.
abbrev pub MakeAll : List Event → List ℕ → List ℕ → Type 0
MakeAll [] old new = new ≡ old
MakeAll (e ∷ es) old new = (mid : List ℕ) × Makes e old mid × MakeAll es mid new

-- The boots that were answered, the first of them first.
abbrev pub boots_in : List Event → List ℕ
boots_in [] = []
boots_in (Answered (Ok boot) ∷ es) = boot ∷ boots_in es
boots_in (Answered (Err fault) ∷ es) = boots_in es
boots_in (Crashed ∷ es) = boots_in es

-- A device of 18 zeros.
abbrev pub new_device : List ℕ
new_device = replicate 18 0

-- The boots of a device that began with zeros rise, whatever failed and whenever a crash came.
abbrev pub BootsRise : Type 0
BootsRise = (events : List Event) (device : List ℕ) → MakeAll events new_device device → IsStrictlyIncreasing (boots_in events)

-- No crash came, and no call of the keeper failed.
abbrev pub is_calm : Event → Bool
is_calm (Answered (Ok boot)) = true
is_calm (Answered (Err Spent)) = true
is_calm (Answered (Err KeeperFault)) = false
is_calm Crashed = false

-- Where nothing fails, the boots are 1, 2, 3 and so on, up to the last there is.
abbrev pub BootsAreCounted : Type 0
BootsAreCounted = (events : List Event) (device : List ℕ) → MakeAll events new_device device → IsTrue (list_all is_calm events) →
    length events ≤ last_boot → boots_in events ≡ range_with_len 1 (length events)
