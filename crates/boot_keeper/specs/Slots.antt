-- The two slots of a device of 18 bytes, each a number of eight bytes, the lowest first, and a gate byte. This project's own.
use Rattle.std.specs.Prelude.{ℕ, Bool, List, [], ◌∷◌, Option, Some, None, ◌+◌, ◌-◌, ◌^◌, ◌==◌, ◌&&◌, ◌||◌, not, nat_lt, nat_le, max, drop, slice_index, if◌then◌else◌}
use Rattle.byteorder.specs.Endian.{little_number, little_bytes}
use Rattle.boot_keeper.specs.declared.slot.Slot.{Slot}
use Rattle.boot_keeper.specs.declared.slot.Slot.TheVariants.{First, Second}
use Rattle.boot_keeper.specs.Device.{Write}

-- The place of the number of a slot.
abbrev pub place_of : Slot → ℕ
place_of First = 0
place_of Second = 9

-- The place of its gate.
abbrev pub gate_of : Slot → ℕ
gate_of slot = place_of slot + 8

-- The number in a slot.
abbrev pub number_in : List ℕ → Slot → ℕ
number_in device slot = little_number 8 (drop (place_of slot) device)

-- A slot is valid where its gate is 1.
abbrev pub is_valid : List ℕ → Slot → Bool
is_valid device slot = slice_index device (gate_of slot) == 1

-- The number in a valid slot, 0 in another.
abbrev pub valid_number : List ℕ → Slot → ℕ
valid_number device slot = if is_valid device slot then number_in device slot else 0

-- The greatest valid number, 0 where no slot is valid.
abbrev pub greatest : List ℕ → ℕ
greatest device = max (valid_number device First) (valid_number device Second)

-- The slot that is kept: the valid one with the greatest number, and the first of two with equal numbers.
abbrev pub kept : List ℕ → Option Slot
kept device =
    if is_valid device First && (not (is_valid device Second) || nat_le (number_in device Second) (number_in device First)) then Some First
    else if is_valid device Second then Some Second
    else None

-- The slot that is written: the other one, and the first where none is kept.
abbrev pub other_than : Option Slot → Slot
other_than None = First
other_than (Some First) = Second
other_than (Some Second) = First

-- A number into a slot, in three writes: the gate is closed, the number written, and the gate opened.
abbrev pub three_writes : Slot → ℕ → List Write
three_writes slot number =
    record { at = gate_of slot; bytes = 0 ∷ [] }
    ∷ record { at = place_of slot; bytes = little_bytes 8 number }
    ∷ record { at = gate_of slot; bytes = 1 ∷ [] }
    ∷ []

-- The last boot number that there is.
abbrev pub last_boot : ℕ
last_boot = 2 ^ 24 - 2

-- What is written to a device for the next boot; nothing where its numbers are spent.
abbrev pub writes_of : List ℕ → List Write
writes_of device = if nat_lt (greatest device) last_boot then three_writes (other_than (kept device)) (greatest device + 1) else []
