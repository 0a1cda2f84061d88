-- Three writes one after another, of which one failed.
use Rattle.std.proofs.Common.{ℕ, List, [], ◌∷◌, Option, inl, inr}
use Rattle.byteorder.specs.Endian.{little_bytes}
use Rattle.boot_keeper.specs.declared.slot.Slot.{Slot}
use Rattle.boot_keeper.specs.Device.{TakesBytes, TearsBytes, TakesSome}
use Rattle.boot_keeper.specs.Slots.{gate_of, place_of, three_writes}

-- The gate was closed, and the number is torn.
pub torn_number : (held closed left : Option (List ℕ)) (slot : Slot) (number : ℕ) → TakesBytes held (gate_of slot) (0 ∷ []) closed →
    TearsBytes closed (place_of slot) 8 left → TakesSome held (three_writes slot number) left
torn_number held closed left slot number first torn = λ old is.
    let t = torn _ (first old is) in
    (t.0, t.1, inr (inl t.2))

-- The number was written too, and the gate is torn.
pub torn_gate : (held closed numbered left : Option (List ℕ)) (slot : Slot) (number : ℕ) → TakesBytes held (gate_of slot) (0 ∷ []) closed →
    TakesBytes closed (place_of slot) (little_bytes 8 number) numbered → TearsBytes numbered (gate_of slot) 1 left →
    TakesSome held (three_writes slot number) left
torn_gate held closed numbered left slot number first second torn = λ old is.
    let t = torn _ (second _ (first old is)) in
    (t.0, t.1, inr (inr (inl t.2)))
