-- The greatest number of a device, before and after a call.
use Rattle.std.proofs.Common.{◌≡◌, ◌<◌, ◌≤◌, ◌+◌, ◌-◌, ℕ, List, [], ◌∷◌, ◌++◌, length, take, drop, get_or, arith, refl, sym, ap, ◌∙◌, Bool, true, false, not, max, nat_le, ◌==◌, ◌&&◌, ◌||◌, ◌^◌, if◌then◌else◌, Some, None}
use Rattle.std.proofs.lemmas.Grind.{common_steps}
use Rattle.std.proofs.lemmas.Bool.Decides.{nat_tests}
use Rattle.std.proofs.Math.Nat.{le-max_left, le-max_right}
use Rattle.std.proofs.lemmas.List.{get_or-append_right, get_or-drop}
use Rattle.byteorder.specs.Endian.{little_bytes, little_number}
use Rattle.byteorder.specs.Numbers.{little_number-reads_back}
use Rattle.boot_keeper.specs.declared.slot.Slot.{Slot}
use Rattle.boot_keeper.specs.declared.slot.Slot.TheVariants.{First, Second}
use Rattle.boot_keeper.specs.Device.{after_writes, written}
use Rattle.boot_keeper.specs.Slots.{greatest, is_valid, kept, number_in, other_than, place_of, three_writes, valid_number}
use Rattle.boot_keeper.proofs.Within.{opposite, same_little}
use Rattle.boot_keeper.proofs.Written.{length-written, before-written}

-- The number of a slot is at most the greatest.
pub below_greatest : (slot : Slot) (device : List ℕ) → valid_number device slot ≤ greatest device
below_greatest First device = le-max_left (valid_number device First) (valid_number device Second)
below_greatest Second device = le-max_right (valid_number device First) (valid_number device Second)

-- The number of a slot, from what the two hold.
number_of : Bool → Bool → ℕ → ℕ → Slot → ℕ
number_of first second n m First = if first then n else 0
number_of first second n m Second = if second then m else 0

number_is : (device : List ℕ) (slot : Slot) → number_of (is_valid device First) (is_valid device Second) (number_in device First) (number_in device Second) slot ≡ valid_number device slot
unfolding number_of
number_is device First = refl
number_is device Second = refl

-- Of two valid numbers.
of_both : (is : Bool) (n m : ℕ) → nat_le m n ≡ is → max n m ≡ number_of true true n m (opposite (other_than (if is then Some First else Some Second)))
unfolding number_of
of_both true n m is = grind (arith, nat_tests)
of_both false n m is = grind (arith, nat_tests)

of_two : (first second : Bool) (n m : ℕ) → max (if first then n else 0) (if second then m else 0)
    ≡ number_of first second n m (opposite (other_than (if first && (not second || nat_le m n) then Some First else if second then Some Second else None)))
unfolding number_of
of_two false false n m = refl
of_two false true n m = grind arith
of_two true false n m = grind arith
of_two true true n m = of_both (nat_le m n) n m refl

-- The greatest number stands in the slot that is not written.
pub kept_greatest : (device : List ℕ) → greatest device ≡ valid_number device (opposite (other_than (kept device)))
kept_greatest device =
    of_two (is_valid device First) (is_valid device Second) (number_in device First) (number_in device Second)
    ∙ number_is device (opposite (other_than (kept device)))

-- The place of a slot and its nine bytes stand within the device.
pub slot_fits : (slot : Slot) (device : List ℕ) → length device ≡ 18 → place_of slot + 9 ≤ length device
slot_fits First device long = omega (arith, long)
slot_fits Second device long = omega (arith, long)

-- Bytes written from a place on stand there.
drop-written : (at : ℕ) (bytes old : List ℕ) → at + length bytes ≤ length old → drop at (written at bytes old) ≡ bytes ++ drop (at + length bytes) old
drop-written at bytes old fits = grind (arith, common_steps)

-- A byte written to a place stands there.
at-written : (at byte : ℕ) (old : List ℕ) → at < length old → get_or (written at (byte ∷ []) old) at 0 ≡ byte
at-written at byte old less =
    let size : length (take at old) ≡ at = grind (arith, common_steps) in
    let none : at - at ≡ 0 = omega arith in
    get_or-append_right (take at old) (byte ∷ drop (at + 1) old) at at 0 size (omega arith) ∙ ap (λ k. get_or (byte ∷ drop (at + 1) old) k 0) none

-- The number that was written is in its slot, and is valid.
pub put_number : (slot : Slot) (number : ℕ) (old : List ℕ) → length old ≡ 18 → number < 2 ^ 64 → valid_number (after_writes (three_writes slot number) old) slot ≡ number
put_number slot number old long small =
    let at = place_of slot in
    let fits : at + 9 ≤ length old = slot_fits slot old long in
    let closed = written (at + 8) (0 ∷ []) old in
    let size : length closed ≡ length old = length-written (at + 8) (0 ∷ []) old (omega arith) in
    let numbered = written at (little_bytes 8 number) closed in
    let size2 : length numbered ≡ length closed = length-written at (little_bytes 8 number) closed (omega arith) in
    let opened = written (at + 8) (1 ∷ []) numbered in
    let gate : is_valid opened slot ≡ true = ap (λ g. g == 1) (at-written (at + 8) 1 numbered (omega (arith, fits, size, size2))) in
    let back : number_in numbered slot ≡ number =
    ap (little_number 8) (drop-written at (little_bytes 8 number) closed (omega arith)) ∙ little_number-reads_back 8 number (drop (at + 8) closed) (omega arith) in
    let same : number_in opened slot ≡ number_in numbered slot =
    same_little 8 0 (drop at numbered) (drop at opened) (λ k low high. get_or-drop at opened k 0 ∙ before-written (at + 8) (1 ∷ []) numbered (omega arith) (at + k) (omega arith) ∙ sym (get_or-drop at numbered k 0)) in
    rw (gate) (same ∙ back)
