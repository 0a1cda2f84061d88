-- Boots rise, and are counted where nothing fails.
use Rattle.std.proofs.Common.{◌≡◌, ◌<◌, ◌≤◌, ◌+◌, ℕ, zero, suc, List, [], ◌∷◌, Ok, Err, length, arith, refl, sym, ap, ◌∙◌, subst, inr, nat_lt, Bool, true, false, if◌then◌else◌, max, IsTrue}
use Rattle.std.proofs.lemmas.Bool.{false≢true}
use Rattle.std.specs.List.{list_all, range_with_len}
use Rattle.std.specs.List.Sorted.{IsStrictlyIncreasing}
use Rattle.std.specs.Prelude.{⊤}
use Rattle.boot_keeper.specs.declared.slot.Slot.{Slot}
use Rattle.boot_keeper.specs.declared.slot.Slot.TheVariants.{First, Second}
use Rattle.boot_keeper.specs.declared.boot_fault.BootFault.TheVariants.{KeeperFault, Spent}
use Rattle.boot_keeper.specs.Device.{IsTorn, MayLeave, after_writes}
use Rattle.boot_keeper.specs.Slots.{greatest, kept, last_boot, other_than, place_of, three_writes, valid_number, writes_of}
use Rattle.boot_keeper.specs.Boots.{NextBoot}
use Rattle.boot_keeper.specs.Runs.{Event, Answered, Crashed, MakeAll, boots_in, is_calm, new_device, BootsRise, BootsAreCounted}
use Rattle.boot_keeper.proofs.Found.{writes_are}
use Rattle.boot_keeper.proofs.Within.{opposite, other_same, within}
use Rattle.boot_keeper.proofs.Greatest.{below_greatest, kept_greatest, put_number, slot_fits}

-- A device after an event: as long as before, and its greatest number no less.
pub record Rises (old new : List ℕ) : Type 0 where
  pub long : length new ≡ length old
  pub rises : greatest old ≤ greatest new

torn_rises : (old new : List ℕ) → IsTorn (place_of (other_than (kept old))) 9 old new → Rises old new
torn_rises old new torn = record {
  long = torn.long;
  rises =
      let slot = opposite (other_than (kept old)) in
      let same : valid_number new slot ≡ valid_number old slot = other_same (other_than (kept old)) old new torn in
      let here : greatest old ≡ valid_number old slot = kept_greatest old in
      let there : valid_number new slot ≤ greatest new = below_greatest slot new in
      omega (arith, same, here, there);
}

-- What a call may leave.
pub left_rises : (old new : List ℕ) → length old ≡ 18 → MayLeave (writes_of old) old new → Rises old new
left_rises old new long = by_room (nat_lt (greatest old) last_boot) where
  by_room : (room : Bool) → MayLeave (if room then three_writes (other_than (kept old)) (greatest old + 1) else []) old new → Rises old new
  by_room true left = torn_rises old new (within (place_of (other_than (kept old))) (greatest old + 1) old new (other_than (kept old)) refl (slot_fits (other_than (kept old)) old long) left)
  by_room false left = subst (λ d. Rises old d) (sym left) (record { long = refl; rises = omega arith })

-- The greatest of two slots, from either of them.
of_either : (slot : Slot) (device : List ℕ) → greatest device ≡ max (valid_number device slot) (valid_number device (opposite slot))
of_either First device = refl
of_either Second device = omega arith

-- What a call that answers a boot leaves.
boot_rises : (boot : ℕ) (old new : List ℕ) → length old ≡ 18 → NextBoot old (Ok boot) new → (length new ≡ length old) × (greatest new ≡ greatest old + 1)
boot_rises boot old new long next =
    let slot = other_than (kept old) in
    let number = greatest old + 1 in
    let is : new ≡ after_writes (three_writes slot number) old = next.2 ∙ ap (λ ws. after_writes ws old) (writes_are old next.0) in
    let torn : IsTorn (place_of slot) 9 old new = within (place_of slot) number old new slot refl (slot_fits slot old long) (inr (inr (inr is))) in
    let put : valid_number new slot ≡ number = ap (λ d. valid_number d slot) is ∙ put_number slot number old long (omega (arith, next.0)) in
    let same : valid_number new (opposite slot) ≡ valid_number old (opposite slot) = other_same slot old new torn in
    let below : valid_number old (opposite slot) ≤ greatest old = below_greatest (opposite slot) old in
    (torn.long, of_either slot new ∙ omega (arith, put, same, below))

-- Each number is above the one before it, and the first above this one.
Ascends : ℕ → List ℕ → Type 0
Ascends n [] = ⊤
Ascends n (x ∷ xs) = (n < x) × Ascends x xs

ascends_from : (n m : ℕ) (xs : List ℕ) → n ≤ m → Ascends m xs → Ascends n xs
unfolding Ascends
ascends_from n m [] less up = tt
ascends_from n m (x ∷ xs) less up = (omega (arith, less, up.0), up.1)

-- The boots of a run are above all numbers of the device that it began with.
all_rise : (events : List Event) (old new : List ℕ) → length old ≡ 18 → MakeAll events old new → Ascends (greatest old) (boots_in events)
unfolding Ascends
all_rise [] old new long made = tt
all_rise (Answered (Ok boot) ∷ es) old new long made =
    let rises = boot_rises boot old made.0 long made.1 in
    let up : Ascends (greatest made.0) (boots_in es) = all_rise es made.0 new (rises.0 ∙ long) made.2 in
    (omega (arith, made.1.1), subst (λ n. Ascends n (boots_in es)) (rises.1 ∙ sym made.1.1) up)
all_rise (Answered (Err Spent) ∷ es) old new long made = all_rise es old new long (subst (λ d. MakeAll es d new) made.1.1 made.2)
all_rise (Answered (Err KeeperFault) ∷ es) old new long made =
    let rises = left_rises old made.0 long made.1 in
    ascends_from (greatest old) (greatest made.0) (boots_in es) rises.rises (all_rise es made.0 new (rises.long ∙ long) made.2)
all_rise (Crashed ∷ es) old new long made =
    let rises = left_rises old made.0 long made.1 in
    ascends_from (greatest old) (greatest made.0) (boots_in es) rises.rises (all_rise es made.0 new (rises.long ∙ long) made.2)

increasing : (n : ℕ) (xs : List ℕ) → Ascends n xs → IsStrictlyIncreasing xs
unfolding Ascends
increasing n [] up k less = omega (arith, less)
increasing n (x ∷ []) up k less = omega (arith, less)
increasing n (x ∷ y ∷ ys) up zero less = up.1.0
increasing n (x ∷ y ∷ ys) up (suc k) less =
    let next : suc k + 1 ≡ suc (k + 1) = omega arith in
    rw next (increasing x (y ∷ ys) up.1 k (omega (arith, less)))

pub boots_rise_all : BootsRise
boots_rise_all events device made = increasing (greatest new_device) (boots_in events) (all_rise events new_device device refl made)

-- Where nothing fails, the boots of a run are those behind the greatest number of the device that it began with.
all_counted : (events : List Event) (old new : List ℕ) → length old ≡ 18 → MakeAll events old new → IsTrue (list_all is_calm events) →
    greatest old + length events ≤ last_boot → boots_in events ≡ range_with_len (greatest old + 1) (length events)
all_counted [] old new long made calm room = refl
all_counted (Answered (Ok boot) ∷ es) old new long made calm room =
    let rises = boot_rises boot old made.0 long made.1 in
    let rest : boots_in es ≡ range_with_len (greatest made.0 + 1) (length es) =
    all_counted es made.0 new (rises.0 ∙ long) made.2 calm (omega (arith, rises.1, room)) in
    let first : boot ≡ greatest old + 1 = made.1.1 in
    let next : greatest made.0 ≡ greatest old + 1 = rises.1 in
    rw (first, rest, next) refl
all_counted (Answered (Err Spent) ∷ es) old new long made calm room = absurd (spent (greatest old) (length es) made.1.0 room) where
  spent : (n k : ℕ) → last_boot ≤ n → n + suc k ≤ last_boot → ⊥
  spent n k most few = omega (arith, most, few)
all_counted (Answered (Err KeeperFault) ∷ es) old new long made calm room = absurd (false≢true calm)
all_counted (Crashed ∷ es) old new long made calm room = absurd (false≢true calm)

pub boots_counted_all : BootsAreCounted
boots_counted_all events device made calm few = all_counted events new_device device refl made calm (omega (arith, few))
