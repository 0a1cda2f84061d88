-- What a call leaves, from the device that it read.
use Rattle.std.proofs.Common.{◌≡◌, ◌<◌, ◌≤◌, ◌+◌, ℕ, List, Option, Ok, Err, length, take, drop, arith, refl, sym, ap, subst, ◌∙◌, nat_lt, true}
use Rattle.std.proofs.lemmas.Grind.{common_steps}
use Rattle.std.proofs.lemmas.Bool.Decides.{nat_tests}
use Rattle.boot_keeper.specs.declared.slot.Slot.{Slot}
use Rattle.boot_keeper.specs.declared.boot_fault.BootFault.TheVariants.{KeeperFault, Spent}
use Rattle.boot_keeper.specs.Device.{GivesBytes, MayLeave, TakesAll, TakesSome, after_writes}
use Rattle.boot_keeper.specs.Slots.{greatest, kept, last_boot, other_than, three_writes, writes_of}
use Rattle.boot_keeper.specs.Boots.{BootsNext}

-- All 18 bytes that were read are the device.
whole : (device old : List ℕ) → length device ≡ 18 → length old ≡ 18 → device ≡ take (length device) (drop 0 old) → device ≡ old
whole device old long size is = grind (arith, common_steps)

below : (n m : ℕ) → n < m → nat_lt n m ≡ true
below n m less = grind (arith, nat_tests)

-- What is to be written.
pub writes_are : (old : List ℕ) → greatest old < last_boot → writes_of old ≡ three_writes (other_than (kept old)) (greatest old + 1)
writes_are old fits = rw (below (greatest old) last_boot fits) refl

-- The numbers are spent.
pub spent_next : (held left : Option (List ℕ)) (device : List ℕ) (found : ℕ) → GivesBytes held 0 device → length device ≡ 18 → left ≡ held →
    found ≡ greatest device → last_boot ≤ found → BootsNext held (Err Spent) left
spent_next held left device found gives long same is spent = λ old told.
    let e = whole device old long (gives old told).0 (gives old told).1 in
    (old, same ∙ told, (subst (λ n. last_boot ≤ n) (is ∙ ap greatest e) spent, refl))

-- All was written.
pub taken_next : (held mid left : Option (List ℕ)) (device : List ℕ) (found : ℕ) (slot : Slot) → GivesBytes held 0 device → length device ≡ 18 →
    mid ≡ held → found ≡ greatest device → found < last_boot → slot ≡ other_than (kept device) → TakesAll mid (three_writes slot (found + 1)) left →
    BootsNext held (Ok (found + 1)) left
taken_next held mid left device found slot gives long same is fits free takes = λ old told.
    let e = whole device old long (gives old told).0 (gives old told).1 in
    let number : found ≡ greatest old = is ∙ ap greatest e in
    let place : slot ≡ other_than (kept old) = free ∙ ap (λ d. other_than (kept d)) e in
    let less : greatest old < last_boot = subst (λ n. n < last_boot) number fits in
    let writes : writes_of old ≡ three_writes slot (found + 1) =
    writes_are old less ∙ ap (λ n. three_writes (other_than (kept old)) (n + 1)) (sym number) ∙ ap (λ s. three_writes s (found + 1)) (sym place) in
    (after_writes (three_writes slot (found + 1)) old, takes old (same ∙ told), (less, ap (λ n. n + 1) number, ap (λ ws. after_writes ws old) (sym writes)))

-- A write failed.
pub torn_next : (held mid left : Option (List ℕ)) (device : List ℕ) (found : ℕ) (slot : Slot) → GivesBytes held 0 device → length device ≡ 18 →
    mid ≡ held → found ≡ greatest device → found < last_boot → slot ≡ other_than (kept device) → TakesSome mid (three_writes slot (found + 1)) left →
    BootsNext held (Err KeeperFault) left
torn_next held mid left device found slot gives long same is fits free takes = λ old told.
    let e = whole device old long (gives old told).0 (gives old told).1 in
    let number : found ≡ greatest old = is ∙ ap greatest e in
    let place : slot ≡ other_than (kept old) = free ∙ ap (λ d. other_than (kept d)) e in
    let less : greatest old < last_boot = subst (λ n. n < last_boot) number fits in
    let writes : writes_of old ≡ three_writes slot (found + 1) =
    writes_are old less ∙ ap (λ n. three_writes (other_than (kept old)) (n + 1)) (sym number) ∙ ap (λ s. three_writes s (found + 1)) (sym place) in
    let t = takes old (same ∙ told) in
    (t.0, t.1, subst (λ ws. MayLeave ws old t.0) (sym writes) t.2)
