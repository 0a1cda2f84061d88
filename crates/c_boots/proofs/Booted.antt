-- What a keeper's next boot leaves is what a caller is told.
use Rattle.std.proofs.Common.{◌≡◌, ◌∙◌, ◌<◌, ◌≤◌, ℕ, List, Some, refl, ap, subst, arith}
use Rattle.std.specs.Prelude.{Ok, Err, unwrap_or}
use Rattle.boot_keeper.specs.Boots.{BootsNext}
use Rattle.boot_keeper.specs.Slots.{greatest, last_boot}
use Rattle.boot_keeper.specs.declared.boot_fault.BootFault.{BootFault}
use Rattle.boot_keeper.specs.declared.boot_fault.BootFault.TheVariants.{Spent}
use Rattle.c_boots.specs.Booting.{IsNextBoot}
use Rattle.c_ends.specs.declared.codes.TheConstants.{BOOTS_SPENT, OK}

less_or_not : (n m : ℕ) {A : Type 0} → n < m → m ≤ n → A
less_or_not n m less least = absurd (omega (arith, less, least))

pub booted : (old kept left new : List ℕ) (before n : ℕ) → kept ≡ old → new ≡ left → BootsNext (Some kept) (Ok n) (Some left) → IsNextBoot old OK new before n
booted old kept left new before n is_kept is_new next =
    let at_old : BootsNext (Some old) (Ok n) (Some left) = subst (λ (k : List ℕ). BootsNext (Some k) (Ok n) (Some left)) is_kept next in
    let found = at_old old refl in
    let same : left ≡ found.0 = ap (λ o. unwrap_or o left) found.1 in
    (λ less. (refl, found.2.1, is_new ∙ same ∙ found.2.2), λ least. less_or_not (greatest old) last_boot found.2.0 least)

pub spent : (old kept left : List ℕ) (before : ℕ) (fault : BootFault) → kept ≡ old → fault ≡ Spent → BootsNext (Some kept) (Err fault) (Some left) → IsNextBoot old BOOTS_SPENT old before before
spent old kept left before fault is_kept is_spent next =
    let at_spent : BootsNext (Some kept) (Err Spent) (Some left) = subst (λ (f : BootFault). BootsNext (Some kept) (Err f) (Some left)) is_spent next in
    let at_old : BootsNext (Some old) (Err Spent) (Some left) = subst (λ (k : List ℕ). BootsNext (Some k) (Err Spent) (Some left)) is_kept at_spent in
    let found = at_old old refl in
    (λ less. less_or_not (greatest old) last_boot less found.2.0, λ least. (refl, refl, refl))
