-- Steps of going over algorithm structures.
use Rattle.std.proofs.Common.{◌≡◌, ℕ, ◌+◌, ◌-◌, ◌<◌, suc, Ok, Err, arith, refl, ap, ◌∙◌}
use Rattle.spdm_grammar.specs.declared.messages.malformed.Malformed.{Malformed}
use Rattle.spdm_grammar.specs.Reading.{Place, behind_table, behind_tables}

-- none yet
pub behind_tables_start : (n : ℕ) (p : Place) → behind_tables (n - 0) p ≡ behind_tables n p
behind_tables_start n p = let e : n - 0 ≡ n = omega arith in ap (λ (k : ℕ). behind_tables k p) e

-- one more
pub behind_tables_next : (n i : ℕ) (p q : Place) → i < n → behind_table p ≡ Ok q → behind_tables (n - i) p ≡ behind_tables (n - (i + 1)) q
unfolding behind_tables
behind_tables_next n i p q lt h =
    let e : n - i ≡ suc (n - (i + 1)) = omega arith in
    ap (λ (k : ℕ). behind_tables k p) e ∙ rw h refl

-- a fault
pub behind_tables_fault : (n i : ℕ) (p : Place) (e : Malformed) → i < n → behind_table p ≡ Err e → behind_tables (n - i) p ≡ Err e
unfolding behind_tables
behind_tables_fault n i p fault lt h =
    let e : n - i ≡ suc (n - (i + 1)) = omega arith in
    ap (λ (k : ℕ). behind_tables k p) e ∙ rw h refl

-- all of them
pub behind_tables_end : (n i : ℕ) (p : Place) → n ≡ i → behind_tables (n - i) p ≡ Ok p
unfolding behind_tables
behind_tables_end n i p h =
    let e : n - i ≡ 0 = omega arith in
    ap (λ (k : ℕ). behind_tables k p) e
