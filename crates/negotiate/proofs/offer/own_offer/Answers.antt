use Rattle.std.proofs.Common.{◌≡◌, ℕ, List, [], ◌∷◌, length, refl, sym, subst, arith}
use Rattle.spdm_grammar.specs.Layout.{AreTables, IsTable}
use Rattle.negotiate.specs.Offer.{offer_tables}
use Rattle.negotiate.proofs.offer.own_offer.Goals as goal

-- four structures of four bytes each
are_four : (aead : ℕ) → AreTables 4 (offer_tables aead)
are_four aead = (
  2 ∷ 0x20 ∷ 0 ∷ 0 ∷ [],
  3 ∷ 0x20 ∷ aead ∷ 0 ∷ 4 ∷ 0x20 ∷ 0 ∷ 0 ∷ 5 ∷ 0x20 ∷ 1 ∷ 0 ∷ [],
  refl,
  one 2 0,
  (
    3 ∷ 0x20 ∷ aead ∷ 0 ∷ [],
    4 ∷ 0x20 ∷ 0 ∷ 0 ∷ 5 ∷ 0x20 ∷ 1 ∷ 0 ∷ [],
    refl,
    one 3 aead,
    (
      4 ∷ 0x20 ∷ 0 ∷ 0 ∷ [],
      5 ∷ 0x20 ∷ 1 ∷ 0 ∷ [],
      refl,
      one 4 0,
      (5 ∷ 0x20 ∷ 1 ∷ 0 ∷ [], [], refl, one 5 1, refl),
    ),
  ),
)
  where
    one : (kind value : ℕ) → IsTable (kind ∷ 0x20 ∷ value ∷ 0 ∷ [])
    one kind value = record { fixed_part = omega arith; fixed_count = refl; entries = refl }

of_four : (aead : ℕ) (tables : List ℕ) → tables ≡ offer_tables aead → (AreTables 4 tables) × (length tables ≡ 16)
of_four aead tables e = subst (λ (ts : List ℕ). (AreTables 4 ts) × (length ts ≡ 16)) (sym e) (are_four aead, refl)

pub returns-clause-sound : goal.returns-clause-sound
returns-clause-sound c =
    let four = of_four _ c.offer_tables.result.now c.offer_tables.ensures in
    record {
      ext_asym = refl;
      ext_asym_few = omega arith;
      ext_hash = refl;
      ext_hash_few = omega arith;
      tables = four.0;
      told = omega (arith, four.1);
    }
