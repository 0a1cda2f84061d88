use Rattle.std.proofs.Common.{◌≡◌, ℕ, ◌∷◌, [], get_or, ◌∙◌, refl}
use Rattle.aes.specs.Words.{block_bytes}
use Rattle.aes.proofs.Packs.{below_four}
use Rattle.aes.proofs.SlicedRounds.{key_is}
use Rattle.aes.proofs.sliced_keys.sliced_key.Goals as goal

pub returns : goal.returns
returns c = λ b h.
    let n = c.number_of-number.result in
    key_is c.args.k c.requires.times c.packed.result b c.args.key.now c.requires.long
    (c.packed.ensures b h
    ∙ below_four (λ (b : ℕ). block_bytes (get_or (n ∷ n ∷ n ∷ n ∷ []) b 0) ≡ block_bytes n) refl refl refl refl b h
    ∙ c.number_of-number.ensures
    ∙ c.shifted_back.ensures)
