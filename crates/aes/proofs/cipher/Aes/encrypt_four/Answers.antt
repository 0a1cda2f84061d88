use Rattle.std.proofs.Common.{◌≡◌, ℕ, List, ◌∷◌, [], get_or}
use Rattle.aes.specs.Cipher.{cipher}
use Rattle.aes.specs.Words.{block_bytes}
use Rattle.aes.proofs.Packs.{below_four}
use Rattle.aes.proofs.cipher.Aes.encrypt_four.Goals as goal

pub returns : goal.returns
returns c =
    let blocks : List ℕ = c.encrypt_number.result ∷ c.encrypt_number-2.result ∷ c.encrypt_number-3.result ∷ c.encrypt_number-4.result ∷ [] in
    below_four (λ (b : ℕ). block_bytes (get_or blocks b 0) ≡ cipher c.args.self.now (block_bytes (get_or c.args.blocks.now b 0)))
    c.encrypt_number.ensures c.encrypt_number-2.ensures c.encrypt_number-3.ensures c.encrypt_number-4.ensures
