use Rattle.std.proofs.Common.{◌≡◌, ℕ, [], ◌++◌, ◌∷◌, ap, ◌∙◌}
use Rattle.std.specs.Prelude.{bit_xor}
use Rattle.ghash.specs.Hash.{ghash, blocks, block_number, block_bytes}
use Rattle.ghash.proofs.Sums.{no_blocks}
use Rattle.aes_gcm.specs.Gcm.{stream_block, hash_key, hashed_blocks}
use Rattle.aes_gcm.proofs.Blocks.{number_of_bytes}
use Rattle.aes_gcm.proofs.gcm_key.GcmKey.tag.Goals as goal

pub returns : goal.returns
returns c = λ iv masks.
    let key = c.args.self.now in
    let aad = c.args.aad.now in
    let text = c.args.text.now in
    let h = c.self.inside.hash in
    let mask = c.args.mask in
    let same : c.self.inside.aes ≡ key = c.self.view_is in
    let h_is : h ≡ hash_key key = c.self.invariant ∙ ap hash_key same in
    let first = c.absorb-hash.ensures [] (no_blocks h) in
    let second = c.absorb-hash-2.ensures (blocks aad) first in
    let third : c.absorb_block-hash.result ≡ ghash h (hashed_blocks aad text) = c.absorb_block-hash.ensures (blocks aad ++ blocks text) second ∙ ap (λ (n : ℕ). ghash h (blocks aad ++ blocks text ++ n ∷ [])) c.lengths_block-lengths.ensures in
    let mask_is : mask ≡ block_number (stream_block key iv 1) = number_of_bytes mask _ c.ranges.mask.fits masks in
    c.block_bytes.ensures
    ∙ ap (λ t. block_bytes (bit_xor t mask)) (third ∙ ap (λ k. ghash k (hashed_blocks aad text)) h_is)
    ∙ ap (λ t. block_bytes (bit_xor (ghash (hash_key key) (hashed_blocks aad text)) t)) mask_is
