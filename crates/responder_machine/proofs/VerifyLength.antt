-- Verify data and summaries of measurements are as long as the hash.
use Rattle.std.proofs.Common.{◌≡◌, ℕ, List, [], ◌∷◌, length}
use Rattle.std.proofs.lemmas.List.{length-replicate}
use Rattle.sha2.proofs.Facts256.{length-sha256}
use Rattle.sha2.proofs.Facts512.{length-sha384}
use Rattle.hmac_hkdf.specs.Hmac.{hmac}
use Rattle.key_schedule.specs.declared.direction.Direction.{Direction}
use Rattle.measurements.specs.Blocks.{record_of}
use Rattle.measurements.specs.Summaries.{hash_of_blocks}
use Rattle.running_hash.specs.Hash.{hash_of}
use Rattle.spdm_basis.specs.Sizes.{hash_size}
use Rattle.spdm_basis.specs.declared.values.hash_alg.HashAlg.{HashAlg}
use Rattle.spdm_basis.specs.declared.values.hash_alg.HashAlg.TheVariants.{Sha256, Sha384}
use Rattle.spdm_grammar.specs.declared.told.block_spec.BlockSpec.{BlockSpec}
use Rattle.spdm_grammar.specs.declared.messages.choice.Choice.{Choice}
use Rattle.spdm_machine.specs.Keys.{verify_data}

pub length_digest : (hash : HashAlg) (m : List ℕ) → length ((hash_of hash).digest m) ≡ hash_size hash
length_digest Sha256 m = length-sha256 m
length_digest Sha384 m = length-sha384 m

length_hmac : (hash : HashAlg) (key text : List ℕ) → length (hmac (hash_of hash) key text) ≡ hash_size hash
unfolding hmac
length_hmac hash key text = length_digest hash _

pub length_verify : (choice : Choice) (psk t1 : List ℕ) (direction : Direction) (text : List ℕ) → length (verify_data choice psk t1 direction text) ≡ hash_size choice.hash
unfolding verify_data
length_verify choice psk t1 direction text = length_hmac choice.hash _ _

-- A summary of blocks is as long as the hash.
pub length_blocks : (hash : HashAlg) (blocks : List BlockSpec) → length (hash_of_blocks (hash_of hash) blocks) ≡ hash_size hash
length_blocks hash [] = length-replicate (hash_size hash) 0
length_blocks hash (block ∷ others) = length_digest hash (record_of (block ∷ others))
