use Rattle.std.proofs.Common.{◌∙◌, ap}
use Rattle.aes.specs.Cipher.{cipher}
use Rattle.aes_gcm.proofs.Blocks.{number_of_bytes, zero_bytes}
use Rattle.aes_gcm.proofs.gcm_key.GcmKey.new.Goals as goal

pub invariant_of-result : goal.invariant_of-result
invariant_of-result c =
    c.new-hash.ensures
    ∙ number_of_bytes c.encrypt_number.result _ c.encrypt_number.type_inv (c.encrypt_number.ensures ∙ ap (cipher c.new-aes.result) zero_bytes)
