use Rattle.std.proofs.Common.{◌∙◌, ap, List, ℕ}
use Rattle.aes_gcm.specs.Gcm.{crypt}
use Rattle.aes_gcm.proofs.Pieces.{first_crypted}
use Rattle.aes_gcm.proofs.gcm_key.GcmKey.open_first.Goals as goal

pub returns-clause-first : goal.returns-clause-first
returns-clause-first c =
    first_crypted 48 c.args.self.now c.args.iv.now c.args.text.now c.first_bytes-first.result.items c.as_mut_slice.result.now c.crypt_in_place.new.text
    c.first_bytes-first.ensures c.as_mut_slice.ensures.value (c.crypt_in_place.ensures ∙ ap (λ (k : List ℕ). crypt k c.args.iv.now c.as_mut_slice.result.now) c.self.view_is)
