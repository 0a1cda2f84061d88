use Rattle.std.proofs.Common.{◌++◌, ◌∙◌, ap, sym, List, ℕ}
use Rattle.aes_gcm.specs.Gcm.{crypt}
use Rattle.aes_gcm.specs.Behind.{crypt_behind}
use Rattle.aes_gcm.proofs.Pieces.{crypt-append}
use Rattle.aes_gcm.proofs.gcm_key.GcmKey.crypt_behind.Goals as goal

pub returns-clause-whole : goal.returns-clause-whole
returns-clause-whole c = λ front long.
    crypt-append c.args.blocks c.args.self.now c.args.iv.now front c.args.text.now long
    ∙ ap (λ (x : List ℕ). crypt c.args.self.now c.args.iv.now front ++ x) (sym (c.crypt_behind.ensures ∙ ap (λ (k : List ℕ). crypt_behind c.args.blocks k c.args.iv.now c.args.text.now) c.self.view_is))
