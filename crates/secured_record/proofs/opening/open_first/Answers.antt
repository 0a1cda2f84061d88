use Rattle.std.proofs.Common.{◌≡◌, bytes_eq, rules}
use Rattle.std.specs.Prelude.{is_ok}
use Rattle.aes_gcm.specs.Gcm.{tag_of}
use Rattle.secured_record.specs.Faults.{is_authentic}
use Rattle.secured_record.proofs.Same.{decided}
use Rattle.secured_record.proofs.opening.open_first.Goals as goal

pub returns-clause-authentic : goal.returns-clause-authentic
unfolding is_authentic
returns-clause-authentic c =
    let tag = c.copy_from_slice.new.self in
    let right = tag_of c.args.cipher.now c.nonce.result c.split_at.result.0.now c.text_part.result.now in
    let told : is_ok c.open_first.result ≡ bytes_eq tag right = decided c.open_first.result tag right c.open_first.ensures.opens in
    search rules
