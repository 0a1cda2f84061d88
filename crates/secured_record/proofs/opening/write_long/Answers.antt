use Rattle.secured_record.proofs.Pieces.{rest_decrypted}
use Rattle.secured_record.proofs.opening.write_long.Goals as goal

pub returns : goal.returns
returns c =
    rest_decrypted c.args.cipher.now c.args.iv.now c.args.first.now c.args.rest.now c.write_encrypted.new.out c.as_mut_slice.result.now c.decrypt_rest.new.bytes
    c.requires.first c.write_encrypted.ensures.value c.as_mut_slice.ensures.value c.decrypt_rest.ensures
