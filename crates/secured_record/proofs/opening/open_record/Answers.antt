use Rattle.std.proofs.Common.{sym, refl}
use Rattle.secured_record.proofs.Outcomes.{text_fault}
use Rattle.secured_record.proofs.opening.open_record.Goals as goal

pub returns-clause-fault : goal.returns-clause-fault
returns-clause-fault c =
    let key = c.args.cipher.now in
    text_fault c.open_text.result key c.args.iv.now c.args.id.now c.args.number c.args.sealed.now key c.nonce.result c.text_part.result.now
    (sym c.in_default.ensures.value)
    (sym c.in-Ok.ensures.authentic)
    refl c.nonce.ensures c.text_part.ensures.value c.open_text.ensures.fault
