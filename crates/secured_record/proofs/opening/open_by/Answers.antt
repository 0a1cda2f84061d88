use Rattle.spdm_basis.specs.SessionIdBytes.{session_id_bytes}
use Rattle.secured_record.proofs.Outcomes.{ok_is_record, record_is_ok, error_not_spent}
use Rattle.secured_record.proofs.opening.open_by.Goals as goal

pub returns-clause-not_spent : goal.returns-clause-not_spent
returns-clause-not_spent c =
    error_not_spent c.open_record.result c.args.cipher.now c.args.iv.now c.bytes.result c.args.number c.args.sealed.now c.open_record.ensures.fault

pub returns-clause-record : goal.returns-clause-record
returns-clause-record c =
    ok_is_record c.open_record.result c.args.cipher.now c.args.iv.now c.bytes.result (session_id_bytes c.args.id.req c.args.id.rsp) c.args.number c.args.sealed.now c.open_record.new.out
    c.bytes.ensures c.open_record.ensures.fault c.open_record.ensures.inner c.open_record.ensures.bytes

pub returns-clause-opens : goal.returns-clause-opens
returns-clause-opens c =
    record_is_ok c.open_record.result c.args.cipher.now c.args.iv.now c.bytes.result c.args.id.req c.args.id.rsp c.args.number c.args.sealed.now c.open_record.new.out
    c.bytes.ensures c.open_record.ensures.fault c.open_record.ensures.inner
