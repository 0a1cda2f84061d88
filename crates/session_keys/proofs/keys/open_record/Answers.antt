use Rattle.spdm_basis.specs.SessionIdBytes.{session_id_bytes}
use Rattle.secured_record.specs.Format.{key_of, iv_of}
use Rattle.session_keys.proofs.Purposes.{fault_at, inner_at, opened_fits}
use Rattle.session_keys.proofs.keys.open_record.Goals as goal

pub returns-clause-fault : goal.returns-clause-fault
returns-clause-fault c = λ choice p is.
    fault_at c.open.result c.args.key.now choice p c.args.number (session_id_bytes c.args.id.req c.args.id.rsp) c.args.sealed.now is c.open.ensures.fault

pub returns-clause-inner : goal.returns-clause-inner
returns-clause-inner c = λ choice p is.
    inner_at c.open.result c.args.key.now choice p c.args.number c.args.sealed.now c.open.new.out is c.open.ensures.inner

pub returns-clause-fits : goal.returns-clause-fits
returns-clause-fits c = opened_fits c.open.result (key_of c.args.key.now) (iv_of c.args.key.now) (session_id_bytes c.args.id.req c.args.id.rsp) c.args.number c.args.sealed.now c.open.ensures.fault
