use Rattle.spdm_basis.specs.SessionIdBytes.{session_id_bytes}
use Rattle.secured_record.specs.Format.{key_of, iv_of}
use Rattle.session_keys.proofs.Purposes.{of_ok, sealed_at, size_of}
use Rattle.session_keys.proofs.keys.seal_record.Goals as goal

pub returns-clause-value : goal.returns-clause-value
returns-clause-value c = λ choice p is.
    sealed_at c.args.key.now choice p c.args.number (session_id_bytes c.args.id.req c.args.id.rsp) c.args.inner.now c.args.pad.now c.seal.new.out is
    (of_ok c.seal.result _ (c.seal.ensures.fits.1 c.requires) c.seal.ensures.record)

pub returns-clause-size : goal.returns-clause-size
returns-clause-size c =
    size_of (key_of c.args.key.now) (iv_of c.args.key.now) c.args.id.req c.args.id.rsp c.args.number c.args.inner.now c.args.pad.now c.seal.new.out
    (of_ok c.seal.result _ (c.seal.ensures.fits.1 c.requires) c.seal.ensures.record)
