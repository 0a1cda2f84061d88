use Rattle.key_schedule.specs.declared.direction.Direction.TheVariants.{Response}
use Rattle.session_keys.proofs.Purposes.{verify_at}
use Rattle.session_keys.proofs.handshake.Handshake.responder_verify.Goals as goal

pub returns-clause-value : goal.returns-clause-value
returns-clause-value c = λ choice psk t1 is.
    let k = c.args.self.now.keys in
    verify_at k.hash k.aead choice psk t1 t1 Response c.args.self.now.th1 c.responder_verify.result is.hash is.aead is.th1 (c.responder_verify.ensures.purpose psk t1 is.secrets)
