use Rattle.std.proofs.Common.{ap, ◌∙◌}
use Rattle.key_schedule.specs.declared.direction.Direction.TheVariants.{Request}
use Rattle.running_hash.specs.Hash.{hash_of}
use Rattle.spdm_basis.specs.declared.values.hash_alg.HashAlg.{HashAlg}
use Rattle.session_keys.proofs.Purposes.{verify_at}
use Rattle.session_keys.proofs.handshake.Handshake.requester_verify.Goals as goal

pub returns-clause-value : goal.returns-clause-value
returns-clause-value c = λ choice psk t1 given is pushed.
    let k = c.args.self.now.keys in
    verify_at k.hash k.aead choice psk t1 given Request c.finish.result c.requester_verify.result is.hash is.aead
    (c.finish.ensures.value given pushed ∙ ap (λ (h : HashAlg). (hash_of h).digest given) (c.requires ∙ is.hash))
    (c.requester_verify.ensures.purpose psk t1 is.secrets)
