use Rattle.std.proofs.Common.{sym, ap, ◌∙◌}
use Rattle.key_schedule.specs.Keys.{DirectionSecret}
use Rattle.running_hash.specs.Hash.{hash_of}
use Rattle.spdm_basis.specs.declared.values.hash_alg.HashAlg.{HashAlg}
use Rattle.session_keys.proofs.handshake.Handshake.app_keys.Goals as goal

pub returns-clause-request : goal.returns-clause-request
returns-clause-request c = λ choice psk t1 t2 is th2. record {
  hash = ap (λ (k : DirectionSecret). k.hash) c.derive.ensures.request ∙ is.hash;
  aead = ap (λ (k : DirectionSecret). k.aead) c.derive.ensures.request ∙ is.aead;
  secret = c.derive.ensures.request_purpose psk t1 t2 is.secrets (th2 ∙ ap (λ (h : HashAlg). (hash_of h).digest t2) (sym is.hash));
}

pub returns-clause-response : goal.returns-clause-response
returns-clause-response c = λ choice psk t1 t2 is th2. record {
  hash = ap (λ (k : DirectionSecret). k.hash) c.derive.ensures.response ∙ is.hash;
  aead = ap (λ (k : DirectionSecret). k.aead) c.derive.ensures.response ∙ is.aead;
  secret = c.derive.ensures.response_purpose psk t1 t2 is.secrets (th2 ∙ ap (λ (h : HashAlg). (hash_of h).digest t2) (sym is.hash));
}
