-- What contracts see of the keys of a session.
use Rattle.std.specs.Prelude.{ℕ, List}
use Rattle.spdm_basis.specs.declared.values.hash_alg.HashAlg.{HashAlg}
use Rattle.spdm_basis.specs.declared.values.aead_alg.AeadAlg.{AeadAlg}

-- The secrets of a handshake: the handshake secret, and the secret of each direction.
pub record HandshakeSecrets : Type 0 where
  pub hash : HashAlg
  pub aead : AeadAlg
  pub handshake : List ℕ
  pub request : List ℕ
  pub response : List ℕ

-- A direction's secret, and how many key updates led to it.
pub record DirectionSecret : Type 0 where
  pub hash : HashAlg
  pub aead : AeadAlg
  pub secret : List ℕ
  pub epoch : ℕ
