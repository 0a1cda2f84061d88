-- Keys that are overwritten: where there is none, the key of a secret of zeros stands.
use Rattle.std.specs.Prelude.{◌≡◌}
use Rattle.key_schedule.specs.Keys.{DirectionSecret, HandshakeSecrets}
use Rattle.key_schedule.specs.Schedule.{zeros}
use Rattle.running_hash.specs.Hash.{hash_of}

-- The secret of a direction is as many zeros as the hash is long. Its key, its initialization vector and its cipher are those that come of it: public constants.
pub record IsWipedKey (key : DirectionSecret) : Type 0 where
  pub secret : key.secret ≡ zeros (hash_of key.hash)
  pub epoch : key.epoch ≡ 0

-- The three secrets of a handshake are zeros.
pub record AreWipedSecrets (keys : HandshakeSecrets) : Type 0 where
  pub handshake : keys.handshake ≡ zeros (hash_of keys.hash)
  pub request : keys.request ≡ zeros (hash_of keys.hash)
  pub response : keys.response ≡ zeros (hash_of keys.hash)
