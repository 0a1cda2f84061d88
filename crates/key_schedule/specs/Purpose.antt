-- What a key is for, and the key of each purpose. This project's own notion over the key schedule of DSP0274.
use Rattle.std.specs.Prelude.{◌≡◌, ℕ, List, Bool, true, false, if◌then◌else◌}
use Rattle.spdm_basis.specs.declared.values.hash_alg.HashAlg.{HashAlg}
use Rattle.spdm_basis.specs.declared.values.aead_alg.AeadAlg.{AeadAlg}
use Rattle.running_hash.specs.Hash.{hash_of}
use Rattle.key_schedule.specs.Keys.{HandshakeSecrets, DirectionSecret}
use Rattle.key_schedule.specs.Schedule.{handshake_secret, master_secret, handshake_direction_secret, application_direction_secret, secret_at, record_key, record_iv, finished_key}
use Rattle.key_schedule.specs.declared.direction.Direction.{Direction}
use Rattle.key_schedule.specs.declared.direction.Direction.TheVariants.{Request, Response}

-- A key makes verify data, or it seals records during or after the handshake.
pub data Kind : Type 0 where
  Verify : Kind
  HandshakeRecord : Kind
  ApplicationRecord : Kind

-- A pre-shared key; a transcript as the list of its bytes, T1 or, for records after the handshake, T2; a kind; a direction; and how many key updates came before.
pub record Purpose : Type 0 where
  pub psk : List ℕ
  pub transcript : List ℕ
  pub kind : Kind
  pub direction : Direction
  pub epoch : ℕ

-- The secret that the keys of a kind and direction begin with, before any key update.
abbrev pub first_secret : HashAlg → Kind → List ℕ → Direction → List ℕ → List ℕ
first_secret hash Verify psk direction t = handshake_direction_secret (hash_of hash) (handshake_secret (hash_of hash) psk) direction ((hash_of hash).digest t)
first_secret hash HandshakeRecord psk direction t = handshake_direction_secret (hash_of hash) (handshake_secret (hash_of hash) psk) direction ((hash_of hash).digest t)
first_secret hash ApplicationRecord psk direction t = application_direction_secret (hash_of hash) (master_secret (hash_of hash) (handshake_secret (hash_of hash) psk)) direction ((hash_of hash).digest t)

-- The secret of a purpose: the first one, updated as often as its epoch counts.
abbrev pub secret_of : HashAlg → Purpose → List ℕ
secret_of hash p = secret_at (hash_of hash) (first_secret hash p.kind p.psk p.direction p.transcript) p.epoch

-- The kind seals records.
abbrev pub is_record : Kind → Bool
is_record Verify = false
is_record HandshakeRecord = true
is_record ApplicationRecord = true

-- The key of a purpose: the finished key for verify data, else the key of the records.
abbrev pub key_of : HashAlg → AeadAlg → Purpose → List ℕ
key_of hash aead p = if is_record p.kind then record_key (hash_of hash) aead (secret_of hash p) else finished_key (hash_of hash) (secret_of hash p)

-- The initialization vector that goes with the key of a purpose.
abbrev pub iv_of : HashAlg → Purpose → List ℕ
iv_of hash p = record_iv (hash_of hash) (secret_of hash p)

-- The purposes of a session: verify data of a direction, records of the handshake, and records after it.
abbrev pub verify : List ℕ → List ℕ → Direction → Purpose
verify psk t1 direction = record { psk = psk; transcript = t1; kind = Verify; direction = direction; epoch = 0 }

abbrev pub handshake_record : List ℕ → List ℕ → Direction → Purpose
handshake_record psk t1 direction = record { psk = psk; transcript = t1; kind = HandshakeRecord; direction = direction; epoch = 0 }

abbrev pub application_record : List ℕ → List ℕ → Direction → ℕ → Purpose
application_record psk t2 direction epoch = record { psk = psk; transcript = t2; kind = ApplicationRecord; direction = direction; epoch = epoch }

-- A direction's secret is the one of a purpose that seals records, of the same epoch.
pub record IsSecretOf (key : DirectionSecret) (p : Purpose) : Type 0 where
  pub records : is_record p.kind ≡ true
  pub secret : key.secret ≡ secret_of key.hash p
  pub epoch : key.epoch ≡ p.epoch

-- The secrets of a handshake are those of a pre-shared key and a transcript T1.
pub record AreSecretsOf (keys : HandshakeSecrets) (psk t1 : List ℕ) : Type 0 where
  pub handshake : keys.handshake ≡ handshake_secret (hash_of keys.hash) psk
  pub request : keys.request ≡ first_secret keys.hash HandshakeRecord psk Request t1
  pub response : keys.response ≡ first_secret keys.hash HandshakeRecord psk Response t1
