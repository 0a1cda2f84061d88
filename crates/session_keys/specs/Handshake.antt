-- What PSK_EXCHANGE and its answer fix of a handshake (DSP0274, "Key schedule").
use Rattle.std.specs.Prelude.{◌≡◌, ℕ, List}
use Rattle.key_schedule.specs.Purpose.{AreSecretsOf}
use Rattle.running_hash.specs.Hash.{hash_of}
use Rattle.spdm_grammar.specs.declared.messages.choice.Choice.{Choice}
use Rattle.session_keys.specs.declared.handshake.Handshake.{Handshake}

-- The hash of T1 and the secrets under it, by a choice of algorithms and a pre-shared key.
pub record IsHandshakeOf (seen : Handshake) (choice : Choice) (psk t1 : List ℕ) : Type 0 where
  pub hash : seen.keys.hash ≡ choice.hash
  pub aead : seen.keys.aead ≡ choice.aead
  pub th1 : seen.th1 ≡ (hash_of choice.hash).digest t1
  pub secrets : AreSecretsOf seen.keys psk t1
