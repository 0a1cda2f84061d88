-- What C is shown of a connection and of a session.
use Rattle.std.specs.Prelude.{List, ℕ, Bool, true, false, length, replicate}
use Rattle.c_ends.specs.Telling.{session_number}
use Rattle.c_ends.specs.Writing.{over}
use Rattle.c_ends.specs.declared.session.Session.{Session}
use Rattle.psk_session.specs.declared.session_told.SessionTold.{SessionTold}
use Rattle.spdm_basis.specs.declared.values.aead_alg.AeadAlg.{AeadAlg}
use Rattle.spdm_basis.specs.declared.values.aead_alg.AeadAlg.TheVariants.{Aes128Gcm, Aes256Gcm}
use Rattle.spdm_basis.specs.declared.values.hash_alg.HashAlg.{HashAlg}
use Rattle.spdm_basis.specs.declared.values.hash_alg.HashAlg.TheVariants.{Sha256, Sha384}
use Rattle.spdm_grammar.specs.declared.told.phase.Phase.{Phase}
use Rattle.spdm_grammar.specs.declared.told.phase.Phase.TheVariants.{Capable, Fresh, Negotiated, Versioned}
use Rattle.spdm_grammar.specs.declared.told.phase.Stage.{Stage}
use Rattle.spdm_grammar.specs.declared.told.phase.Stage.TheVariants.{Handshake, Open, Verifying}
use Rattle.spdm_grammar.specs.declared.told.session_view.SessionView.{SessionView}

abbrev pub phase_code : Phase → ℕ
phase_code Fresh = 0
phase_code Versioned = 1
phase_code Capable = 2
phase_code Negotiated = 3

abbrev pub stage_code : Stage → ℕ
stage_code Handshake = 1
stage_code Open = 2
stage_code Verifying = 3

-- The algorithms have the numbers by which a configuration names them.
abbrev pub hash_code : HashAlg → ℕ
hash_code Sha256 = 1
hash_code Sha384 = 2

abbrev pub aead_code : AeadAlg → ℕ
aead_code Aes128Gcm = 1
aead_code Aes256Gcm = 2

abbrev pub yes_code : Bool → ℕ
yes_code false = 0
yes_code true = 1

-- A session: its hash stands at the beginning of 48 bytes, and zeros behind it.
abbrev pub shown : SessionView → Session
shown v = record {
  id = session_number v.id;
  stage = stage_code v.stage;
  request_epoch = v.request_epoch;
  response_epoch = v.response_epoch;
  request_next = v.request_next;
  response_next = v.response_next;
  taken = v.taken;
  hash_alg = hash_code v.choice.hash;
  aead_alg = aead_code v.choice.aead;
  measure = yes_code v.choice.measure;
  hash_len = length v.hash;
  hash = over v.hash (replicate 48 0);
}

-- What PSK_EXCHANGE_RSP told of a session, field by field.
abbrev pub told_period : SessionTold → ℕ
told_period told = told.period

abbrev pub told_summary : SessionTold → List ℕ
told_summary told = told.summary

abbrev pub told_opaque : SessionTold → List ℕ
told_opaque told = told.opaque
