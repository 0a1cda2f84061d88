-- Sessions at the requester whose keys and buffers are overwritten.
use Rattle.std.specs.Prelude.{◌≡◌, replicate}
use Rattle.psk_session.specs.Finishing as finishing
use Rattle.psk_session.specs.Opening as opening
use Rattle.psk_session.specs.declared.req_session.ReqSession.{ReqSession}
use Rattle.secured_record.specs.declared.TheConstants.{MAX_RECORD_SIZE}
use Rattle.session_keys.specs.Wiped.{AreWipedSecrets, IsWipedKey}
use Rattle.spdm_grammar.specs.declared.names.TheConstants.{MAX_MESSAGE_SIZE}

-- The pre-shared key of a session that awaits PSK_EXCHANGE_RSP is zeros, as many as a key has at most.
abbrev pub IsWipedOpening : opening.Seen → Type 0
IsWipedOpening seen = seen.psk ≡ replicate 64 0

-- The secrets of the handshake are zeros, and the key of the responder's records is that of zeros.
pub record IsWipedFinishing (seen : finishing.Seen) : Type 0 where
  pub handshake : AreWipedSecrets seen.handshake.keys
  pub response : IsWipedKey seen.response

-- Both keys are those of zeros, and the buffers, which hold plaintexts, are zeros, to their whole capacity: of the record last sealed, of what was brought last, and of the chunks that were collected.
pub record IsWiped (seen : ReqSession) : Type 0 where
  pub request : IsWipedKey seen.kept.request
  pub response : IsWipedKey seen.kept.response
  pub sent : seen.sent ≡ replicate MAX_RECORD_SIZE 0
  pub brought : seen.brought ≡ replicate MAX_RECORD_SIZE 0
  pub gathered : seen.gathered.bytes ≡ replicate MAX_MESSAGE_SIZE 0
