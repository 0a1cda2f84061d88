-- A session whose keys and buffers are overwritten, as it stands where there is no session.
use Rattle.std.specs.Prelude.{◌≡◌, ℕ, List, false, None, replicate}
use Rattle.responder_rules.specs.LargeAnswer as large_answers
use Rattle.responder_session.specs.declared.kept.Kept.{Kept}
use Rattle.responder_session.specs.declared.last.LastRecord.{LastRecord}
use Rattle.responder_session.specs.declared.session.RspSession.{RspSession}
use Rattle.responder_session.specs.declared.work.Work.{Work}
use Rattle.secured_record.specs.declared.TheConstants.{MAX_RECORD_SIZE}
use Rattle.session_keys.specs.Wiped.{AreWipedSecrets, IsWipedKey}
use Rattle.spdm_grammar.specs.declared.names.TheConstants.{MAX_APP_DATA_LEN, MAX_MESSAGE_SIZE}

-- Both records of the last turn are zeros, to their whole capacity, and none is kept.
pub record IsWipedLast (last : LastRecord) : Type 0 where
  pub none : last.is_taken ≡ false
  pub sealed : last.sealed ≡ replicate MAX_RECORD_SIZE 0
  pub reply : last.reply ≡ replicate MAX_RECORD_SIZE 0

-- Both keys are those of a secret of zeros.
pub record IsWipedKept (kept : Kept) : Type 0 where
  pub request : IsWipedKey kept.request
  pub response : IsWipedKey kept.response
  pub last : IsWipedLast kept.last

-- The keys of records and the secrets of the handshake are those of zeros; the application data, the large response and the last record with its reply are zeros, to their whole capacity; and the session has ended.
pub record IsWiped (seen : RspSession) : Type 0 where
  pub stage : seen.stage ≡ None
  pub kept : IsWipedKept seen.kept
  pub handshake : AreWipedSecrets seen.exchange.handshake.keys
  pub large : large_answers.IsWiped seen.large
  pub bytes : seen.bytes ≡ replicate MAX_APP_DATA_LEN 0

-- The buffers for the handling of a record are zeros, to their whole capacity.
pub record IsWipedWork (work : Work) : Type 0 where
  pub inner : work.inner ≡ replicate MAX_RECORD_SIZE 0
  pub answer : work.answer ≡ replicate MAX_MESSAGE_SIZE 0
  pub sent : work.sent ≡ replicate MAX_RECORD_SIZE 0
